-- Each accepted example is explained: its bytes stand for its tables, the whole case of document 01 among them.
-- Assumes nothing.
use mathlib.Core.Path.{◌≡◌, refl, ◌∙◌}
use mathlib.Core.List.{List, [], ◌∷◌}
use Rattle.format.specs.Tables.{Tables}
use Rattle.format.specs.Explains.{Explains}
use Rattle.format.specs.Read.{accepted}
use Rattle.format.proofs.Decoded.{decode-sound}
use Rattle.format.proofs.ExampleFiles.{tables_with, abc, whole_case}
use Rattle.format.proofs.Examples.{Example, Answered, accepted_examples, examples-answered}

-- The tables that a file is answered with are those that it is explained by.
abbrev pub Explained : List Example → Type 0
Explained [] = Unit
Explained (e ∷ es) = ((t : Tables) → e.answer ≡ accepted t → Explains e.file t) × Explained es

heads : {A : Type 0} {x y : A} {xs ys : List A} → x ∷ xs ≡ y ∷ ys → x ≡ y
heads e = cc

tails : {A : Type 0} {x y : A} {xs ys : List A} → x ∷ xs ≡ y ∷ ys → xs ≡ ys
tails e = cc

answered-explained : (es : List Example) → Answered es → Explained es
answered-explained [] h = tt
answered-explained (e ∷ es) h = (λ t q. decode-sound e.file t (heads h ∙ q), answered-explained es (tails h))

-- What is accepted.
pub examples-explained : Explained accepted_examples
examples-explained = answered-explained accepted_examples examples-answered.0

-- The whole case.
pub whole-explained : Explains whole_case (tables_with 13 1 abc [])
whole-explained = examples-explained.0 (tables_with 13 1 abc []) refl
