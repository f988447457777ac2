-- Kinds by their tag: a table with, for each tag, what is read behind it.
use Rattle.std.specs.Prelude.{◌≡◌, ℕ, List, [], ◌∷◌}
use Rattle.std.proofs.Math.Decide.{ℕ_discrete}
use Rattle.exact.specs.Exact.{Parser, Lang, Exact}
use Rattle.exact.specs.Basic.{fail, Never}
use Rattle.exact.specs.Choice.{choose, If}

-- One kind: its tag, its parser, and its language.
pub record Case (A : Type 0) : Type 1 where
  pub tag : ℕ
  pub run : Parser A
  pub says : Lang A

-- The parser of the kind with tag t; refusal c where no kind has it.
unfoldable pub pick_case : {A : Type 0} → ℕ → List (Case A) → ℕ → Parser A
pick_case c [] t = fail c
pick_case c (k ∷ ks) t = choose (ℕ_discrete t k.tag) k.run (pick_case c ks t)

-- The language of the kind with tag t.
abbrev pub OneOf : {A : Type 0} → List (Case A) → ℕ → Lang A
OneOf [] t = Never
OneOf (k ∷ ks) t = If (t ≡ k.tag) k.says (OneOf ks t)

-- Each kind's parser is exact for its language.
abbrev pub AllExact : {A : Type 0} → List (Case A) → Type 0
AllExact [] = Unit
AllExact (k ∷ ks) = Exact k.run k.says × AllExact ks
