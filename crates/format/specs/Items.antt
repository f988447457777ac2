-- The items that payloads are made of (document 01, "Numbers on the wire" and "The container"). What stands for a
-- number does not depend on the place.
use Rattle.std.specs.Prelude.{◌≡◌, ℕ, ◌+◌, ◌%◌, List, [], ◌∷◌, ◌++◌, length, replicate}
use Rattle.std.proofs.Math.Decide.{ℕ_discrete}
use Rattle.exact.specs.Exact.{Lang}
use Rattle.exact.specs.Choice.{choose}
use Rattle.exact.specs.Repeat.{Many, Counted}
use Rattle.exact.specs.Fixed.{Fixed}
use Rattle.exact.specs.Padding.{gap}
use Rattle.enums.specs.Container.{P}
use Rattle.encoding.specs.Varint.{Spells}

-- A varint, in any of its spellings.
abbrev pub Number : Lang ℕ
Number i = Spells

-- A byte stands for itself.
pub data Byte : List ℕ → ℕ → Type 0 where
  byte_of : {b : ℕ} → Byte (b ∷ []) b

-- A field that is there exactly where Q holds; one that is absent on the wire is 0.
pub data Field (Q : Type 0) (R : List ℕ → ℕ → Type 0) : List ℕ → ℕ → Type 0 where
  there : {bs : List ℕ} {v : ℕ} → Q → R bs v → Field Q R bs v
  absent : ¬ Q → Field Q R [] 0

-- A counted array: a varint count, then the numbers of w bytes each.
abbrev pub Array : ℕ → List ℕ → List ℕ → Type 0
Array w bs vs = Counted Number (Fixed w) 0 bs vs

-- Counted varints.
abbrev pub Indices : List ℕ → List ℕ → Type 0
Indices bs vs = Counted Number Number 0 bs vs

-- A count, padding to a multiple of a, then the numbers of w bytes each.
pub data Padded (w a : ℕ) : ℕ → List ℕ → List ℕ → Type 0 where
  padded : {i : ℕ} {count numbers vs : List ℕ} → Spells count (length vs) →
      Many (Fixed w) (length vs) (i + length count + gap a (i + length count)) numbers vs →
      Padded w a i (count ++ (replicate (gap a (i + length count)) P ++ numbers)) vs

-- Nonzero means 1.
unfoldable pub truth : ℕ → ℕ
truth v = choose (ℕ_discrete v 0) 0 1

-- A number that stands for whether it is nonzero.
pub data Truth (R : List ℕ → ℕ → Type 0) : List ℕ → ℕ → Type 0 where
  truth_of : {bs : List ℕ} {v : ℕ} → R bs v → Truth R bs (truth v)

-- Bit 0 of the flags.
abbrev pub Bit0 : ℕ → Type 0
Bit0 flags = flags % 2 ≡ 1
