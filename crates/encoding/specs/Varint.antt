-- How a number is spelt as a varint (document 01, "Numbers on the wire"): seven bits a byte, low first, the top bit
-- means more. Every spelling is allowed, also a longer one such as 80 00; the writer uses the shortest.
use Rattle.std.specs.Prelude.{List, [], ◌∷◌, ℕ, zero, suc, ◌+◌, ◌*◌, ◌/◌, ◌%◌, ◌≤◌, ◌<◌}
use Rattle.std.proofs.Math.Decide.{dec_lt}
use Rattle.exact.specs.Choice.{choose}

-- The bytes of a number of which k more may follow before the tenth: a byte below 128 ends it, another one gives its low
-- seven bits and goes on; the tenth must end it and gives its lowest bit alone.
pub data Digits : ℕ → List ℕ → ℕ → Type 0 where
  tenth : {b : ℕ} → b < 128 → Digits zero (b ∷ []) (b % 2)
  last : {k b : ℕ} → b < 128 → Digits (suc k) (b ∷ []) b
  more : {k b : ℕ} {bs : List ℕ} {v : ℕ} → 128 ≤ b → Digits k bs v → Digits (suc k) (b ∷ bs) (b % 128 + 128 * v)

-- These bytes spell this number: ten bytes at most.
abbrev pub Spells : List ℕ → ℕ → Type 0
Spells = Digits 9

-- The shortest digits of a number of which k more bytes may follow.
unfoldable pub shortest : ℕ → ℕ → List ℕ
shortest zero v = v ∷ []
shortest (suc k) v = choose (dec_lt v 128) (v ∷ []) ((128 + v % 128) ∷ shortest k (v / 128))

-- What the writer writes.
abbrev pub spelling : ℕ → List ℕ
spelling v = shortest 9 v
