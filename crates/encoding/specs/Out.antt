-- What a writer leaves in the output that it was lent, and what it answers (document 01, "Refusal numbers": primitive
-- writers give 11, also for a place past the output; on success only the result's own bytes change).
use Rattle.std.specs.Prelude.{◌≡◌, Bool, true, false, List, [], ◌∷◌, ◌++◌, ℕ, ◌+◌, ◌≤◌, max, length, take, drop}
use Rattle.std.proofs.Math.Decide.{dec_le, dec_lt}
use Rattle.exact.specs.Choice.{choose}
use Rattle.exact.specs.Fixed.{bytes_of}
use Rattle.encoding.specs.Varint.{spelling}

-- A test that was made tells whether P holds.
pub record Tells (P : Type 0) (t : Bool) : Type 0 where
  pub holds : t ≡ true → P
  pub fails : t ≡ false → ¬ P

-- The bytes bs have room at a place of the output.
abbrev pub Room : List ℕ → ℕ → List ℕ → Type 0
Room out at bs = at + length bs ≤ length out

-- The output with the bytes bs at a place, if they have room there; else as it was.
unfoldable pub put : List ℕ → ℕ → List ℕ → List ℕ
put out at bs = choose (dec_le (at + length bs) (length out)) (take at out ++ (bs ++ drop (at + length bs) out)) out

-- What a writer answers: the next place with the alignment that is required so far, or a refusal.
pub data Wrote : Type 0 where
  wrote : ℕ → ℕ → Wrote
  refused : ℕ → Wrote

-- The answer to writing bs at a place: the place behind them, or the refusal number n where they have no room.
unfoldable pub after : ℕ → List ℕ → ℕ → ℕ → List ℕ → Wrote
after n out at required bs = choose (dec_le (at + length bs) (length out)) (wrote (at + length bs) required) (refused n)

-- The numbers of a counted array, each as its w bytes.
abbrev pub flat : ℕ → List ℕ → List ℕ
flat w [] = []
flat w (v ∷ vs) = bytes_of w v ++ flat w vs

-- A counted array: the count as a varint, then the numbers.
abbrev pub counted_bytes : ℕ → List ℕ → List ℕ
counted_bytes w vs = spelling (length vs) ++ flat w vs

-- `required_alignment` after one more was asked for: the largest of 2 or more so far, else 1.
unfoldable pub required : ℕ → ℕ → ℕ
required before a = choose (dec_lt a 2) before (max before a)

-- After a list of requests, the first of them first.
abbrev pub required_by : ℕ → List ℕ → ℕ
required_by before [] = before
required_by before (a ∷ more) = required_by (required before a) more
