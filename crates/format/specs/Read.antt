-- What reading a file answers, and the order of its stages (document 01, "Refusal numbers").
use Rattle.std.specs.Prelude.{ℕ}
use Rattle.exact.specs.Got.{Got, got, stop}

-- What was read; or a refusal: its number, its stage, and the file offset where it broke.
pub data Read (A : Type 0) : Type 0 where
  accepted : A → Read A
  refused : (number stage at : ℕ) → Read A

-- Goes on with what a stage read; its refusal is the answer.
unfoldable pub at_stage : {A B : Type 0} → ℕ → Got A → (A → ℕ → Read B) → Read B
at_stage n (got v j) k = k v j
at_stage n (stop c i) k = refused c n i

-- A function of what was read.
unfoldable pub map_read : {A B : Type 0} → (A → B) → Read A → Read B
map_read f (accepted v) = accepted (f v)
map_read f (refused c n i) = refused c n i
