-- How rows are noted by their instances while they are judged, so that two rows of one instance are found without comparing
-- each with all before it: 1024 places of a byte, of which those below 128 are empty.
use Rattle.std.specs.Prelude.{◌≡◌, ◌⊎◌, ℕ, ◌+◌, ◌/◌, ◌%◌, ◌≤◌, ◌<◌, Bool, true, false, List, length, get_or}
use Rattle.encoding.specs.Out.{Tells}
use Rattle.slots.specs.Lent.{instance_at, Taken, Rows}
use Rattle.owners.specs.Owners.{RowOf}

-- The first place of an instance, and its second.
abbrev pub bucket_of : ℕ → ℕ
bucket_of i = (i % 1024 + i / 1024 % 1024) % 1024

abbrev pub second_of : ℕ → ℕ
second_of i = bucket_of (i / 1048576)

-- Row l of instance i is noted: its first place is full; and one of the first 128 rows is told there, or the second is full.
pub record Noted (notes : List ℕ) (i l : ℕ) : Type 0 where
  pub full : 128 ≤ get_or notes (bucket_of i) 0
  pub told : l < 128 → (get_or notes (bucket_of i) 0 ≡ 128 + l) ⊎ (128 ≤ get_or notes (second_of i) 0)

-- The taken rows before k are noted, and no row from k on is told. A free row may be noted too.
pub record Notes (owners notes : List ℕ) (k : ℕ) : Type 0 where
  pub size : length notes ≡ 1024
  pub before : (j : ℕ) → j < 1024 → get_or notes j 0 < 128 + k
  pub each : (l : ℕ) → l < k → Taken owners l → Noted notes (instance_at owners l) l

-- A test tells whether no taken row before k is of instance i; and if row k is, it is noted too.
pub record NewRow (owners : List ℕ) (k i : ℕ) (notes : List ℕ) (t : Bool) : Type 0 where
  pub told : Tells ((l : ℕ) → l < k → ¬ RowOf i owners l) t
  pub after : instance_at owners k ≡ i → Notes owners notes (k + 1)

-- The rows before k are good, for slots of z bytes, and noted.
pub record SoFar (z : ℕ) (owners notes : List ℕ) (k : ℕ) : Type 0 where
  pub rows : Rows z owners k
  pub noted : Notes owners notes k

-- A test tells whether row k is good too; then it is noted.
pub record Turn (z : ℕ) (owners : List ℕ) (k : ℕ) (notes : List ℕ) (t : Bool) : Type 0 where
  pub good : t ≡ true → SoFar z owners notes (k + 1)
  pub bad : t ≡ false → ¬ Rows z owners (k + 1)
