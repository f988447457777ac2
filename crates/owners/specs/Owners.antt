-- How an owner table is looked through (document 02, 8/14): its rows, the first one that is free, and the one that an
-- instance has.
use Rattle.std.specs.Prelude.{◌≡◌, ℕ, ◌/◌, ◌≤◌, ◌<◌, Bool, true, not, nat_eq, ◌&&◌, List, length}
use Rattle.std.specs.Prelude.{Option, None, Some}
use Rattle.slots.specs.Lent.{mark_at, instance_at, length_at, Taken, Rows}
use Rattle.owners.specs.declared.Row.{Row}

-- How many rows a table has: its whole ones count.
abbrev pub rows_in : List ℕ → ℕ
rows_in owners = length owners / 24

-- Row k.
abbrev pub row_at : List ℕ → ℕ → Row
row_at owners k = record { mark = mark_at owners k; instance = instance_at owners k; len = length_at owners k }

-- Row k is free ..
abbrev pub FreeRow : List ℕ → ℕ → Type 0
FreeRow owners k = mark_at owners k ≡ 0

-- .. or taken by instance i.
abbrev pub RowOf : ℕ → List ℕ → ℕ → Type 0
RowOf i owners k = Taken owners k × (instance_at owners k ≡ i)

-- The tests of a row that was read.
abbrev pub is_free : Row → Bool
is_free r = nat_eq r.mark 0

abbrev pub is_of : ℕ → Row → Bool
is_of i r = nat_eq r.instance i && not (nat_eq r.mark 0)

-- Row k passes a test.
abbrev pub Such : (Row → Bool) → List ℕ → ℕ → Type 0
Such is owners k = is (row_at owners k) ≡ true

-- r is the first of n rows that is such; n if none is.
pub record FirstRow (P : ℕ → Type 0) (n r : ℕ) : Type 0 where
  pub inside : r ≤ n
  pub such : r < n → P r
  pub none_before : (l : ℕ) → l < r → ¬ P l

-- What n rows say of instance i, where they have to be such: nothing if they are not, and else its row.
abbrev pub Held : Type 0 → ℕ → List ℕ → ℕ → Option ℕ → Type 0
Held P i owners n None = ¬ P
Held P i owners n (Some r) = P × FirstRow (RowOf i owners) n r

-- Rows have to be good for slots of z bytes.
abbrev pub HeldAmong : ℕ → ℕ → List ℕ → ℕ → Option ℕ → Type 0
HeldAmong z i owners n r = Held (Rows z owners n) i owners n r
