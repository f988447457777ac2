-- How a buffer's length and an owner table are judged, and which slot a file goes to (document 02, 8/14).
use Rattle.std.specs.Prelude.{◌≡◌, ℕ, ◌≤◌, List, length}
use Rattle.std.proofs.Math.Decide.{dec_lt}
use Rattle.std.proofs.Math.Option.{Option, none, some}
use Rattle.exact.specs.Choice.{choose}
use Rattle.slots.specs.Cache.{slot_for}
use Rattle.slots.specs.Lent.{Lent, Good, slot_at, slots_up_to}
use Rattle.std.specs.Prelude as std
use Rattle.owners.specs.Owners.{RowOf, FirstRow, Held}

-- What is said of instance i, where a buffer and an owner table have to stand for a cache of n slots.
abbrev pub HeldIn : ℕ → ℕ → Lent → std.Option ℕ → Type 0
HeldIn n i s r = Held (Good n s) i s.owners n r

-- What an owner table and a buffer of this length say of an instance, whatever the buffer's bytes are.
abbrev pub Judged : ℕ → List ℕ → ℕ → ℕ → std.Option ℕ → Type 0
Judged len owners n i r = (b : List ℕ) → length b ≡ len → HeldIn n i (record { buffer = b; owners = owners }) r

-- Row r of n as a slot; n is none.
unfoldable pub as_slot : ℕ → ℕ → Option ℕ
as_slot n r = choose (dec_lt r n) (some r) none

-- r is the slot that a file of instance i goes to; n if there is none.
pub record SlotFor (n i : ℕ) (owners : List ℕ) (r : ℕ) : Type 0 where
  pub inside : r ≤ n
  pub slot : (b : List ℕ) → slot_for i (slots_up_to n (slot_at n (record { buffer = b; owners = owners }))) ≡ as_slot n r

-- r is the slot that a file goes to whose instance has row h of n.
abbrev pub SlotFrom : ℕ → ℕ → List ℕ → ℕ → Type 0
SlotFrom n h owners r = (i : ℕ) → FirstRow (RowOf i owners) n h → SlotFor n i owners r
