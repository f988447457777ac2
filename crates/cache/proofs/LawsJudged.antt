-- How a cache is judged, and how a slot is found by the rows: as the model has it. Assumes nothing.
use mathlib.Core.Path.{◌≡◌, sym, ap, subst, ◌∙◌}
use Prim.Native.Nat.{ℕ, ◌+◌, ◌*◌, ◌/◌, ◌%◌, ◌≤◌, ◌<◌}
use native.Mathlib.Nat.{mul_comm, div-mul-le_self}
use native.Mathlib.Omega.{arith}
use native.Mathlib.Decide.{dec_lt}
use mathlib.Core.Option.{none, some}
use mathlib.Core.List.{List}
use lib.ListN.{length, get_or}
use Rattle.std.specs.Prelude as std
use Rattle.exact.specs.Choice.{choose}
use Rattle.exact.proofs.LawsChoice.{choose_yes, choose_no}
use Rattle.slots.specs.Cache.{Slot, free, Free, is_free, is_held_by, lowest, slot_of, or_else}
use Rattle.slots.specs.Lent.{Lent, mark_at, slot_size, Rows, Good, slot_at, slots_up_to}
use Rattle.owners.specs.Owners.{rows_in, FreeRow, RowOf, FirstRow, Held, HeldAmong}
use Rattle.cache.specs.Judged.{Judged, as_slot, SlotFor}
use Rattle.slots.proofs.LawsLowest.{found, nowhere, lowest-is}
use Rattle.slots.proofs.LawsSlots.{slot-inside, length-slots, slots_at}
use Rattle.slots.proofs.LawsStored.{free-slot}
use Rattle.slots.proofs.LawsFound.{held_of, of-held, of-free}

-- The slots' size, by which a buffer's length is divided.
pub whole-size : (len n z : ℕ) → z ≡ len / n → z * n ≤ len
whole-size len n z e = rw e (div-mul-le_self len n)

-- What is said of an instance is the same where the rows have to be the same.
held_same : {P Q : Type 0} (i n : ℕ) (owners : List ℕ) (r : std.Option ℕ) → (P → Q) → (Q → P) → Held P i owners n r →
    Held Q i owners n r
held_same i n owners std.None to from bad = λ q. bad (from q)
held_same i n owners (std.Some k) to from (p, first) = (to p, first)

-- A buffer and an owner table of the right lengths are as good as the rows.
pub judged-rows : (n len z i : ℕ) (owners : List ℕ) (r : std.Option ℕ) → 0 < n → z ≡ len / n → z * n ≡ len → length owners % 24 ≡ 0 →
    rows_in owners ≡ n → HeldAmong z i owners (rows_in owners) r → Judged len owners n i r
judged-rows n len z i owners r h d a b c x buffer e =
    let q : z ≡ length buffer / n = d ∙ ap (λ m. m / n) (sym e) in
    let all : HeldAmong z i owners n r = subst (λ m. HeldAmong z i owners m r) c x in
    held_same i n owners r
    (λ rows. record {
      slots = h;
      buffer = e ∙ sym a ∙ mul_comm z n ∙ ap (λ m. n * m) q;
      owners = omega arith;
      rows = subst (λ m. Rows m owners n) q rows;
    }) (λ g. subst (λ m. Rows m owners n) (sym q) g.rows) all

-- A buffer that is no multiple.
pub no-multiple : (n len z : ℕ) (owners b : List ℕ) → z ≡ len / n → ¬ (z * n ≡ len) → length b ≡ len →
    ¬ Good n (record { buffer = b; owners = owners })
no-multiple n len z owners b d h e g =
    h (ap (λ m. m * n) (d ∙ ap (λ m. m / n) (sym e)) ∙ mul_comm (length b / n) n ∙ sym g.buffer ∙ e)

-- A slot has room in the buffer.
pub slot-room : (n k z : ℕ) (s : Lent) → Good n s → z ≡ slot_size n s.buffer → k < n → k * z + z ≤ length s.buffer
slot-room n k z s g e h = rw e (slot-inside (slot_size n s.buffer) k n s.buffer h g.buffer)

-- A row that is not past the last is one of them.
pub below : (n r : ℕ) → r ≤ n → ¬ (r ≡ n) → r < n
below n r h d = omega arith

-- Row r of n as a slot.
pub as-slot : (n r : ℕ) → r < n → as_slot n r ≡ some r
unfolding as_slot
as-slot n r h = choose_yes (dec_lt r n) (some r) none h

pub as_none : (n r : ℕ) → n ≤ r → as_slot n r ≡ none
unfolding as_slot
as_none n r h = choose_no (dec_lt r n) (some r) none (omega arith)

-- The lowest slot that is such has the number of the first row that is.
lowest-row : {P : Slot → Type 0} (d : (s : Slot) → Dec (P s)) (n : ℕ) (f : ℕ → Slot) (Q : ℕ → Type 0) (r : ℕ) →
    ((k : ℕ) → k < n → P (get_or (slots_up_to n f) k free) → Q k) → ((k : ℕ) → k < n → Q k → P (get_or (slots_up_to n f) k free)) →
    FirstRow Q n r → lowest d (slots_up_to n f) ≡ as_slot n r
unfolding as_slot choose
lowest-row d n f Q r to from x = go (dec_lt r n)
  where
    go : (e : Dec (r < n)) → lowest d (slots_up_to n f) ≡ choose e (some r) none
    go (yes h) =
        let m = length-slots n f in
        lowest-is d (found {k = r} (record {
          inside = omega (arith, m);
          such = from r h (x.such h);
          none_below = λ l i p. x.none_before l i (to l (omega arith) p);
        }))
    go (no h) =
        let m = length-slots n f in
        lowest-is d (nowhere (λ l i p. x.none_before l (omega (arith, m)) (to l (omega (arith, m)) p)))

module _ (n : ℕ) (s : Lent) (r : ℕ) where
  abbrev slots : List Slot
  slots = slots_up_to n (slot_at n s)

  -- So with the slot that an instance holds ..
  pub slot_of_row : (i : ℕ) → FirstRow (RowOf i s.owners) n r → slot_of i slots ≡ as_slot n r
  slot_of_row i x =
      lowest-row (is_held_by i) n (slot_at n s) (RowOf i s.owners) r (of-held n s i) (λ k h q. held_of n s i k h q.0 q.1) x

  -- .. and the one that is free.
  free-of-row : FirstRow (FreeRow s.owners) n r → lowest is_free slots ≡ as_slot n r
  free-of-row x =
      lowest-row is_free n (slot_at n s) (FreeRow s.owners) r (λ k h p. unmarked k (of-free n s k h p)) (λ k h e. is-free k h e) x
    where
      unmarked : (k : ℕ) → ¬ (0 < mark_at s.owners k) → mark_at s.owners k ≡ 0
      unmarked k h = omega arith

      is-free : (k : ℕ) → k < n → mark_at s.owners k ≡ 0 → Free (get_or slots k free)
      is-free k h e = subst Free (sym (slots_at n (slot_at n s) k free h ∙ free-slot n s k (omega arith))) tt

-- The slot that a file goes to: its instance's own ..
pub for-own : (n i : ℕ) (owners : List ℕ) (r : ℕ) → FirstRow (RowOf i owners) n r → r < n → SlotFor n i owners r
unfolding or_else
for-own n i owners r x h =
    record {
      inside = x.inside;
      slot = λ b. rw (slot_of_row n (record { buffer = b; owners = owners }) r i x ∙ as-slot n r h) (sym (as-slot n r h));
    }

-- .. else the lowest free one.
pub for-free : (n i : ℕ) (owners : List ℕ) (r q : ℕ) → FirstRow (RowOf i owners) n r → n ≤ r →
    FirstRow (FreeRow owners) (rows_in owners) q → rows_in owners ≡ n → SlotFor n i owners q
unfolding or_else
for-free n i owners r q x h y e =
    let free-row : FirstRow (FreeRow owners) n q = subst (λ m. FirstRow (FreeRow owners) m q) e y in
    record {
      inside = free-row.inside;
      slot = λ b.
          let s : Lent = record { buffer = b; owners = owners } in
          rw (slot_of_row n s r i x ∙ as_none n r h) (free-of-row n s q free-row);
    }
