-- The cache that a buffer and an owner table stand for, if they do; and what the calls answer and leave (document 02, 8/14).
use Rattle.std.specs.Prelude.{ℕ, ◌+◌, ◌-◌, ◌*◌, List, [], ◌∷◌, ◌++◌, length, replicate}
use Rattle.std.proofs.Math.Option.{Option, none, some}
use Rattle.exact.specs.Choice.{choose}
use Rattle.encoding.specs.Out.{put}
use Rattle.enums.specs.Refusals as refusals
use Rattle.format.specs.Read.{Read, accepted, refused}
use Rattle.format.specs.Views.{Span}
use Rattle.sheet.specs.Store.{put_words}
use Rattle.slots.specs.Cache.{Slot, InSlot, put_in, drop_in, fetch_in}
use Rattle.slots.specs.Lent.{Lent, slot_size, slot_at, slots_up_to}
use Rattle.slots.specs.Judge.{is_good}

unfoldable pub cache_of : ℕ → Lent → Option (List Slot)
cache_of n s = choose (is_good n s) (some (slots_up_to n (slot_at n s))) none

-- What is answered of the cache; without one 12, which is judged first.
unfoldable pub of_cache : {A : Type 0} → Option (List Slot) → (List Slot → Read A) → Read A
of_cache none f = refused refusals.unsound refusals.at_call 0
of_cache (some c) f = f c

abbrev pub put_answer : ℕ → ℕ → List ℕ → Lent → Read ℕ
put_answer n i file s = of_cache (cache_of n s) (put_in (slot_size n s.buffer) i file)

abbrev pub fetch_answer : ℕ → ℕ → ℕ → Lent → Read InSlot
fetch_answer n i k s = of_cache (cache_of n s) (fetch_in i k)

abbrev pub drop_answer : ℕ → ℕ → Lent → Read ℕ
drop_answer n i s = of_cache (cache_of n s) (drop_in i)

-- Where a place in a slot's file stands in the buffer.
abbrev pub in_buffer : ℕ → InSlot → Span
in_buffer z p = record { offset = p.slot * z + p.within.offset; size = p.within.size }

-- Slot k begins with the bytes bs and is cleared behind them, and its row is the words ws ..
unfoldable pub stored : ℕ → List ℕ → List ℕ → Lent → ℕ → Lent
stored n bs ws s k =
    let z = slot_size n s.buffer in
    record {
      buffer = put s.buffer (k * z) (bs ++ replicate (z - length bs) 0);
      owners = put_words s.owners (3 * k) ws;
    }

-- .. if a call was accepted with this slot.
unfoldable pub afterwards : (ℕ → Lent) → Lent → Read ℕ → Lent
afterwards f s (accepted k) = f k
afterwards f s (refused n stage at) = s

-- Put writes its whole row anew, and drop clears all of it.
abbrev pub put_lent : ℕ → ℕ → List ℕ → Lent → Lent
put_lent n i file s = afterwards (stored n file (1 ∷ i ∷ length file ∷ []) s) s (put_answer n i file s)

abbrev pub drop_lent : ℕ → ℕ → Lent → Lent
drop_lent n i s = afterwards (stored n [] (0 ∷ 0 ∷ 0 ∷ []) s) s (drop_answer n i s)
