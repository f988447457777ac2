-- When a cache is empty: n equal slots of any bytes, and an owner table of n rows whose marks are 0, whatever stands in their other words.
-- So lent zeros are an empty cache. Assumes nothing.
use mathlib.Core.Path.{◌≡◌, refl, sym, ap, ap₂, ◌∙◌}
use Prim.Native.Nat.{ℕ, zero, suc, ◌+◌, ◌*◌, ◌/◌, ◌<◌}
use native.Mathlib.Nat.{div-eq_of_eq-mul_right}
use native.Mathlib.Omega.{arith}
use mathlib.Core.Option.{some}
use mathlib.Core.List.{◌∷◌, ◌++◌}
use lib.ListN.{length, get_or, replicate, length-replicate, replicate-append-replicate}
use Rattle.exact.specs.Fixed.{little, nums}
use Rattle.sheet.specs.Store.{words_in}
use Rattle.slots.specs.Cache.{Slot, free}
use Rattle.slots.specs.Lent.{Lent, Taken, mark_at, slot_at, slots_up_to}
use Rattle.slots.specs.History.{Empty}
use Rattle.slots.proofs.LawsStored.{good-cache, free-slot}

-- Slots that are free one by one are the free slots.
slots-free : (n : ℕ) (f : ℕ → Slot) → ((k : ℕ) → k < n → f k ≡ free) → slots_up_to n f ≡ replicate n free
unfolding slots_up_to
slots-free zero f h = refl
slots-free (suc n) f h = ap₂ ◌∷◌ (h 0 (omega arith)) (slots-free n (λ k. f (suc k)) (λ k l. h (suc k) (omega arith)))

-- Where no row is marked, the cache is empty.
pub unmarked-empty : (n z : ℕ) (s : Lent) → 0 < n → length s.buffer ≡ n * z → length s.owners ≡ n * 24 →
    ((k : ℕ) → k < n → mark_at s.owners k ≡ 0) → Empty n s
unmarked-empty n z s some-slot b o marks =
    good-cache n s
    (record {
      slots = some-slot;
      buffer = b ∙ ap (λ k. n * k) (sym (div-eq_of_eq-mul_right some-slot b));
      owners = o;
      rows = record { fits = λ k h t. absurd (untaken k h t); once = λ k l i h t u. absurd (untaken l h u) };
    }) ∙ ap some (slots-free n (slot_at n s) (λ k h. free-slot n s k (untaken k h)))
  where
    untaken : (k : ℕ) → k < n → ¬ Taken s.owners k
    untaken k h t = omega (arith, marks k h)

-- Words of zero bytes, one by one, are 0.
zeros-next : (m : ℕ) → replicate {A = ℕ} (suc m * 8) 0 ≡ replicate 8 0 ++ replicate (m * 8) 0
zeros-next m = let e : suc m * 8 ≡ 8 + m * 8 = omega arith in rw (e, replicate-append-replicate)

zero-words : (m k : ℕ) → get_or (nums m 8 (replicate (m * 8) 0)) k 0 ≡ 0
unfolding nums little
zero-words zero k = refl
zero-words (suc m) zero = rw zeros-next
zero-words (suc m) (suc k) = rw zeros-next (zero-words m k)

-- Zeros are an empty cache.
pub zero-empty : (n z : ℕ) → 0 < n → Empty n (record { buffer = replicate (n * z) 0; owners = replicate (n * 24) 0 })
unfolding words_in
zero-empty n z h =
    let d : n * 24 / 8 ≡ n * 3 = omega arith in
    let e : n * 24 ≡ n * 3 * 8 = omega arith in
    unmarked-empty n z _ h (length-replicate (n * z) 0) (length-replicate (n * 24) 0)
    (λ k _. rw (length-replicate, d, e) (zero-words (n * 3) (3 * k)))
