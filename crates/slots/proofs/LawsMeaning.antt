-- What the calls leave stands for the cache that they should leave. Assumes nothing.
use mathlib.Core.Path.{◌≡◌, refl, sym, ◌∙◌}
use mathlib.Core.Option.{some}
use Prim.Native.Nat.{ℕ, ◌*◌, ◌^◌, ◌<◌}
use native.Mathlib.Nat.{sub-zero}
use native.Mathlib.Omega.{arith}
use native.Mathlib.Decide.{dec_lt}
use mathlib.Core.List.{List, [], ◌∷◌}
use lib.ListN.{length, take, drop, set, replicate}
use Rattle.exact.proofs.LawsChoice.{choose_yes, choose_no}
use Rattle.encoding.specs.Out.{put}
use Rattle.encoding.proofs.LawsOut.{length-put}
use Rattle.format.specs.Read.{Read, accepted, refused}
use Rattle.slots.specs.Cache.{Slot, free, held, put_in, drop_in, anew, put_after, drop_after}
use Rattle.slots.specs.Lent.{Lent, slot_size, SlotKept, SlotCleared}
use Rattle.slots.specs.Meaning.{cache_of, of_cache, put_answer, drop_answer, stored, afterwards, put_lent, drop_lent}
use Rattle.slots.proofs.LawsTable.{row_put}
use Rattle.slots.proofs.LawsSlots.{filled, slot-inside, slot-put}
use Rattle.slots.proofs.LawsStored.{cache-good, stored-means, stored-kept, stored-size}
use Rattle.slots.proofs.LawsFound.{put-found, drop-found}

-- The calls keep the slots' size ..
size-kept : (n : ℕ) (bs ws : List ℕ) (s : Lent) (r : Read ℕ) →
    slot_size n (afterwards (stored n bs ws s) s r).buffer ≡ slot_size n s.buffer
unfolding afterwards
size-kept n bs ws s (accepted k) = stored-size n bs ws s k
size-kept n bs ws s (refused a b c) = refl

-- .. so do a put and a drop.
pub put-size : (n i : ℕ) (file : List ℕ) (s : Lent) → slot_size n (put_lent n i file s).buffer ≡ slot_size n s.buffer
put-size n i file s = size-kept n file _ s (put_answer n i file s)

pub drop-size : (n i : ℕ) (s : Lent) → slot_size n (drop_lent n i s).buffer ≡ slot_size n s.buffer
drop-size n i s = size-kept n [] _ s (drop_answer n i s)

-- A slot anew, if the call was accepted with one.
anew-means : (n : ℕ) (f : ℕ → Lent) (s : Lent) (x : Slot) (c : List Slot) (r : Read ℕ) → cache_of n s ≡ some c →
    ((k : ℕ) → r ≡ accepted k → cache_of n (f k) ≡ some (set c k x)) → cache_of n (afterwards f s r) ≡ some (anew x c r)
unfolding afterwards anew
anew-means n f s x c (accepted k) e h = h k refl
anew-means n f s x c (refused a b d) e h = e

-- After a put: the cache with the file put.
pub put-means : (n i : ℕ) (file : List ℕ) (s : Lent) (c : List Slot) → i < 2 ^ 64 → cache_of n s ≡ some c →
    cache_of n (put_lent n i file s) ≡ some (put_after (slot_size n s.buffer) i file c)
unfolding of_cache
put-means n i file s c b e =
    rw e
    (anew-means n (stored n file (1 ∷ i ∷ length file ∷ []) s) s (held i file) c (put_in (slot_size n s.buffer) i file c) e
    (λ k q.
    let (g, o, limit, fits) = put-found n s i k file (rw e q) in
    rw ((cache-good n s c e).1, sym (choose_yes (dec_lt 0 1) (held i file) free (omega arith)))
    (stored-means n k 1 i file s g o.inside (omega arith) b (omega arith) fits (λ l h d _. o.alone l h d))))

-- After a drop: the cache without the instance's file.
pub drop-means : (n i : ℕ) (s : Lent) (c : List Slot) → cache_of n s ≡ some c →
    cache_of n (drop_lent n i s) ≡ some (drop_after i c)
unfolding of_cache
drop-means n i s c e =
    rw e
    (anew-means n (stored n [] (0 ∷ 0 ∷ 0 ∷ []) s) s free c (drop_in i c) e
    (λ k q.
    let (g, o) = drop-found n s i k (rw e q) in
    rw ((cache-good n s c e).1, sym (choose_no (dec_lt 0 0) (held 0 []) free (omega arith)))
    (stored-means n k 0 0 [] s g o.inside (omega arith) (omega arith) (omega arith) (omega arith) (λ l h d z. absurd (omega arith)))))

-- An accepted put changes no other slot, and no other row ..
pub put-others : (n i k : ℕ) (file : List ℕ) (s : Lent) → put_answer n i file s ≡ accepted k → (l : ℕ) → l < n → ¬ (l ≡ k) →
    SlotKept n l s (put_lent n i file s)
unfolding afterwards
put-others n i k file s e l h d = rw e (stored-kept n file (1 ∷ i ∷ length file ∷ []) s k (put-found n s i k file e).3 l refl d)

-- .. and neither does a drop ..
pub drop-others : (n i k : ℕ) (s : Lent) → drop_answer n i s ≡ accepted k → (l : ℕ) → l < n → ¬ (l ≡ k) →
    SlotKept n l s (drop_lent n i s)
unfolding afterwards
drop-others n i k s e l h d = rw e (stored-kept n [] (0 ∷ 0 ∷ 0 ∷ []) s k (omega arith) l refl d)

-- .. which clears the slot's bytes and its row.
pub drop-cleared : (n i k : ℕ) (s : Lent) → drop_answer n i s ≡ accepted k → SlotCleared n k (drop_lent n i s)
unfolding afterwards stored
drop-cleared n i k s e =
    let (g, o) = drop-found n s i k e in
    let z = slot_size n s.buffer in
    let y = row_put n k 0 0 0 s.owners o.inside g.owners (omega arith) (omega arith) (omega arith) in
    let x : take z (drop (k * z) (put s.buffer (k * z) (filled z []))) ≡ replicate z 0 =
    slot-put z [] (omega arith) s.buffer k (slot-inside z k n s.buffer o.inside g.buffer) ∙ rw sub-zero in
    rw e (record { bytes = rw length-put x; mark = y.at_mark; instance = y.at_instance; size = y.at_size })
