-- Whoever calls, a slot that another instance holds keeps its bytes and its row, also in any history in which that instance does not call;
-- and an accepted drop clears the slot that it answers, where the caller held no other. For any buffer and owner table, a cache or not.
-- Assumes nothing.
use mathlib.Core.Path.{◌≡◌, refl, sym, ◌∙◌}
use Prim.Native.Nat.{ℕ, ◌≤◌, ◌<◌}
use native.Mathlib.Omega.{arith}
use native.Mathlib.Decide.{ℕ_discrete}
use mathlib.Core.List.{List, [], ◌∷◌, ◌++◌}
use lib.ListN.{length}
use Rattle.format.specs.Sound.{All}
use Rattle.format.specs.Read.{Read, accepted, refused}
use Rattle.slots.specs.Lent.{Lent, Taken, instance_at, slot_size, SlotKept, SlotCleared}
use Rattle.slots.specs.Meaning.{put_answer, drop_answer, stored, afterwards, drop_lent}
use Rattle.slots.specs.History.{Call, putting, fetching, dropping, caller, after, run}
use Rattle.slots.proofs.LawsStored.{stored-kept}
use Rattle.slots.proofs.LawsFound.{Own, put-found, drop-found}
use Rattle.slots.proofs.LawsMeaning.{drop-cleared}

-- What did not change.
same : (n l : ℕ) (s : Lent) → SlotKept n l s s
same n l s = record { bytes = refl; mark = refl; instance = refl; size = refl }

-- Another instance holds slot l.
module _ (n i l : ℕ) (s : Lent) (taken : Taken s.owners l) (others : ¬ (instance_at s.owners l ≡ i)) where
  -- So it is not one that may be written for i ..
  not_own : (k : ℕ) → Own n i s k → ¬ (l ≡ k)
  not_own k o e = others (rw e (o.own (rw e at taken)))

  -- .. and what is written for i leaves it as it was.
  kept_by : (bs ws : List ℕ) (r : Read ℕ) → length ws ≡ 3 →
      ((k : ℕ) → r ≡ accepted k → Own n i s k × (length bs ≤ slot_size n s.buffer)) → SlotKept n l s (afterwards (stored n bs ws s) s r)
  unfolding afterwards
  kept_by bs ws (accepted k) e h = let (o, fits) = h k refl in stored-kept n bs ws s k fits l e (not_own k o)
  kept_by bs ws (refused c m a) e h = same n l s

-- No call changes a slot that another instance holds, or its row.
pub others-kept : (n : ℕ) (s : Lent) (c : Call) (l : ℕ) → Taken s.owners l → ¬ (instance_at s.owners l ≡ caller c) →
    SlotKept n l s (after n s c)
others-kept n s (putting i file) l t d =
    kept_by n i l s t d file (1 ∷ i ∷ length file ∷ []) (put_answer n i file s) refl
    (λ k e. let (_, o, _, fits) = put-found n s i k file e in (o, fits))
others-kept n s (fetching i k) l t d = same n l s
others-kept n s (dropping i) l t d =
    kept_by n i l s t d [] (0 ∷ 0 ∷ 0 ∷ []) (drop_answer n i s) refl (λ k e. ((drop-found n s i k e).1, omega arith))

-- So none of several calls does ..
both-kept : {n l : ℕ} {s s' s'' : Lent} → SlotKept n l s s' → SlotKept n l s' s'' → SlotKept n l s s''
both-kept x y =
    record {
      bytes = y.bytes ∙ x.bytes;
      mark = y.mark ∙ x.mark;
      instance = y.instance ∙ x.instance;
      size = y.size ∙ x.size;
    }

run-kept : (n i l : ℕ) (s : Lent) (h : List Call) → Taken s.owners l → instance_at s.owners l ≡ i → All (λ c. ¬ (caller c ≡ i)) h →
    SlotKept n l s (run n s h)
unfolding run
run-kept n i l s [] t e a = same n l s
run-kept n i l s (c ∷ h) t e a =
    let x = others-kept n s c l t (λ p. a.0 (sym p ∙ e)) in
    both-kept x (run-kept n i l (after n s c) h (rw x.mark t) (x.instance ∙ e) a.1)

-- .. and the calls h, none of them of instance i, that follow the calls g in a history leave the slot that i holds after g, and its row,
-- byte for byte as they were.
run-append : (n : ℕ) (s : Lent) (g h : List Call) → run n s (g ++ h) ≡ run n (run n s g) h
unfolding run
run-append n s [] h = refl
run-append n s (c ∷ g) h = run-append n (after n s c) g h

pub untouched : (n i l : ℕ) (s : Lent) (g h : List Call) → Taken (run n s g).owners l → instance_at (run n s g).owners l ≡ i →
    All (λ c. ¬ (caller c ≡ i)) h → SlotKept n l (run n s g) (run n s (g ++ h))
untouched n i l s g h t e a = rw run-append (run-kept n i l (run n s g) h t e a)

-- An accepted drop clears the slot that it answers, and its row; the instance held no other.
pub drop-leaves-nothing : (n i k : ℕ) (s : Lent) → drop_answer n i s ≡ accepted k →
    SlotCleared n k (drop_lent n i s) × ((l : ℕ) → l < n → Taken s.owners l → instance_at s.owners l ≡ i → l ≡ k)
drop-leaves-nothing n i k s e = (drop-cleared n i k s e, λ l h t q. only l h t q (ℕ_discrete l k))
  where
    only : (l : ℕ) → l < n → Taken s.owners l → instance_at s.owners l ≡ i → Dec (l ≡ k) → l ≡ k
    only l h t q (yes p) = p
    only l h t q (no d) = absurd ((drop-found n s i k e).1.alone l h d t q)
