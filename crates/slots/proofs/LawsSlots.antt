-- What bytes put into a slot leave in the buffer, and the list of the slots. Assumes nothing.
use mathlib.Core.Path.{◌≡◌, refl, sym, ap, subst, ◌∙◌}
use mathlib.Core.Logic.{◌⊎◌, inl, inr}
use Prim.Native.Nat.{ℕ, zero, suc, ◌+◌, ◌-◌, ◌*◌, ◌≤◌, ◌<◌}
use native.Mathlib.Nat.{mul-le-mul_right}
use native.Mathlib.Omega.{arith}
use native.Mathlib.Decide.{ℕ_discrete, dec_lt}
use mathlib.Core.List.{List, ◌++◌}
use lib.ListN.{length, take, drop, get_or, set, replicate, length-append, length-replicate, length-set}
use lib.Seq.{take-take, take-append_seam, get_or-set_same, get_or-set_other, ext_get_or}
use Rattle.encoding.specs.Out.{put}
use Rattle.encoding.proofs.LawsOut.{put_same}
use Rattle.slots.specs.Cache.{Slot, free}
use Rattle.slots.specs.Lent.{slots_up_to}
use Rattle.slots.proofs.LawsTable.{put-beside}

-- A slot ends where a later one begins, or before.
pub slot-before : (z k n : ℕ) → k < n → k * z + z ≤ n * z
slot-before z k n h = let e : suc k * z ≤ n * z = mul-le-mul_right z h in omega arith

-- So each of n slots lies inside a buffer of as many ..
pub slot-inside : (z k n : ℕ) (b : List ℕ) → k < n → length b ≡ n * z → k * z + z ≤ length b
slot-inside z k n b h e = rw e (slot-before z k n h)

-- .. and different ones have no byte in common.
pub slots_apart : (z k l : ℕ) → ¬ (l ≡ k) → (l * z + z ≤ k * z) ⊎ (k * z + z ≤ l * z)
slots_apart z k l h = go (dec_lt l k)
  where
    go : Dec (l < k) → (l * z + z ≤ k * z) ⊎ (k * z + z ≤ l * z)
    go (yes i) = inl (slot-before z l k i)
    go (no i) = inr (slot-before z k l (omega arith))

-- What is put into a slot: the bytes bs, and zeros to its end.
abbrev pub filled : ℕ → List ℕ → List ℕ
filled z bs = bs ++ replicate (z - length bs) 0

module _ (z : ℕ) (bs : List ℕ) (fits : length bs ≤ z) where
  -- They are as many as the slot has.
  pub length-filled : length (filled z bs) ≡ z
  length-filled = simp (length-append, length-replicate) (omega arith)

  module _ (b : List ℕ) (k : ℕ) where
    -- The slot then has them ..
    pub slot-put : k * z + z ≤ length b → take z (drop (k * z) (put b (k * z) (filled z bs))) ≡ filled z bs
    slot-put r = rw length-filled at (put_same b (k * z) (filled z bs) (omega (arith, length-filled)))

    -- .. so it begins with bs ..
    pub slot-begins : k * z + z ≤ length b → take (length bs) (drop (k * z) (put b (k * z) (filled z bs))) ≡ bs
    slot-begins r =
        sym (take-take (length bs) z (drop (k * z) (put b (k * z) (filled z bs))) fits) ∙ ap (take (length bs)) (slot-put r) ∙
        take-append_seam bs (replicate (z - length bs) 0)

    -- .. and every other slot's bytes are as they were.
    pub slot_kept : (l m : ℕ) → ¬ (l ≡ k) → m ≤ z →
        take m (drop (l * z) (put b (k * z) (filled z bs))) ≡ take m (drop (l * z) b)
    slot_kept l m h i = put-beside b (k * z) (filled z bs) (l * z) m (apart (slots_apart z k l h))
      where
        apart : (l * z + z ≤ k * z) ⊎ (k * z + z ≤ l * z) → (l * z + m ≤ k * z) ⊎ (k * z + length (filled z bs) ≤ l * z)
        apart (inl j) = inl (omega arith)
        apart (inr j) = inr (omega (arith, length-filled))

-- As many slots as were asked for ..
pub length-slots : (n : ℕ) (f : ℕ → Slot) → length (slots_up_to n f) ≡ n
unfolding slots_up_to
length-slots zero f = refl
length-slots (suc n) f = ap suc (length-slots n (λ k. f (suc k)))

-- .. each what it should be.
pub slots_at : (n : ℕ) (f : ℕ → Slot) (k : ℕ) (d : Slot) → k < n → get_or (slots_up_to n f) k d ≡ f k
unfolding slots_up_to
slots_at zero f k d h = absurd (omega arith)
slots_at (suc n) f zero d h = refl
slots_at (suc n) f (suc k) d h = slots_at n (λ k. f (suc k)) k d (omega arith)

-- With another slot k.
pub slots_set : (n k : ℕ) (f g : ℕ → Slot) (x : Slot) → g k ≡ x → ((l : ℕ) → l < n → ¬ (l ≡ k) → g l ≡ f l) →
    slots_up_to n g ≡ set (slots_up_to n f) k x
slots_set n k f g x e h =
    ext_get_or free _ _ (length-slots n g ∙ sym (length-set (slots_up_to n f) k x ∙ length-slots n f))
    (λ i l. let j : i < n = omega (arith, length-slots n g) in slots_at n g i free j ∙ each i j (ℕ_discrete i k))
  where
    each : (i : ℕ) → i < n → Dec (i ≡ k) → g i ≡ get_or (set (slots_up_to n f) k x) i free
    each i j (yes p) =
        subst (λ y. g y ≡ get_or (set (slots_up_to n f) k x) y free) (sym p)
        (e ∙ sym (get_or-set_same (slots_up_to n f) k x free (omega (arith, length-slots n f))))
    each i j (no p) = h i j p ∙ sym (get_or-set_other (slots_up_to n f) k i x free p ∙ slots_at n f i free j)
