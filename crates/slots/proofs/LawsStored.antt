-- What a buffer and an owner table stand for, and what they stand for with a slot and its row stored anew. Assumes nothing.
use mathlib.Core.Path.{◌≡◌, refl, sym, ap, subst, ◌∙◌}
use mathlib.Core.Option.{none, some, none-ne-some, some-injective}
use Prim.Native.Nat.{ℕ, ◌*◌, ◌/◌, ◌^◌, ◌≤◌, ◌<◌}
use native.Mathlib.Omega.{arith}
use native.Mathlib.Decide.{ℕ_discrete, dec_lt}
use mathlib.Core.List.{List, [], ◌∷◌}
use lib.ListN.{length, take, drop, set}
use Rattle.exact.specs.Choice.{choose}
use Rattle.exact.proofs.LawsChoice.{choose_yes, choose_no}
use Rattle.encoding.proofs.LawsOut.{length-put}
use Rattle.sheet.proofs.LawsStore.{length-put_words}
use Rattle.slots.specs.Cache.{Slot, free, held}
use Rattle.slots.specs.Lent.{Lent, Taken, mark_at, instance_at, length_at, slot_size, Rows, Good, slot_at, slots_up_to, SlotKept}
use Rattle.slots.specs.Judge.{is_good}
use Rattle.slots.specs.Meaning.{cache_of, stored}
use Rattle.slots.proofs.LawsTable.{RowIs, row_put, row_kept}
use Rattle.slots.proofs.LawsSlots.{slot-inside, slot-begins, slot_kept, slots_set}

module _ (n : ℕ) (s : Lent) where
  -- What is good stands for its slots ..
  pub good-cache : Good n s → cache_of n s ≡ some (slots_up_to n (slot_at n s))
  unfolding cache_of
  good-cache g = choose_yes (is_good n s) _ _ g

  -- .. and nothing else stands for a cache ..
  pub bad-cache : ¬ Good n s → cache_of n s ≡ none
  unfolding cache_of
  bad-cache h = choose_no (is_good n s) _ _ h

  -- .. so what stands for one is good.
  pub cache-good : (c : List Slot) → cache_of n s ≡ some c → Good n s × (c ≡ slots_up_to n (slot_at n s))
  cache-good c e = go (is_good n s)
    where
      go : Dec (Good n s) → Good n s × (c ≡ slots_up_to n (slot_at n s))
      go (yes g) = (g, some-injective _ _ (sym e ∙ good-cache g))
      go (no h) = absurd (none-ne-some _ (sym (bad-cache h) ∙ e))

-- A row with this mark stands for instance i with the file, or for nothing.
abbrev pub meant : ℕ → ℕ → List ℕ → Slot
meant mark i file = choose (dec_lt 0 mark) (held i file) free

-- The file of row k.
abbrev pub file_at : ℕ → Lent → ℕ → List ℕ
file_at n s k = take (length_at s.owners k) (drop (k * slot_size n s.buffer) s.buffer)

module _ (n : ℕ) (s : Lent) (k : ℕ) where
  -- A taken slot is held by its row's instance ..
  pub taken-slot : Taken s.owners k → slot_at n s k ≡ held (instance_at s.owners k) (file_at n s k)
  unfolding slot_at
  taken-slot h = choose_yes (dec_lt 0 (mark_at s.owners k)) _ _ h

  -- .. and another one is free.
  pub free-slot : ¬ Taken s.owners k → slot_at n s k ≡ free
  unfolding slot_at
  free-slot h = choose_no (dec_lt 0 (mark_at s.owners k)) _ _ h

  -- A row's words say what its slot stands for; of the bytes only those of a taken one count.
  slot-means : (m i z : ℕ) (f : List ℕ) → RowIs s.owners k m i z →
      (0 < m → take z (drop (k * slot_size n s.buffer) s.buffer) ≡ f) → slot_at n s k ≡ meant m i f
  slot-means m i z f r e = go (dec_lt 0 m)
    where
      go : Dec (0 < m) → slot_at n s k ≡ meant m i f
      go (yes h) =
          taken-slot (rw r.at_mark h) ∙ rw (r.at_instance, r.at_size, e h) (sym (choose_yes (dec_lt 0 m) (held i f) free h))
      go (no h) = free-slot (rw r.at_mark h) ∙ sym (choose_no (dec_lt 0 m) (held i f) free h)

module _ (n : ℕ) (bs ws : List ℕ) (s : Lent) (k : ℕ) where
  -- Storing a slot keeps the length of the buffer ..
  pub stored-buffer : length (stored n bs ws s k).buffer ≡ length s.buffer
  unfolding stored
  stored-buffer = length-put _ _ _

  -- .. and that of the owner table ..
  pub stored-owners : length (stored n bs ws s k).owners ≡ length s.owners
  unfolding stored
  stored-owners = length-put_words ws s.owners (3 * k)

  -- .. and so the slots' size.
  pub stored-size : slot_size n (stored n bs ws s k).buffer ≡ slot_size n s.buffer
  stored-size = ap (λ j. j / n) stored-buffer

  module _ (fits : length bs ≤ slot_size n s.buffer) where
    -- Every other slot, and any part of it, is as it was ..
    pub stored-part : (l m : ℕ) → ¬ (l ≡ k) → m ≤ slot_size n s.buffer →
        take m (drop (l * slot_size n s.buffer) (stored n bs ws s k).buffer) ≡ take m (drop (l * slot_size n s.buffer) s.buffer)
    unfolding stored
    stored-part l m h i = slot_kept (slot_size n s.buffer) bs fits s.buffer k l m h i

    -- .. and so is every other row.
    pub stored-kept : (l : ℕ) → length ws ≡ 3 → ¬ (l ≡ k) → SlotKept n l s (stored n bs ws s k)
    unfolding stored
    stored-kept l e h =
        let r = row_kept k l ws s.owners e h in
        record {
          bytes = rw stored-size (stored-part l (slot_size n s.buffer) h (omega arith));
          mark = r.at_mark;
          instance = r.at_instance;
          size = r.at_size;
        }

-- With a row whose words these are, and the file's bytes in its slot.
module _ (n k m i : ℕ) (bs : List ℕ) (s : Lent) (g : Good n s) (inside : k < n) (small : m < 2 ^ 64) (number : i < 2 ^ 64)
    (limit : length bs < 2 ^ 64) (fits : length bs ≤ slot_size n s.buffer) where
  abbrev after : Lent
  after = stored n bs (m ∷ i ∷ length bs ∷ []) s k

  -- The row has these words, and every other has its own ..
  own_row : RowIs after.owners k m i (length bs)
  unfolding stored
  own_row = row_put n k m i (length bs) s.owners inside g.owners small number limit

  other_row : (l : ℕ) → ¬ (l ≡ k) → RowIs after.owners l (mark_at s.owners l) (instance_at s.owners l) (length_at s.owners l)
  unfolding stored
  other_row l h = row_kept k l (m ∷ i ∷ length bs ∷ []) s.owners refl h

  -- .. so the slot stands for the file, and every other for what it did.
  own-slot : slot_at n after k ≡ meant m i bs
  unfolding stored
  own-slot =
      let r = slot-inside (slot_size n s.buffer) k n s.buffer inside g.buffer in
      slot-means n after k m i (length bs) bs own_row
      (λ h. rw (stored-size n bs (m ∷ i ∷ length bs ∷ []) s k)
      (slot-begins (slot_size n s.buffer) bs fits s.buffer k r))

  other-slot : (l : ℕ) → l < n → ¬ (l ≡ k) → slot_at n after l ≡ slot_at n s l
  unfolding slot_at
  other-slot l h d =
      slot-means n after l (mark_at s.owners l) (instance_at s.owners l) (length_at s.owners l) (file_at n s l) (other_row l d)
      (λ t. rw (stored-size n bs (m ∷ i ∷ length bs ∷ []) s k)
      (stored-part n bs (m ∷ i ∷ length bs ∷ []) s k fits l (length_at s.owners l) d (g.rows.fits l h t)))

  -- If the row is to be taken, instance i has no other taken one.
  abbrev Alone : Type 0
  Alone = (l : ℕ) → l < n → ¬ (l ≡ k) → 0 < m → Taken s.owners l → ¬ (instance_at s.owners l ≡ i)

  -- The rows are then as they should be, and so is the whole.
  rows-after : Alone → Rows (slot_size n s.buffer) after.owners n
  rows-after alone =
      record { fits = λ l h t. fits-at l h t (ℕ_discrete l k); once = λ j l a b t u. once-at j l a b t u (ℕ_discrete j k) (ℕ_discrete l k) }
    where
      fits-at : (l : ℕ) → l < n → Taken after.owners l → Dec (l ≡ k) → length_at after.owners l ≤ slot_size n s.buffer
      fits-at l h t (yes p) = rw (p, own_row.at_size) fits
      fits-at l h t (no d) =
          let r = other_row l d in
          rw r.at_size (g.rows.fits l h (rw r.at_mark at t))

      two : (l : ℕ) → l < n → ¬ (l ≡ k) → Taken after.owners l → Taken after.owners k →
          ¬ (instance_at after.owners l ≡ instance_at after.owners k)
      two l h d t u e =
          let r = other_row l d in
          alone l h d (rw own_row.at_mark at u) (rw r.at_mark at t) (sym r.at_instance ∙ e ∙ own_row.at_instance)

      once-at : (j l : ℕ) → j < l → l < n → Taken after.owners j → Taken after.owners l → Dec (j ≡ k) → Dec (l ≡ k) →
          ¬ (instance_at after.owners j ≡ instance_at after.owners l)
      once-at j l a b t u (yes p) (yes q) e = omega arith
      once-at j l a b t u (yes p) (no d) e = two l b d u (subst (Taken after.owners) p t) (sym e ∙ ap (instance_at after.owners) p)
      once-at j l a b t u (no d) (yes q) e =
          two j (omega arith) d t (subst (Taken after.owners) q u) (e ∙ ap (instance_at after.owners) q)
      once-at j l a b t u (no c) (no d) e =
          let r = other_row j c in
          let q = other_row l d in
          g.rows.once j l a b (rw r.at_mark at t) (rw q.at_mark at u) (sym r.at_instance ∙ e ∙ q.at_instance)

  good-after : Alone → Good n after
  good-after alone =
      let z = stored-size n bs (m ∷ i ∷ length bs ∷ []) s k in
      record {
        slots = g.slots;
        buffer = rw (stored-buffer n bs (m ∷ i ∷ length bs ∷ []) s k) g.buffer;
        owners = stored-owners n bs (m ∷ i ∷ length bs ∷ []) s k ∙ g.owners;
        rows = rw z (rows-after alone);
      }

  -- What is left stands for the cache with that slot anew.
  pub stored-means : Alone → cache_of n after ≡ some (set (slots_up_to n (slot_at n s)) k (meant m i bs))
  stored-means alone =
      good-cache n after (good-after alone) ∙
      ap some (slots_set n k (slot_at n s) (slot_at n after) (meant m i bs) own-slot other-slot)
