-- What an accepted call has found: the slot is the instance's own or free, and it has no other. Assumes nothing.
use mathlib.Core.Path.{◌≡◌, refl, sym, ap, subst, ◌∙◌}
use mathlib.Core.Option.{Option, none, some}
use Prim.Native.Nat.{ℕ, ◌≤◌, ◌<◌}
use native.Mathlib.Omega.{arith}
use native.Mathlib.Decide.{dec_le, dec_lt}
use mathlib.Core.List.{List}
use lib.ListN.{length, get_or}
use Rattle.exact.specs.Choice.{choose}
use Rattle.enums.specs.Refusals as refusals
use Rattle.format.specs.Tables.{Tables}
use Rattle.format.specs.Read.{Read, accepted, refused}
use Rattle.format.specs.Decode.{most_bytes, placed, only_tables, decode}
use Rattle.format.proofs.Decoded.{accepted-value, refused-not-accepted, placed-sound, map-inv}
use Rattle.format.proofs.Viewed.{then-inv}
use Rattle.slots.specs.Cache.{Slot, free, Free, HeldBy, is_free, is_held_by, lowest, slot_of, or_else, slot_for, or_refused, put_in, drop_in}
use Rattle.slots.specs.Lent.{Lent, Taken, mark_at, instance_at, slot_size, Good, slot_at, slots_up_to}
use Rattle.slots.specs.Judge.{is_good}
use Rattle.slots.specs.Meaning.{cache_of, of_cache, put_answer, drop_answer}
use Rattle.slots.proofs.LawsLowest.{LowestAt, NoneSuch, Found, found, nowhere, lowest-found}
use Rattle.slots.proofs.LawsSlots.{length-slots, slots_at}
use Rattle.slots.proofs.LawsStored.{good-cache, bad-cache, taken-slot, free-slot}

-- An accepted call was given a cache, and accepted with it.
pub answered : {A : Type 0} (n : ℕ) (s : Lent) (f : List Slot → Read A) (v : A) → of_cache (cache_of n s) f ≡ accepted v →
    Good n s × (f (slots_up_to n (slot_at n s)) ≡ accepted v)
unfolding of_cache
answered n s f v e = go (is_good n s)
  where
    go : Dec (Good n s) → Good n s × (f (slots_up_to n (slot_at n s)) ≡ accepted v)
    go (yes g) = (g, rw (good-cache n s g) at e)
    go (no h) = absurd (refused-not-accepted (rw (bad-cache n s h) at e))

-- What was accepted was found ..
pub or-refused-inv : (r : ℕ) (o : Option ℕ) (k : ℕ) → or_refused r o ≡ accepted k → o ≡ some k
unfolding or_refused
or-refused-inv r none k e = absurd (refused-not-accepted e)
or-refused-inv r (some j) k e = ap some (accepted-value e)

-- .. and passed the test.
choose-inv : {P A : Type 0} (d : Dec P) (r : Read A) (c n i : ℕ) (v : A) → choose d r (refused c n i) ≡ accepted v → P × (r ≡ accepted v)
unfolding choose
choose-inv (yes p) r c n i v e = (p, e)
choose-inv (no h) r c n i v e = absurd (refused-not-accepted e)

-- A file that passes is within the limit.
pub decode-within : (file : List ℕ) (t : Tables) → decode file ≡ accepted t → length file ≤ most_bytes
unfolding decode
decode-within file t e = let (x, h, _) = map-inv only_tables (placed file) t e in (placed-sound file x h).0

-- The lowest slot that was found ..
pub found_at : {P : Slot → Type 0} {c : List Slot} {k : ℕ} → Found P c (some k) → LowestAt P c k
found_at (found x) = x

-- .. and that none was.
pub none-at : {P : Slot → Type 0} {c : List Slot} → Found P c none → NoneSuch P c
none-at (nowhere x) = x

-- Slot k may be written for instance i.
pub record Own (n i : ℕ) (s : Lent) (k : ℕ) : Type 0 where
  pub inside : k < n
  -- It is no other instance's ..
  pub own : Taken s.owners k → instance_at s.owners k ≡ i
  -- .. and i has no other slot.
  pub alone : (l : ℕ) → l < n → ¬ (l ≡ k) → Taken s.owners l → ¬ (instance_at s.owners l ≡ i)

module _ (n : ℕ) (s : Lent) where
  abbrev slots : List Slot
  slots = slots_up_to n (slot_at n s)

  -- Who holds a slot is in its row ..
  pub held_of : (i l : ℕ) → l < n → Taken s.owners l → instance_at s.owners l ≡ i → HeldBy i (get_or slots l free)
  held_of i l h t e = subst (HeldBy i) (sym (slots_at n (slot_at n s) l free h ∙ taken-slot n s l t)) e

  -- .. and in its row is who holds it ..
  pub of-held : (i l : ℕ) → l < n → HeldBy i (get_or slots l free) → Taken s.owners l × (instance_at s.owners l ≡ i)
  of-held i l h x = go (dec_lt 0 (mark_at s.owners l))
    where
      e : get_or slots l free ≡ slot_at n s l
      e = slots_at n (slot_at n s) l free h

      go : Dec (Taken s.owners l) → Taken s.owners l × (instance_at s.owners l ≡ i)
      go (yes t) = (t, subst (HeldBy i) (e ∙ taken-slot n s l t) x)
      go (no t) = absurd (subst (HeldBy i) (e ∙ free-slot n s l t) x)

  -- .. and a free one's row is not taken.
  pub of-free : (l : ℕ) → l < n → Free (get_or slots l free) → ¬ Taken s.owners l
  of-free l h x t = subst Free (slots_at n (slot_at n s) l free h ∙ taken-slot n s l t) x

  module _ (i k : ℕ) where
    -- The slot that i holds is the lowest that it does ..
    held-lowest : slot_of i slots ≡ some k → LowestAt (HeldBy i) slots k
    held-lowest e = found_at (subst (Found (HeldBy i) slots) e (lowest-found (is_held_by i) slots))

    -- .. and its row is taken by i ..
    pub held-row : slot_of i slots ≡ some k → (k < n) × Taken s.owners k × (instance_at s.owners k ≡ i)
    held-row e =
        let x = held-lowest e in
        let h : k < n = omega (arith, x.inside, length-slots n (slot_at n s)) in
        let (t, q) = of-held i k h x.such in
        (h, t, q)

    -- .. so that it is its own ..
    pub own_held : Good n s → slot_of i slots ≡ some k → Own n i s k
    own_held g e =
        let x = held-lowest e in
        let (h, t, q) = held-row e in
        record { inside = h; own = λ _. q; alone = λ l b d u p. one x h t q l b d u p (dec_lt l k) }
      where
        one : LowestAt (HeldBy i) slots k → k < n → Taken s.owners k → instance_at s.owners k ≡ i → (l : ℕ) → l < n → ¬ (l ≡ k) →
            Taken s.owners l → instance_at s.owners l ≡ i → Dec (l < k) → ⊥
        one x h t q l b d u p (yes j) = x.none_below l j (held_of i l b u p)
        one x h t q l b d u p (no j) = g.rows.once k l (omega arith) b t u (q ∙ sym p)

    -- .. and if it holds none, so is a free one.
    pub own-free : slot_of i slots ≡ none → lowest is_free slots ≡ some k → Own n i s k
    own-free e f =
        let y : NoneSuch (HeldBy i) slots = none-at (subst (Found (HeldBy i) slots) e (lowest-found (is_held_by i) slots)) in
        let x : LowestAt Free slots k = found_at (subst (Found Free slots) f (lowest-found is_free slots)) in
        let m = length-slots n (slot_at n s) in
        let h : k < n = omega (arith, x.inside) in
        record {
          inside = h;
          own = λ t. absurd (of-free k h x.such t);
          alone = λ l b d u p. y l (omega arith) (held_of i l b u p);
        }

    -- One or the other.
    own-either : Good n s → (o : Option ℕ) → slot_of i slots ≡ o → or_else o (lowest is_free slots) ≡ some k → Own n i s k
    unfolding or_else
    own-either g none e f = own-free e f
    own-either g (some j) e f = own_held g (e ∙ f)

    -- An accepted drop has found its own slot.
    pub drop-found : drop_answer n i s ≡ accepted k → Good n s × Own n i s k
    unfolding drop_in
    drop-found e =
        let (g, q) = answered n s (drop_in i) k e in
        (g, own_held g (or-refused-inv refusals.not_there (slot_of i slots) k q))

    -- An accepted put has found that or a free one, and room in it.
    pub put-found : (file : List ℕ) → put_answer n i file s ≡ accepted k →
        Good n s × Own n i s k × (length file ≤ most_bytes) × (length file ≤ slot_size n s.buffer)
    unfolding put_in
    put-found file e =
        let (g, q) = answered n s (put_in (slot_size n s.buffer) i file) k e in
        let (t, d, r) = then-inv (decode file) _ k q in
        let (fits, o) = choose-inv (dec_le (length file) (slot_size n s.buffer)) _ _ _ _ k r in
        (g, own-either g (slot_of i slots) refl (or-refused-inv refusals.no_slot (slot_for i slots) k o), decode-within file t d, fits)
