-- A put is answered "no slot" (18) exactly if its file passes and fits a slot, its caller has no file, and every slot is taken; after any
-- history from an empty cache. Assumes nothing.
use mathlib.Core.Path.{◌≡◌, refl, sym, ap, ◌∙◌, subst}
use mathlib.Core.Bool.{true≢false}
use Prim.Native.Nat.{ℕ, ◌<◌}
use native.Mathlib.Omega.{arith}
use native.Mathlib.Decide.{dec_le, dec_lt}
use mathlib.Core.Option.{Option, none, some}
use mathlib.Core.List.{List}
use lib.ListN.{length, get_or}
use Rattle.exact.specs.Choice.{choose}
use Rattle.exact.proofs.LawsChoice.{choose_yes}
use Rattle.enums.specs.Refusals as refusals
use Rattle.format.specs.Tables.{Tables}
use Rattle.format.specs.Read.{Read, accepted, refused}
use Rattle.format.specs.Decode.{decode}
use Rattle.format.specs.Views.{and_then}
use Rattle.format.specs.Refusals.{Listed, refused_so}
use Rattle.format.proofs.Decoded.{refused-not-accepted, decode-sound, decode-complete}
use Rattle.format.proofs.Refused.{decode-listed}
use Rattle.slots.specs.Cache.{Slot, free, HeldBy, Free, is_held_by, is_free, lowest, slot_of, or_else, slot_for, or_refused, put_in}
use Rattle.slots.specs.Lent.{Lent, Taken, mark_at, slot_size, slot_at}
use Rattle.slots.specs.Meaning.{cache_of, of_cache}
use Rattle.slots.specs.History.{Call, putting, slot, answer, run, told, Empty, Numbered, last_put, NoSlot, NoneLeft}
use Rattle.slots.proofs.LawsLowest.{NoneSuch, Found, nowhere, lowest-found, lowest-is}
use Rattle.slots.proofs.LawsSlots.{slots_at}
use Rattle.slots.proofs.LawsStored.{free-slot}
use Rattle.slots.proofs.LawsFound.{decode-within, none-at, of-free}
use Rattle.slots.proofs.LawsCache.{Has, has_file, has_none, is_held, held-inside, slot-none, puts}
use Rattle.slots.proofs.LawsHistory.{slots-are, slots-many, Holds, empty_holds, run_holds}

-- Reading a file never answers it.
not_listed : {A : Type 0} {c n a : ℕ} → Listed {A = A} (refused c n a) → c ≡ refusals.no_slot → n ≡ refusals.at_call → ⊥
not_listed (refused_so g) p q = true≢false (sym (rw (p, q) at g))

-- A put is answered it only if the file passes and fits, and there is no slot for it ..
puts_none : {P : Type 0} (r : Read Tables) (d : Dec P) (o : Option ℕ) → Listed r → puts r d o ≡ refused refusals.no_slot refusals.at_call 0 →
    (t : Tables) × (r ≡ accepted t) × P × (o ≡ none)
unfolding and_then choose or_refused
puts_none (accepted t) (yes h) none l e = (t, refl, h, refl)
puts_none (accepted t) (yes h) (some k) l e = absurd (refused-not-accepted (sym e))
puts_none (accepted t) (no h) o l e = let z : refusals.full ≡ refusals.no_slot = cc in absurd (omega arith)
puts_none (refused n m a) d o l e = absurd (not_listed l (cc) (cc))

-- .. and then it is.
none-puts : {P : Type 0} (r : Read Tables) (d : Dec P) (o : Option ℕ) (t : Tables) → r ≡ accepted t → P → o ≡ none →
    puts r d o ≡ refused refusals.no_slot refusals.at_call 0
unfolding and_then or_refused
none-puts r d o t a p b = rw (a, b) (choose_yes d _ _ p)

-- There is no slot for a file only if its caller holds none and none is free.
or-none : (a b : Option ℕ) → or_else a b ≡ none → (a ≡ none) × (b ≡ none)
unfolding or_else
or-none none b e = (refl, e)
or-none (some k) b e = let z : ◌≡◌ {A = ℕ} 0 1 = cc in absurd (omega arith)

-- An instance has no file exactly if it holds no slot ..
none-held : (i : ℕ) (c : List Slot) {f : Option (List ℕ)} → Has i c f → (slot_of i c ≡ none → f ≡ none) × (f ≡ none → slot_of i c ≡ none)
none-held i c (has_none h) = (λ e. refl, λ e. slot-none i c h)
none-held i c (has_file k x) = (
  λ e.
      let n : NoneSuch (HeldBy i) c = none-at (subst (Found (HeldBy i) c) e (lowest-found (is_held_by i) c)) in
      let h : HeldBy i (get_or c k free) = is_held _ x in
      absurd (n k (held-inside i c k h) h),
  λ e. let z : ◌≡◌ {A = ℕ} 0 1 = cc in absurd (omega arith),
)

-- .. and no slot is free exactly if all rows are taken.
module _ (n : ℕ) (s : Lent) (c : List Slot) (e : cache_of n s ≡ some c) where
  all-taken : lowest is_free c ≡ none → (k : ℕ) → k < n → Taken s.owners k
  all-taken m k h = go (dec_lt 0 (mark_at s.owners k))
    where
      x : NoneSuch Free c
      x = none-at (subst (Found Free c) m (lowest-found is_free c))

      go : Dec (Taken s.owners k) → Taken s.owners k
      go (yes t) = t
      go (no t) =
          let q : get_or c k free ≡ free = rw (slots-are n s c e) (slots_at n (slot_at n s) k free h ∙ free-slot n s k t) in
          absurd (x k (subst (λ m. k < m) (sym (slots-many n s c e)) h) (rw q tt))

  none_free : ((k : ℕ) → k < n → Taken s.owners k) → lowest is_free c ≡ none
  none_free t =
      lowest-is is_free
      (nowhere (λ l b x.
      let h : l < n = subst (λ m. l < m) (slots-many n s c e) b in of-free n s l h (rw (slots-are n s c e) at x) (t l h)))

-- So it is by the file that the caller has.
module _ (n i : ℕ) (file : List ℕ) {f : Option (List ℕ)} (s : Lent) (y : Holds n i f s) where
  to : NoSlot (answer n s (putting i file)) → NoneLeft n file s f
  unfolding of_cache put_in
  to e =
      let d = dec_le (length file) (slot_size n s.buffer) in
      let r : NoSlot (slot (puts (decode file) d (slot_for i y.cache))) = rw y.stands at e in
      let (t, a, h, b) = puts_none (decode file) d (slot_for i y.cache) (decode-listed file) (cc) in
      let (p, q) = or-none (slot_of i y.cache) (lowest is_free y.cache) b in
      record {
        passes = (t, decode-sound file t a);
        limit = decode-within file t a;
        fits = h;
        nothing = (none-held i y.cache y.has).0 p;
        taken = all-taken n s y.cache y.stands q;
      }

  from : NoneLeft n file s f → NoSlot (answer n s (putting i file))
  unfolding of_cache put_in or_else
  from x =
      let (t, p) = x.passes in
      let d = dec_le (length file) (slot_size n s.buffer) in
      let r = decode-complete file t p x.limit in
      let q : slot_for i y.cache ≡ none =
      rw ((none-held i y.cache y.has).1 x.nothing) (none_free n s y.cache y.stands x.taken) in
      rw y.stands (ap slot (none-puts (decode file) d (slot_for i y.cache) t r x.fits q))

-- The theorem.
pub no-slot : (n : ℕ) (s : Lent) → Empty n s → (h : List Call) → Numbered h → (i : ℕ) (file : List ℕ) →
    (NoSlot (answer n (run n s h) (putting i file)) → NoneLeft n file (run n s h) (last_put i none (told n s h))) ×
    (NoneLeft n file (run n s h) (last_put i none (told n s h)) → NoSlot (answer n (run n s h) (putting i file)))
no-slot n s e h m i file =
    let y = run_holds n i s h m (empty_holds n i s e) in (to n i file (run n s h) y, from n i file (run n s h) y)
