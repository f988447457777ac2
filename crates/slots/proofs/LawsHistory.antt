-- A history, call by call: after each, what is lent stands for a cache, in which an instance has the file that its own calls left it.
-- Assumes nothing.
use mathlib.Core.Path.{◌≡◌, refl, sym, ap, ◌∙◌, subst}
use Prim.Native.Nat.{ℕ, ◌^◌, ◌<◌}
use native.Mathlib.Omega.{arith}
use native.Mathlib.Decide.{ℕ_discrete}
use mathlib.Core.Option.{Option, none, some}
use mathlib.Core.List.{List, [], ◌∷◌}
use lib.ListN.{length, get_or, set}
use lib.Seq.{get_or-set_same}
use Rattle.exact.specs.Choice.{choose}
use Rattle.slots.specs.Cache.{Slot, free, held, HeldBy, put_in, drop_in, put_after, drop_after}
use Rattle.slots.specs.Lent.{Lent, Taken, instance_at, slot_size, slot_at, slots_up_to}
use Rattle.slots.specs.Meaning.{cache_of, of_cache}
use Rattle.slots.specs.History.{
  Call,
  putting,
  fetching,
  dropping,
  caller,
  answer,
  after,
  run,
  told,
  Empty,
  Numbered,
  is_accepted,
  has,
  last_put,
}
use Rattle.slots.proofs.LawsSlots.{length-slots, slots_at}
use Rattle.slots.proofs.LawsStored.{cache-good, file_at, taken-slot}
use Rattle.slots.proofs.LawsFound.{Own, of-held, put-found, drop-found}
use Rattle.slots.proofs.LawsMeaning.{put-means, drop-means}
use Rattle.slots.proofs.LawsCache.{
  Has,
  has_file,
  has_none,
  Once,
  is_held,
  held-is,
  held-inside,
  has-empty,
  set-each,
  Stores,
  has-anew,
}

module _ (n : ℕ) (s : Lent) (c : List Slot) (e : cache_of n s ≡ some c) where
  -- The cache's slots are those that the bytes stand for, n in all.
  pub slots-are : c ≡ slots_up_to n (slot_at n s)
  slots-are = (cache-good n s c e).1

  pub slots-many : length c ≡ n
  slots-many = ap length slots-are ∙ length-slots n (slot_at n s)

  -- The row of a slot that instance i holds is taken and names i, and the file is as many of the slot's bytes as it says.
  pub cache-held : (i k : ℕ) (f : List ℕ) → get_or c k free ≡ held i f →
      (k < n) × Taken s.owners k × (instance_at s.owners k ≡ i) × (file_at n s k ≡ f)
  cache-held i k f h =
      let l : k < n = subst (λ m. k < m) slots-many (held-inside i c k (is_held (get_or c k free) h)) in
      let q : get_or (slots_up_to n (slot_at n s)) k free ≡ held i f = rw slots-are at h in
      let (t, x) = of-held n s i k l (is_held _ q) in
      (l, t, x, cc (taken-slot n s k t, slots_at n (slot_at n s) k free l))

  -- So no instance holds two.
  pub cache-once : (i : ℕ) → Once i c
  cache-once i k l h m =
      let (a, p, x, _) = cache-held i k _ (held-is (get_or c k free) h) in
      let (b, q, y, _) = cache-held i l _ (held-is (get_or c l free) m) in
      let once = (cache-good n s c e).0.rows.once in
      let f : ¬ (k < l) = λ d. once k l d b p q (x ∙ sym y) in
      let g : ¬ (l < k) = λ d. once l k d a q p (y ∙ sym x) in
      omega arith

  -- What goes into a slot that may be written for j is stored for j ..
  module _ (j k : ℕ) (o : Own n j s k) where
    own-inside : k < length c
    own-inside = subst (λ m. k < m) (sym slots-many) o.inside

    own-stores : (x : Slot) (g : Option (List ℕ)) → ((i : ℕ) → ¬ (j ≡ i) → ¬ HeldBy i x) → Has j (set c k x) g → Stores j x c g k
    own-stores x g d h =
        record {
          inside = own-inside;
          was = λ i q y. let (_, t, p, _) = cache-held i k _ (held-is (get_or c k free) y) in q (sym (o.own t) ∙ p);
          gets = d;
          own = h;
        }

    -- .. a file that is put ..
    put-stores : (file : List ℕ) → Stores j (held j file) c (some file) k
    put-stores file = own-stores (held j file) (some file) (λ i d. d) (has_file k (get_or-set_same c k (held j file) free own-inside))

    -- .. or, by a drop, none.
    drop-stores : Stores j free c none k
    drop-stores =
        own-stores free none (λ i d h. h)
        (has_none (λ l. set-each (λ x. ¬ HeldBy j x) c k l free own-inside (λ h. h)
        (λ d h. let (b, t, p, _) = cache-held j l _ (held-is (get_or c l free) h) in o.alone l b d t p)))

-- What is lent stands for a cache, in which instance i has the file f, or none.
pub record Holds (n i : ℕ) (f : Option (List ℕ)) (s : Lent) : Type 0 where
  pub cache : List Slot
  pub stands : cache_of n s ≡ some cache
  pub has : Has i cache f

-- At the start it has none.
pub empty_holds : (n i : ℕ) (s : Lent) → Empty n s → Holds n i none s
empty_holds n i s e = record { cache = _; stands = e; has = has-empty n i }

-- A call that leaves what there was leaves it, whoever calls.
same-either : {P Q : Type 0} (d : Dec P) (e : Dec Q) (f : Option (List ℕ)) → f ≡ choose d (choose e f f) f
unfolding choose
same-either (yes h) (yes k) f = refl
same-either (yes h) (no k) f = refl
same-either (no h) e f = refl

-- After a call it has what the call left it ..
pub call-holds : (n i : ℕ) {f : Option (List ℕ)} (s : Lent) (x : Call) → caller x < 2 ^ 64 → Holds n i f s →
    Holds n i (has i f (record { call = x; answered = answer n s x })) (after n s x)
unfolding has of_cache
call-holds n i {f} s (putting j file) h y =
    let c = y.cache in
    let z = slot_size n s.buffer in
    record {
      cache = put_after z j file c;
      stands = put-means n j file s c h y.stands;
      has = rw y.stands
          (has-anew j i (held j file) c (some file) f (put_in z j file c)
          (λ k q. put-stores n s c y.stands j k (put-found n s j k file (rw y.stands q)).1 file) y.has);
    }
call-holds n i {f} s (fetching j k) h y =
    let q = same-either (ℕ_discrete j i) (is_accepted (answer n s (fetching j k))) f in
    record { cache = y.cache; stands = y.stands; has = subst (Has i y.cache) q y.has }
call-holds n i {f} s (dropping j) h y =
    let c = y.cache in
    record {
      cache = drop_after j c;
      stands = drop-means n j s c y.stands;
      has = rw y.stands
          (has-anew j i free c none f (drop_in j c)
          (λ k q. drop-stores n s c y.stands j k (drop-found n s j k (rw y.stands q)).1) y.has);
    }

-- .. and after a history what the last of its calls left it.
pub run_holds : (n i : ℕ) {f : Option (List ℕ)} (s : Lent) (h : List Call) → Numbered h → Holds n i f s →
    Holds n i (last_put i f (told n s h)) (run n s h)
unfolding run told last_put
run_holds n i s [] m y = y
run_holds n i {f = f} s (x ∷ h) m y =
    run_holds n i {f = has i f record { call = x; answered = answer n s x }} (after n s x) h m.1 (call-holds n i s x m.0 y)
