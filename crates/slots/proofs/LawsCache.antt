-- The calls on a list of slots: which file an instance has there, what a call leaves each of them, and what it answers. Assumes nothing.
use mathlib.Core.Path.{◌≡◌, refl, sym, ap, ◌∙◌, subst}
use Prim.Native.Nat.{ℕ, zero, suc, ◌<◌}
use native.Mathlib.Omega.{arith}
use native.Mathlib.Decide.{ℕ_discrete, dec_lt}
use mathlib.Core.Option.{Option, none, some}
use mathlib.Core.List.{List}
use lib.ListN.{length, get_or, set, replicate, get_or-eq_default}
use lib.Seq.{get_or-set_same, get_or-set_other}
use Rattle.exact.specs.Choice.{choose}
use Rattle.enums.specs.Refusals as refusals
use Rattle.format.specs.Tables.{Tables}
use Rattle.format.specs.Read.{Read, accepted, refused, map_read}
use Rattle.format.specs.Views.{and_then, constant_view}
use Rattle.slots.specs.Cache.{Slot, free, held, HeldBy, is_held_by, file_in, slot_of, or_refused, fetch_in, anew}
use Rattle.slots.specs.History.{is_accepted, slot}
use Rattle.slots.proofs.LawsLowest.{found, nowhere, lowest-is}

-- Instance i has the file f, in a slot; or none.
pub data Has (i : ℕ) (c : List Slot) : Option (List ℕ) → Type 0 where
  has_file : {f : List ℕ} (k : ℕ) → get_or c k free ≡ held i f → Has i c (some f)
  has_none : ((k : ℕ) → ¬ HeldBy i (get_or c k free)) → Has i c none

-- It holds at most one slot.
abbrev pub Once : ℕ → List Slot → Type 0
Once i c = (k l : ℕ) → HeldBy i (get_or c k free) → HeldBy i (get_or c l free) → k ≡ l

-- A slot that i holds is that, with a file ..
pub is_held : {i : ℕ} {f : List ℕ} (s : Slot) → s ≡ held i f → HeldBy i s
is_held s e = rw e refl

pub held-is : {i : ℕ} (s : Slot) → HeldBy i s → s ≡ held i (file_in s)
held-is free h = absurd h
held-is (held j f) h = ap (λ k. held k f) h

-- .. and one of the list's.
pub held-inside : (i : ℕ) (c : List Slot) (k : ℕ) → HeldBy i (get_or c k free) → k < length c
held-inside i c k h = go (dec_lt k (length c))
  where
    go : Dec (k < length c) → k < length c
    go (yes l) = l
    go (no l) = absurd (subst (HeldBy i) (get_or-eq_default c free {n = k} (omega arith)) h)

-- In an empty cache each slot is free, and nobody has a file.
empty-at : (n k : ℕ) → get_or (replicate n free) k free ≡ free
empty-at zero k = refl
empty-at (suc n) zero = refl
empty-at (suc n) (suc k) = empty-at n k

pub has-empty : (n i : ℕ) → Has i (replicate n free) none
has-empty n i = has_none (λ k h. subst (HeldBy i) (empty-at n k) h)

-- The slot that i's file is in is the one that is looked for ..
pub slot-file : (i k : ℕ) (f : List ℕ) (c : List Slot) → Once i c → get_or c k free ≡ held i f → slot_of i c ≡ some k
slot-file i k f c o e =
    let h : HeldBy i (get_or c k free) = is_held (get_or c k free) e in
    lowest-is (is_held_by i)
    (found (record { inside = held-inside i c k h; such = h; none_below = λ l b x. let q = o l k x h in absurd (omega arith) }))

-- .. and without one, none is found.
pub slot-none : (i : ℕ) (c : List Slot) → ((k : ℕ) → ¬ HeldBy i (get_or c k free)) → slot_of i c ≡ none
slot-none i c h = lowest-is (is_held_by i) (nowhere (λ l b. h l))

-- With slot k anew: what is so of it, and was so of each other slot, is so of each.
pub set-each : (P : Slot → Type 0) (c : List Slot) (k l : ℕ) (x : Slot) → k < length c → P x → (¬ (l ≡ k) → P (get_or c l free)) →
    P (get_or (set c k x) l free)
set-each P c k l x h p q = go (ℕ_discrete l k)
  where
    go : Dec (l ≡ k) → P (get_or (set c k x) l free)
    go (yes e) = rw (e, get_or-set_same c k x free h) p
    go (no e) = subst P (sym (get_or-set_other c k l x free e)) (q e)

-- A slot that i does not hold, and does not get, changes nothing for i.
keeps : (i : ℕ) {f : Option (List ℕ)} (c : List Slot) (k : ℕ) (x : Slot) → k < length c → ¬ HeldBy i (get_or c k free) → ¬ HeldBy i x →
    Has i c f → Has i (set c k x) f
keeps i c k x h a b (has_file l e) =
    let q : ¬ (l ≡ k) = λ p. a (subst (λ m. HeldBy i (get_or c m free)) p (is_held (get_or c l free) e)) in
    has_file l (get_or-set_other c k l x free q ∙ e)
keeps i c k x h a b (has_none n) = has_none (λ l. set-each (λ s. ¬ HeldBy i s) c k l x h b (λ _. n l))

-- A call of j puts x into slot k: the slot is there and no other's, x is no other's, and then j has g.
pub record Stores (j : ℕ) (x : Slot) (c : List Slot) (g : Option (List ℕ)) (k : ℕ) : Type 0 where
  pub inside : k < length c
  pub was : (i : ℕ) → ¬ (j ≡ i) → ¬ HeldBy i (get_or c k free)
  pub gets : (i : ℕ) → ¬ (j ≡ i) → ¬ HeldBy i x
  pub own : Has j (set c k x) g

-- So j has g after a call that was accepted so; after a refused one, and for every other instance, all is as it was.
pub has-anew : (j i : ℕ) (x : Slot) (c : List Slot) (g f : Option (List ℕ)) (r : Read ℕ) →
    ((k : ℕ) → r ≡ accepted k → Stores j x c g k) → Has i c f →
    Has i (anew x c r) (choose (ℕ_discrete j i) (choose (is_accepted (slot r)) g f) f)
unfolding anew choose
has-anew j i x c g f (accepted k) s h = go (ℕ_discrete j i) (s k refl)
  where
    go : (d : Dec (j ≡ i)) → Stores j x c g k → Has i (set c k x) (choose d g f)
    go (yes e) t = rw (← e) t.own
    go (no e) t = keeps i c k x t.inside (t.was i e) (t.gets i e) h
has-anew j i x c g f (refused n m a) s h = go (ℕ_discrete j i)
  where
    go : (d : Dec (j ≡ i)) → Has i c (choose d f f)
    go (yes e) = h
    go (no e) = h

-- A put, by what the file is judged to be, whether it fits, and where it goes.
abbrev pub puts : {P : Type 0} → Read Tables → Dec P → Option ℕ → Read ℕ
puts r d o = and_then r (λ t. choose d (or_refused refusals.no_slot o) (refused refusals.full refusals.at_call 0))

-- A fetch answers what the view of that constant answers of the caller's file, in its slot ..
pub fetch-file : (i k j : ℕ) (f : List ℕ) (c : List Slot) → Once i c → get_or c j free ≡ held i f →
    fetch_in i k c ≡ map_read (λ p. record { slot = j; within = p }) (constant_view f k)
unfolding fetch_in and_then or_refused
fetch-file i k j f c o e = rw (slot-file i j f c o e, e)

-- .. and 14 to one that has none.
pub fetch-none : (i k : ℕ) (c : List Slot) → ((l : ℕ) → ¬ HeldBy i (get_or c l free)) →
    fetch_in i k c ≡ refused refusals.not_there refusals.at_call 0
unfolding fetch_in and_then or_refused
fetch-none i k c h = rw (slot-none i c h)
