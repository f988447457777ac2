-- The last section with an id, found by the reader, is the one that counts. Assumes nothing.
use mathlib.Core.Path.{◌≡◌, refl, ap}
use Prim.Native.Nat.{ℕ, ◌+◌}
use native.Mathlib.Decide.{ℕ_discrete}
use mathlib.Core.Option.{Option, none, some}
use mathlib.Core.List.{List, [], ◌∷◌, ◌++◌}
use lib.ListN.{length}
use Rattle.exact.specs.Got.{got}
use Rattle.exact.specs.Exact.{Parser, Lang, Ends}
use Rattle.exact.specs.Choice.{choose}
use Rattle.exact.specs.Entries.{raised}
use Rattle.exact.proofs.LawsExact.{got-value}
use Rattle.exact.proofs.LawsChoice.{choose_yes, choose_no}
use Rattle.exact.proofs.LawsEntries.{raised-inv}
use Rattle.format.specs.Sections.{Section, Missing, no_sections, other, Last, Payload, absent, present, Place, PlaceOf, nowhere, somewhere, PlacesOf, no_ids, id_placed}
use Rattle.format.specs.DecodeContainer.{later, last_with, place_of, places_of, in_section}

-- What the reader finds counts.
pub data Counts (id : ℕ) (ss : List Section) : Option Section → Type 0 where
  none_counts : Missing id ss → Counts id ss none
  last_counts : {s : Section} → Last id ss s → Counts id ss (some s)

last_cons : (id : ℕ) (s t : Section) (ss : List Section) → Last id ss t → Last id (s ∷ ss) t
last_cons id s t ss r =
    record { earlier = s ∷ r.earlier; later = r.later; whole = ap (λ z. s ∷ z) r.whole; named = r.named; missing = r.missing }

cons-counts : (id : ℕ) (s : Section) (ss : List Section) (d : Dec (s.id ≡ id)) (o : Option Section) → Counts id ss o →
    Counts id (s ∷ ss) (later (choose d (some s) none) o)
unfolding later choose
cons-counts id s ss (yes h) o (none_counts m) =
    last_counts record { earlier = []; later = ss; whole = refl; named = h; missing = m }
cons-counts id s ss (no h) o (none_counts m) = none_counts (other h m)
cons-counts id s ss d o (last_counts {s = t} r) = last_counts (last_cons id s t ss r)

-- The reader finds the section that counts.
pub last-with : (id : ℕ) (ss : List Section) → Counts id ss (last_with id ss)
unfolding last_with
last-with id [] = none_counts no_sections
last-with id (s ∷ ss) = cons-counts id s ss (ℕ_discrete s.id id) (last_with id ss) (last-with id ss)

-- It finds none where none has the id ..
pub missing-none : (id : ℕ) (ss : List Section) → Missing id ss → last_with id ss ≡ none
unfolding last_with later
missing-none id ss no_sections = refl
missing-none id ss (other {s = s} {ss = ts} n m) =
    rw (missing-none id ts m) (choose_no (ℕ_discrete s.id id) (some s) none n)

later-some : (o : Option Section) (s : Section) → later o (some s) ≡ some s
unfolding later
later-some o s = refl

here-some : (id : ℕ) (s : Section) (es ts : List Section) → s.id ≡ id → Missing id ts → last_with id (es ++ (s ∷ ts)) ≡ some s
unfolding last_with later
here-some id s [] ts h m = rw (missing-none id ts m) (choose_yes (ℕ_discrete s.id id) (some s) none h)
here-some id s (e ∷ es) ts h m = rw (here-some id s es ts h m)

-- .. and else the last one.
pub last_some : (id : ℕ) (ss : List Section) (s : Section) → Last id ss s → last_with id ss ≡ some s
last_some id ss s r = rw r.whole (here-some id s r.earlier r.later r.named r.missing)

module _ {A : Type 0} (id : ℕ) (ss : List Section) {p : ℕ → Parser A} {R : ℕ → Lang A} (x : (o : ℕ) → Ends (p o) (R o)) (e : A) where
  in-sound : (o : Option Section) → Counts id ss o → (v : A) (j : ℕ) → in_section o p e ≡ got v j → Payload id ss R e v
  unfolding in_section
  in-sound o (none_counts m) v j h = rw (← got-value h) (absent m)
  in-sound o (last_counts {s = s} r) v j h =
      let (k, g) = raised-inv s.start (p s.start s.payload 0) v j h in
      present r ((x s.start).sound s.payload 0 v k g).0

  -- A payload that was read stands for what was read ..
  pub section-sound : (v : A) (j : ℕ) → in_section (last_with id ss) p e ≡ got v j → Payload id ss R e v
  section-sound v j h = in-sound (last_with id ss) (last-with id ss) v j h

  -- .. and what it stands for is read.
  pub section-complete : (v : A) → Payload id ss R e v → (j : ℕ) × (in_section (last_with id ss) p e ≡ got v j)
  unfolding in_section raised
  section-complete v (absent m) = (0, rw (missing-none id ss m))
  section-complete v (present {s = s} r y) = (s.start + length s.payload, rw (last_some id ss s r, (x s.start).complete s.payload 0 v y))

place-sound : (id : ℕ) (ss : List Section) (o : Option Section) → Counts id ss o → PlaceOf ss id (place_of o)
unfolding place_of
place-sound id ss o (none_counts m) = nowhere m
place-sound id ss o (last_counts r) = somewhere r

-- The places that the reader gives are the places of the payloads that count ..
pub places-sound : (ss : List Section) (ids : List ℕ) → PlacesOf ss ids (places_of ss ids)
unfolding places_of
places-sound ss [] = no_ids
places-sound ss (id ∷ ids) = id_placed (place-sound id ss (last_with id ss) (last-with id ss)) (places-sound ss ids)

place-complete : (id : ℕ) (ss : List Section) (p : Place) → PlaceOf ss id p → place_of (last_with id ss) ≡ p
unfolding place_of
place-complete id ss p (nowhere m) = rw (missing-none id ss m)
place-complete id ss p (somewhere {s = s} r) = rw (last_some id ss s r)

-- .. and no others.
pub places-complete : (ss : List Section) (ids : List ℕ) (ps : List Place) → PlacesOf ss ids ps → places_of ss ids ≡ ps
unfolding places_of
places-complete ss ids ps no_ids = refl
places-complete ss ids ps (id_placed {id = id} {ids = is} {p = p} {ps = qs} h t) =
    rw (place-complete id ss p h, places-complete ss is qs t)
