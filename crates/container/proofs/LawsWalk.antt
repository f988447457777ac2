-- How the walk follows the reader of sections: between two turns the sections met so far have their places, and the
-- whole answer is theirs with what is read from here. Assumes nothing.
use mathlib.Core.Path.{◌≡◌, sym, ap, ◌∙◌}
use Prim.Native.Nat.{ℕ, ◌-◌, ◌<◌}
use native.Mathlib.Omega.{arith}
use mathlib.Core.Option.{Option, none, some}
use mathlib.Core.List.{List, [], ◌∷◌, ◌++◌}
use lib.ListN.{length, set, length-drop, length-append}
use Rattle.std.specs.Prelude.{None, Some}
use Rattle.exact.specs.Got.{Got, got, stop, follow}
use Rattle.exact.specs.Basic.{pure}
use Rattle.exact.specs.Sequence.{bind, mapped}
use Rattle.exact.specs.Joined.{joined}
use Rattle.exact.proofs.LawsJoined.{joined-none}
use Rattle.format.specs.Sections.{Section}
use Rattle.format.specs.DecodeContainer.{item_at, sections_at}
use Rattle.format.proofs.LawsContainer.{item-exact, item-some}
use Rattle.format.proofs.LawsWalk as laws
use Rattle.container.specs.declared.sections.SectionPlace.{SectionPlace}
use Rattle.container.specs.Container.{place_in, held_section, held_item, held_places, held_sections}
use Rattle.container.proofs.LawsPlaces.{held_more}

-- What the code knows of an item, as the walk's model has it: a refusal ..
stopped : (g : Got (Option Section)) (c k : ℕ) → stop c k ≡ follow g (λ o j. got (held_item o) j) → g ≡ stop c k
unfolding follow
stopped (got none j) c k e = cc
stopped (got (some s) j) c k e = cc
stopped (stop d m) c k e = cc

-- .. the end marker ..
marked : (g : Got (Option Section)) (j : ℕ) → got None j ≡ follow g (λ o j. got (held_item o) j) → g ≡ got none j
unfolding follow
marked (got none k) j e = cc
marked (got (some s) k) j e = cc
marked (stop d m) j e = cc

-- .. or a section.
met : (g : Got (Option Section)) (x : ℕ × SectionPlace) (j : ℕ) →
    got (Some x) j ≡ follow g (λ o j. got (held_item o) j) →
    (s : Section) × (g ≡ got (some s) j) × (x ≡ held_section s)
unfolding follow
met (got none k) x j e = cc
met (got (some s) k) x j e = (s, cc, cc)
met (stop d m) x j e = cc

-- Between two turns, at i.
pub record Walk (l : List ℕ) (from i : ℕ) (ps : List SectionPlace) : Type 0 where
  pub done : List Section
  pub places : ps ≡ held_places done
  pub model : sections_at l from ≡ joined done (sections_at l i)

-- Before the first turn.
pub walk_start : (l : List ℕ) (from : ℕ) (ps : List SectionPlace) → ps ≡ held_places [] → Walk l from from ps
walk_start l from ps e = record { done = []; places = e; model = sym (joined-none (sections_at l from)) }

module _ {l : List ℕ} {from i : ℕ} {ps : List SectionPlace} (w : Walk l from i ps) where
  -- The walk is refused.
  pub walk_refused : (c k : ℕ) → stop c k ≡ mapped held_item item_at l i → stop c k ≡ mapped held_sections sections_at l from
  unfolding mapped bind follow pure
  walk_refused c k e = sym (rw (w.model ∙ laws.walk_refused w.done l i c k (stopped (item_at l i) c k e)))

  -- It reaches the end marker.
  pub walk-ended : (j : ℕ) → got None j ≡ mapped held_item item_at l i →
      got (record { places = ps }) j ≡ mapped held_sections sections_at l from
  unfolding mapped bind follow pure
  walk-ended j e = sym (rw (w.model ∙ laws.walk-marker w.done l i j (marked (item_at l i) j e), ← w.places))

  -- What the code knows of a section that it meets: its id, and its place.
  module _ (x : ℕ × SectionPlace) (j : ℕ) (e : got (Some x) j ≡ mapped held_item item_at l i) where
    known : (s : Section) × (item_at l i ≡ got (some s) j) × (x ≡ held_section s)
    unfolding mapped bind pure
    known = met (item_at l i) x j e

    -- Less is left behind it.
    pub walk-less : length l - j < length l - i
    walk-less =
        let (s, item, same) = known in
        let r = item-exact.sound l i (some s) j item in
        omega (arith, item-some i _ _ r.spelt, ap length r.there, length-drop i l, length-drop j l, length-append r.bytes)

    -- Its place is kept.
    pub walk-on : (qs : List SectionPlace) → qs ≡ set ps x.0 x.1 → Walk l from j qs
    walk-on qs q =
        let (s, item, same) = known in
        record {
          done = w.done ++ (s ∷ []);
          places =
              q ∙ ap (λ y. set ps y.0 y.1) same ∙ ap (λ y. set y s.id (place_in s)) w.places ∙ held_more w.done s;
          model = w.model ∙ laws.walk-section w.done l i s j item;
        }
