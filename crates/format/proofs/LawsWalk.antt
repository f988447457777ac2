-- The equations by which a loop follows the section walk: what it answers from here, with the sections so far.
-- Assumes nothing.
use mathlib.Core.Path.{◌≡◌, refl}
use Prim.Native.Nat.{ℕ, ◌≤◌}
use native.Mathlib.Decide.{ℕ_discrete}
use mathlib.Core.Option.{Option, none, some}
use mathlib.Core.List.{List, [], ◌∷◌, ◌++◌}
use lib.ListN.{length}
use Rattle.exact.specs.Got.{got, stop, ended, follow}
use Rattle.exact.specs.Sequence.{bind}
use Rattle.exact.specs.Choice.{choose}
use Rattle.exact.specs.Joined.{joined}
use Rattle.exact.proofs.LawsSteps.{byte-end}
use Rattle.exact.proofs.LawsUntil.{until-step}
use Rattle.exact.proofs.LawsJoined.{until-marker, until-item, until-refused}
use Rattle.format.specs.Sections.{Section}
use Rattle.format.specs.DecodeContainer.{item_at, sections_at, later, last_with}
use Rattle.format.proofs.LawsContainer.{item-exact, item-some}

item-end : (l : List ℕ) (i : ℕ) → length l ≤ i → item_at l i ≡ stop ended i
unfolding item_at bind follow
item-end l i h = rw (byte-end l i h)

module _ (done : List Section) (l : List ℕ) (i : ℕ) where
  -- The end marker ends the walk ..
  pub walk-marker : (j : ℕ) → item_at l i ≡ got none j → joined done (sections_at l i) ≡ got done j
  unfolding sections_at
  walk-marker = until-marker item_at done l i (until-step item-exact item-some item-end l i)

  -- .. a section is added to those so far ..
  pub walk-section : (s : Section) (j : ℕ) → item_at l i ≡ got (some s) j →
      joined done (sections_at l i) ≡ joined (done ++ (s ∷ [])) (sections_at l j)
  unfolding sections_at
  walk-section = until-item item_at done l i (until-step item-exact item-some item-end l i)

  -- .. and a refusal is the walk's.
  pub walk_refused : (c k : ℕ) → item_at l i ≡ stop c k → joined done (sections_at l i) ≡ stop c k
  unfolding sections_at
  walk_refused = until-refused item_at done l i (until-step item-exact item-some item-end l i)

later-choose : (s : Section) {P : Type 0} (d : Dec P) (a o : Option Section) →
    later a (choose d (some s) o) ≡ choose d (some s) (later a o)
unfolding later choose
later-choose s (yes h) a o = refl
later-choose s (no h) a o = refl

-- A section that is added overwrites an earlier one with its id.
pub last-added : (id : ℕ) (done : List Section) (s : Section) →
    last_with id (done ++ (s ∷ [])) ≡ choose (ℕ_discrete s.id id) (some s) (last_with id done)
unfolding last_with later
last-added id [] s = refl
last-added id (t ∷ ts) s = rw (last-added id ts s) (later-choose s (ℕ_discrete s.id id) _ (last_with id ts))
