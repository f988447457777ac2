-- The places of one section more: its id's place is overwritten, and ids that have no place pass. Assumes nothing.
use mathlib.Core.Path.{◌≡◌, refl, sym, ◌∙◌}
use Prim.Native.Nat.{ℕ, zero, suc, ◌<◌, ◌≤◌}
use native.Mathlib.Omega.{arith}
use native.Mathlib.Decide.{ℕ_discrete}
use mathlib.Core.Option.{some}
use mathlib.Core.List.{List, [], ◌∷◌, ◌++◌}
use lib.ListN.{length, get_or, set, length-set, get_or-eq_default}
use lib.Seq.{ext_get_or, get_or-set_same, get_or-set_other}
use Rattle.exact.proofs.LawsChoice.{choose_yes, choose_no}
use Rattle.format.specs.Sections.{Section}
use Rattle.format.specs.DecodeContainer.{last_with, place_of, places_of}
use Rattle.format.proofs.LawsWalk.{last-added}
use Rattle.container.specs.declared.sections.SectionPlace.{SectionPlace}
use Rattle.container.specs.Container.{held_place, nowhere, held_places}
pub use Rattle.container.specs.Container.{place_in}

-- The last of these sections and one more is that one, if it has this id ..
pub last-same : (id : ℕ) (ss : List Section) (s : Section) → s.id ≡ id → last_with id (ss ++ (s ∷ [])) ≡ some s
last-same id ss s e = last-added id ss s ∙ choose_yes (ℕ_discrete s.id id) (some s) (last_with id ss) e

-- .. and else the one before.
pub last-other : (id : ℕ) (ss : List Section) (s : Section) → ¬ (s.id ≡ id) →
    last_with id (ss ++ (s ∷ [])) ≡ last_with id ss
last-other id ss s n = last-added id ss s ∙ choose_no (ℕ_discrete s.id id) (some s) (last_with id ss) n

-- Ids past the last have no place.
pub place-past : (ps : List SectionPlace) (id : ℕ) → length ps ≡ 8 → 8 ≤ id → nowhere ≡ get_or ps id nowhere
place-past ps id n h = sym (get_or-eq_default ps nowhere (omega arith))

-- There is a place for each id below NUM_SECTIONS.
pub held-length : (ss : List Section) → length (held_places ss) ≡ 8
unfolding places_of
held-length ss = refl

pub held_at : (ss : List Section) (i : ℕ) → i < 8 → get_or (held_places ss) i nowhere ≡ held_place (place_of (last_with i ss))
unfolding places_of
held_at ss zero h = refl
held_at ss (suc zero) h = refl
held_at ss (suc (suc zero)) h = refl
held_at ss (suc (suc (suc zero))) h = refl
held_at ss (suc (suc (suc (suc zero)))) h = refl
held_at ss (suc (suc (suc (suc (suc zero))))) h = refl
held_at ss (suc (suc (suc (suc (suc (suc zero)))))) h = refl
held_at ss (suc (suc (suc (suc (suc (suc (suc zero))))))) h = refl
held_at ss (suc (suc (suc (suc (suc (suc (suc (suc i)))))))) h = absurd (omega arith)

held-set : (ss : List Section) (s : Section) (i : ℕ) → i < 8 →
    get_or (set (held_places ss) s.id (place_in s)) i nowhere ≡ held_place (place_of (last_with i (ss ++ (s ∷ []))))
unfolding place_of
held-set ss s i h =
    elim (ℕ_discrete s.id i) [
      | yes e ↦ rw (last-same i ss s e, e) (get_or-set_same (held_places ss) i (place_in s) nowhere (rw held-length h))
      | no n ↦
          let kept = get_or-set_other (held_places ss) s.id i (place_in s) nowhere (λ e. n (sym e)) in
          rw (last-other i ss s n, kept) (held_at ss i h)
    ]

-- One section more.
pub held_more : (ss : List Section) (s : Section) →
    set (held_places ss) s.id (place_in s) ≡ held_places (ss ++ (s ∷ []))
held_more ss s =
    ext_get_or nowhere (set (held_places ss) s.id (place_in s)) (held_places (ss ++ (s ∷ [])))
    (length-set (held_places ss) s.id (place_in s) ∙ held-length ss ∙ sym (held-length (ss ++ (s ∷ []))))
    (λ i h. let k : i < 8 = rw (length-set (held_places ss) s.id (place_in s), held-length) at h in
    held-set ss s i k ∙ sym (held_at (ss ++ (s ∷ [])) i k))
