-- Reading with leftovers, reading all, and the place at hand, are exact; a choice between readers to the end too.
-- Assumes nothing.
use mathlib.Core.Path.{◌≡◌, refl, sym, ◌∙◌}
use Prim.Native.Nat.{ℕ, ◌+◌}
use native.Mathlib.Nat.{add-zero}
use native.Mathlib.Omega.{arith}
use mathlib.Core.List.{List, [], ◌++◌}
use lib.ListN.{length, drop}
use Rattle.exact.specs.Got.{got, follow}
use Rattle.exact.specs.Exact.{Parser, Lang, Exact, Ends}
use Rattle.exact.specs.Choice.{choose, If, so, else}
use Rattle.exact.specs.Sequence.{mapped, bind, Of, of}
use Rattle.exact.specs.Basic.{pure}
use Rattle.exact.specs.Upto.{upto, Upto, upto_of, whole, Whole, whole_of, place, At, at}
use Rattle.exact.proofs.LawsExact.{same_ends, got-value, got-next}
use Rattle.exact.proofs.LawsSequence.{follow-inv}

module _ {A : Type 0} {p : Parser A} {R : Lang A} (x : Exact p R) where
  upto-sound : (l : List ℕ) (i : ℕ) (v : A) (j : ℕ) → upto p l i ≡ got v j → Upto R i (drop i l) v × (j ≡ length l)
  unfolding upto
  upto-sound l i v j e =
      let (w, k, g, h) = follow-inv (p l i) (λ v j. got v (length l)) v j e in
      let r = x.sound l i w k g in
      let s : Upto R i (drop i l) w = rw r.there (upto_of (drop k l) r.spelt) in
      (rw (← got-value h) s, sym (got-next h))

  upto-complete : (l : List ℕ) (i : ℕ) (bs : List ℕ) (v : A) → Upto R i bs v → drop i l ≡ bs → upto p l i ≡ got v (length l)
  unfolding upto follow
  upto-complete l i bs v (upto_of {bs = cs} left r) d = rw (x.complete l i cs left v r d)

  -- Bytes that are left over are passed.
  pub upto-ends : Ends (upto p) (Upto R)
  upto-ends = record { sound = upto-sound; complete = λ l i v r. upto-complete l i (drop i l) v r refl }

whole-complete : (l : List ℕ) (i : ℕ) (bs v : List ℕ) → Whole i bs v → drop i l ≡ bs → whole l i ≡ got v (length l)
unfolding whole
whole-complete l i bs v whole_of d = rw d

-- All that is left is read as it stands.
pub whole-ends : Ends whole Whole
unfolding whole
whole-ends =
    record {
      sound = λ l i v j e. (rw (← got-value e) whole_of, sym (got-next e));
      complete = λ l i v r. whole-complete l i (drop i l) v r refl;
    }

place-complete : (l : List ℕ) (i : ℕ) (bs rest : List ℕ) (v : ℕ) → At i bs v → drop i l ≡ bs ++ rest → place l i ≡ got v (i + length bs)
unfolding place
place-complete l i bs rest v at d = rw add-zero

-- The place is read exactly.
pub place-exact : Exact place At
unfolding place
place-exact =
    record {
      sound = λ l i v j e.
          record { bytes = []; spelt = rw (← got-value e) at; there = cc (got-next e); next = omega (arith, got-next e) };
      complete = place-complete;
    }

-- One way or the other to the end.
pub choose-ends : {A P : Type 0} (d : Dec P) {p q : Parser A} {R S : Lang A} → Ends p R → Ends q S → Ends (choose d p q) (If P R S)
unfolding choose
choose-ends (yes h) x y = same_ends x (λ i bs v. (λ r. so h r, λ s. elim s [ so h r ↦ r | else n s ↦ absurd (n h) ]))
choose-ends (no h) x y = same_ends y (λ i bs v. (λ r. else h r, λ s. elim s [ so k r ↦ absurd (h k) | else n s ↦ s ]))

module _ {A B : Type 0} (f : A → B) {p : Parser A} {R : Lang A} (x : Ends p R) where
  map-sound : (l : List ℕ) (i : ℕ) (w : B) (j : ℕ) → mapped f p l i ≡ got w j → Of f R i (drop i l) w × (j ≡ length l)
  unfolding mapped bind pure
  map-sound l i w j e =
      let (v, k, g, h) = follow-inv (p l i) (λ v j. got (f v) j) w j e in
      let r = x.sound l i v k g in
      let s : Of f R i (drop i l) (f v) = of r.0 in
      (rw (← got-value h) s, sym (got-next h) ∙ r.1)

  map-complete : (l : List ℕ) (i : ℕ) (bs : List ℕ) (w : B) → Of f R i bs w → drop i l ≡ bs → mapped f p l i ≡ got w (length l)
  unfolding mapped bind pure follow
  map-complete l i bs w (of {v = v} r) d = rw (x.complete l i v (rw d r))

  -- A function of what is read to the end.
  pub map-ends : Ends (mapped f p) (Of f R)
  map-ends = record { sound = map-sound; complete = λ l i w r. map-complete l i (drop i l) w r refl }
