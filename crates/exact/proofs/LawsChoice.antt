-- A choice between exact parsers is exact, and so is a test of what one reads. Assumes nothing.
use mathlib.Core.Path.{◌≡◌, refl}
use Prim.Native.Nat.{ℕ}
use mathlib.Core.List.{List, [], ◌++◌, append-nil}
use Rattle.exact.specs.Exact.{Parser, Lang, Exact}
use Rattle.exact.specs.Basic.{Is, is, Never}
use Rattle.exact.specs.Sequence.{Then, then}
use Rattle.exact.specs.Choice.{choose, If, so, else, such, Such, such_of}
use Rattle.exact.proofs.LawsExact.{same-exact}
use Rattle.exact.proofs.LawsBasic.{pure-exact, fail-exact}
use Rattle.exact.proofs.LawsSequence.{bind-exact}

-- Where the question holds, the first is chosen ..
pub choose_yes : {P X : Type 0} (d : Dec P) (x y : X) → P → choose d x y ≡ x
unfolding choose
choose_yes (yes h) x y p = refl
choose_yes (no h) x y p = absurd (h p)

-- .. and where it does not, the second.
pub choose_no : {P X : Type 0} (d : Dec P) (x y : X) → ¬ P → choose d x y ≡ y
unfolding choose
choose_no (yes h) x y p = absurd (p h)
choose_no (no h) x y p = refl

-- One way or the other is read exactly.
pub choose-exact : {A P : Type 0} (d : Dec P) {p q : Parser A} {R S : Lang A} → Exact p R → Exact q S →
    Exact (choose d p q) (If P R S)
unfolding choose
choose-exact (yes h) x y = same-exact x (λ i bs v. (λ r. so h r, λ s. elim s [ so h r ↦ r | else n s ↦ absurd (n h) ]))
choose-exact (no h) x y = same-exact y (λ i bs v. (λ r. else h r, λ s. elim s [ so k r ↦ absurd (h k) | else n s ↦ s ]))

module _ {A : Type 0} (P : A → Type 0) {R : Lang A} where
  such-to : (i : ℕ) (bs : List ℕ) (v : A) → Then R (λ v. If (P v) (Is v) Never) i bs v → Such P R i bs v
  such-to i bs v (then r (so h is)) = rw append-nil (such_of h r)
  such-to i _ v (then {bs = bs} {cs = cs} r (else _ never)) = elim never [ ]

  such-from : (i : ℕ) (bs : List ℕ) (v : A) → Such P R i bs v → Then R (λ v. If (P v) (Is v) Never) i bs v
  such-from i bs v (such_of h r) =
      let t : Then R (λ v. If (P v) (Is v) Never) i (bs ++ []) v = then r (so h is) in rw append-nil at t

-- A value that must pass a test is read exactly.
pub such-exact : {A : Type 0} {P : A → Type 0} (c : ℕ) (d : (v : A) → Dec (P v)) {p : Parser A} {R : Lang A} → Exact p R →
    Exact (such c d p) (Such P R)
unfolding such
such-exact {P = P} c d x =
    same-exact (bind-exact x (λ v. choose-exact (d v) (pure-exact v) (fail-exact c)))
    (λ i bs v. (such-to P i bs v, such-from P i bs v))
