-- What a function says of all that is left, or of a value at hand, is read exactly where the function is exact.
-- Assumes nothing.
use mathlib.Core.Path.{◌≡◌, sym, ap}
use mathlib.Core.Logic.{◌↔◌}
use Prim.Native.Nat.{ℕ, ◌+◌}
use native.Mathlib.Nat.{add-zero}
use native.Mathlib.Omega.{arith}
use mathlib.Core.Option.{Option, none, some}
use mathlib.Core.List.{List, [], ◌++◌}
use lib.ListN.{length, drop}
use Rattle.exact.specs.Got.{got}
use Rattle.exact.specs.Exact.{Exact, Ends}
use Rattle.exact.specs.Rest.{or_stop, finish, lift, Holds, holds}
use Rattle.exact.proofs.LawsExact.{stop-not-got, got-value, got-next}

-- A value was there.
pub or_stop-inv : {A : Type 0} (o : Option A) (j c k : ℕ) (v : A) (n : ℕ) → or_stop o j c k ≡ got v n → (o ≡ some v) × (n ≡ j)
unfolding or_stop
or_stop-inv (some w) j c k v n e = (ap some (got-value e), sym (got-next e))
or_stop-inv none j c k v n e = absurd (stop-not-got e)

-- All that is left, by an exact function.
pub finish-ends : {A : Type 0} (c : ℕ) {f : List ℕ → Option A} {R : List ℕ → A → Type 0} →
    ((bs : List ℕ) (v : A) → (f bs ≡ some v) ↔ R bs v) → Ends (finish c f) (λ i. R)
unfolding finish or_stop
finish-ends c {f} h =
    record {
      sound = λ l i v j e. let r = or_stop-inv (f (drop i l)) (length l) c i v j e in ((h (drop i l) v).0 r.0, r.1);
      complete = λ l i v r. rw ((h (drop i l) v).1 r);
    }

lift-complete : {A : Type 0} {P : A → Type 0} (c : ℕ) (o : Option A) → ((v : A) → (o ≡ some v) ↔ P v) → (l : List ℕ) (i : ℕ)
    (bs rest : List ℕ) (v : A) → Holds P i bs v → drop i l ≡ bs ++ rest → lift c o l i ≡ got v (i + length bs)
unfolding lift or_stop
lift-complete c o h l i bs rest v (holds p) d = rw ((h v).1 p, add-zero)

-- A value at hand.
pub lift-exact : {A : Type 0} {P : A → Type 0} (c : ℕ) (o : Option A) → ((v : A) → (o ≡ some v) ↔ P v) → Exact (lift c o) (Holds P)
unfolding lift
lift-exact c o h =
    record {
      sound = λ l i v j e. let r = or_stop-inv o i c i v j e in
          record { bytes = []; spelt = holds ((h v).0 r.0); there = cc r.1; next = omega (arith, r.1) };
      complete = lift-complete c o h;
    }
