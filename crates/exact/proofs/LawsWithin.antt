-- A payload inside a payload is read exactly where its own reader is exact to its end. Assumes nothing.
use mathlib.Core.Path.{◌≡◌, refl, sym, ap, subst}
use Prim.Native.Nat.{ℕ, ◌+◌}
use native.Mathlib.Nat.{add-zero}
use native.Mathlib.Omega.{arith}
use mathlib.Core.List.{List, [], ◌++◌, append-nil}
use lib.ListN.{length, drop}
use Rattle.exact.specs.Got.{Got, got, stop}
use Rattle.exact.specs.Exact.{Parser, Lang, Exact, Ends}
use Rattle.exact.specs.Sequence.{Then, then}
use Rattle.exact.specs.Fixed.{Raw, raw_of}
use Rattle.exact.specs.Rest.{Holds, holds}
use Rattle.exact.specs.Within.{moved, inside, payload, Payload, payload_of}
use Rattle.exact.proofs.LawsExact.{same-exact, stop-not-got, got-next, got-value}
use Rattle.exact.proofs.LawsSequence.{bind-exact}
use Rattle.exact.proofs.LawsFixed.{raw-exact}

moved-inv : {A : Type 0} (g : Got A) (n i : ℕ) (v : A) (j : ℕ) → moved g n i ≡ got v j → ((k : ℕ) × (g ≡ got v k)) × (j ≡ i)
unfolding moved
moved-inv (got w k) n i v j e = ((k, ap (λ x. got x k) (got-value e)), sym (got-next e))
moved-inv (stop c k) n i v j e = absurd (stop-not-got e)

inside-complete : {A : Type 0} {q : Parser A} {R : Lang A} → Ends q R → (s l : List ℕ) (i : ℕ) (bs rest : List ℕ) (v : A) →
    Holds (R 0 s) i bs v → drop i l ≡ bs ++ rest → inside q s l i ≡ got v (i + length bs)
unfolding inside moved
inside-complete x s l i bs rest v (holds r) d = rw (x.complete s 0 v r, add-zero)

-- Bytes at hand, read as a payload of their own.
pub inside-exact : {A : Type 0} {q : Parser A} {R : Lang A} → Ends q R → (s : List ℕ) → Exact (inside q s) (Holds (R 0 s))
unfolding inside
inside-exact {q = q} x s =
    record {
      sound = λ l i v j e. let (g, n) = moved-inv (q s 0) (length s) i v j e in
          record { bytes = []; spelt = holds (x.sound s 0 v g.0 g.1).0; there = cc n; next = omega (arith, n) };
      complete = inside-complete x s;
    }

module _ {A : Type 0} {C : Lang ℕ} {R : Lang A} where
  payload-to : (i : ℕ) (bs : List ℕ) (v : A) → Then (Then C Raw) (λ s. Holds (R 0 s)) i bs v → Payload C R i bs v
  payload-to i bs v (then (then {bs = c} s (raw_of e)) (holds r)) = rw append-nil (payload_of (subst (C i c) (sym e) s) r)

  payload-from : (i : ℕ) (bs : List ℕ) (v : A) → Payload C R i bs v → Then (Then C Raw) (λ s. Holds (R 0 s)) i bs v
  payload-from i bs v (payload_of s r) =
      let t : Then (Then C Raw) (λ s. Holds (R 0 s)) i (bs ++ []) v = then (then s (raw_of refl)) (holds r) in rw append-nil at t

-- A length and as many bytes, read as a payload of their own.
pub payload-exact : {A : Type 0} {p : Parser ℕ} {C : Lang ℕ} {q : Parser A} {R : Lang A} → Exact p C → Ends q R →
    Exact (payload p q) (Payload C R)
unfolding payload
payload-exact y x =
    same-exact (bind-exact (bind-exact y raw-exact) (inside-exact x)) (λ i bs v. (payload-to i bs v, payload-from i bs v))
