-- One exact parser after another is exact, and so is a function of what one reads. Assumes nothing.
use mathlib.Core.Path.{◌≡◌, refl, ap, ◌∙◌, subst}
use Prim.Native.Nat.{ℕ, ◌+◌}
use native.Mathlib.Nat.{add_assoc}
use native.Mathlib.Omega.{arith}
use mathlib.Core.List.{List, [], ◌++◌, append_assoc, append-nil}
use lib.ListN.{length, drop, length-append}
use Rattle.exact.specs.Got.{Got, got, stop, follow}
use Rattle.exact.specs.Exact.{Parser, Lang, Reads, Exact, Ends}
use Rattle.exact.specs.Basic.{Is, is}
use Rattle.exact.specs.Sequence.{bind, Then, then, mapped, Of, of}
use Rattle.exact.proofs.LawsExact.{drop_past, stop-not-got, same-exact}
use Rattle.exact.proofs.LawsBasic.{pure-exact}

-- Two steps that gave a value each gave one.
pub follow-inv : {A B : Type 0} (g : Got A) (f : A → ℕ → Got B) (w : B) (k : ℕ) → follow g f ≡ got w k →
    (v : A) × (j : ℕ) × (g ≡ got v j) × (f v j ≡ got w k)
unfolding follow
follow-inv (got v j) f w k e = (v, j, refl, e)
follow-inv (stop c j) f w k e = absurd (stop-not-got e)

-- Of three steps it does not matter which two are taken first.
pub follow-follow : {A B C : Type 0} (g : Got A) (f : A → ℕ → Got B) (h : B → ℕ → Got C) →
    follow (follow g f) h ≡ follow g (λ v j. follow (f v j) h)
unfolding follow
follow-follow (got v j) f h = refl
follow-follow (stop c k) f h = refl

-- Where the first has answered, the second goes on from there.
pub bind-got : {A B : Type 0} (p : Parser A) (f : A → Parser B) (l : List ℕ) (i : ℕ) (v : A) (j : ℕ) → got v j ≡ p l i →
    bind p f l i ≡ f v l j
unfolding bind follow
bind-got p f l i v j e = rw (← e)

-- Where the first has refused, so has the whole.
pub bind-stop : {A B : Type 0} (p : Parser A) (f : A → Parser B) (l : List ℕ) (i c k : ℕ) → stop c k ≡ p l i →
    bind p f l i ≡ stop c k
unfolding bind follow
bind-stop p f l i c k e = rw (← e)

module _ {A B : Type 0} {p : Parser A} {R : Lang A} {f : A → Parser B} {S : A → Lang B} (x : Exact p R)
    (y : (v : A) → Exact (f v) (S v)) where
  bind-sound : (l : List ℕ) (i : ℕ) (w : B) (k : ℕ) → bind p f l i ≡ got w k → Reads (Then R S) l i w k
  unfolding bind
  bind-sound l i w k e =
      let (v, j, g, h) = follow-inv (p l i) (λ v j. f v l j) w k e in
      let a : Reads R l i v j = x.sound l i v j g in
      let b : Reads (S v) l j w k = (y v).sound l j w k h in
      record {
        bytes = a.bytes ++ b.bytes;
        spelt = then a.spelt (subst (λ n. S v n b.bytes w) a.next b.spelt);
        there = rw append_assoc (a.there ∙ ap (λ r. a.bytes ++ r) b.there);
        next = omega (arith, a.next, b.next, length-append a.bytes b.bytes);
      }

  bind-complete : (l : List ℕ) (i : ℕ) (bs rest : List ℕ) (w : B) → Then R S i bs w → drop i l ≡ bs ++ rest →
      bind p f l i ≡ got w (i + length bs)
  unfolding bind follow
  bind-complete l i bs rest w (then {bs = a} {cs = c} {v = v} r s) d =
      let d' : drop i l ≡ a ++ (c ++ rest) = d ∙ append_assoc a c rest in
      rw (x.complete l i a (c ++ rest) v r d', length-append, ← add_assoc)
      ((y v).complete l (i + length a) c rest w s (drop_past l i a (c ++ rest) d'))

  -- One exact parser after another is exact for the one language after the other.
  pub bind-exact : Exact (bind p f) (Then R S)
  bind-exact = record { sound = bind-sound; complete = bind-complete }

module _ {A B : Type 0} {p : Parser A} {R : Lang A} {f : A → Parser B} {S : A → Lang B} (x : Exact p R)
    (y : (v : A) → Ends (f v) (S v)) where
  last-sound : (l : List ℕ) (i : ℕ) (w : B) (k : ℕ) → bind p f l i ≡ got w k → Then R S i (drop i l) w × (k ≡ length l)
  unfolding bind
  last-sound l i w k e =
      let (v, j, g, h) = follow-inv (p l i) (λ v j. f v l j) w k e in
      let a : Reads R l i v j = x.sound l i v j g in
      let b = (y v).sound l j w k h in
      let s : S v (i + length a.bytes) (drop j l) w = subst (λ n. S v n (drop j l) w) a.next b.0 in
      (rw a.there (then a.spelt s), b.1)

  last-complete : (l : List ℕ) (i : ℕ) (bs : List ℕ) (w : B) → Then R S i bs w → drop i l ≡ bs → bind p f l i ≡ got w (length l)
  unfolding bind follow
  last-complete l i bs w (then {bs = a} {cs = c} {v = v} r s) d =
      rw (x.complete l i a c v r d) ((y v).complete l (i + length a) w (rw (drop_past l i a c d) s))

  -- The same where the second takes all that is left.
  pub bind-ends : Ends (bind p f) (Then R S)
  bind-ends = record { sound = last-sound; complete = λ l i w t. last-complete l i (drop i l) w t refl }

of-then : {A B : Type 0} (f : A → B) {R : Lang A} (i : ℕ) (bs : List ℕ) (w : B) → Then R (λ v. Is (f v)) i bs w → Of f R i bs w
of-then f i bs w (then r is) = rw append-nil (of r)

then-of : {A B : Type 0} (f : A → B) {R : Lang A} (i : ℕ) (bs : List ℕ) (w : B) → Of f R i bs w → Then R (λ v. Is (f v)) i bs w
then-of f {R} i bs w (of {v = v} r) = let t : Then R (λ v. Is (f v)) i (bs ++ []) (f v) = then r is in rw append-nil at t

-- A function of what an exact parser reads is read exactly.
pub map-exact : {A B : Type 0} (f : A → B) {p : Parser A} {R : Lang A} → Exact p R → Exact (mapped f p) (Of f R)
unfolding mapped
map-exact f x = same-exact (bind-exact x (λ v. pure-exact (f v))) (λ i bs w. (of-then f i bs w, then-of f i bs w))
