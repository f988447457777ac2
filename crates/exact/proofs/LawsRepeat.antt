-- The same exact parser n times is exact, and so is a count with as many behind it. Assumes nothing.
use mathlib.Core.Path.{◌≡◌, refl, ap, subst}
use Prim.Native.Nat.{ℕ, zero, suc, ◌+◌}
use mathlib.Core.List.{List, [], ◌∷◌, ◌++◌}
use lib.ListN.{length}
use Rattle.exact.specs.Exact.{Parser, Lang, Exact}
use Rattle.exact.specs.Basic.{Is, is}
use Rattle.exact.specs.Sequence.{Then, then, Of, of}
use Rattle.exact.specs.Repeat.{times, Many, nil, cons, counted, Counted, counted_of}
use Rattle.exact.proofs.LawsExact.{same-exact}
use Rattle.exact.proofs.LawsBasic.{pure-exact}
use Rattle.exact.proofs.LawsSequence.{bind-exact, map-exact}

module _ {A : Type 0} {R : Lang A} where
  many-then : (n i : ℕ) (bs : List ℕ) (ws : List A) → Many R (suc n) i bs ws → Then R (λ v. Of (λ vs. v ∷ vs) (Many R n)) i bs ws
  many-then n i bs ws (cons r m) = then r (of m)

  then_many : (n i : ℕ) (bs : List ℕ) (ws : List A) → Then R (λ v. Of (λ vs. v ∷ vs) (Many R n)) i bs ws → Many R (suc n) i bs ws
  then_many n i bs ws (then {v = v} r o) = held v r ws o
    where
      held : {cs ds : List ℕ} (v : A) → R i cs v → (vs : List A) → Of (λ us. v ∷ us) (Many R n) (i + length cs) ds vs →
          Many R (suc n) i (cs ++ ds) vs
      held v r vs (of m) = cons r m

  is-many : (i : ℕ) (bs : List ℕ) (ws : List A) → Is [] i bs ws → Many R zero i bs ws
  is-many i bs ws is = nil

  many_is : (i : ℕ) (bs : List ℕ) (ws : List A) → Many R zero i bs ws → Is [] i bs ws
  many_is i bs ws nil = is

  -- n values are n.
  pub many-length : (n i : ℕ) (bs : List ℕ) (vs : List A) → Many R n i bs vs → n ≡ length vs
  many-length n i bs vs nil = refl
  many-length n i bs vs (cons {n = m} {i = k} {bs = b} {cs = c} {vs = ws} r t) = ap suc (many-length m (k + length b) c ws t)

-- n values are read exactly.
pub times-exact : {A : Type 0} (n : ℕ) {p : Parser A} {R : Lang A} → Exact p R → Exact (times n p) (Many R n)
unfolding times
times-exact zero x = same-exact (pure-exact []) (λ i bs v. (is-many i bs v, many_is i bs v))
times-exact (suc n) x =
    same-exact (bind-exact x (λ v. map-exact (λ vs. v ∷ vs) (times-exact n x))) (λ i bs v. (then_many n i bs v, many-then n i bs v))

counted-to : {A : Type 0} {C : Lang ℕ} {R : Lang A} (i : ℕ) (bs : List ℕ) (vs : List A) → Then C (λ n. Many R n) i bs vs →
    Counted C R i bs vs
counted-to {C = C} i bs vs (then {bs = c} {cs = b} {v = n} s m) =
    let q : n ≡ length vs = many-length n _ b vs m in
    counted_of (subst (C i c) q s) (rw q at m)

counted-from : {A : Type 0} {C : Lang ℕ} {R : Lang A} (i : ℕ) (bs : List ℕ) (vs : List A) → Counted C R i bs vs →
    Then C (λ n. Many R n) i bs vs
counted-from i _ vs (counted_of s m) = then s m

-- A count and as many values are read exactly.
pub counted-exact : {A : Type 0} {q : Parser ℕ} {C : Lang ℕ} {p : Parser A} {R : Lang A} → Exact q C → Exact p R →
    Exact (counted q p) (Counted C R)
unfolding counted
counted-exact y x =
    same-exact (bind-exact y (λ n. times-exact n x))
    (λ i bs vs. (counted-to i bs vs, counted-from i bs vs))
