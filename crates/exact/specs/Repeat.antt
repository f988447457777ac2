-- The same thing n times, and a count with as many things behind it.
use Rattle.std.specs.Prelude.{ℕ, zero, suc, ◌+◌, List, [], ◌∷◌, ◌++◌, length}
use Rattle.exact.specs.Exact.{Parser}
use Rattle.exact.specs.Basic.{pure}
use Rattle.exact.specs.Sequence.{bind, mapped}

-- n values by p.
unfoldable pub times : {A : Type 0} → ℕ → Parser A → Parser (List A)
times zero p = pure []
times (suc n) p = bind p (λ v. mapped (λ vs. v ∷ vs) (times n p))

-- n values of R, each right behind the one before.
pub data Many {A : Type 0} (R : ℕ → List ℕ → A → Type 0) : ℕ → ℕ → List ℕ → List A → Type 0 where
  nil : {i : ℕ} → Many R zero i [] []
  cons : {n i : ℕ} {bs cs : List ℕ} {v : A} {vs : List A} → R i bs v → Many R n (i + length bs) cs vs →
      Many R (suc n) i (bs ++ cs) (v ∷ vs)

-- A count by q, and then as many values by p.
unfoldable pub counted : {A : Type 0} → Parser ℕ → Parser A → Parser (List A)
counted q p = bind q (λ n. times n p)

-- Bytes of C that stand for the number of values, and then the values.
pub data Counted {A : Type 0} (C : ℕ → List ℕ → ℕ → Type 0) (R : ℕ → List ℕ → A → Type 0) : ℕ → List ℕ → List A → Type 0 where
  counted_of : {i : ℕ} {c bs : List ℕ} {vs : List A} → C i c (length vs) → Many R (length vs) (i + length c) bs vs →
      Counted C R i (c ++ bs) vs
