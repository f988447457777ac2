-- One thing after another, and a function of what was read.
use Rattle.std.specs.Prelude.{ℕ, ◌+◌, List, ◌++◌, length}
use Rattle.exact.specs.Got.{follow}
use Rattle.exact.specs.Exact.{Parser}
use Rattle.exact.specs.Basic.{pure}

-- Reads by p, and then, where p ended, by what its value asks for.
unfoldable pub bind : {A B : Type 0} → Parser A → (A → Parser B) → Parser B
bind p f l i = follow (p l i) (λ v j. f v l j)

-- Bytes of R, and right behind them bytes of what the value asks for.
pub data Then {A B : Type 0} (R : ℕ → List ℕ → A → Type 0) (S : A → ℕ → List ℕ → B → Type 0) : ℕ → List ℕ → B → Type 0 where
  then : {i : ℕ} {bs cs : List ℕ} {v : A} {w : B} → R i bs v → S v (i + length bs) cs w → Then R S i (bs ++ cs) w

-- What p reads, by a function.
unfoldable pub mapped : {A B : Type 0} → (A → B) → Parser A → Parser B
mapped f p = bind p (λ v. pure (f v))

-- What stands for v in R stands for f v.
pub data Of {A B : Type 0} (f : A → B) (R : ℕ → List ℕ → A → Type 0) : ℕ → List ℕ → B → Type 0 where
  of : {i : ℕ} {bs : List ℕ} {v : A} → R i bs v → Of f R i bs (f v)
