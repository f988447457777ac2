-- One way or the other by a decided question, and a value that must pass a test.
use Rattle.std.specs.Prelude.{ℕ, List}
use Rattle.exact.specs.Exact.{Parser}
use Rattle.exact.specs.Basic.{pure, fail}
use Rattle.exact.specs.Sequence.{bind}

-- The first where the answer is yes, else the second.
unfoldable pub choose : {P : Type 0} {X : Type 0} → Dec P → X → X → X
choose (yes h) x y = x
choose (no h) x y = y

-- Of R where P holds, of S where it does not.
pub data If {A : Type 0} (P : Type 0) (R S : ℕ → List ℕ → A → Type 0) : ℕ → List ℕ → A → Type 0 where
  so : {i : ℕ} {bs : List ℕ} {v : A} → P → R i bs v → If P R S i bs v
  else : {i : ℕ} {bs : List ℕ} {v : A} → ¬ P → S i bs v → If P R S i bs v

-- What p reads if it passes the test, else refusal c where p ended.
unfoldable pub such : {A : Type 0} {P : A → Type 0} → ℕ → ((v : A) → Dec (P v)) → Parser A → Parser A
such c d p = bind p (λ v. choose (d v) (pure v) (fail c))

-- Of R, with a value that passes the test.
pub data Such {A : Type 0} (P : A → Type 0) (R : ℕ → List ℕ → A → Type 0) : ℕ → List ℕ → A → Type 0 where
  such_of : {i : ℕ} {bs : List ℕ} {v : A} → P v → R i bs v → Such P R i bs v
