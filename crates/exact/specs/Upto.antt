-- What is left over, what stands for itself, and the place at hand.
use Rattle.std.specs.Prelude.{ℕ, List, [], ◌++◌, length, drop}
use Rattle.exact.specs.Got.{got, follow}
use Rattle.exact.specs.Exact.{Parser}

-- Reads by p, and passes over whatever is left.
unfoldable pub upto : {A : Type 0} → Parser A → Parser A
upto p l i = follow (p l i) (λ v j. got v (length l))

-- Bytes of R, and any bytes behind them.
pub data Upto {A : Type 0} (R : ℕ → List ℕ → A → Type 0) : ℕ → List ℕ → A → Type 0 where
  upto_of : {i : ℕ} {bs : List ℕ} (left : List ℕ) {v : A} → R i bs v → Upto R i (bs ++ left) v

-- All that is left, as it stands.
unfoldable pub whole : Parser (List ℕ)
whole l i = got (drop i l) (length l)

-- Bytes stand for themselves.
pub data Whole : ℕ → List ℕ → List ℕ → Type 0 where
  whole_of : {i : ℕ} {bs : List ℕ} → Whole i bs bs

-- The place at hand; it takes no bytes.
unfoldable pub place : Parser ℕ
place l i = got i i

-- No bytes stand for the place where they stand.
pub data At : ℕ → List ℕ → ℕ → Type 0 where
  at : {i : ℕ} → At i [] i
