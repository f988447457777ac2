-- What a reader answers, and how a second reader takes up where a first has ended.
use Rattle.std.specs.Prelude.{ℕ}

-- A value and the place after it; or a refusal: its number, and the place where it broke.
pub data Got (A : Type 0) : Type 0 where
  got : A → ℕ → Got A
  stop : ℕ → ℕ → Got A

-- The number of the one refusal that every reader shares: the data ends inside an item.
abbrev pub ended : ℕ
ended = 2

-- Goes on with the value and the place after it; a refusal stays as it is.
unfoldable pub follow : {A B : Type 0} → Got A → (A → ℕ → Got B) → Got B
follow (got v j) f = f v j
follow (stop c k) f = stop c k
