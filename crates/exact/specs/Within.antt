-- A payload inside a payload: places inside it count from its own first byte.
use Rattle.std.specs.Prelude.{ℕ, ◌+◌, ◌-◌, List, ◌++◌, length}
use Rattle.exact.specs.Got.{Got, got, stop}
use Rattle.exact.specs.Exact.{Parser}
use Rattle.exact.specs.Sequence.{bind}
use Rattle.exact.specs.Fixed.{raw}

-- What was answered of an inner payload of n bytes that ends at i, in the places of the outer.
unfoldable pub moved : {A : Type 0} → Got A → ℕ → ℕ → Got A
moved (got v j) n i = got v i
moved (stop c k) n i = stop c (i - n + k)

-- The bytes s, which end here, read by q as a payload of their own.
unfoldable pub inside : {A : Type 0} → Parser A → List ℕ → Parser A
inside q s l i = moved (q s 0) (length s) i

-- A length by p, and as many bytes, which q reads as a payload of their own.
unfoldable pub payload : {A : Type 0} → Parser ℕ → Parser A → Parser A
payload p q = bind (bind p raw) (inside q)

-- Bytes of C that stand for the length of a payload, and the payload.
pub data Payload {A : Type 0} (C : ℕ → List ℕ → ℕ → Type 0) (R : ℕ → List ℕ → A → Type 0) : ℕ → List ℕ → A → Type 0 where
  payload_of : {i : ℕ} {c s : List ℕ} {v : A} → C i c (length s) → R 0 s v → Payload C R i (c ++ s) v
