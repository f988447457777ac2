-- What a function says of all that is left, or of a value at hand.
use Rattle.std.specs.Prelude.{ℕ, List, [], length, drop}
use Rattle.std.proofs.Math.Option.{Option, none, some}
use Rattle.exact.specs.Got.{Got, got, stop}
use Rattle.exact.specs.Exact.{Parser}

-- A value with the place j, or refusal c at k.
unfoldable pub or_stop : {A : Type 0} → Option A → ℕ → ℕ → ℕ → Got A
or_stop (some v) j c k = got v j
or_stop none j c k = stop c k

-- All that is left, by a function that may refuse it with c.
unfoldable pub finish : {A : Type 0} → ℕ → (List ℕ → Option A) → Parser A
finish c f l i = or_stop (f (drop i l)) (length l) c i

-- A value at hand, that may be refused with c.
unfoldable pub lift : {A : Type 0} → ℕ → Option A → Parser A
lift c o l i = or_stop o i c i

-- No bytes stand for a value of which P holds.
pub data Holds {A : Type 0} (P : A → Type 0) : ℕ → List ℕ → A → Type 0 where
  holds : {i : ℕ} {v : A} → P v → Holds P i [] v
