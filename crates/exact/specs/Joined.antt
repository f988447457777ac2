-- What a loop answers in the middle: the values so far, and behind them those that are read from here.
use Rattle.std.specs.Prelude.{List, ◌++◌}
use Rattle.exact.specs.Got.{Got, got, follow}

-- The values so far, before those of an answer; a refusal stays as it is.
unfoldable pub joined : {A : Type 0} → List A → Got (List A) → Got (List A)
joined done r = follow r (λ vs j. got (done ++ vs) j)
