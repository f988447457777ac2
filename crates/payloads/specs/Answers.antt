-- Answers of a part of a file, with the place of a refusal in the whole, or with its stage.
use Rattle.std.specs.Prelude.{ℕ, ◌+◌, Result, Ok, Err}
use Rattle.enums.specs.declared.Stage.{Stage}
use Rattle.reading.specs.declared.Refused.{Refused}
use Rattle.container.specs.declared.sections.Stopped.{Stopped}
use Rattle.container.specs.Shown.{stopped_at}

-- Places behind n bytes.
abbrev pub raised_answer : {T : Type 0} → ℕ → Result T Refused → Result T Refused
raised_answer n (Ok v) = Ok v
raised_answer n (Err x) = Err record { refusal = x.refusal; at = n + x.at }

abbrev pub staged_answer : {T : Type 0} → Stage → Result T Refused → Result T Stopped
staged_answer n (Ok v) = Ok v
staged_answer n (Err x) = Err (stopped_at x n)
