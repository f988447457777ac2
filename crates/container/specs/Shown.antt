-- What each answer about a file stands for: a value, or document 01's numbers of the refusal and its stage, and the file
-- offset.
use Rattle.std.specs.Prelude.{Result, Ok, Err}
use Rattle.enums.specs.Numbered.{number_of, stage_number}
use Rattle.enums.specs.declared.Refusal.{Refusal}
use Rattle.enums.specs.declared.Stage.{Stage}
use Rattle.enums.specs.declared.Stage.TheVariants as stage
use Rattle.reading.specs.declared.Refused.{Refused}
use Rattle.format.specs.Read.{Read, accepted, refused}
use Rattle.container.specs.declared.sections.Stopped.{Stopped}

-- What a read refused, at a stage of the file.
abbrev pub stopped_at : Refused → Stage → Stopped
stopped_at x n = record { refusal = x.refusal; stage = n; at = x.at }

-- A refusal that is not the file's.
abbrev pub stopped_call : Refusal → Stopped
stopped_call x = record { refusal = x; stage = stage.Call; at = 0 }

-- A refusal.
abbrev pub refused_of : {A : Type 0} → Stopped → Read A
refused_of x = refused (number_of x.refusal) (stage_number x.stage) x.at

-- An answer whose value stands for the one that `shown` says.
abbrev pub read_by : {V A : Type 0} → (V → A) → Result V Stopped → Read A
read_by shown (Ok v) = accepted (shown v)
read_by shown (Err x) = refused_of x

-- An answer whose value stands for itself.
abbrev pub read_of : {A : Type 0} → Result A Stopped → Read A
read_of = read_by (λ v. v)
