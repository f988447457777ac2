-- The answer that crosses the C boundary, as a function of what the crates below answer (document 01, "Refusal numbers": a
-- refusal returns its number and the stage and no other data; single-number calls are of stage 10).
use Rattle.std.specs.Prelude.{◌≡◌, ℕ, ◌-◌, List, ℤ, length, Result, Ok, Err}
use Rattle.std.proofs.Math.Decide.{dec_le}
use Rattle.exact.specs.Got.{Got, got, stop}
use Rattle.exact.specs.Exact.{Parser}
use Rattle.exact.specs.Choice.{choose}
use Rattle.enums.specs.Refusals as refusals
use Rattle.enums.specs.Numbered.{number_of, stage_number}
use Rattle.enums.specs.declared.Refusal.{Refusal}
use Rattle.encoding.specs.Out.{Wrote, wrote, refused, put, after}
use Rattle.encoding.specs.Signed.{pattern}
use Rattle.encoding.specs.Floats.{FloatBytes}
use Rattle.encoding.specs.declared.FloatType.{FloatType}
use Rattle.reading.specs.declared.Reader.{Reader}
use Rattle.container.specs.declared.sections.Stopped.{Stopped}
use Rattle.tikomuci.specs.declared.answers.Answer.{Answer}

-- The number of this boundary: of its names, their parameters, and the answer.
abbrev pub abi : ℕ
abi = 1

-- An acceptance, with its two numbers.
abbrev pub accepted : ℕ → ℕ → Answer
accepted a b = record { refusal = 0; stage = 0; first = a; second = b }

-- The refusal of a call that reads no container.
abbrev pub refused_as : ℕ → Answer
refused_as n = record { refusal = n; stage = refusals.at_call; first = 0; second = 0 }

-- A refusal as the crates below know it ..
abbrev pub refusal_of : Refusal → Answer
refusal_of x = refused_as (number_of x)

-- .. and one of a file, with its stage.
abbrev pub stopped_of : Stopped → Answer
stopped_of x = record { refusal = number_of x.refusal; stage = stage_number x.stage; first = 0; second = 0 }

-- What was read, by the number that its value stands for, and the next place.
abbrev pub pair_by : {T : Type 0} → (T → ℕ) → T × Reader → Answer
pair_by number x = accepted (number x.0) x.1.pos

-- What a call handed out, or why it was refused.
abbrev pub shown_by : {T E : Type 0} → (T → Answer) → (E → Answer) → Result T E → Answer
shown_by value refusal (Ok v) = value v
shown_by value refusal (Err x) = refusal x

-- A writer: the next place.
abbrev pub next_place : Wrote → Answer
next_place (wrote at required) = accepted at 0
next_place (refused n) = refused_as n

-- The same with the alignment that is required now.
abbrev pub next_aligned : Wrote → Answer
next_aligned (wrote at required) = accepted at required
next_aligned (refused n) = refused_as n

-- A number that was read, and the next place.
abbrev pub number : Got ℕ → Answer
number (got v j) = accepted v j
number (stop c k) = refused_as c

-- A signed number of w bits, as its bit pattern, and the next place.
abbrev pub signed_number : ℕ → Got ℤ → Answer
signed_number w (got z j) = accepted (pattern w z) j
signed_number w (stop c k) = refused_as c

-- What p reads, from a place that is not past the data: "a primitive read past the data gives 2".
unfoldable pub reached : {A : Type 0} → Parser A → Parser A
reached p l i = choose (dec_le i (length l)) (p l i) (stop refusals.short i)

-- A run of bytes: where it starts, and the next place.
abbrev pub run : Got (ℕ × List ℕ) → Answer
run (got v j) = accepted v.0 j
run (stop c k) = refused_as c

-- A counted array: how many numbers, and the next place.
abbrev pub items : Got (ℕ × List ℕ) → Answer
items (got v j) = accepted (length v.1) j
items (stop c k) = refused_as c

-- Padding from a place on: how many bytes, and the next place.
abbrev pub skipped : ℕ → Got (Unit {0}) → Answer
skipped at (got u j) = accepted (j - at) j
skipped at (stop c k) = refused_as c

-- A call that put the bytes bs at a place of an output, which became out': its answer by f, or the refusal n where they
-- had no room there. A refused call left the output as it was, and an accepted one changed these bytes alone.
pub record Puts (f : Wrote → Answer) (n at required : ℕ) (bs out out' : List ℕ) (r : Answer) : Type 0 where
  pub answer : r ≡ f (after n out at required bs)
  pub output : out' ≡ put out at bs

-- A writer's call: 11 where there is no room.
abbrev pub Writes : ℕ → List ℕ → List ℕ → List ℕ → Answer → Type 0
Writes at = Puts next_place refusals.full at 1

-- A patch: 14 outside.
abbrev pub Patches : ℕ → List ℕ → List ℕ → List ℕ → Answer → Type 0
Patches at = Puts next_place refusals.not_there at 1

-- A writer's call that put an f64, by its bits, in a float type.
pub record WritesFloat (at bits : ℕ) (ty : FloatType) (out out' : List ℕ) (r : Answer) : Type 0 where
  pub bytes : List ℕ
  pub spelt : FloatBytes bits ty bytes
  pub written : Writes at bytes out out' r
