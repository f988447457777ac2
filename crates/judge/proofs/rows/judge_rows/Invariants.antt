-- `judge_rows` goes from row to row: all rows end where those from here on end. Assumes nothing.
use mathlib.Core.Path.{◌≡◌}
use Prim.Native.Nat.{◌-◌}
use Rattle.std.specs.Prelude.{Option}
use Rattle.judge.specs.declared.steps.Place.{Place}
use Rattle.judge.specs.Rows.{Does, rows_after}
use Rattle.judge.proofs.rows.judge_rows.Given as goal

abbrev pub invariant-loop : goal.invariant-loop
invariant-loop g l =
    (step : Place → Option Place) → Does (goal.F-post g l.judge_row) step → rows_after step (l.count - l.counter) l.at ≡ rows_after step l.count l.initial.at
