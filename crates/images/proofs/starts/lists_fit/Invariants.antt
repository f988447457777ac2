-- `lists_fit` asks of the starts one by one: whatever is told of the rest is told of all. Assumes nothing.
use Rattle.std.proofs.Common.{◌-◌, Bool}
use Rattle.enums.specs.declared.VersionClass.{VersionClass}
use Rattle.images.specs.Tables.{ids}
use Rattle.images.specs.Starts.{StartsTold}
use Rattle.images.specs.declared.rows.Row.TheVariants as row
use Rattle.images.proofs.starts.lists_fit.Given as goal

abbrev pub invariant-loop : goal.invariant-loop
invariant-loop l =
    (v : VersionClass) (r : Bool) → StartsTold v row.List ids (l.end - l.counter) l.sheet l.this.word l.this.start.0 r →
    StartsTold v row.List ids l.end l.sheet l.initial.this.word 0 r
