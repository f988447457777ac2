-- `entries_fit` asks of the starts one by one: whatever is told of the rest is told of all. Assumes nothing.
use Rattle.std.proofs.Common.{◌-◌, Bool}
use Rattle.images.specs.Rows.{row_bytes}
use Rattle.images.specs.Starts.{StartsTold}
use Rattle.images.proofs.starts.entries_fit.Given as goal

abbrev pub invariant-loop : goal.invariant-loop
invariant-loop l =
    let unit = row_bytes l.source.class l.table.row in
    (r : Bool) → StartsTold l.source.class l.table.row unit (l.table.count - l.counter) l.source.sheet.now l.this.word l.this.start.0 r →
    StartsTold l.source.class l.table.row unit l.table.count l.source.sheet.now l.table.word 0 r
