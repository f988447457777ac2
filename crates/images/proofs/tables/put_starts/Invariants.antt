-- `put_starts` puts the starts one by one: whatever putting the rest leaves, putting them all leaves it.
-- Assumes nothing.
use Rattle.std.proofs.Common.{ℕ, ◌-◌, List}
use Rattle.images.specs.Rows.{row_bytes}
use Rattle.images.specs.Tables.{StartsPut}
use Rattle.images.proofs.tables.put_starts.Given as goal

abbrev pub invariant-loop : goal.invariant-loop
invariant-loop l =
    let unit = row_bytes l.source.class l.table.row in
    (out' : List ℕ) (r : ℕ) →
    StartsPut l.source.class l.table.row unit l.table.width (l.table.count - l.counter) l.source.sheet.now l.this.word l.this.start.0 l.next l.out out' r →
    StartsPut l.source.class l.table.row unit l.table.width l.table.count l.source.sheet.now l.table.word 0 l.at l.initial.out out' r
