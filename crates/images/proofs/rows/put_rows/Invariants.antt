-- `put_rows` puts the rows of a table: whatever putting the rest leaves, putting them all leaves it. Assumes nothing.
use Rattle.std.proofs.Common.{ℕ, ◌-◌, List}
use Rattle.images.specs.declared.fields.Pen.{Pen}
use Rattle.images.proofs.LawsRows.{RowsCopied}
use Rattle.images.proofs.rows.put_rows.Given as goal

abbrev pub invariant-loop : goal.invariant-loop
invariant-loop l =
    (out' : List ℕ) (r : Pen) → RowsCopied l.source.class l.table.row (l.table.count - l.counter) l.source.sheet.now l.source.pool.now l.next l.out out' r →
    RowsCopied l.source.class l.table.row l.table.count l.source.sheet.now l.source.pool.now l.initial.next l.initial.out out' r
