-- `row_at` passes the rows before the asked one: those from here on stand from `word` on. Assumes nothing.
use Rattle.names.proofs.LawsRows.{RowsFrom}
use Rattle.names.proofs.row_at.Given as goal

abbrev pub invariant-loop : goal.invariant-loop
invariant-loop l = RowsFrom l.sheet l.word l.counter
