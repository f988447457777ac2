-- `rows_good` tells whether the rows are good: in its loop, those so far are, and they are noted. Assumes nothing.
use Rattle.owners.specs.Notes.{SoFar}
use Rattle.owners.proofs.Table.rows_good.Given as goal

abbrev pub invariant-loop-row : goal.invariant-loop-row
invariant-loop-row l = SoFar l.size l.self.owners.now l.notes l.row
