-- `put_rows` puts the rows of a table: whatever putting the rest leaves, putting them all leaves it. Assumes nothing.
use Rattle.std.proofs.Common.{arith}
use Rattle.images.proofs.LawsRows.{rows_none, rows-put}
use Rattle.images.proofs.rows.put_rows.Goals as goal

pub returns : goal.returns
returns c = rows-put (c.loop.invariant _ _ (rows_none _ _ _ _ _ _ _ (omega arith)))
