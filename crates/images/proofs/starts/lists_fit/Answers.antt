-- `lists_fit` asks of the starts one by one: whatever is told of the rest is told of all. Assumes nothing.
use Rattle.std.proofs.Common.{arith}
use Rattle.images.proofs.LawsTables.{ids-le}
use Rattle.images.proofs.LawsStarts.{told_more}
use Rattle.images.proofs.starts.lists_fit.Goals as goal

pub loop-preserved : goal.loop-preserved
loop-preserved c v r x =
    c.loop.invariant v r (told_more c.loop.this.start.0 (omega arith) (omega arith) (ids-le v) (c.next_list-this.ensures v) x)
