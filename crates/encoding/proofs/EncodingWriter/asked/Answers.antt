-- `asked` keeps the largest alignment of 2 or more. Assumes nothing.
use Rattle.encoding.proofs.LawsOut.{required-none, required-some}
use Rattle.encoding.proofs.EncodingWriter.asked.Goals as goal

pub returns-then-alignment-lt2 : goal.returns-then-alignment-lt2
returns-then-alignment-lt2 c = rw (required-none _ _ c.if-alignment-lt2.true)

pub returns : goal.returns
returns c = rw (required-some _ _ c.if-alignment-lt2.false, c.max.ensures)
