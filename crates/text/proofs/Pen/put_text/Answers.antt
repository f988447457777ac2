-- `put_text` puts the text at the pen's place, or counts it. Assumes nothing.
use Rattle.std.proofs.Common.{arith}
use Rattle.text.proofs.LawsText.{put-stopped, counting-short, counting-room}
use Rattle.text.proofs.Pen.put_text.Goals as goal

pub returns-in-None : goal.returns-in-None
returns-in-None c = let n = c.in-None.ensures in counting-short _ _ c.in-Counting.is (omega (arith, n))

pub returns-in-Some : goal.returns-in-Some
returns-in-Some c = rw c.in-Some.ensures.1 (counting-room _ _ c.in-Counting.is c.in-Some.ensures.0)

pub returns-in-Full : goal.returns-in-Full
returns-in-Full c = put-stopped _ c.in-Full.is
