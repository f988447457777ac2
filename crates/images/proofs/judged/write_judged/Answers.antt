-- `write_judged` writes the image if it has room. Assumes nothing.
use Rattle.images.proofs.LawsJudged.{written_small}
use Rattle.images.proofs.judged.write_judged.Goals as goal

pub returns-then-out-size : goal.returns-then-out-size
returns-then-out-size c = written_small c.image_length.ensures c.in_ok-size.was c.if-out-size.true
