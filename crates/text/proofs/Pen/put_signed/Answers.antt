-- `put_signed` puts the number, with its sign. Assumes nothing.
use Rattle.text.proofs.LawsNumbers.{signed-put, minus-put}
use Rattle.text.proofs.Pen.put_signed.Goals as goal

pub returns-then-v-half : goal.returns-then-v-half
returns-then-v-half c = signed-put _ _ c.if-v-half.true c.put_decimal.ensures

pub returns : goal.returns
returns c =
    minus-put _ _ c.if-v-half.false c.requires
    c.put_byte.ensures c.put_decimal-2.ensures
