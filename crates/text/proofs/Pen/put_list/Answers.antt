-- `put_list` puts the first number, and each other one behind a separator. Assumes nothing.
use Rattle.std.proofs.Common.{refl}
use Rattle.text.proofs.LawsNumbers.{list-none, list-some}
use Rattle.text.proofs.Pen.put_list.Goals as goal

pub returns-then-count-eq0 : goal.returns-then-count-eq0
returns-then-count-eq0 c = list-none _ _ _ _ _ c.ranges.word.fits c.word_at-count.ensures c.if-count-eq0.true

pub returns : goal.returns
returns c =
    list-some _ _ _ _ _ _ _ _ c.ranges.word.fits c.word_at-count.ensures c.if-count-eq0.false
    refl c.word_at-value.ensures c.put_number-first.ensures
    refl c.put_more.ensures
