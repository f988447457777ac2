-- `close` puts what is optional where bit 0 of the flags is set, and the end. Assumes nothing.
use Rattle.std.proofs.Common.{refl}
use Rattle.kinds.proofs.LawsEndings.{closed-bare, closed-named}
use Rattle.kinds.proofs.endings.close.Goals as goal

pub returns-then-flags-ne1 : goal.returns-then-flags-ne1
returns-then-flags-ne1 c =
    closed-bare _ _ _ _ _ _ refl c.word_at-flags.ensures
    c.if-flags-ne1.true c.put_byte.ensures

pub returns : goal.returns
returns c =
    closed-named _ _ _ _ _ _ refl c.word_at-flags.ensures _ c.ranges.word.fits
    c.if-flags-ne1.false c.put_text.ensures c.word_at-value.ensures c.put_decimal.ensures
    c.put_byte-2.ensures
