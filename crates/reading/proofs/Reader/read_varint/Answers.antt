-- `read_varint` answers the varint there: a number of one byte at once, others by `read_digits`. Assumes nothing.
use native.Mathlib.Omega.{arith}
use Rattle.reading.proofs.LawsWord.{word-of}
use Rattle.reading.proofs.LawsDigits.{varint-end, varint-one}
use Rattle.reading.proofs.Reader.read_varint.Goals as goal

pub returns-then-data-at : goal.returns-then-data-at
returns-then-data-at c = varint-end _ _ c.if-data-at.true

pub returns-then-first-lt128 : goal.returns-then-first-lt128
returns-then-first-lt128 c = varint-one _ _ _ c.if-data-at.false (word-of _ _ (omega arith) c.from-first.ensures (omega arith)) c.if-first-lt128.true

pub read_digits-requires : goal.read_digits-requires
read_digits-requires c =
    record {
      inside = omega arith;
      first = word-of _ _ (omega arith) c.from-first.ensures (omega arith);
      more = c.if-first-lt128.false;
    }
