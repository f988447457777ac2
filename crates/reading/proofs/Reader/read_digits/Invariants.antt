-- `read_digits` answers the varint there: its loop follows the digits (`Loop`). Assumes nothing.
use Rattle.reading.proofs.LawsDigits.{Loop}
use Rattle.reading.proofs.Reader.read_digits.Given as goal

abbrev pub invariant-loop-i : goal.invariant-loop-i
invariant-loop-i l = Loop l.data l.at l.i l.result l.weight
