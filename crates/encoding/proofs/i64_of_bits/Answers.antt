-- `i64_of_bits` gives the number that has a bit pattern. Assumes nothing.
use mir.Syntax.{w64}
use Rattle.encoding.proofs.LawsSigned.{cast_back}
use Rattle.encoding.proofs.i64_of_bits.Goals as goal

pub returns : goal.returns
returns c = cast_back w64 _ _ c.ranges.bits.fits c.cast_signed.ensures
