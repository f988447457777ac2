-- `unzigzag` answers the number whose zigzag was read. Assumes nothing.
use mathlib.Core.Path.{◌∙◌}
use native.Mathlib.Omega.{arith}
use mir.Syntax.{w64}
use Rattle.reading.proofs.LawsSigned.{settled, signed-fits, unzigzag-even, unzigzag-odd}
use Rattle.reading.proofs.unzigzag.Goals as goal

pub returns-then-v-eq0 : goal.returns-then-v-eq0
returns-then-v-eq0 c =
    settled w64 (signed-fits 63 _ (omega arith)) c.i64_of_bits.ensures ∙
    unzigzag-even _ c.ranges.v.fits c.if-v-eq0.true

pub returns : goal.returns
returns c =
    settled w64 (signed-fits 63 _ (omega arith)) c.i64_of_bits-2.ensures ∙
    unzigzag-odd _ c.ranges.v.fits c.if-v-eq0.false
