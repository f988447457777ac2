-- `convert_to_f8` meets its contract: the sign stands above a code of seven bits. Assumes nothing.
use Rattle.float8.proofs.Whole.{eight-nan, eight-zero, eight-number}
use Rattle.float8.proofs.convert_to_f8.Goals as goal

pub returns-then-magnitude-gt-F64_INFINITY : goal.returns-then-magnitude-gt-F64_INFINITY
returns-then-magnitude-gt-F64_INFINITY g c =
    let s = c.with_sign.ensures in
    eight-nan c.requires _ _ s.0 c.if-magnitude-gt-F64_INFINITY.true (rw c.OVERFLOW-overflow.ensures at s.1)

pub returns-then-magnitude-eq0 : goal.returns-then-magnitude-eq0
returns-then-magnitude-eq0 g c =
    let s = c.with_sign-then-magnitude-eq0.ensures in
    eight-zero c.requires _ _ s.0 c.if-magnitude-eq0.true s.1

pub returns : goal.returns
returns g c =
    let s = c.with_sign-2.ensures in
    eight-number c.requires _ _ s.0 c.if-magnitude-gt-F64_INFINITY.false s.1
    (rw (c.OVERFLOW-overflow.ensures, c.MAN_BITS.ensures, c.BIAS.ensures) at c.nearest_code.ensures)
