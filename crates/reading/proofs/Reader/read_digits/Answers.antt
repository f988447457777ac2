-- `read_digits` answers the varint there: its loop follows the digits (`Loop`). Assumes nothing.
use mathlib.Core.Path.{◌≡◌}
use Prim.Native.Nat.{◌%◌}
use native.Mathlib.Omega.{arith}
use Rattle.reading.proofs.LawsDigits.{loop-second, loop-short, loop-last, loop-more, loop-tenth, loop-long}
use Rattle.reading.proofs.LawsWord.{word-of}
use Rattle.reading.proofs.LawsDigits.{next_fits, digit-fits, tenth-fits}
use Rattle.reading.proofs.Reader.read_digits.Goals as goal

pub loop-i-init : goal.loop-i-init
loop-i-init c = loop-second _ _ _ c.requires

pub overflow_mul-result : goal.overflow_mul-result
overflow_mul-result c =
    omega (arith, digit-fits _ _ _ _ _ c.loop-i.invariant (omega arith) c.from-b.result c.if-b-lt128.true)

pub overflow_add-result : goal.overflow_add-result
overflow_add-result c =
    omega (arith, digit-fits _ _ _ _ _ c.loop-i.invariant (omega arith) c.from-b.result c.if-b-lt128.true)

pub returns-then-b-lt128 : goal.returns-then-b-lt128
returns-then-b-lt128 c =
    loop-last _ _ _ _ _ c.loop-i.invariant (omega arith) (omega arith) _ (word-of _ _ (omega arith) c.from-b.ensures (omega arith)) c.if-b-lt128.true

pub overflow_mul-result-in-loop-i : goal.overflow_mul-result-in-loop-i
overflow_mul-result-in-loop-i c =
    omega (arith, digit-fits _ _ _ _ _ c.loop-i.invariant (omega arith) (c.from-b.result % 128) (omega arith))

pub overflow_add-result-in-loop-i : goal.overflow_add-result-in-loop-i
overflow_add-result-in-loop-i c =
    omega (arith, digit-fits _ _ _ _ _ c.loop-i.invariant (omega arith) (c.from-b.result % 128) (omega arith))

pub overflow_mul-weight : goal.overflow_mul-weight
overflow_mul-weight c = omega (arith, next_fits _ _ _ _ _ c.loop-i.invariant (omega arith))

pub loop-i-preserved : goal.loop-i-preserved
loop-i-preserved c =
    loop-more _ _ _ _ _ c.loop-i.invariant (omega arith) (omega arith) _ (word-of _ _ (omega arith) c.from-b.ensures (omega arith)) c.if-b-lt128.false

pub returns-then-data-ninth : goal.returns-then-data-ninth
returns-then-data-ninth c = loop-short _ _ _ _ _ c.loop-i.invariant (omega arith)

pub returns-then-b-ge128 : goal.returns-then-b-ge128
returns-then-b-ge128 c =
    let e : c.at_most-ninth.result ≡ c.loop-i.i = omega arith in
    let w = word-of _ _ c.if-data-ninth.false c.from-b-2.ensures (omega arith) in
    loop-long _ _ _ _ _ c.loop-i.invariant (omega arith) (omega arith) _ (rw e at w) c.if-b-ge128.true

pub overflow_mul-result-2 : goal.overflow_mul-result-2
overflow_mul-result-2 c = omega (arith, tenth-fits _ _ _ _ _ c.loop-i.invariant c.from-b-2.result)

pub overflow_add-result-2 : goal.overflow_add-result-2
overflow_add-result-2 c = omega (arith, tenth-fits _ _ _ _ _ c.loop-i.invariant c.from-b-2.result)

pub returns : goal.returns
returns c =
    let e : c.at_most-ninth.result ≡ c.loop-i.i = omega arith in
    let w = word-of _ _ c.if-data-ninth.false c.from-b-2.ensures (omega arith) in
    rw e
    (loop-tenth _ _ _ _ _ c.loop-i.invariant (omega arith) (omega arith) _ (rw e at w) c.if-b-ge128.false)
