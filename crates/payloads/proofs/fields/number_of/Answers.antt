-- `number_of` takes the highest byte first: after each turn it has the number that the bytes from there on are.
-- Assumes nothing.
use Prim.Native.Nat.{◌-◌}
use native.Mathlib.Omega.{arith}
use Rattle.payloads.proofs.LawsArrays.{tail-end, tail-next, tail-fits, tail-room, tail_all}
use Rattle.payloads.proofs.fields.number_of.Goals as goal

pub loop-i-init : goal.loop-i-init
loop-i-init c = tail-end _

pub overflow_mul-value : goal.overflow_mul-value
overflow_mul-value c = omega (arith, tail-room _ _ _ c.loop-i.invariant c.requires c.loop-i-test.true)

pub overflow_add-value : goal.overflow_add-value
overflow_add-value c =
    let next = tail-next _ _ _ c.loop-i.invariant c.loop-i-test.true (omega (arith, c.type_inv.run (c.loop-i.i - 1))) in
    omega (arith, tail-fits _ _ _ next c.requires, c.from.ensures)

pub loop-i-preserved : goal.loop-i-preserved
loop-i-preserved c =
    rw c.from.ensures
    (tail-next _ _ _ c.loop-i.invariant c.loop-i-test.true (omega (arith, c.type_inv.run (c.loop-i.i - 1))))

pub returns : goal.returns
returns c = tail_all _ _ _ c.loop-i.invariant c.loop-i-test.false
