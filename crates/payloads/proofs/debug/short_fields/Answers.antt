-- `short_fields` turns six times: what it has found and what is left make up the whole (`Going`). Assumes nothing.
use mathlib.Core.Path.{refl}
use Prim.Native.Nat.{◌+◌, ◌<◌}
use native.Mathlib.Omega.{arith}
use lib.ListN.{get_or}
use Rattle.payloads.proofs.LawsShorts.{high_small, going-begun, going-over, going_more, going-past}
use Rattle.payloads.proofs.debug.short_fields.Goals as goal
use Rattle.payloads.proofs.debug.short_fields.Goals.{then-k-count, else-k-count}

pub loop-k-init : goal.loop-k-init
loop-k-init c = going-begun _ _ _ _ refl

pub bounds-data-end : goal.bounds-data-end
bounds-data-end c = omega (arith, c.loop-k.invariant.near)

pub overflow_add-second : goal.overflow_add-second
overflow_add-second c = omega (arith, c.loop-k.invariant.near)

pub bounds-data-end-in-loop-k : goal.bounds-data-end-in-loop-k
bounds-data-end-in-loop-k c = omega (arith, c.loop-k.invariant.near)

pub overflow_add-long : goal.overflow_add-long
overflow_add-long c =
    let l = c.loop-k in
    omega (arith, l.invariant.few, (high_small c.args.«data».now l.end (omega (arith, c.type_inv.data l.end)) (omega (arith, c.type_inv.data (l.end + 1)))).1)

pub overflow_add-end-then-k-count : goal.overflow_add-end-then-k-count
overflow_add-end-then-k-count c =
    let l = c.loop-k in
    omega (arith, l.invariant.near, c.type_inv.data l.end)

pub loop-k-preserved : goal.loop-k-preserved
loop-k-preserved c =
    let l = c.loop-k in
    let more = c.loop-k-test.true in
    let first : get_or c.args.«data».now l.end 0 < 256 = omega (arith, c.type_inv.data l.end) in
    let second : get_or c.args.«data».now (l.end + 1) 0 < 256 = omega (arith, c.type_inv.data (l.end + 1)) in
    elim c.if-k-count.branch [
      | then-k-count w ↦
          going_more _ _ _ _ _ _ _ l.invariant _ _ _ more first second w.if-k-count.true w.end-is w.long-is w.value-is
      | else-k-count w ↦ going-past _ _ _ _ _ _ _ l.invariant _ _ _ more w.if-k-count.false w.end-is w.long-is w.value-is
    ]

pub returns : goal.returns
returns c = going-over _ _ _ _ _ _ _ c.loop-k.invariant c.loop-k-test.false
