-- `going_on` counts the top bits that are set: what is counted and what is left are all of them. Assumes nothing.
use mathlib.Core.Path.{◌≡◌, ap}
use Prim.Native.Nat.{suc, ◌+◌, ◌*◌, ◌-◌}
use native.Mathlib.Omega.{arith}
use native.Mathlib.Nat.{add-mul}
use Rattle.payloads.specs.Indices.{tops}
use Rattle.payloads.proofs.LawsIndices.{tops-none, tops_next}
use Rattle.payloads.proofs.indices.going_on.Goals as goal

pub loop-i-preserved : goal.loop-i-preserved
loop-i-preserved c =
    let l = c.loop-i in
    let a = c.args in
    let m : a.count - l.i ≡ suc (a.count - (l.i + 1)) = omega (arith, c.loop-i-test.true) in
    let e = tops_next a.step a.entry.now (a.from + l.i * a.step) _ _ m in
    let p : a.from + l.i * a.step + a.step ≡ a.from + (l.i + 1) * a.step = omega (arith, add-mul l.i 1 a.step) in
    let q = ap (tops a.step (a.count - (l.i + 1)) a.entry.now) p in
    (omega (arith, l.invariant.0, e, q), omega (arith, l.invariant.1, c.type_inv.entry (a.from + l.i * a.step)))

pub returns : goal.returns
returns c =
    let l = c.loop-i in
    omega (arith, l.invariant.0, tops-none c.args.step c.args.entry.now (c.args.from + l.i * c.args.step) (c.args.count - l.i) (omega (arith, c.loop-i-test.false)), c.from.ensures)
