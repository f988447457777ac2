-- `put_items` puts the numbers of an array: in its loop, what is left goes behind what was put. Assumes nothing.
use mathlib.Core.Path.{sym, ap, ◌∙◌}
use Prim.Native.Nat.{◌+◌, ◌*◌, ◌≤◌}
use native.Mathlib.Nat.{suc-mul}
use native.Mathlib.Numerals.{add-one}
use native.Mathlib.Omega.{arith}
use lib.ListN.{length}
use Rattle.encoding.proofs.LawsOut.{length-put}
use Rattle.encoding.proofs.LawsArray.{array-turn, array-done}
use Rattle.encoding.proofs.put_items.Goals as goal

pub loop-item-preserved : goal.loop-item-preserved
loop-item-preserved g c =
    let l = c.loop-item in
    let i = l.invariant in
    let a = c.args in
    let w = g.T.Item.WIDTH in
    let p = rw c.WIDTH.ensures at c.put_le.ensures in
    let e = c.bits.ensures ∙ ap g.T.Item.bits c.item-item.is in
    let r : a.at + length a.items.now * w ≤ length l.out = omega arith in
    rw c.WIDTH-next.ensures
    record {
      done = i.done ∙ array-turn w g.T.Item.bits _ _ _ a.at _ _ _ _ c.loop-item-test.true i.place r e p;
      place = rw add-one (omega (arith, suc-mul l.item-index w));
      same = ap length p ∙ length-put _ _ _ ∙ i.same;
    }

pub returns : goal.returns
returns g c =
    let i = c.loop-item.invariant in
    sym (i.done ∙ array-done g.T.Item.WIDTH g.T.Item.bits _ _ _ _ c.loop-item-test.false)
