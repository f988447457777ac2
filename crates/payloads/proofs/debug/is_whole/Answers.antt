-- `is_whole` says yes only of an attribute that is read, since enough of its bytes end a number. Assumes nothing.
use Prim.Native.Nat.{◌+◌, ◌-◌, ◌≤◌, ◌<◌}
use native.Mathlib.Omega.{arith}
use lib.ListN.{get_or}
use Rattle.enums.specs.Debug.{field_counts}
use borrow.Author.Tests.{ltb-true}
use Rattle.payloads.proofs.LawsEnds.{entry_whole}
use Rattle.payloads.proofs.debug.is_whole.Goals as goal

pub returns : goal.returns
returns c e =
    let d = c.args.attribute.table.now in
    let a = c.args.attribute.start in
    let z = c.args.attribute.end in
    let n = ltb-true c.field_count.result c.ends_of.result e in
    let t : get_or d a 0 < 7 = omega (arith, c.if-tag-ge7.false) in
    let m : get_or field_counts (get_or d a 0) 0 < c.ends_of.result = omega (arith, n, c.field_count.ensures) in
    let w : z - a ≤ a + 11 - a = omega (arith, c.if-size-gt-WINDOW.false) in
    entry_whole d a z (a + 11 - a) c.args.attribute.some c.args.attribute.inside w t (c.ends_of.ensures _ m)
