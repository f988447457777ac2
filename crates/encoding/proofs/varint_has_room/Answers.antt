-- `varint_has_room` answers whether the shortest spelling has room. Assumes nothing.
use mathlib.Core.Path.{sym}
use native.Mathlib.Omega.{arith}
use Rattle.encoding.proofs.LawsTells.{tells-yes, tells-some}
use Rattle.encoding.proofs.LawsVarint.{spelling-ten}
use Rattle.encoding.proofs.varint_has_room.Goals as goal

pub returns-then-is_some : goal.returns-then-is_some
returns-then-is_some c =
    let h = (tells-some _ c.end_of.result c.end_of.ensures).holds (sym c.if-is_some.ensures) in
    rw c.if-is_some.true (tells-yes (omega (arith, spelling-ten c.args.value)))
