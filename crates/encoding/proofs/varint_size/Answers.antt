-- `varint_size` counts the digits of the shortest spelling by its highest bit. Assumes nothing.
use mathlib.Core.Path.{sym}
use Rattle.encoding.proofs.LawsVarint.{spelling-size-last, spelling-log}
use Rattle.encoding.proofs.varint_size.Goals as goal

pub returns-then-value-lt128 : goal.returns-then-value-lt128
returns-then-value-lt128 c = sym (spelling-size-last _ c.if-value-lt128.true)

pub returns : goal.returns
returns c = let e = c.ilog2.ensures in sym (spelling-log _ _ e.bound e.power_le e.next_power_gt)
