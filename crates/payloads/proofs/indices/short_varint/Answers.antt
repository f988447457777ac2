-- `short_varint` is the varint whose width is known. Assumes nothing.
use Rattle.payloads.proofs.LawsIndices.{spans-one, spans-two}
use Rattle.payloads.proofs.indices.short_varint.Goals as goal

pub returns-then-width-eq1 : goal.returns-then-width-eq1
returns-then-width-eq1 c = rw c.from-first.ensures (spans-one _ _ _ c.requires c.if-width-eq1.true)

pub returns : goal.returns
returns c = rw (c.from-first.ensures, c.from.ensures) (spans-two _ _ _ c.requires c.if-width-eq1.false)
