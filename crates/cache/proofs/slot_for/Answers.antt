-- `slot_for` is the row that the instance has, else the first free one. Assumes nothing.
use native.Mathlib.Omega.{arith}
use Rattle.cache.proofs.LawsJudged.{for-own, for-free}
use Rattle.cache.proofs.slot_for.Goals as goal

pub returns-then-held-slots : goal.returns-then-held-slots
returns-then-held-slots c = λ i x. for-own _ _ _ _ x c.if-held-slots.true

pub returns : goal.returns
returns c = λ i x. for-free _ _ _ _ _ x c.if-held-slots.false c.free_row.ensures (omega (arith, c.requires))
