-- `judged` judges a buffer's length and an owner table, and finds the row of an instance. Assumes nothing.
use native.Mathlib.Omega.{arith}
use Rattle.cache.proofs.LawsJudged.{whole-size, judged-rows, no-multiple}
use Rattle.cache.proofs.judged.Goals as goal

pub returns-then-slots-eq0 : goal.returns-then-slots-eq0
returns-then-slots-eq0 c = λ b e g. omega (arith, g.slots, c.if-slots-eq0.true)

pub overflow_mul-size : goal.overflow_mul-size
overflow_mul-size c = omega (arith, whole-size _ _ _ c.requires)

pub returns-then-size-slots : goal.returns-then-size-slots
returns-then-size-slots c = λ b e. no-multiple _ _ _ _ b c.requires c.if-size-slots.true e

pub returns-then-owners-ne0 : goal.returns-then-owners-ne0
returns-then-owners-ne0 c = λ b e g. c.if-owners-ne0.true (omega (arith, g.owners))

pub returns-then-owners-slots : goal.returns-then-owners-slots
returns-then-owners-slots c = λ b e g. c.if-owners-slots.true (omega (arith, g.owners))

pub returns : goal.returns
returns c =
    let a = c.args in
    judged-rows _ _ _ a.instance a.owners.now c.held_row.result (omega (arith, c.if-slots-eq0.false)) c.requires c.if-size-slots.false
    c.if-owners-ne0.false c.if-owners-slots.false c.held_row.ensures
