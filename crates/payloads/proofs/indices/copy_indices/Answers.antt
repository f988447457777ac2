-- `copy_indices` copies as many varints as their count says: whatever copying the rest leaves, copying them all leaves it.
-- Assumes nothing.
use native.Mathlib.Omega.{arith}
use Rattle.std.proofs.lemmas.Result.{err_from_is_err_and}
use Rattle.payloads.specs.declared.fields.Number.TheVariants.{Varint}
use Rattle.payloads.proofs.LawsFields.{list-then}
use Rattle.payloads.proofs.LawsIndices.{some-value, some-got, some-stop, some-all}
use Rattle.payloads.proofs.indices.copy_indices.Goals as goal

pub returns-in_err-next : goal.returns-in_err-next
returns-in_err-next c =
    let l = c.loop-left.invariant in
    let t = c.loop-left-test.true in
    let b = c.in_err-next.ensures in
    let p = err_from_is_err_and c.from_residual-in_err-next.result c.from_residual-in_err-next.ensures.1 in
    rw (p.1, p.2) (list-then Varint c.in_ok-count.ensures (l.0 _ _ (some-stop Varint _ _ _ b.step (omega (arith, b.most)))))

pub overflow_sub-left : goal.overflow_sub-left
overflow_sub-left c =
    let t = c.loop-left-test.true in
    let b = c.in_ok-next.ensures in
    omega (arith, b.most, some-value Varint b.step)

pub loop-left-smaller : goal.loop-left-smaller
loop-left-smaller c =
    let t = c.loop-left-test.true in
    let b = c.in_ok-next.ensures in
    omega (arith, b.some, some-value Varint b.step)

pub loop-left-preserved : goal.loop-left-preserved
loop-left-preserved c =
    let l = c.loop-left.invariant in
    let t = c.loop-left-test.true in
    let b = c.in_ok-next.ensures in (
      λ s r x. l.0 s r (some-got Varint _ _ _ _ b.step (omega (arith, b.most)) x),
      b.step.within.0,
      omega (arith, l.2, b.step.within.1),
    )

pub returns-in_err-last : goal.returns-in_err-last
returns-in_err-last c =
    let l = c.loop-left.invariant in
    let p = err_from_is_err_and c.from_residual-in_err-last.result c.from_residual-in_err-last.ensures.1 in
    rw (p.1, p.2) (list-then Varint c.in_ok-count.ensures (l.0 _ _ (some-stop Varint _ _ _ c.in_err-last.ensures (omega arith))))

pub returns : goal.returns
returns c =
    let l = c.loop-left.invariant in
    list-then Varint c.in_ok-count.ensures (l.0 _ _ (some-all Varint _ _ c.in_ok-last.ensures))
