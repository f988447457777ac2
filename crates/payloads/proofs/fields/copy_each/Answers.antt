-- `copy_each` copies as many varints as are asked for: whatever copying the rest leaves, copying them all leaves it.
-- Assumes nothing.
use mathlib.Core.Path.{◌≡◌, refl, ap}
use Prim.Native.Nat.{suc, ◌+◌, ◌-◌}
use native.Mathlib.Nat.{sub-zero}
use native.Mathlib.Omega.{arith}
use Rattle.std.proofs.lemmas.Result.{err_from_is_err_and}
use Rattle.payloads.specs.declared.fields.Number.TheVariants.{Varint}
use Rattle.payloads.specs.Fields.{number_at}
use Rattle.payloads.proofs.LawsFields.{number_in, numbers-done, numbers-stop, numbers_more}
use Rattle.payloads.proofs.fields.copy_each.Goals as goal

pub loop-init : goal.loop-init
loop-init c = (λ s r x. rw sub-zero at x, c.requires.0, omega arith)

pub returns-in_err-value : goal.returns-in_err-value
unfolding number_at
returns-in_err-value c =
    let l = c.loop.invariant in
    let m : c.args.count - c.loop.counter ≡ suc (c.args.count - (c.loop.counter + 1)) = omega (arith, c.loop-test.true) in
    let p = err_from_is_err_and c.from_residual.result c.from_residual.ensures.1 in
    rw (p.1, p.2) (l.0 _ _ (numbers-stop _ Varint _ _ c.loop.next l.1 _ _ _ _ m c.in_err-value.ensures))

pub loop-preserved : goal.loop-preserved
unfolding number_at
loop-preserved c =
    let l = c.loop.invariant in
    let m : c.args.count - c.loop.counter ≡ suc (c.args.count - (c.loop.counter + 1)) = omega (arith, c.loop-test.true) in
    let p = c.put_value-next.ensures in
    let n = number_in Varint _ _ _ _ c.in_ok-value.ensures in
    let a = ap (λ t. t.pos) p.value in
    let b = ap (λ t. t.word) p.value in (
      λ s r x. l.0 s r (numbers_more _ Varint _ _ _ _ _ _ _ _ _ _ c.loop.next _ m c.in_ok-value.ensures p.sheet_after p.value x),
      omega (arith, n.1),
      omega (arith, l.2, n.0),
    )

pub put_value-next-requires : goal.put_value-next-requires
put_value-next-requires c =
    let l = c.loop.invariant in omega (arith, l.1, l.2, c.requires.1)

pub returns : goal.returns
returns c =
    let l = c.loop.invariant in
    l.0 _ _ (numbers-done _ _ _ _ c.loop.next l.1 _ _ _ (omega (arith, c.loop-test.false)) refl refl)
