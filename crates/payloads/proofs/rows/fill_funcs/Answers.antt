-- `fill_funcs` fills in row after row: whatever the rest of the rows fills in, all of them fill in. Assumes nothing.
use mathlib.Core.Path.{◌≡◌, refl, sym}
use Prim.Native.Nat.{◌+◌, ◌-◌, ◌≤◌, ◌<◌}
use native.Mathlib.Omega.{arith}
use Rattle.std.proofs.lemmas.Result.{err_from_is_err_and}
use Rattle.entries.proofs.LawsRows.{function-in}
use Rattle.payloads.proofs.LawsFilling.{times_none, times-stop, filling-none, filling-stop}
use Rattle.payloads.proofs.LawsRows.{func_words, func_runs, funcs-more, funcs-filled}
use Rattle.payloads.proofs.rows.fill_funcs.Goals as goal

pub loop-init : goal.loop-init
loop-init c =
    let z : c.args.count - 0 ≡ c.args.count = omega arith in
    rw z (record { onward = λ s p r x. x; inside = c.requires; words = omega arith; bytes = omega arith })

pub returns-in_err-row : goal.returns-in_err-row
returns-in_err-row c =
    let some : 0 < c.args.count - c.loop.counter = omega arith in
    let p = err_from_is_err_and c.from_residual.result c.from_residual.ensures.1 in
    rw (p.1, p.2)
    (funcs-filled _ _ _ _ _ _ _ _ _
    (c.loop.invariant.onward _ _ _
    (filling-stop func_words func_runs _ _ _ _ _ _ _ _ _ (times-stop _ _ _ _ _ _ some (sym (c.in_err-row.ensures 0))))))

pub slice_bounds-body-count : goal.slice_bounds-body-count
slice_bounds-body-count c = omega (arith, (function-in _ _ _ _ c.loop.invariant.inside (sym (c.in_ok-row.ensures 0))).1)

pub slice_bounds-body-start : goal.slice_bounds-body-start
slice_bounds-body-start c = omega (arith, (function-in _ _ _ _ c.loop.invariant.inside (sym (c.in_ok-row.ensures 0))).1)

pub slice_bounds-body-end : goal.slice_bounds-body-end
slice_bounds-body-end c = omega (arith, (function-in _ _ _ _ c.loop.invariant.inside (sym (c.in_ok-row.ensures 0))).2)

pub overflow_add-bytes : goal.overflow_add-bytes
overflow_add-bytes c =
    let q = function-in _ _ _ _ c.loop.invariant.inside (sym (c.in_ok-row.ensures 0)) in
    omega (arith, q.0, q.1, q.2)

pub loop-preserved : goal.loop-preserved
loop-preserved c =
    let l = c.loop.invariant in
    let m : c.args.count - (c.loop.counter + 1) ≡ c.args.count - c.loop.counter - 1 = omega arith in
    let some : 0 < c.args.count - c.loop.counter = omega arith in
    let t = sym (c.in_ok-row.ensures 0) in
    let q = function-in _ _ _ _ l.inside t in
    rw m
    (record {
      onward = λ s p r x. l.onward s p r (funcs-more _ _ _ _ _ _ _ _ _ _ _ _ _ _ _ l.inside some t c.put_func.ensures c.put_run.ensures x);
      inside = q.2;
      words = omega (arith, q.0, q.1);
      bytes = omega (arith, q.0, q.1);
    })

pub returns : goal.returns
returns c =
    let z : c.args.count - c.loop.counter ≤ 0 = omega arith in
    funcs-filled _ _ _ _ _ _ _ _ _
    (c.loop.invariant.onward _ _ _ (filling-none func_words func_runs _ _ _ _ _ _ _ _ _ (times_none _ _ _ _ z) refl refl))
