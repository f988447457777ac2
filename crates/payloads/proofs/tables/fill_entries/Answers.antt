-- `fill_entries` puts entry after entry: whatever the rest of them fills in, all of them fill in. Assumes nothing.
use mathlib.Core.Path.{◌≡◌, refl, sym}
use Prim.Native.Nat.{suc, ◌+◌, ◌-◌, ◌≤◌}
use native.Mathlib.Omega.{arith}
use Rattle.std.proofs.lemmas.Result.{err_from_is_err_and}
use Rattle.entries.proofs.LawsStarts.{wide-some, end-got}
use Rattle.entries.proofs.LawsEntries.{rest-length, starts-few, run-first, before-next, left-none, left-bad}
use Rattle.payloads.proofs.LawsFilling.{filling-none, filling-stop}
use Rattle.payloads.proofs.LawsTables.{run_words, run_only, runs-more, runs-filled}
use Rattle.payloads.proofs.tables.fill_entries.Goals as goal

pub loop-init : goal.loop-init
loop-init c =
    let (b, a) = run-first _ _ _ _ (wide-some c.args.width) c.requires _ _ c.first_entry-from.ensures in
    let z : c.args.starts.count - 0 ≡ c.args.starts.count = omega arith in
    rw z (record { onward = λ t p r x. x; before = b; words = omega arith; bytes = omega arith })

pub returns-in_err-next : goal.returns-in_err-next
returns-in_err-next c =
    let l = c.loop.invariant in
    let some = wide-some c.args.width in
    let m : c.args.starts.count - c.loop.counter ≡ suc (c.args.starts.count - (c.loop.counter + 1)) = omega arith in
    let p = err_from_is_err_and c.from_residual.result c.from_residual.ensures.1 in
    rw (p.1, p.2)
    (runs-filled _ _ _ some c.requires _ _ c.first_entry-from.ensures _ _ _ _ _ _
    (l.onward _ _ _ (filling-stop run_words run_only _ _ _ _ _ _ _ _ _ (left-bad _ _ _ _ _ _ _ some _ refl _ _ _ _ m l.before _ _ (sym c.in_err-next.ensures)))))

pub slice_bounds-entry-count : goal.slice_bounds-entry-count
slice_bounds-entry-count c = omega (arith, (end-got _ _ _ _ _ _ _ _ (sym c.in_ok-next.ensures)).1)

pub slice_bounds-entry-start : goal.slice_bounds-entry-start
slice_bounds-entry-start c = omega (arith, (end-got _ _ _ _ _ _ _ _ (sym c.in_ok-next.ensures)).1)

pub slice_bounds-entry-end : goal.slice_bounds-entry-end
slice_bounds-entry-end c = (end-got _ _ _ _ _ _ _ _ (sym c.in_ok-next.ensures)).2

pub overflow_add-bytes : goal.overflow_add-bytes
overflow_add-bytes c =
    let (f, g, h) = end-got _ _ _ _ _ _ _ _ (sym c.in_ok-next.ensures) in
    omega (arith, g, h, rest-length c.args.part.payload.now c.args.starts)

pub overflow_add-words : goal.overflow_add-words
overflow_add-words c = omega (arith, starts-few _ _ _ (wide-some c.args.width) c.requires)

pub loop-preserved : goal.loop-preserved
loop-preserved c =
    let l = c.loop.invariant in
    let some = wide-some c.args.width in
    let m : c.args.starts.count - c.loop.counter ≡ suc (c.args.starts.count - (c.loop.counter + 1)) = omega arith in
    let e = sym c.in_ok-next.ensures in
    let (f, g, h) = end-got _ _ _ _ _ _ _ _ e in
    record {
      onward = λ t p r x. l.onward t p r (runs-more _ _ _ _ _ some _ _ _ _ m l.before _ _ e _ _ _ _ _ _ _ _ _ _ c.put_word.ensures c.put_run.ensures x);
      before = (before-next _ _ _ some _ _ _ _ _ _ m l.before f).0;
      words = omega arith;
      bytes = omega (arith, g);
    }

pub returns : goal.returns
returns c =
    let z : c.args.starts.count - c.loop.counter ≤ 0 = omega arith in
    runs-filled _ _ _ (wide-some c.args.width) c.requires _ _ c.first_entry-from.ensures _ _ _ _ _ _
    (c.loop.invariant.onward _ _ _ (filling-none run_words run_only _ _ _ _ _ _ _ _ _ (left-none _ _ _ _ _ _ _ _ _ _ z) refl refl))
