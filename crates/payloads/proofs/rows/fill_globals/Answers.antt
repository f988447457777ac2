-- `fill_globals` fills in row after row: whatever the rest of the rows fills in, all of them fill in. Assumes nothing.
use mathlib.Core.Path.{◌≡◌, refl, sym}
use Prim.Native.Nat.{◌+◌, ◌-◌, ◌≤◌, ◌<◌}
use native.Mathlib.Omega.{arith}
use Rattle.std.proofs.lemmas.Result.{err_from_is_err_and}
use Rattle.format.specs.Sheet.{global_words}
use Rattle.entries.proofs.LawsRows.{global-in}
use Rattle.payloads.proofs.LawsFilling.{times_none, times-stop, filling-none, filling-stop}
use Rattle.payloads.proofs.LawsRows.{no_runs, globals-more, globals-filled}
use Rattle.payloads.proofs.rows.fill_globals.Goals as goal

pub loop-init : goal.loop-init
loop-init c =
    let z : c.args.count - 0 ≡ c.args.count = omega arith in
    rw z (record { onward = λ s p r x. x; inside = c.requires; words = omega arith })

pub returns-in_err-row : goal.returns-in_err-row
returns-in_err-row c =
    let some : 0 < c.args.count - c.loop.counter = omega arith in
    let p = err_from_is_err_and c.from_residual.result c.from_residual.ensures.1 in
    rw (p.1, p.2)
    (λ pool. globals-filled _ _ _ _ _ _ _ _ _ _
    (c.loop.invariant.onward _ pool _
    (filling-stop global_words no_runs _ _ _ _ _ _ _ _ _ (times-stop _ _ _ _ _ _ some (sym c.in_err-row.ensures)))))

pub loop-preserved : goal.loop-preserved
loop-preserved c =
    let l = c.loop.invariant in
    let m : c.args.count - (c.loop.counter + 1) ≡ c.args.count - c.loop.counter - 1 = omega arith in
    let some : 0 < c.args.count - c.loop.counter = omega arith in
    let t = sym c.in_ok-row.ensures in
    let n = global-in _ _ _ _ _ l.inside t in
    rw m
    (record {
      onward = λ s p r x. l.onward s p r (globals-more _ _ _ _ _ _ _ _ _ _ _ _ _ _ some t c.put_global.ensures x);
      inside = n.1;
      words = omega (arith, n.0);
    })

pub returns : goal.returns
returns c =
    let z : c.args.count - c.loop.counter ≤ 0 = omega arith in
    λ pool. globals-filled _ _ _ _ _ _ _ _ _ _
    (c.loop.invariant.onward _ pool _ (filling-none global_words no_runs _ _ _ _ _ _ _ _ _ (times_none _ _ _ _ z) refl refl))
