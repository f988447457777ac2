-- `find_body` passes over all functions, and keeps where the body asked for stands. Assumes nothing.
use mathlib.Core.Path.{◌≡◌, sym, ap}
use Prim.Native.Nat.{suc, ◌+◌, ◌-◌}
use native.Mathlib.Omega.{arith}
use Rattle.std.specs.Prelude.{Ok}
use Rattle.std.proofs.lemmas.Result.{err_from_is_err_and}
use Rattle.entries.specs.Places.{bodies_from}
use Rattle.entries.proofs.LawsRows.{function-in}
use Rattle.entries.proofs.LawsPlaces.{seek-none, seek_stop, seek-end, seek-here, seek-past, bodies-none, bodies-stop, bodies-more}
use Rattle.entries.proofs.places.find_body.Goals as goal
use Rattle.entries.proofs.places.find_body.Goals.{then-i-n, else-i-n}

pub loop-i-init : goal.loop-i-init
loop-i-init c =
    let z : c.args.count - 0 ≡ c.args.count = omega arith in
    (seek-none _ _ _ _ (λ o. ap (λ m. bodies_from o m c.args.payload.now c.args.first.pos) (sym z)), c.requires)

pub returns-in_err-row : goal.returns-in_err-row
returns-in_err-row c =
    let l = c.loop-i in
    let m : c.args.count - l.i ≡ suc (c.args.count - (l.i + 1)) = omega arith in
    let p = err_from_is_err_and c.from_residual.result c.from_residual.ensures.1 in
    rw (p.1, p.2)
    (seek_stop _ _ _ _ _ _ l.invariant.0 _ (bodies-stop _ _ _ _ _ _ m (λ o. sym (c.in_err-row.ensures o))))

pub overflow_sub-found : goal.overflow_sub-found
overflow_sub-found c =
    let l = c.loop-i.invariant in
    omega (arith, (function-in _ _ _ _ l.1 (sym (c.in_ok-row.ensures 0))).1)

pub loop-i-preserved : goal.loop-i-preserved
loop-i-preserved c =
    let l = c.loop-i in
    let m : c.args.count - l.i ≡ suc (c.args.count - (l.i + 1)) = omega arith in
    let q = function-in _ _ _ _ l.invariant.1 (sym (c.in_ok-row.ensures 0)) in
    let b = bodies-more _ _ _ _ _ _ m (λ o. sym (c.in_ok-row.ensures o)) in (
      elim c.if-i-n.branch [
        | then-i-n w ↦ seek-here _ _ _ _ _ _ l.invariant.0 _ _ _ b (sym w.if-i-n.true) _ (omega (arith, q.1)) _ (ap Ok w.found-is)
        | else-i-n w ↦ seek-past _ _ _ _ _ _ l.invariant.0 _ _ _ b (λ h. w.if-i-n.false (sym h)) _ (ap Ok w.found-is)
      ],
      q.2,
    )

pub returns : goal.returns
returns c =
    let l = c.loop-i in
    seek-end _ _ _ _ _ _ l.invariant.0 (bodies-none _ _ _ (omega arith))
