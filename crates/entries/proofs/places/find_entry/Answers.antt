-- `find_entry` judges the bounds of all entries, and keeps where the entry asked for stands. Assumes nothing.
use mathlib.Core.Path.{◌≡◌, sym, ap}
use Prim.Native.Nat.{suc, ◌+◌, ◌-◌, ◌≤◌}
use native.Mathlib.Omega.{arith}
use lib.ListN.{drop, length-drop}
use lib.Seq.{length-slice}
use Rattle.std.specs.Prelude.{Ok}
use Rattle.std.proofs.lemmas.Result.{err_from_is_err_and}
use Rattle.entries.proofs.LawsStarts.{wide-some, end-got}
use Rattle.entries.proofs.LawsEntries.{before-next}
use Rattle.entries.proofs.LawsPlaces.{seek-entries, seek_stop, seek-end, seek-here, seek-past, rows_none, rows-bad, rows-good}
use Rattle.entries.proofs.places.find_entry.Goals as goal
use Rattle.entries.proofs.places.find_entry.Goals.{then-i-n, else-i-n}

pub loop-i-init : goal.loop-i-init
loop-i-init c =
    let z : c.args.starts.count ≡ c.args.starts.count - 0 = omega arith in
    let (b, k) = seek-entries _ _ _ c.args.n c.args.starts (wide-some c.args.width) c.requires _ _ _ c.first_entry-from.ensures z in
    (b, k)

pub returns-in_err-next : goal.returns-in_err-next
returns-in_err-next c =
    let l = c.loop-i in
    let m : c.args.starts.count - l.i ≡ suc (c.args.starts.count - (l.i + 1)) = omega arith in
    let p = err_from_is_err_and c.from_residual.result c.from_residual.ensures.1 in
    rw (p.1, p.2)
    (seek_stop _ _ _ _ _ _ l.invariant.1 _
    (rows-bad _ _ _ _ (wide-some c.args.width) _ (sym (length-drop c.args.starts.«data» c.args.payload.now)) _ _ _ _ m l.invariant.0 _ _ (sym c.in_err-next.ensures)))

pub overflow_add-found : goal.overflow_add-found
overflow_add-found c =
    let e = sym c.in_ok-next.ensures in
    let (f, g, h) = end-got _ _ _ _ _ _ _ _ e in
    omega (arith, c.requires.inside)

pub overflow_sub-found : goal.overflow_sub-found
overflow_sub-found c =
    let e = sym c.in_ok-next.ensures in
    let (f, g, h) = end-got _ _ _ _ _ _ _ _ e in
    omega arith

pub loop-i-preserved : goal.loop-i-preserved
loop-i-preserved c =
    let l = c.loop-i in
    let some = wide-some c.args.width in
    let m : c.args.starts.count - l.i ≡ suc (c.args.starts.count - (l.i + 1)) = omega arith in
    let e = sym c.in_ok-next.ensures in
    let (f, g, h) = end-got _ _ _ _ _ _ _ _ e in
    let d = length-drop c.args.starts.«data» c.args.payload.now in
    let end = c.in_ok-next.next.start.0 in
    let x = length-slice l.from.start.0 end (drop c.args.starts.«data» c.args.payload.now) (omega arith) in
    let r = rows-good _ _ _ _ some _ (sym d) _ _ _ _ m l.invariant.0 _ _ e in (
      (before-next _ _ _ some _ _ _ _ _ _ m l.invariant.0 f).0,
      elim c.if-i-n.branch [
        | then-i-n w ↦ seek-here _ _ _ _ _ _ l.invariant.1 _ _ _ r (sym w.if-i-n.true) _ (sym x) _ (ap Ok w.found-is)
        | else-i-n w ↦ seek-past _ _ _ _ _ _ l.invariant.1 _ _ _ r (λ h. w.if-i-n.false (sym h)) _ (ap Ok w.found-is)
      ],
    )

pub returns : goal.returns
returns c =
    let l = c.loop-i in
    let z : c.args.starts.count - l.i ≤ 0 = omega arith in
    seek-end _ _ _ _ _ _ l.invariant.1 (rows_none _ _ _ _ _ _ _ z)
