-- `judge_rows` goes from row to row: all rows end where those from here on end. Assumes nothing.
use mathlib.Core.Path.{◌≡◌}
use Prim.Native.Nat.{◌+◌, ◌-◌}
use native.Mathlib.Omega.{arith}
use Rattle.judge.proofs.LawsTables.{rows_more}
use Rattle.judge.proofs.rows.judge_rows.Goals as goal

pub returns-in_err-at : goal.returns-in_err-at
returns-in_err-at g c step does =
    let e : c.args.count - c.loop.counter ≡ c.args.count - (c.loop.counter + 1) + 1 = omega arith in
    let d = does c.loop.at c.judge_row.result c.judge_row.ensures in
    rw (rows_more _ _ _ _ e, ← d, c.in_err-at.was, ← c.from_residual.ensures) at (c.loop.invariant step does)

pub loop-preserved : goal.loop-preserved
loop-preserved g c step does =
    let e : c.args.count - c.loop.counter ≡ c.args.count - (c.loop.counter + 1) + 1 = omega arith in
    let d = does c.loop.at c.judge_row.result c.judge_row.ensures in
    rw (rows_more _ _ _ _ e, ← d, c.in_ok-at.was) at (c.loop.invariant step does)
