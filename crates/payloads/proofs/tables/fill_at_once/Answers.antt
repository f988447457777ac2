-- `fill_at_once` passes over the entries with no pool and puts them by one copy; or with the pool. Assumes nothing.
use native.Mathlib.Omega.{arith}
use Rattle.std.proofs.lemmas.Result.{err_from_is_err_and}
use Rattle.entries.proofs.LawsStarts.{wide-some}
use Rattle.payloads.proofs.LawsFill.{fills-none}
use Rattle.payloads.proofs.LawsTables.{front-inside, put-at-once}
use Rattle.payloads.proofs.tables.fill_at_once.Goals as goal

pub slice_bounds-put_run-count : goal.slice_bounds-put_run-count
slice_bounds-put_run-count c =
    omega (arith, front-inside _ _ _ (wide-some c.args.width) c.requires _ _ c.first_entry-front.ensures _ c.in_ok-rows.ensures)

pub slice_bounds-put_run-start : goal.slice_bounds-put_run-start
slice_bounds-put_run-start c =
    omega (arith, front-inside _ _ _ (wide-some c.args.width) c.requires _ _ c.first_entry-front.ensures _ c.in_ok-rows.ensures)

pub slice_bounds-put_run-end : goal.slice_bounds-put_run-end
slice_bounds-put_run-end c =
    omega (arith, front-inside _ _ _ (wide-some c.args.width) c.requires _ _ c.first_entry-front.ensures _ c.in_ok-rows.ensures)

pub returns-in_err-rows : goal.returns-in_err-rows
returns-in_err-rows c =
    let p = err_from_is_err_and c.from_residual.result c.from_residual.ensures.1 in
    rw (p.1, p.2) (fills-none _ c.in_err-rows.ensures)

pub returns : goal.returns
returns c =
    put-at-once _ _ _ (wide-some c.args.width) c.requires _ _ c.first_entry-front.ensures _
    c.fill_entries-2.new.pool _ _ c.fill_entries-2.auto.pool
    c.if-pool-part.false c.if-pool-part-2.false c.in_ok-rows.ensures c.put_run.ensures
