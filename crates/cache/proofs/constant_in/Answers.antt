-- `constant_in` views a constant of a file in the buffer, at its place there. Assumes nothing.
use mathlib.Core.Path.{ap}
use native.Mathlib.Omega.{arith}
use Rattle.std.proofs.lemmas.Result.{err_from_is_err_and}
use Rattle.format.specs.Read.{map_read}
use Rattle.container.specs.Views.{view_of}
use Rattle.cache.proofs.LawsFetch.{view-placed, view-begins}
use Rattle.cache.proofs.constant_in.Goals as goal

pub overflow_add-result : goal.overflow_add-result
overflow_add-result c =
    let v = c.constant.ensures.sound _ (ap view_of c.in_ok-view.was) in
    omega (arith, view-begins c.args.cache.now c.args.start c.args.len _ _ v c.requires)

pub returns-in_err-view : goal.returns-in_err-view
unfolding map_read
returns-in_err-view c =
    let a = c.args in
    let p = err_from_is_err_and c.from_residual.result c.from_residual.ensures.1 in
    rw (p.1, p.2)
    (view-placed a.cache.now a.start a.len a.index _ _ c.in_err-view.was c.constant.ensures.answer)

pub returns : goal.returns
unfolding map_read
returns c =
    let a = c.args in
    view-placed a.cache.now a.start a.len a.index _ _ c.in_ok-view.was c.constant.ensures.answer
