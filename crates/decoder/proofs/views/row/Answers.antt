-- `row` judges the whole file first, and answers the place of the row asked for. Assumes nothing.
use mathlib.Core.Path.{ap, sym, ◌∙◌}
use native.Mathlib.Omega.{arith}
use borrow.Author.Rules.{rules}
use Rattle.std.specs.Prelude.{Ok}
use Rattle.std.proofs.lemmas.Result.{err_from_is_err_and}
use Rattle.decoder.proofs.LawsRowViews.{view-refused, view-missing, asked, payload-inside, view-judged, view-absent, view-found, row_inside, row-post}
use Rattle.decoder.proofs.views.row.Goals as goal

pub returns-in_err-measure : goal.returns-in_err-measure
returns-in_err-measure g c =
    let p = err_from_is_err_and c.from_residual.result c.from_residual.ensures.1 in
    row-post c.args.section _ _ _ (rw (p.1, p.2) (view-refused _ _ _ _ _ _ c.in_err-measure.ensures.answer))

pub returns-in_err-payload : goal.returns-in_err-payload
returns-in_err-payload g c =
    let r = c.from_residual-in_err-payload in
    let p = err_from_is_err_and r.result r.ensures.1 in
    let missing =
    view-missing _ c.args.section _ _ _ _ c.in_ok-measure.ensures.answer c.id.ensures c.in_err-payload.ensures.answer in
    row-post c.args.section _ _ _ (rw (p.1, p.2) missing)

pub overflow_add-end : goal.overflow_add-end
overflow_add-end g c =
    let a = asked _ c.args.section _ c.in_ok-measure.ensures.answer c.id.ensures c.in_ok-payload.ensures.answer in
    omega (arith, payload-inside a)

pub slice_bounds-find-end : goal.slice_bounds-find-end
slice_bounds-find-end g c =
    let a = asked _ c.args.section _ c.in_ok-measure.ensures.answer c.id.ensures c.in_ok-payload.ensures.answer in
    let h = payload-inside a in
    search rules

pub overflow_add-result : goal.overflow_add-result
overflow_add-result g c =
    let a = asked _ c.args.section _ c.in_ok-measure.ensures.answer c.id.ensures c.in_ok-payload.ensures.answer in
    let e = c.in-Ok-Some.is ∙ ap Ok c.in-Ok-Some.field-0-is in
    omega (arith, row_inside a _ _ (c.requires.finds _ _ c.find.ensures) _ e)

pub unreachable-requires : goal.unreachable-requires
unreachable-requires g c =
    let a = asked _ c.args.section _ c.in_ok-measure.ensures.answer c.id.ensures c.in_ok-payload.ensures.answer in
    view-judged a _ _ (c.requires.finds _ _ c.find.ensures) _ c.in-Err.is

pub returns-in-Ok-Some : goal.returns-in-Ok-Some
returns-in-Ok-Some g c =
    let a = asked _ c.args.section _ c.in_ok-measure.ensures.answer c.id.ensures c.in_ok-payload.ensures.answer in
    let e = c.in-Ok-Some.is ∙ ap Ok c.in-Ok-Some.field-0-is in
    row-post c.args.section _ _ _ (view-found a _ _ (c.requires.finds _ _ c.find.ensures) _ e)

pub returns-in-Ok-None : goal.returns-in-Ok-None
returns-in-Ok-None g c =
    let a = asked _ c.args.section _ c.in_ok-measure.ensures.answer c.id.ensures c.in_ok-payload.ensures.answer in
    let e = c.in-Ok-None.is ∙ ap Ok c.in-Ok-None.field-0-is in
    let absent = view-absent a _ _ (c.requires.finds _ _ c.find.ensures) e in
    row-post c.args.section _ _ _ (rw c.call.ensures (sym absent))
