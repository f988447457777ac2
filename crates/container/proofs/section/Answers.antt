-- `section` answers the payload that counts, and so keeps its promise. Assumes nothing.
use mathlib.Core.Path.{ap, ◌∙◌}
use lib.ListN.{get_or}
use borrow.Author.Tests.{not-true, not-false}
use Rattle.std.proofs.lemmas.Result.{err_from_is_err_and}
use Rattle.container.specs.Container.{nowhere}
use Rattle.container.proofs.LawsOpened.{held-stop, held-passed}
use Rattle.container.proofs.LawsViews.{view-refused, view-there, view-absent, section-post}
use Rattle.container.proofs.section.Goals as goal

pub returns-in_err-container : goal.returns-in_err-container
returns-in_err-container c =
    let p = err_from_is_err_and c.from_residual.result c.from_residual.ensures.1 in
    let refused = held-stop _ _ _ _ c.in_err-container.ensures in
    section-post _ _ _ (rw (p.1, p.2) (view-refused _ _ _ _ _ refused))

pub returns-then-not-place : goal.returns-then-not-place
returns-then-not-place c =
    let (x, o, held) = held-passed _ _ c.in_ok-container.ensures in
    let place = c.get-place.ensures ∙ ap (λ z. get_or z.sections.places c.args.id nowhere) held in
    section-post _ _ _ (rw c.call.ensures (view-absent _ _ x o _ place (not-true _ c.if-not-place.true)))

pub returns : goal.returns
returns c =
    let (x, o, held) = held-passed _ _ c.in_ok-container.ensures in
    let place = c.get-place.ensures ∙ ap (λ z. get_or z.sections.places c.args.id nowhere) held in
    section-post _ _ _ (view-there _ _ x o _ place (not-false _ c.if-not-place.false))
