-- `read_sections` walks from section to section (`Walk`); what is left falls with each. Assumes nothing.
use mathlib.Core.Path.{ap}
use Rattle.container.proofs.LawsWalk.{walk_start, walk_refused, walk-ended, walk-less, walk-on}
use Rattle.container.proofs.sections.read_sections.Goals as goal

pub loop-x-init : goal.loop-x-init
loop-x-init c = walk_start _ _ _ (ap (λ q. q.places) c.new-sections.ensures)

pub loop-x-smaller : goal.loop-x-smaller
loop-x-smaller c =
    let met = rw c.in-Ok-Some-default.field-0-0-is at c.in-Ok-Some-default.ensures in
    walk-less c.loop-x.invariant _ _ met

pub loop-x-preserved : goal.loop-x-preserved
loop-x-preserved c =
    let met = rw c.in-Ok-Some-default.field-0-0-is at c.in-Ok-Some-default.ensures in
    walk-on c.loop-x.invariant _ _ met _ c.insert-sections.ensures

pub returns-in-Err : goal.returns-in-Err
returns-in-Err c = walk_refused c.loop-x.invariant _ _ c.in-Err.ensures

pub returns-in-Ok-None-default : goal.returns-in-Ok-None-default
returns-in-Ok-None-default c =
    let marker = rw c.in-Ok-None-default.field-0-0-is at c.in-Ok-None-default.ensures in
    walk-ended c.loop-x.invariant _ marker
