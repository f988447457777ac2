-- `put_at` puts as much of the text as has room at the place. Assumes nothing.
use Rattle.text.proofs.LawsText.{at-short, at_room}
use Rattle.text.proofs.put_at.Goals as goal

pub returns-then-left-text : goal.returns-then-left-text
returns-then-left-text c = at-short _ _ _ _ c.saturating_sub-left.ensures c.if-left-text.true c.put_run.ensures

pub returns : goal.returns
returns c = at_room _ _ _ _ c.saturating_sub-left.ensures c.if-left-text.false c.put_run-2.ensures
