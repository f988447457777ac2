-- `view` puts the kind, the shape, and what comes before the name. Assumes nothing.
use Rattle.text.proofs.LawsText.{put_then}
use Rattle.kinds.proofs.openings.view.Goals as goal

pub returns : goal.returns
returns c = put_then c.shape.ensures c.put_text.ensures
