-- `shape` puts the kind and the shape. Assumes nothing.
use Rattle.std.proofs.Common.{refl}
use Rattle.kinds.proofs.LawsOpenings.{shape-put}
use Rattle.kinds.proofs.openings.shape.Goals as goal

pub returns : goal.returns
returns c = shape-put _ _ _ _ refl c.put_text.ensures c.put_list.ensures
