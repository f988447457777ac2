-- `tensor_view` puts the shape and an x. Assumes nothing.
use Rattle.std.proofs.Common.{refl}
use Rattle.kinds.proofs.LawsOpenings.{tensor-view-opening}
use Rattle.kinds.proofs.openings.tensor_view.Goals as goal

pub returns : goal.returns
returns c =
    tensor-view-opening _ _ _ _ refl c.put_text.ensures c.put_list.ensures c.put_byte.ensures
