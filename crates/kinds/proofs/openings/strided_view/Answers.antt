-- `strided_view` puts the shape, the strides, and what comes before the name. Assumes nothing.
use Rattle.std.proofs.Common.{refl}
use Rattle.kinds.proofs.LawsOpenings.{strided-view-opening}
use Rattle.kinds.proofs.openings.strided_view.Goals as goal

pub returns : goal.returns
returns c =
    strided-view-opening _ _ _ _ _ c.shape.ensures c.put_text.ensures refl c.after_list-word.ensures c.put_list.ensures c.put_text-2.ensures
