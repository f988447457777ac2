-- `strided_view` puts its map, and its padding, if it is there. Assumes nothing.
use Rattle.kinds.proofs.LawsEndings.{strided-view-ending}
use Rattle.kinds.proofs.endings.strided_view.Goals as goal

pub returns : goal.returns
returns c =
    strided-view-ending _ _ _ _ c.put_text.ensures c.put_list.ensures c.put_byte-dims.ensures
    c.after_list-padding.ensures c.close.ensures
