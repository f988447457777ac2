-- `tensor_view` puts its strides, and its attribute, if it is there. Assumes nothing.
use Rattle.kinds.proofs.LawsEndings.{tensor-view-ending}
use Rattle.kinds.proofs.endings.tensor_view.Goals as goal

pub returns : goal.returns
returns c =
    tensor-view-ending _ _ _ _ _ c.after_list-word.ensures c.put_text.ensures c.put_list.ensures
    c.put_byte-strides.ensures c.after_list-attribute.ensures c.close.ensures
