-- `tikomuci_type_text` answers and leaves what the crate below did. Assumes nothing.
use mathlib.Core.Path.{◌∙◌}
use Rattle.tikomuci.proofs.LawsBoundary.{size-of}
use Rattle.tikomuci.proofs.LawsSheets.{type-named}
use Rattle.tikomuci.proofs.tikomuci_type_text.Goals as goal

pub returns : goal.returns
returns c =
    type-named _ _ _ _ c.type_text.result _ (c.show.ensures ∙ size-of _)
    (c.type_text.ensures.result_value, c.type_text.ensures.out_after)
