-- `tikomuci_section` answers what the crate below answered. Assumes nothing.
use mathlib.Core.Path.{◌∙◌}
use Rattle.tikomuci.proofs.LawsBoundary.{view-of}
use Rattle.tikomuci.proofs.LawsViews.{section-viewed}
use Rattle.tikomuci.proofs.tikomuci_section.Goals as goal

pub returns : goal.returns
returns c = section-viewed _ _ _ _ (c.show.ensures ∙ view-of _) c.section.ensures
