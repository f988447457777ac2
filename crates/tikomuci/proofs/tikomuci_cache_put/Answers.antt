-- `tikomuci_cache_put` answers and leaves what the crate below did. Assumes nothing.
use mathlib.Core.Path.{◌∙◌}
use Rattle.tikomuci.proofs.LawsBoundary.{slot-of}
use Rattle.tikomuci.proofs.LawsCaches.{cache-put}
use Rattle.tikomuci.proofs.tikomuci_cache_put.Goals as goal

pub returns : goal.returns
returns c = cache-put _ _ _ _ _ _ _ (c.show.ensures ∙ slot-of _) c.put.ensures
