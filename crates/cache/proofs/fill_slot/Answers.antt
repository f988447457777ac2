-- `fill_slot` puts bytes and clears the rest of the slot. Assumes nothing.
use Rattle.cache.proofs.LawsCalls.{filled-up}
use Rattle.cache.proofs.fill_slot.Goals as goal

pub returns : goal.returns
returns c = filled-up _ _ _ _ _ _ c.requires.0 c.requires.1 c.put_run.ensures c.clear.ensures
