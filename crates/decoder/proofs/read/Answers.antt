-- `read` reads as the crate below does, and so as promised. Assumes nothing.
use Rattle.decoder.proofs.LawsFile.{read-post}
use Rattle.decoder.proofs.read.Goals as goal

pub returns : goal.returns
returns c = read-post _ _ _ _ _ _ c.read.ensures
