-- `measure` measures as the crate below does, and so as promised. Assumes nothing.
use Rattle.decoder.proofs.LawsFile.{measure-post}
use Rattle.decoder.proofs.measure.Goals as goal

pub returns : goal.returns
returns c = measure-post _ _ c.measure.ensures
