-- A number of one byte is the byte. Assumes nothing.
use mathlib.Core.Path.{◌∙◌}
use Rattle.reading.proofs.LawsWord.{fixed-one}
use Rattle.reading.proofs.Reader.read_le_u8.Goals as goal

pub returns : goal.returns
returns c = c.read_byte.ensures ∙ fixed-one _ _
