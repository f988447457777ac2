-- `read_le_u16` answers the number of the next two bytes. Assumes nothing.
use mathlib.Core.Path.{sym}
use native.Mathlib.Omega.{arith}
use mir.Syntax.{w16}
use Rattle.reading.proofs.LawsPlaced.{array_number}
use Rattle.reading.proofs.Reader.read_le_u16.Goals as goal

pub returns : goal.returns
returns c = array_number w16 _ _ (omega arith) (sym c.in_ok-bytes.ensures) c.from_le_bytes.ensures
