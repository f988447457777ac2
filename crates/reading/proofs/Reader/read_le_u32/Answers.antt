-- `read_le_u32` answers the number of the next four bytes. Assumes nothing.
use mathlib.Core.Path.{sym}
use native.Mathlib.Omega.{arith}
use mir.Syntax.{w32}
use Rattle.reading.proofs.LawsPlaced.{array_number}
use Rattle.reading.proofs.Reader.read_le_u32.Goals as goal

pub returns : goal.returns
returns c = array_number w32 _ _ (omega arith) (sym c.in_ok-bytes.ensures) c.from_le_bytes.ensures
