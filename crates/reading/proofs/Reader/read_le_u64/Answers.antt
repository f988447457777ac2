-- `read_le_u64` answers the number of the next eight bytes. Assumes nothing.
use mathlib.Core.Path.{sym}
use native.Mathlib.Omega.{arith}
use mir.Syntax.{w64}
use Rattle.reading.proofs.LawsPlaced.{array_number}
use Rattle.reading.proofs.Reader.read_le_u64.Goals as goal

pub returns : goal.returns
returns c = array_number w64 _ _ (omega arith) (sym c.in_ok-bytes.ensures) c.from_le_bytes.ensures
