-- `read_bytes` answers the run there, or that the data ends inside it. Assumes nothing.
use native.Mathlib.Omega.{arith}
use Rattle.reading.proofs.LawsPlaced.{run_at, run_end}
use Rattle.reading.proofs.Reader.read_bytes.Goals as goal

pub returns-then-remaining-n : goal.returns-then-remaining-n
returns-then-remaining-n c = run_end _ _ _ (omega arith)

pub returns : goal.returns
returns c = run_at _ _ _ (omega arith)
