-- `tikomuci_read_bytes` refuses a place past the data, and else answers what crate reading answered. Assumes nothing.
use mathlib.Core.Path.{refl, ◌∙◌}
use Rattle.exact.specs.Fixed.{raw}
use Rattle.reading.specs.Numbers.{placed}
use Rattle.tikomuci.specs.Boundary.{run}
use Rattle.tikomuci.proofs.LawsBoundary.{shown-past, run-of, told}
use Rattle.tikomuci.proofs.tikomuci_read_bytes.Goals as goal

pub returns : goal.returns
returns c =
    let read = c.read_bytes in
    let given = c.args in
    shown-past run (λ c k. refl) (placed (raw given.n)) given.«data».now given.at c.unless_past.ensures
    (c.show.ensures ∙ told run (run-of given.«data».now read.result) (rw c.reader.ensures at read.ensures))
