-- `tikomuci_read_le_var_size_i64` answers what crate reading answered. Assumes nothing.
use mathlib.Core.Path.{◌∙◌}
use Rattle.tikomuci.specs.Boundary.{items}
use Rattle.tikomuci.proofs.LawsBoundary.{items-of, told}
use Rattle.tikomuci.proofs.tikomuci_read_le_var_size_i64.Goals as goal

pub returns : goal.returns
returns c =
    let read = c.read_le_var_size_i64 in
    c.show.ensures ∙ told items (items-of _ _ read.result) (rw c.reader.ensures at read.ensures)
