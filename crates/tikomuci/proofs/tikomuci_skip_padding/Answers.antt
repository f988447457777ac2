-- `tikomuci_skip_padding` refuses a place past the data, and else answers what crate reading answered. Assumes nothing.
use mathlib.Core.Path.{refl}
use Rattle.reading.specs.Numbers.{padding_at}
use Rattle.tikomuci.specs.Boundary.{skipped}
use Rattle.tikomuci.proofs.LawsBoundary.{shown-past, told}
use Rattle.tikomuci.proofs.tikomuci_skip_padding.Goals as goal

pub returns : goal.returns
returns c =
    let given = c.args in
    shown-past (skipped given.at) (λ c k. refl) (padding_at given.alignment) given.«data».now given.at
    c.unless_past.ensures (told (skipped _) c.padded-padding.ensures (rw c.reader.ensures at c.skip_padding.ensures))
