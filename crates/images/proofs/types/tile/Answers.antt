-- `tile` copies the fields of its kind. Assumes nothing.
use Rattle.images.proofs.LawsFields.{copied-then}
use Rattle.images.proofs.LawsTypes.{varint-copied, list64}
use Rattle.images.proofs.types.tile.Goals as goal

pub returns : goal.returns
returns c =
    record {
      each =
          λ pool element dims.
          copied-then (varint-copied c.copy_number-element.ensures pool element) (list64 c.copy_list.ensures pool dims);
    }
