-- `function` copies the fields of its kind. Assumes nothing.
use Rattle.images.proofs.LawsFields.{copied-then}
use Rattle.images.proofs.LawsTypes.{indices}
use Rattle.images.proofs.types.function.Goals as goal

pub returns : goal.returns
returns c =
    record {
      each =
          λ pool inputs results.
          copied-then (indices c.copy_list-inputs.ensures pool inputs) (indices c.copy_list.ensures pool results);
    }
