-- `copy_list` copies a count and as many numbers. Assumes nothing.
use Rattle.payloads.proofs.LawsFields.{list-then}
use Rattle.payloads.proofs.fields.copy_list.Goals as goal

pub returns : goal.returns
returns c = list-then _ c.in_ok-count.ensures c.copy_numbers.ensures
