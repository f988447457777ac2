-- `put_ending` chooses by the kind. Assumes nothing.
use Rattle.text.proofs.LawsText.{put-nothing}
use Rattle.kinds.specs.Parts.{ending}
use Rattle.kinds.proofs.LawsEndings.{closed_at}
use Rattle.kinds.proofs.endings.put_ending.Goals as goal

pub returns-in-PartitionView : goal.returns-in-PartitionView
unfolding ending
returns-in-PartitionView c =
    rw c.in-PartitionView.is (closed_at _ _ _ _ _ c.after_list-padding.ensures c.close-in-PartitionView.ensures)

pub returns-in-Plain : goal.returns-in-Plain
unfolding ending
returns-in-Plain c = rw c.in-Plain.is put-nothing
