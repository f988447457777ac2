-- `indices_at` chooses by the kind. Assumes nothing.
use Rattle.std.proofs.Common.{refl, ◌∙◌, ⊎_elim}
use Rattle.kinds.specs.Indices.{indices}
use Rattle.kinds.proofs.LawsIndices.{passed_on, counted-on, found}
use Rattle.kinds.proofs.indices_at.Goals as goal

pub returns-in-PartitionView : goal.returns-in-PartitionView
unfolding indices
returns-in-PartitionView c =
    let f = found _ _ 1 (passed_on _ _ _ _ refl c.after_list.ensures) in
    rw (← c.of.ensures) (⊎_elim (λ e. rw e f) (λ e. rw e f) c.in-PartitionView.is)

pub returns-in-Function : goal.returns-in-Function
unfolding indices
returns-in-Function c = rw (← c.of.ensures, c.in-Function.is) (c.counted_at.ensures ∙ counted-on _ _ _ refl)

pub returns-in-StridedView : goal.returns-in-StridedView
unfolding indices
returns-in-StridedView c =
    rw (← c.of.ensures, c.in-StridedView.is)
    (found _ _ 1 (passed_on _ _ _ _ (passed_on _ _ _ _ refl c.after_list-in-StridedView.ensures) c.after_list-in-StridedView-2.ensures))
