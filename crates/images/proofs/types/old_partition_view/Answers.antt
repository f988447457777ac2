-- `old_partition_view` copies the fields of its kind. Assumes nothing.
use Rattle.std.proofs.Common.{◌∙◌}
use Rattle.sheet.proofs.LawsLies.{lies-first}
use Rattle.images.proofs.LawsFields.{copied-then, copied-knowing, skipped-one}
use Rattle.images.proofs.LawsTypes.{varint-copied, list32, presence-put, present-copied}
use Rattle.images.proofs.types.old_partition_view.Goals as goal

pub returns : goal.returns
returns c =
    record {
      each =
          λ pool flags shape view dims padding h.
          copied-knowing
          (λ l.
          let e = c.word_at-presence.ensures ∙ lies-first _ _ l in
          copied-then (skipped-one c.skip_words-begun.ensures _ pool _ flags)
          (copied-then (list32 c.copy_list-shape.ensures pool shape)
          (copied-then (varint-copied c.copy_number-view.ensures pool view)
          (copied-then (list32 c.copy_list-dims.ensures pool dims)
          (copied-then (presence-put _ flags e h c.put_number-next.ensures)
          (present-copied _ flags e c.copy_where.ensures pool padding))))));
    }
