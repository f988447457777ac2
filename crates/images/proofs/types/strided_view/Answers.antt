-- `strided_view` copies the fields of its kind. Assumes nothing.
use Rattle.std.proofs.Common.{◌∙◌}
use Rattle.sheet.proofs.LawsLies.{lies-first}
use Rattle.images.proofs.LawsFields.{copied-then, copied-knowing}
use Rattle.images.proofs.LawsTypes.{varint-copied, optional-copied, list32}
use Rattle.images.proofs.types.strided_view.Goals as goal

pub returns : goal.returns
returns c =
    record {
      each =
          λ pool flags shape strides view dims padding h.
          copied-knowing
          (λ l.
          copied-then (varint-copied c.copy_number-flags.ensures pool flags)
          (copied-then (list32 c.copy_list-shape.ensures pool shape)
          (copied-then (list32 c.copy_list-strides.ensures pool strides)
          (copied-then (varint-copied c.copy_number-view.ensures pool view)
          (copied-then (list32 c.copy_list-dims.ensures pool dims)
          (optional-copied _ flags (c.word_at-bits.ensures ∙ lies-first _ _ l) c.bit0.ensures c.copy_where.ensures pool padding h))))));
    }
