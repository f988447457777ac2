-- `pointer` copies the fields of its kind. Assumes nothing.
use Rattle.std.proofs.Common.{◌∙◌}
use Rattle.format.specs.Tests.{since4?}
use Rattle.sheet.proofs.LawsLies.{lies-first}
use Rattle.images.proofs.LawsFields.{copied-then, copied-knowing}
use Rattle.images.proofs.LawsTypes.{varint-copied, varint-where, tells_same, optional-copied}
use Rattle.images.proofs.types.pointer.Goals as goal

pub returns : goal.returns
returns c =
    record {
      each =
          λ pool flags element attribute h.
          copied-knowing
          (λ l.
          copied-then (varint-where (since4? c.args.«class») (tells_same c.from_13_4.ensures) c.copy_where-flags.ensures pool flags)
          (copied-then (varint-copied c.copy_number-element.ensures pool element)
          (optional-copied _ flags (c.word_at-bits.ensures ∙ lies-first _ _ l) c.bit0.ensures c.copy_where.ensures pool attribute h)));
    }
