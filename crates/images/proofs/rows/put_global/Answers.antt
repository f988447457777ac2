-- `put_global` puts a global. Assumes nothing.
use Rattle.std.proofs.Common.{ap}
use Rattle.format.specs.Sheet.{global_words}
use Rattle.format.specs.Tests.{since3?}
use Rattle.format.specs.Image.{only_where, global_bytes}
use Rattle.images.specs.Rows.{GoodRow, row_words, row_run, row_bytes}
use Rattle.images.proofs.LawsFields.{copied-then, copied-as}
use Rattle.images.proofs.LawsTypes.{varint-copied, varint-where, where-copied, byte-as, tells_same}
use Rattle.images.proofs.rows.put_global.Goals as goal

pub returns : goal.returns
unfolding GoodRow row_words row_run row_bytes global_words global_bytes
returns c pool =
    let since = since3? c.args.«class» in
    record {
      each =
          λ g h.
          copied-then (varint-copied c.copy_number-name.ensures _ g.name)
          (copied-then (varint-copied c.copy_number-ty.ensures _ g.type)
          (copied-then (varint-copied c.copy_number-constant.ensures _ g.constant)
          (copied-then (varint-copied c.copy_number-alignment.ensures _ g.alignment)
          (copied-then
          (copied-as (ap (only_where since) (byte-as g.visibility h.visibility_byte))
          (where-copied since (tells_same c.from_13_3.ensures) c.copy_where-visibility.ensures _ g.visibility))
          (varint-where since (tells_same c.from_13_3-2.ensures) c.copy_where.ensures _ g.constant_flag)))));
    }
