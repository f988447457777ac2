-- `put_function` puts a function and its body. Assumes nothing.
use Rattle.format.specs.Sheet.{function_row_of, function_words}
use Rattle.format.specs.Image.{function_bytes}
use Rattle.images.specs.Fields.{bytes_as}
use Rattle.images.specs.Rows.{GoodRow, row_words, row_run, row_bytes}
use Rattle.images.proofs.LawsFields.{copied-then}
use Rattle.images.proofs.LawsTypes.{varint-copied}
use Rattle.images.proofs.LawsRows.{byte-copied, taken-by}
use Rattle.images.proofs.rows.put_function.Goals as goal

pub returns : goal.returns
unfolding GoodRow row_words row_run row_bytes function_row_of function_words function_bytes bytes_as
returns c v =
    record {
      each =
          λ f h.
          copied-then (varint-copied c.copy_number-name.ensures _ f.name)
          (copied-then (varint-copied c.copy_number-signature.ensures _ f.signature)
          (copied-then (byte-copied c.copy_number-flags.ensures _ f.flags h.flags_byte)
          (copied-then (varint-copied c.copy_number-location.ensures _ f.location)
          (taken-by c.word_at-len.ensures c.copy_number-body.ensures c.take_run.ensures f.body))));
    }
