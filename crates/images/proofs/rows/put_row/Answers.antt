-- `put_row` goes by the row's kind. Assumes nothing.
use Rattle.images.specs.Rows.{GoodRow, row_words, row_run, row_bytes}
use Rattle.images.proofs.rows.put_row.Goals as goal

pub returns-in-Type : goal.returns-in-Type
unfolding GoodRow row_words row_run row_bytes
returns-in-Type c = rw c.in-Type.is (record { each = λ t h. c.put_type.ensures.each _ t h })
