-- `put_list` puts the ids of a debug list. Assumes nothing.
use Rattle.std.proofs.Common.{sym, ◌∙◌}
use Rattle.images.specs.Rows.{row_words, row_run, row_bytes}
use Rattle.sheet.proofs.LawsLies.{lies-first}
use Rattle.images.proofs.LawsFields.{copied-then, copied-as, copied-knowing, skipped-one}
use Rattle.images.proofs.LawsTypes.{many-flat64}
use Rattle.images.proofs.rows.put_list.Goals as goal

pub returns : goal.returns
unfolding row_words row_run row_bytes
returns c v pool =
    record {
      each =
          λ ids h.
          copied-knowing
          (λ l.
          copied-then (skipped-one c.skip_words.ensures _ _ _ _)
          (copied-as (many-flat64 ids) (c.copy_numbers.ensures.each _ ids (sym (c.word_at-count.ensures ∙ lies-first _ _ l)))));
    }
