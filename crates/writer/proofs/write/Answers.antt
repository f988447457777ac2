-- `write` refuses a sheet or a pool over its limit, and hands on the rest. Assumes nothing.
use Rattle.writer.proofs.LawsWriting.{writing-words, writing-bytes, write-refused, write-within}
use Rattle.writer.proofs.write.Goals as goal

pub returns-then-sheet-gt-MOST_WORDS : goal.returns-then-sheet-gt-MOST_WORDS
returns-then-sheet-gt-MOST_WORDS c = write-refused _ _ _ _ (writing-words _ _ c.if-sheet-gt-MOST_WORDS.true)

pub returns-then-pool-gt-MOST_BYTES : goal.returns-then-pool-gt-MOST_BYTES
returns-then-pool-gt-MOST_BYTES c =
    write-refused _ _ _ _ (writing-bytes _ _ c.if-sheet-gt-MOST_WORDS.false c.if-pool-gt-MOST_BYTES.true)

pub returns : goal.returns
returns c =
    write-within _ _ _ _ _ c.if-sheet-gt-MOST_WORDS.false c.if-pool-gt-MOST_BYTES.false c.write.ensures.result_value c.write.ensures.out_after
