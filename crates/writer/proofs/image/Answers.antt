-- `image` refuses a sheet over its limit, and hands on the rest. Assumes nothing.
use Rattle.writer.proofs.LawsWriting.{alone-words}
use Rattle.writer.proofs.LawsSized.{image-refused, image-within}
use Rattle.writer.proofs.image.Goals as goal

pub returns-then-sheet-gt-MOST_WORDS : goal.returns-then-sheet-gt-MOST_WORDS
returns-then-sheet-gt-MOST_WORDS c = image-refused _ _ (alone-words _ c.if-sheet-gt-MOST_WORDS.true)

pub returns : goal.returns
returns c = image-within _ _ c.if-sheet-gt-MOST_WORDS.false c.image.ensures
