-- `any_attribute` answers for a whole attribute that has no word, and for one of short numbers that is put, and has any
-- other read. Assumes nothing.
use mathlib.Core.Path.{◌∙◌}
use Rattle.payloads.proofs.LawsEnds.{whole_row}
use Rattle.payloads.proofs.LawsShorts.{short_row, row_from}
use Rattle.payloads.proofs.debug.any_attribute.Goals as goal
use Rattle.payloads.proofs.debug.any_attribute.Goals.{then-sheet-word+else-is_whole, else-sheet-word+else-put_short}

pub returns-then-is_whole : goal.returns-then-is_whole
returns-then-is_whole c =
    let (ws, e) = c.is_whole.ensures c.if-is_whole.true in
    whole_row _ ws _ _ _ _ c.if-sheet-word.true e

pub returns-then-put_short : goal.returns-then-put_short
returns-then-put_short c =
    let (ws, e, n, p) = c.put_short.ensures.row c.if-put_short.true in
    short_row _ ws _ _ _ _ _ e n p

-- Where the attribute is still to be read, nothing was put.
pub returns : goal.returns
returns c =
    elim c.if-sheet-word.branch [
      | then-sheet-word+else-is_whole w ↦ row_from _ _ _ _ _ _ w.sheet-is c.parse_attribute.ensures
      | else-sheet-word+else-put_short w ↦
          row_from _ _ _ _ _ _ (w.sheet-is ∙ w.put_short.ensures.sheet_unchanged w.if-put_short.false) c.parse_attribute.ensures
    ]
