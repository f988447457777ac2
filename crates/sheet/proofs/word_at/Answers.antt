-- `word_at` answers word i, and 0 where the store has none. Assumes nothing.
use mathlib.Core.Path.{sym, ◌∙◌}
use Rattle.exact.proofs.LawsExact.{stop-not-got, got-value}
use Rattle.reading.proofs.LawsShown.{told-of}
use Rattle.sheet.proofs.LawsWords.{no_word, word_read}
use Rattle.sheet.proofs.word_at.Goals as goal

pub returns-then-store-i : goal.returns-then-store-i
returns-then-store-i c = sym (no_word _ _ c.if-store-i.true)

pub returns-in-Err : goal.returns-in-Err
returns-in-Err c =
    let t = told-of c.in-Err.is c.read_le_u64.ensures in
    absurd (stop-not-got (sym t ∙ word_read _ _ c.if-store-i.false))

pub returns-in-Ok : goal.returns-in-Ok
returns-in-Ok c =
    let t = told-of c.in-Ok.is c.read_le_u64.ensures in
    got-value (sym t ∙ word_read _ _ c.if-store-i.false)
