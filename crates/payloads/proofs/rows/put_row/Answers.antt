-- `put_row` puts word after word: what the rest puts, all of them put. Assumes nothing.
use mathlib.Core.Path.{sym, ◌∙◌}
use Rattle.payloads.proofs.LawsRows.{row_more, row_done}
use Rattle.payloads.proofs.rows.put_row.Goals as goal

pub loop-k-preserved : goal.loop-k-preserved
loop-k-preserved c = sym (row_more _ _ _ _ _ c.loop-k-test.true c.put_word.ensures) ∙ c.loop-k.invariant

pub returns : goal.returns
returns c = sym (row_done _ _ _ _ c.loop-k-test.false) ∙ c.loop-k.invariant
