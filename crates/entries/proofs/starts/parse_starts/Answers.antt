-- `parse_starts` follows the model: count, padding, starts. Assumes nothing.
use mathlib.Core.Path.{sym}
use Rattle.exact.specs.Fixed.{nums}
use Rattle.entries.proofs.LawsStarts.{count_none}
use Rattle.entries.proofs.starts.parse_starts.Goals as goal

pub returns-then-count-eq0 : goal.returns-then-count-eq0
unfolding nums
returns-then-count-eq0 c = count_none _ _ _ _ _ _ (sym c.in_ok-count.ensures) c.if-count-eq0.true
