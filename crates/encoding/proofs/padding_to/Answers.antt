-- `padding_to` answers the gap to the next multiple. Assumes nothing.
use mathlib.Core.Path.{sym}
use Rattle.exact.proofs.LawsPadding.{gap-none, gap-some}
use Rattle.encoding.proofs.padding_to.Goals as goal

pub returns-then-alignment-lt2 : goal.returns-then-alignment-lt2
returns-then-alignment-lt2 c = sym (gap-none _ _ c.if-alignment-lt2.true)

pub returns : goal.returns
returns c = sym (gap-some _ _ c.if-alignment-lt2.false)
