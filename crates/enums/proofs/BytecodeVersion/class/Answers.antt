-- `BytecodeVersion::class` answers the class of the version. Assumes nothing.
use Rattle.std.proofs.Common.{sym, ◌∙◌}
use Rattle.enums.specs.Version.{class_of}
use Rattle.enums.proofs.BytecodeVersion.class.Goals as goal

pub returns-then-at_least : goal.returns-then-at_least
unfolding class_of
returns-then-at_least c = rw (sym c.at_least.ensures ∙ c.if-at_least.true)

pub returns-then-at_least-2 : goal.returns-then-at_least-2
unfolding class_of
returns-then-at_least-2 c =
    rw (sym c.at_least.ensures ∙ c.if-at_least.false, sym c.at_least-2.ensures ∙ c.if-at_least-2.true)

pub returns : goal.returns
unfolding class_of
returns c = rw (sym c.at_least.ensures ∙ c.if-at_least.false, sym c.at_least-2.ensures ∙ c.if-at_least-2.false)
