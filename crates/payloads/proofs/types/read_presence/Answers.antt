-- `read_presence` reads a byte of which nonzero means 1. Assumes nothing.
use mathlib.Core.Path.{ap}
use Rattle.exact.specs.Got.{got, follow}
use Rattle.exact.specs.Basic.{pure}
use Rattle.exact.specs.Sequence.{mapped, bind}
use Rattle.payloads.proofs.LawsTypeEntries.{truth-test}
use Rattle.payloads.proofs.types.read_presence.Goals as goal

pub returns : goal.returns
unfolding mapped bind follow pure
returns c =
    rw (← c.in_ok-presence.ensures) (ap (λ v. got v c.in_ok-presence.next.pos) (truth-test _ _ c.from.ensures))
