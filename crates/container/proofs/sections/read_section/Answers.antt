-- `read_section` answers the id and the place of the payload. Assumes nothing.
use native.Mathlib.Omega.{arith}
use Rattle.exact.specs.Got.{follow}
use Rattle.exact.specs.Basic.{pure}
use Rattle.exact.specs.Sequence.{bind, mapped}
use Rattle.exact.specs.Upto.{place}
use Rattle.format.specs.DecodeContainer.{item_at, section_at}
use Rattle.container.proofs.LawsItem.{low_seven, no_end_marker, run-met}
use Rattle.container.proofs.sections.read_section.Goals as goal

pub returns : goal.returns
unfolding follow pure bind mapped place item_at section_at
returns c =
    let (at, run, long) = run-met _ _ _ _ _ _ c.in_ok-start.ensures in
    grind (arith, low_seven, no_end_marker, at, run, long)
