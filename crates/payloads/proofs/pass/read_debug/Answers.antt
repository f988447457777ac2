-- `read_debug` answers in the places of the file, and fills as the reader of Debug does. Assumes nothing.
use mathlib.Core.Path.{ap}
use native.Mathlib.Omega.{arith}
use lib.ListN.{length}
use Rattle.enums.specs.declared.Section.TheVariants as section
use Rattle.format.specs.DecodeDebug.{debug_at}
use Rattle.format.proofs.LawsBelow.{debug-below}
use Rattle.payloads.specs.Pass.{place_at}
use Rattle.payloads.proofs.LawsRaised.{raised-fits}
use Rattle.payloads.proofs.LawsPass.{part-fits}
use Rattle.payloads.proofs.LawsSizes.{payload-short}
use Rattle.payloads.proofs.LawsDebugging.{debug-stopped, absent-debug, present-debug}
use Rattle.payloads.proofs.pass.read_debug.Goals as goal

pub returns-in-None : goal.returns-in-None
returns-in-None c = absent-debug _ _ _ _ c.in-None.ensures

pub invariant_of-part : goal.invariant_of-part
invariant_of-part c =
    let short = payload-short c.args.source.file.now (place_at c.args.source.container.now section.Debug) in
    record { fits = part-fits _ _ _ (omega (arith, ap length c.in-Some.ensures.2, short.1)) c.requires }

pub raised-requires : goal.raised-requires
raised-requires c =
    raised-fits _ _
    (λ x e. omega (arith, debug-below _ _ _ (debug-stopped _ _ x (rw e at c.parse_debug_section.ensures)), c.in-Some.found.near))

pub returns-in-Some : goal.returns-in-Some
returns-in-Some c =
    rw c.raised.ensures
    (present-debug _ _ _ (λ l. debug_at l 0) _ _ _ c.in-Some.ensures.0 c.in-Some.ensures.1 c.in-Some.ensures.2 c.parse_debug_section.ensures)
