-- `read_table` answers in the places of the file, and fills as the table's reader does. Assumes nothing.
use mathlib.Core.Path.{ap}
use native.Mathlib.Omega.{arith}
use lib.ListN.{length}
use Rattle.payloads.specs.Pass.{place_at}
use Rattle.payloads.proofs.LawsRaised.{raised-fits}
use Rattle.payloads.proofs.LawsFill.{fills-stopped}
use Rattle.payloads.proofs.LawsPass.{absent-fills, present-fills, part-fits}
use Rattle.payloads.proofs.LawsSizes.{table_below, payload-short}
use Rattle.payloads.proofs.pass.read_table.Goals as goal

pub returns-in-None : goal.returns-in-None
returns-in-None c = rw (← c.section.ensures) (absent-fills _ _ _ _ c.in-None.ensures)

pub invariant_of-part : goal.invariant_of-part
invariant_of-part c =
    let short = payload-short c.args.source.file.now (place_at c.args.source.container.now c.section.result) in
    record { fits = part-fits _ _ _ (omega (arith, ap length c.in-Some.ensures.2, short.1)) c.requires }

pub raised-requires : goal.raised-requires
raised-requires c =
    raised-fits _ _
    (λ x e. omega (arith, table_below _ _ _ _ _ (fills-stopped _ _ x (rw e at c.parse_table.ensures)), c.in-Some.found.near))

pub returns-in-Some : goal.returns-in-Some
returns-in-Some c =
    rw (c.raised.ensures, ← c.section.ensures, ← c.class.ensures)
    (present-fills _ _ _ _ _ _ _ c.in-Some.ensures.0 c.in-Some.ensures.1 c.in-Some.ensures.2 c.parse_table.ensures)
