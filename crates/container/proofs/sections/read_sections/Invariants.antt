-- `read_sections` walks from section to section (`Walk`); what is left falls with each. Assumes nothing.
use Prim.Native.Nat.{◌-◌}
use lib.ListN.{length}
use Rattle.container.proofs.LawsWalk.{Walk}
use Rattle.container.proofs.sections.read_sections.Given as goal

abbrev pub invariant-loop-x : goal.invariant-loop-x
invariant-loop-x l = Walk l.data l.fn.start.pos l.r.pos l.sections.places

abbrev pub decreases-loop-x : goal.decreases-loop-x
decreases-loop-x l = length l.data - l.r.pos
