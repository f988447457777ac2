-- `number_of` takes the highest byte first: after each turn it has the number that the bytes from there on are.
-- Assumes nothing.
use Rattle.payloads.proofs.LawsArrays.{Tail}
use Rattle.payloads.proofs.fields.number_of.Given as goal

abbrev pub invariant-loop-i : goal.invariant-loop-i
invariant-loop-i l = Tail l.run l.i l.value
