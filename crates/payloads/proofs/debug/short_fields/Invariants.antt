-- `short_fields` turns six times: what it has found and what is left make up the whole (`Going`). Assumes nothing.
use Rattle.payloads.proofs.LawsShorts.{Going}
use Rattle.payloads.proofs.debug.short_fields.Given as goal

abbrev pub invariant-loop-k : goal.invariant-loop-k
invariant-loop-k l = Going l.data l.count l.from l.end l.long l.word-items l.k
