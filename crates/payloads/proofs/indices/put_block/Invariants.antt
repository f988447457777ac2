-- `put_block` puts numbers of one width, or finds no word for them: whatever copying the rest leaves, copying them all
-- leaves it. Assumes nothing.
use Prim.Native.Nat.{ℕ, ◌-◌}
use mathlib.Core.List.{List}
use Rattle.std.specs.Prelude.{Result}
use Rattle.reading.specs.declared.Refused.{Refused}
use Rattle.payloads.specs.declared.fields.Number.TheVariants.{Varint}
use Rattle.payloads.specs.declared.fields.Spot.{Spot}
use Rattle.payloads.specs.Fields.{numbers, Step}
use Rattle.payloads.proofs.LawsIndices.{behind}
use Rattle.payloads.proofs.indices.put_block.Given as goal

abbrev pub invariant-loop-i : goal.invariant-loop-i
invariant-loop-i l =
    (s : List ℕ) (r : Result Spot Refused) → Step 0 (numbers l.count (l.count - l.i) Varint) l.entry (behind l.width l.at l.i) l.sheet s r →
    Step 0 (numbers l.count l.count Varint) l.entry l.at l.initial.sheet s r
