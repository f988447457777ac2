-- `copy_indices` copies as many varints as are asked for: whatever copying the rest leaves, copying them all leaves it.
-- Assumes nothing.
use Prim.Native.Nat.{ℕ, ◌+◌, ◌≤◌}
use mathlib.Core.List.{List}
use lib.ListN.{length}
use Rattle.std.specs.Prelude.{Result}
use Rattle.reading.specs.declared.Refused.{Refused}
use Rattle.payloads.specs.declared.fields.Number.TheVariants.{Varint}
use Rattle.payloads.specs.declared.fields.Spot.{Spot}
use Rattle.payloads.specs.Fields.{numbers, Step}
use Rattle.payloads.proofs.indices.copy_indices.Given as goal

abbrev pub invariant-loop-left : goal.invariant-loop-left
invariant-loop-left l =
    ((s : List ℕ) (r : Result Spot Refused) → Step 0 (numbers l.count.value l.left Varint) l.entry l.next l.sheet s r →
    Step 0 (numbers l.count.value l.count.value Varint) l.entry l.count l.initial.sheet s r) ×
    (l.next.pos ≤ length l.entry) × (l.next.word + l.count.pos ≤ l.count.word + l.next.pos)

abbrev pub decreases-loop-left : goal.decreases-loop-left
decreases-loop-left l = l.left
