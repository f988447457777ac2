-- `copy_each` copies as many varints as are asked for: whatever copying the rest leaves, copying them all leaves it.
-- Assumes nothing.
use Prim.Native.Nat.{ℕ, ◌+◌, ◌-◌, ◌≤◌}
use mathlib.Core.List.{List}
use lib.ListN.{length}
use Rattle.std.specs.Prelude.{Result}
use Rattle.reading.specs.declared.Refused.{Refused}
use Rattle.payloads.specs.declared.fields.Number.TheVariants.{Varint}
use Rattle.payloads.specs.declared.fields.Spot.{Spot}
use Rattle.payloads.specs.Fields.{numbers, Step}
use Rattle.payloads.proofs.fields.copy_each.Given as goal

abbrev pub invariant-loop : goal.invariant-loop
invariant-loop l =
    ((s : List ℕ) (r : Result Spot Refused) → Step 0 (numbers l.count (l.count - l.counter) Varint) l.entry l.next l.sheet s r →
    Step 0 (numbers l.count l.count Varint) l.entry l.initial.next l.initial.sheet s r) ×
    (l.next.pos ≤ length l.entry) × (l.next.word + l.initial.next.pos ≤ l.initial.next.word + l.next.pos)
