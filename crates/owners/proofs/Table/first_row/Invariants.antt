-- `first_row` finds the first row that is wanted: in its loop, none so far is. Assumes nothing.
use mathlib.Core.Path.{◌≡◌}
use mathlib.Core.Bool.{Bool}
use Prim.Native.Nat.{ℕ, ◌<◌}
use Rattle.owners.specs.declared.Row.{Row}
use Rattle.owners.specs.Owners.{Such}
use Rattle.owners.proofs.Table.first_row.Given as goal

abbrev pub invariant-loop-row : goal.invariant-loop-row
invariant-loop-row g l =
    (is : Row → Bool) → ((r : Row) (t : Bool) → goal.F-post g l.wanted r t → t ≡ is r) → (k : ℕ) → k < l.row → ¬ Such is l.self.owners.now k
