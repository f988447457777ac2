-- `going_on` counts the top bits that are set: what is counted and what is left are all of them. Assumes nothing.
use mathlib.Core.Path.{◌≡◌}
use Prim.Native.Nat.{◌+◌, ◌*◌, ◌-◌, ◌≤◌}
use Rattle.payloads.specs.Indices.{tops}
use Rattle.payloads.proofs.indices.going_on.Given as goal

abbrev pub invariant-loop-i : goal.invariant-loop-i
invariant-loop-i l =
    (l.n + tops l.step (l.count - l.i) l.entry (l.from + l.i * l.step) ≡ tops l.step l.count l.entry l.from) × (l.n ≤ l.i)
