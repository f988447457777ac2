-- `find_body` passes over all functions, and keeps where the body asked for stands. Assumes nothing.
use Prim.Native.Nat.{◌-◌, ◌≤◌}
use lib.ListN.{length}
use Rattle.std.specs.Prelude.{Ok}
use Rattle.entries.specs.Places.{bodies_from}
use Rattle.entries.proofs.LawsPlaces.{Seeking}
use Rattle.entries.proofs.places.find_body.Given as goal

abbrev pub invariant-loop-i : goal.invariant-loop-i
invariant-loop-i l =
    Seeking l.payload l.n l.i (λ o. bodies_from o (l.count - l.i) l.payload l.reader.pos) (λ o. bodies_from o l.count l.payload l.initial.reader.pos) (Ok l.found) ×
    (l.reader.pos ≤ length l.payload)
