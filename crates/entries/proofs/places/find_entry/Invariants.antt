-- `find_entry` judges the bounds of all entries, and keeps where the entry asked for stands. Assumes nothing.
use Prim.Native.Nat.{◌-◌}
use Rattle.std.specs.Prelude.{Ok}
use Rattle.entries.specs.Starts.{wide}
use Rattle.entries.specs.Places.{entries_in}
use Rattle.entries.proofs.LawsEntries.{Before}
use Rattle.entries.proofs.LawsPlaces.{Seeking, rows_left}
use Rattle.entries.proofs.places.find_entry.Given as goal

abbrev pub invariant-loop-i : goal.invariant-loop-i
invariant-loop-i l =
    Before (wide l.width) l.size l.run (l.rows - l.i) l.from.start.0 l.from.next ×
    Seeking l.payload l.n l.i (rows_left (wide l.width) l.payload l.run l.data (l.rows - l.i) l.from.start.0 l.from.next)
    (λ o. entries_in o (wide l.width) l.payload (record { count = l.rows; first = l.first; «data» = l.data })) (Ok l.found)
