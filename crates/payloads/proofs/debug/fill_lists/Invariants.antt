-- `fill_lists` puts the lists one by one: whatever the rest leaves, all of them leave it. Assumes nothing.
use Prim.Native.Nat.{ℕ, ◌+◌, ◌-◌, ◌≤◌}
use mathlib.Core.List.{List}
use lib.ListN.{drop}
use Rattle.std.specs.Prelude.{Result}
use Rattle.exact.specs.Fixed.{nums}
use Rattle.reading.specs.declared.Refused.{Refused}
use Rattle.entries.proofs.LawsEntries.{Before}
use Rattle.payloads.specs.declared.fields.Spot.{Spot}
use Rattle.payloads.specs.TypeRows.{Row}
use Rattle.payloads.proofs.LawsDebug.{lists_left}
use Rattle.payloads.proofs.debug.fill_lists.Given as goal

abbrev pub invariant-loop : goal.invariant-loop
invariant-loop l =
    record {
      onward : (sheet' : List ℕ) (r : Result Spot Refused) →
          Row (lists_left l.at.pos (nums l.count 8 (drop l.first_id l.payload)) l.run (l.rows - l.counter) l.from.start.0 l.from.next) l.word l.sheet sheet' r →
          Row (lists_left l.at.pos (nums l.count 8 (drop l.first_id l.payload)) l.run l.rows l.initial.from.start.0 l.initial.from.next) l.initial.word l.initial.sheet sheet' r;
      before : Before 4 l.count l.run (l.rows - l.counter) l.from.start.0 l.from.next;
      words : l.word ≤ l.initial.word + l.counter + l.from.start.0;
    }
