-- `fill_attributes` reads entry after entry: whatever reading the rest leaves, reading them all leaves it. Assumes nothing.
use Prim.Native.Nat.{ℕ, ◌+◌, ◌-◌, ◌*◌, ◌≤◌}
use mathlib.Core.List.{List}
use lib.ListN.{length}
use Rattle.std.specs.Prelude.{Result}
use Rattle.reading.specs.declared.Refused.{Refused}
use Rattle.format.specs.DecodeDebug.{attribute_at}
use Rattle.format.specs.Sheet.{attribute_words}
use Rattle.entries.proofs.LawsEntries.{Before}
use Rattle.payloads.specs.declared.fields.Spot.{Spot}
use Rattle.payloads.specs.TypeRows.{Row}
use Rattle.payloads.proofs.LawsEntryRows.{words_left}
use Rattle.payloads.proofs.debug.fill_attributes.Given as goal

abbrev pub invariant-loop : goal.invariant-loop
invariant-loop l =
    record {
      onward : (sheet' : List ℕ) (r : Result Spot Refused) →
          Row (words_left attribute_words 4 1 attribute_at l.run l.base (length l.payload) l.data (l.count - l.counter) l.from.start.0 l.from.next) l.next l.sheet sheet' r →
          Row (words_left attribute_words 4 1 attribute_at l.run l.base (length l.payload) l.data l.count l.initial.from.start.0 l.initial.from.next) l.initial.next l.initial.sheet sheet' r;
      before : Before 4 (length l.data) l.run (l.count - l.counter) l.from.start.0 l.from.next;
      words : l.next ≤ l.initial.next + 7 * l.from.start.0;
    }
