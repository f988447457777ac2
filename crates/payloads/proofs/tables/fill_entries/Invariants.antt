-- `fill_entries` puts entry after entry: whatever the rest of them fills in, all of them fill in. Assumes nothing.
use mathlib.Core.Path.{◌≡◌}
use Prim.Native.Nat.{ℕ, ◌+◌, ◌-◌, ◌≤◌}
use mathlib.Core.List.{List}
use lib.ListN.{length}
use Rattle.std.specs.Prelude.{Result}
use Rattle.exact.specs.Upto.{whole}
use Rattle.reading.specs.declared.Refused.{Refused}
use Rattle.entries.specs.Starts.{wide}
use Rattle.entries.proofs.LawsEntries.{Before, entries_left}
use Rattle.payloads.specs.declared.answers.Filled.{Filled}
use Rattle.payloads.proofs.LawsFilling.{Filling}
use Rattle.payloads.proofs.LawsTables.{run_words, run_only}
use Rattle.payloads.proofs.tables.fill_entries.Given as goal

abbrev pub invariant-loop : goal.invariant-loop
invariant-loop l =
    record {
      onward : (sheet' pool' : List ℕ) (r : Result (ℕ × Filled) Refused) →
          Filling run_words run_only l.count (entries_left (wide l.width) 0 whole l.run l.base (length l.fn.part.payload.now) l.data (l.count - l.counter) l.from.start.0 l.from.next)
          l.words l.bytes l.sheet sheet' l.pool pool' r →
          Filling run_words run_only l.count (entries_left (wide l.width) 0 whole l.run l.base (length l.fn.part.payload.now) l.data l.count l.initial.from.start.0 l.initial.from.next)
          l.initial.words l.initial.bytes l.initial.sheet sheet' l.initial.pool pool' r;
      before : Before (wide l.width) (length l.data) l.run (l.count - l.counter) l.from.start.0 l.from.next;
      words : l.words ≡ l.initial.words + l.counter;
      bytes : l.bytes ≤ l.initial.bytes + l.from.start.0;
    }
