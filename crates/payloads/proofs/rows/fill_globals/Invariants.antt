-- `fill_globals` fills in row after row: whatever the rest of the rows fills in, all of them fill in. Assumes nothing.
use Prim.Native.Nat.{ℕ, ◌+◌, ◌-◌, ◌*◌, ◌≤◌}
use mathlib.Core.List.{List}
use lib.ListN.{length}
use Rattle.std.specs.Prelude.{Result}
use Rattle.exact.specs.Repeat.{times}
use Rattle.reading.specs.declared.Refused.{Refused}
use Rattle.format.specs.DecodeRows.{global_at}
use Rattle.format.specs.Sheet.{global_words}
use Rattle.payloads.specs.declared.answers.Filled.{Filled}
use Rattle.payloads.proofs.LawsFilling.{Filling}
use Rattle.payloads.proofs.LawsRows.{no_runs}
use Rattle.payloads.proofs.rows.fill_globals.Given as goal

abbrev pub invariant-loop : goal.invariant-loop
invariant-loop l =
    record {
      onward : (sheet' pool : List ℕ) (r : Result (ℕ × Filled) Refused) →
          Filling global_words no_runs l.count (times (l.count - l.counter) (global_at l.class) l.payload l.reader.pos) l.words l.fn.part.at.bytes l.sheet sheet' pool pool r →
          Filling global_words no_runs l.count (times l.count (global_at l.class) l.payload l.initial.reader.pos) l.initial.words l.fn.part.at.bytes l.initial.sheet sheet' pool pool r;
      inside : l.reader.pos ≤ length l.payload;
      words : l.words + 8 * l.initial.reader.pos ≤ l.initial.words + 8 * l.reader.pos;
    }
