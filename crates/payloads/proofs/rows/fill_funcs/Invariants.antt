-- `fill_funcs` fills in row after row: whatever the rest of the rows fills in, all of them fill in. Assumes nothing.
use Prim.Native.Nat.{ℕ, ◌+◌, ◌-◌, ◌*◌, ◌≤◌}
use mathlib.Core.List.{List}
use lib.ListN.{length}
use Rattle.std.specs.Prelude.{Result}
use Rattle.exact.specs.Repeat.{times}
use Rattle.reading.specs.declared.Refused.{Refused}
use Rattle.format.specs.DecodeRows.{function_at}
use Rattle.payloads.specs.declared.answers.Filled.{Filled}
use Rattle.payloads.proofs.LawsFilling.{Filling}
use Rattle.payloads.proofs.LawsRows.{func_words, func_runs}
use Rattle.payloads.proofs.rows.fill_funcs.Given as goal

abbrev pub invariant-loop : goal.invariant-loop
invariant-loop l =
    record {
      onward : (sheet' pool' : List ℕ) (r : Result (ℕ × Filled) Refused) →
          Filling func_words func_runs l.count (times (l.count - l.counter) (function_at 0) l.payload l.reader.pos) l.words l.bytes l.sheet sheet' l.pool pool' r →
          Filling func_words func_runs l.count (times l.count (function_at 0) l.payload l.initial.reader.pos) l.initial.words l.initial.bytes l.initial.sheet sheet' l.initial.pool pool' r;
      inside : l.reader.pos ≤ length l.payload;
      words : l.words + 8 * l.initial.reader.pos ≤ l.initial.words + 8 * l.reader.pos;
      bytes : l.bytes + l.initial.reader.pos ≤ l.initial.bytes + l.reader.pos;
    }
