-- `decode_type_entries` reads entry after entry: whatever reading the rest leaves, reading them all leaves it. Assumes nothing.
use Prim.Native.Nat.{ℕ, ◌+◌, ◌*◌, ◌-◌, ◌≤◌}
use mathlib.Core.List.{List}
use lib.ListN.{length}
use Rattle.std.specs.Prelude.{Result}
use Rattle.reading.specs.declared.Refused.{Refused}
use Rattle.format.specs.DecodeTypes.{type_entry_at}
use Rattle.format.specs.Sheet.{type_words}
use Rattle.entries.proofs.LawsEntries.{Before}
use Rattle.payloads.specs.declared.fields.Spot.{Spot}
use Rattle.payloads.specs.TypeRows.{Row, words_of, entries_by}
use Rattle.payloads.proofs.LawsEntryRows.{words_left}
use Rattle.payloads.proofs.types.decode_type_entries.Given as goal

abbrev pub invariant-loop : goal.invariant-loop
invariant-loop l =
    ((s : List ℕ) (r : Result Spot Refused) →
    Row (words_left type_words 4 0 (type_entry_at l.class) l.run l.base (length l.payload) l.data (l.fn.starts.count - l.counter) l.from.start.0 l.from.next) l.next l.sheet s r →
    Row (words_of type_words (entries_by 0 (type_entry_at l.class) l.payload l.fn.starts)) l.word l.initial.sheet s r) ×
    Before 4 (length l.data) l.run (l.fn.starts.count - l.counter) l.from.start.0 l.from.next ×
    (l.next ≤ l.word + 8 * l.from.start.0)
