-- What the readers of Debug answer and leave in the sheet (document 01, "The sheet": attribute, tag and 6 fields; list,
-- count and ids).
use Rattle.std.specs.Prelude.{◌≡◌, ℕ, ◌+◌, ◌-◌, List, ◌++◌, map, length, take, drop, Result, Ok, Err}
use Rattle.std.proofs.Math.Option.{Option, none, some}
use Rattle.exact.specs.Got.{Got, got, stop}
use Rattle.exact.specs.Sequence.{mapped}
use Rattle.exact.specs.Tiling.{join}
use Rattle.enums.specs.Numbered.{number_of}
use Rattle.enums.specs.Refusals as refusals
use Rattle.reading.specs.declared.Refused.{Refused}
use Rattle.format.specs.Debug.{DebugTables}
use Rattle.format.specs.DecodeDebug.{attribute_at}
use Rattle.format.specs.Sheet.{attribute_words, list_words}
use Rattle.sheet.specs.Store.{put_words}
use Rattle.payloads.specs.declared.answers.Filled.{Filled}
use Rattle.payloads.specs.declared.debug.DebugFilled.{DebugFilled}
use Rattle.payloads.specs.declared.entry.Entry.{Entry}

-- What one attribute in the bytes l reads: the words of its row.
abbrev pub attribute_row : List ℕ → Got (List ℕ)
attribute_row l = mapped attribute_words attribute_at l 0

-- The bytes of an entry.
abbrev pub bytes_of : Entry → List ℕ
bytes_of e = take (e.end - e.start) (drop e.start e.table.now)

-- The words of lists, if their bounds are good.
unfoldable pub list_rows : ℕ → Option (List (List ℕ)) → Got (List ℕ)
list_rows j none = stop refusals.bounds 0
list_rows j (some ls) = got (join (map list_words ls)) j

-- The words of the attributes, and then those of the lists.
unfoldable pub debug_words : DebugTables → List ℕ
debug_words t = join (map attribute_words t.attributes) ++ join (map list_words t.lists)

-- How many attributes and lists there are and how far the stores are filled; or a refusal and its place.
pub data DebugCount : Type 0 where
  counted : (attributes lists words bytes : ℕ) → DebugCount
  refused : (number at : ℕ) → DebugCount

abbrev pub debug_count : Result DebugFilled Refused → DebugCount
debug_count (Ok d) = counted d.attributes d.lists d.filled.words d.filled.bytes
debug_count (Err x) = refused (number_of x.refusal) x.at

-- What is answered of such tables, filled in behind what is filled already.
abbrev pub debug_behind : Filled → Got DebugTables → DebugCount
debug_behind at (got t j) =
    counted (length t.attributes) (length t.lists) (at.words + length (debug_words t)) at.bytes
debug_behind at (stop c k) = refused c k

-- The reader's answer r to what the model reads, g; and the sheet, where it reads something.
pub record DebugFills (at : Filled) (g : Got DebugTables) (sheet sheet' : List ℕ) (r : Result DebugFilled Refused) : Type 0 where
  pub answer : debug_count r ≡ debug_behind at g
  pub words : (t : DebugTables) (j : ℕ) → g ≡ got t j → sheet' ≡ put_words sheet at.words (debug_words t)
