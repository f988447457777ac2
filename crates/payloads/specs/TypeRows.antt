-- What the readers of type entries answer and leave in the sheet (document 01, "The sheet": type, the number of words
-- that follow, tag, fields in wire order with counts before lists).
use Rattle.std.specs.Prelude.{◌≡◌, ℕ, ◌+◌, ◌*◌, ◌^◌, ◌≤◌, ◌<◌, true, List, [], map, length, drop, Result, Ok, Err}
use Rattle.std.proofs.Math.Bool.{Bool-discrete}
use Rattle.exact.specs.Got.{Got, got, stop, follow}
use Rattle.exact.specs.Exact.{Parser}
use Rattle.exact.specs.Sequence.{mapped}
use Rattle.exact.specs.Choice.{choose}
use Rattle.exact.specs.Tiling.{join}
use Rattle.exact.specs.Entries.{entries_of}
use Rattle.enums.specs.Refusals as refusals
use Rattle.enums.specs.declared.VersionClass.{VersionClass}
use Rattle.enums.specs.Version.{since13_3}
use Rattle.format.specs.Tables.{TypeRow}
use Rattle.format.specs.Sheet.{field_words, type_words}
use Rattle.format.specs.DecodeTypes.{partition_view_at, old_partition_view_at}
use Rattle.sheet.specs.Store.{put_words}
use Rattle.entries.specs.Starts.{numbers_in}
use Rattle.entries.specs.declared.starts.Starts.{Starts}
use Rattle.payloads.specs.Fill.{Rows}
use Rattle.payloads.specs.Fields.{Within}
use Rattle.reading.specs.Shown.{stop_of}
use Rattle.reading.specs.declared.Refused.{Refused}
use Rattle.payloads.specs.declared.fields.Spot.{Spot}

-- The next word and the next byte, or a refusal.
unfoldable pub place_of : Result Spot Refused → Got ℕ
place_of (Ok t) = got t.word t.pos
place_of (Err x) = stop_of x

-- The words ws that were read are put from word w on, and the answer r says where both end; a refusal is handed out.
unfoldable pub Row : Got (List ℕ) → ℕ → List ℕ → List ℕ → Result Spot Refused → Type 0
Row (got ws j) w sheet sheet' r = (place_of r ≡ got (w + length ws) j) × (sheet' ≡ put_words sheet w ws)
Row (stop c k) w sheet sheet' r = place_of r ≡ stop c k

-- The word index stays far from wrapping while an entry is read from here on.
abbrev pub Spare : List ℕ → Spot → Type 0
Spare l t = (t.pos ≤ length l) × (t.word + 3 * length l + 8 < 2 ^ 63)

-- What the reader of a kind's fields answers and leaves from the spot t on: the row of p, which has at most seven words
-- more than bytes.
pub record Kind (p : Parser TypeRow) (l : List ℕ) (t : Spot) (sheet sheet' : List ℕ) (r : Result Spot Refused) : Type 0 where
  pub row : Row (mapped field_words p l t.pos) t.word sheet sheet' r
  pub within : Within l t.pos t.word 7 r

-- A row has at most eight words for each byte of its entry; a refusal names a place of the entry or its end.
abbrev pub Short : List ℕ → ℕ → Result Spot Refused → Type 0
Short l w (Ok t) = (t.pos ≤ length l) × (t.word ≤ w + 8 * length l)
Short l w (Err x) = x.at ≤ length l

-- A partition view, by the version class.
abbrev pub partition_at : VersionClass → Parser TypeRow
partition_at c = choose (Bool-discrete (since13_3 c) true) partition_view_at old_partition_view_at

-- The words of rows that were read.
unfoldable pub words_of : {A : Type 0} → (A → List ℕ) → Got (List A) → Got (List ℕ)
words_of f g = follow g (λ vs j. got (join (map f vs)) j)

-- The entries that starts of four bytes cut out of the data behind them, of m bytes at least and each read by p.
unfoldable pub entries_by : {A : Type 0} → ℕ → Parser A → List ℕ → Starts → Got (List A)
entries_by m p l s = entries_of refusals.bounds m p (numbers_in 4 l s) s.data (length l) (drop s.data l)

-- The rows of the Type section that were read: their number and their words; nothing goes to the pool.
unfoldable pub type_rows : Got (List TypeRow) → Got Rows
type_rows g = follow g (λ vs j. got (record { rows = length vs; words = join (map type_words vs); runs = [] }) j)
