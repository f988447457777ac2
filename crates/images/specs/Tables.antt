-- What the writers of offset tables answer and leave in the output (document 01, "The container": a count, padding, the
-- starts, the data; starts of debug lists count ids).
use Rattle.std.specs.Prelude.{◌≡◌, ℕ, ◌+◌, ◌^◌, ◌<◌, List, ◌++◌, map, length, replicate}
use Rattle.exact.specs.Padding.{gap}
use Rattle.exact.specs.Tiling.{join, sums}
use Rattle.enums.specs.Container.{P}
use Rattle.enums.specs.declared.VersionClass.{VersionClass}
use Rattle.encoding.specs.Varint.{spelling}
use Rattle.encoding.specs.Out.{flat}
use Rattle.format.specs.Image.{offset_table}
use Rattle.sheet.specs.Store.{words_in}
use Rattle.sheet.specs.Lies.{Lies}
use Rattle.images.specs.Put.{Wrote}
use Rattle.images.specs.Rows.{RowOf, GoodRow, row_words, row_run, row_bytes, Placed, RowsPut}
use Rattle.images.specs.declared.fields.Pen.{Pen}
use Rattle.images.specs.declared.rows.Row.{Row}
use Rattle.images.specs.declared.rows.Row.TheVariants as row
use Rattle.images.specs.declared.rows.Table.{Table}

-- A count and padding to a, in a payload that begins at base.
abbrev pub count_and_padding : ℕ → ℕ → ℕ → List ℕ
count_and_padding n a i = spelling n ++ replicate (gap a (i + length (spelling n))) P

pub record CountPut (n a base at : ℕ) (out out' : List ℕ) (next : ℕ) : Type 0 where
  pub each : (i : ℕ) → base + i ≡ at → Wrote (count_and_padding n a i) at out out' next

-- What starts count of a row: its bytes (`row_bytes`), or the ids of a debug list.
abbrev pub ids : List ℕ → List ℕ
ids l = l

-- Whatever row the sheet has at a word: the word and the start of the row behind it.
pub record NextEntry (c : VersionClass) (k : Row) (unit : RowOf k → List ℕ) (s : List ℕ) (word start word' start' : ℕ) : Type 0 where
  pub each : (x : RowOf k) → GoodRow c k x → Lies (words_in s) word (row_words k x) → word + length (row_words k x) < 2 ^ 64 →
      length (row_run k x) < 2 ^ 64 → start + length (row_bytes c k x) < 2 ^ 64 →
      (word' ≡ word + length (row_words k x)) × (start' ≡ start + length (unit x))

-- The rows xs stand from a word on, and no place of their bytes behind a start reaches 2^64.
pub record Starting (c : VersionClass) (k : Row) (xs : List (RowOf k)) (n : ℕ) (s : List ℕ) (word start : ℕ) : Type 0 where
  pub placed : Placed c k xs (words_in s) word n
  pub words : length (words_in s) < 2 ^ 64
  pub runs : length (join (map (row_run k) xs)) < 2 ^ 64
  pub bytes : start + length (join (map (row_bytes c k) xs)) < 2 ^ 64

-- Whatever n rows the sheet has from a word on, their starts were put, as numbers of w bytes ..
pub record StartsPut (c : VersionClass) (k : Row) (unit : RowOf k → List ℕ) (w n : ℕ) (s : List ℕ) (word start at : ℕ) (out out' : List ℕ) (next : ℕ) : Type 0 where
  pub each : (xs : List (RowOf k)) → Starting c k xs n s word start → Wrote (flat w (sums start (map unit xs))) at out out' next

-- .. and of debug lists also where the last one ends.
pub record ListStartsPut (w n : ℕ) (s : List ℕ) (word start at : ℕ) (out out' : List ℕ) (end next : ℕ) : Type 0 where
  pub puts : (c : VersionClass) → StartsPut c row.List ids w n s word start at out out' next
  pub ends : (c : VersionClass) (xs : List (List ℕ)) → Starting c row.List xs n s word start → end ≡ start + length (join xs)

-- An offset table in a payload that begins at base, of entries whose starts count bytes.
pub record TablePut (c : VersionClass) (t : Table) (base : ℕ) (s pool : List ℕ) (p : Pen) (out out' : List ℕ) (q : Pen) : Type 0 where
  pub each : (i : ℕ) → base + i ≡ p.at →
      RowsPut c t (λ xs. offset_table t.width t.width i (map (row_bytes c t.row) xs)) s pool p out out' q
