-- What the writers of rows answer and leave in the output (document 01, "The container" and "The sheet"): one row, and
-- the rows of a table one after the other.
use Rattle.std.specs.Prelude.{◌≡◌, ℕ, ◌^◌, ◌<◌, List, [], map, length}
use Rattle.exact.specs.Tiling.{join}
use Rattle.enums.specs.declared.VersionClass.{VersionClass}
use Rattle.encoding.specs.Out.{flat}
use Rattle.format.specs.Tables.{TypeRow, Global, Function, Attribute}
use Rattle.format.specs.Sheet.{function_row_of, length_words, type_words, global_words, function_words, attribute_words, list_words}
use Rattle.format.specs.Sound.{All, SoundType, SoundGlobal, SoundFunction, SoundAttribute}
use Rattle.format.specs.Image.{type_bytes, global_bytes, function_bytes, attribute_bytes}
use Rattle.sheet.specs.Store.{words_in}
use Rattle.sheet.specs.Lies.{Lies}
use Rattle.images.specs.Fields.{Copied}
use Rattle.images.specs.declared.fields.Pen.{Pen}
use Rattle.images.specs.declared.rows.Row.{Row}
use Rattle.images.specs.declared.rows.Row.TheVariants as row
use Rattle.images.specs.declared.rows.Table.{Table}

-- A run of n bytes of the pool was put.
pub record RunTaken (n : ℕ) (pool : List ℕ) (p : Pen) (out out' : List ℕ) (q : Pen) : Type 0 where
  pub each : (s run : List ℕ) → length run ≡ n → Copied [] run run s pool p out out' q

-- What a row of each kind stands for ..
abbrev pub RowOf : Row → Type 0
RowOf row.Run = List ℕ
RowOf row.Type = TypeRow
RowOf row.Global = Global
RowOf row.Function = Function
RowOf row.Attribute = Attribute
RowOf row.List = List ℕ

-- .. when it is well-formed ..
unfoldable pub GoodRow : VersionClass → (k : Row) → RowOf k → Type 0
GoodRow c row.Run x = Unit
GoodRow c row.Type x = SoundType c x
GoodRow c row.Global x = SoundGlobal c x
GoodRow c row.Function x = SoundFunction (function_row_of x)
GoodRow c row.Attribute x = SoundAttribute x
GoodRow c row.List x = Unit

-- .. its words in the sheet ..
unfoldable pub row_words : (k : Row) → RowOf k → List ℕ
row_words row.Run x = length_words (length x)
row_words row.Type x = type_words x
row_words row.Global x = global_words x
row_words row.Function x = function_words (function_row_of x)
row_words row.Attribute x = attribute_words x
row_words row.List x = list_words x

-- .. its run in the pool ..
unfoldable pub row_run : (k : Row) → RowOf k → List ℕ
row_run row.Run x = x
row_run row.Type x = []
row_run row.Global x = []
row_run row.Function x = x.body
row_run row.Attribute x = []
row_run row.List x = []

-- .. and its bytes in the file. (A debug list's ids stand among those of the other lists.)
unfoldable pub row_bytes : VersionClass → (k : Row) → RowOf k → List ℕ
row_bytes c row.Run x = x
row_bytes c row.Type x = type_bytes c x
row_bytes c row.Global x = global_bytes c x
row_bytes c row.Function x = function_bytes x
row_bytes c row.Attribute x = attribute_bytes x
row_bytes c row.List x = flat 8 x

-- Whatever row of this kind the sheet has next, it was copied.
pub record RowCopied (c : VersionClass) (k : Row) (s pool : List ℕ) (p : Pen) (out out' : List ℕ) (q : Pen) : Type 0 where
  pub each : (x : RowOf k) → GoodRow c k x → Copied (row_words k x) (row_run k x) (row_bytes c k x) s pool p out out' q

-- A table's rows stand from a word on, and are well-formed.
pub record Placed (c : VersionClass) (k : Row) (xs : List (RowOf k)) (ws : List ℕ) (word count : ℕ) : Type 0 where
  pub lies : Lies ws word (join (map (row_words k) xs))
  pub number : length xs ≡ count
  pub good : All (GoodRow c k) xs

-- Whatever rows the table t has, these bytes of them were put. Tables are found by the contents: the pen's word stays.
pub record RowsPut (c : VersionClass) (t : Table) (bytes : List (RowOf t.row) → List ℕ) (s pool : List ℕ) (p : Pen) (out out' : List ℕ) (q : Pen) : Type 0 where
  pub each : (xs : List (RowOf t.row)) → Placed c t.row xs (words_in s) t.word t.count → length (words_in s) < 2 ^ 64 →
      Copied [] (join (map (row_run t.row) xs)) (bytes xs) s pool p out out' q
