-- What the writers of payloads answer and leave in the output, over the tables that the sheet and the pool stand for.
use Rattle.std.specs.Prelude.{◌≡◌, ℕ, ◌^◌, ◌<◌, List, [], ◌++◌, map, length}
use Rattle.exact.specs.Tiling.{join, sums}
use Rattle.enums.specs.declared.VersionClass.{VersionClass}
use Rattle.format.specs.Tables.{Tables}
use Rattle.format.specs.Explains.{class}
use Rattle.format.specs.Sheet.{sheet_of}
use Rattle.format.specs.Sound.{Sound}
use Rattle.format.specs.Image.{padded_numbers, Part, string_part, producer_part, type_part, constant_part, global_part, function_part, debug_part}
use Rattle.sheet.specs.Store.{words_in}
use Rattle.images.specs.Fields.{Copied}
use Rattle.images.specs.declared.fields.Pen.{Pen}
use Rattle.enums.specs.declared.Section.{Section}
use Rattle.enums.specs.declared.Section.TheVariants as section

-- The sheet is that of the tables t, which are well-formed, of version class c. A lent sheet has fewer than 2^63 bytes.
pub record Holds (c : VersionClass) (t : Tables) (s : List ℕ) : Type 0 where
  pub words : words_in s ≡ sheet_of t
  pub sound : Sound t
  pub version : c ≡ class t.version
  pub fits : length (sheet_of t) < 2 ^ 60

-- The starts of lists and their ids, from a payload's start on.
abbrev pub lists_bytes : List (List ℕ) → List ℕ
lists_bytes lists =
    let starts = padded_numbers 4 4 0 (sums 0 lists) in starts ++ padded_numbers 8 8 (length starts) (join lists)

-- Whatever tables the sheet stands for, their lists were put.
pub record ListsPut (c : VersionClass) (s pool : List ℕ) (p : Pen) (out out' : List ℕ) (q : Pen) : Type 0 where
  pub each : (t : Tables) → Holds c t s → Copied [] [] (lists_bytes t.lists) s pool p out out' q

-- The sections, in the order in which they are written.
unfoldable pub part_in : Section → Tables → Part
part_in section.String t = string_part t.strings
part_in section.Producer t = producer_part t.producer
part_in section.Type t = type_part (class t.version) t.types
part_in section.Constant t = constant_part t.constants
part_in section.Global t = global_part (class t.version) t.globals
part_in section.Func t = function_part t.functions
part_in section.Debug t = debug_part t.lists t.attributes

-- The runs of the pool that each has.
unfoldable pub runs_in : Section → Tables → List ℕ
runs_in section.String t = join t.strings
runs_in section.Producer t = []
runs_in section.Type t = []
runs_in section.Constant t = join t.constants
runs_in section.Global t = []
runs_in section.Func t = join (map (λ f. f.body) t.functions)
runs_in section.Debug t = []

-- Whatever tables the sheet stands for, the payload of a section was put.
pub record PayloadPut (k : Section) (c : VersionClass) (s pool : List ℕ) (p : Pen) (out out' : List ℕ) (q : Pen) : Type 0 where
  pub each : (t : Tables) → Holds c t s → Copied [] (runs_in k t) (part_in k t).payload s pool p out out' q
