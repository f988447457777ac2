-- Well-formed tables (document 01, "The sheet", the paragraph "Well-formed"), clause by clause. That the contents are as
-- they should be, that the list ends with its last row and that counts and lengths agree is `sheet_of`'s part.
use Rattle.std.specs.Prelude.{◌≡◌, ◌⊎◌, true, ℕ, ◌^◌, ◌<◌, List, [], ◌∷◌, length, drop, get_or}
use Rattle.std.proofs.Math.Option.{Option, none, some}
use Rattle.enums.specs.declared.VersionClass.{VersionClass}
use Rattle.enums.specs.Version.{since13_3, since13_4}
use Rattle.enums.specs.Debug.{field_counts}
use Rattle.format.specs.Tables.{
  Version,
  TypeRow,
  plain,
  pointer,
  tile,
  tensor_view,
  partition_view,
  gather_scatter_view,
  strided_view,
  function,
  Global,
  Attribute,
  Tables,
}
use Rattle.format.specs.Items.{Bit0}
use Rattle.format.specs.Types.{plain_tags, among}
use Rattle.format.specs.Functions.{NoHints}
use Rattle.format.specs.Explains.{class}
use Rattle.format.specs.Sheet.{FunctionRow, Frame, frame_of, attribute_fields, sheet_of, pool_of}

-- P holds of each.
abbrev pub All : {A : Type 0} → (A → Type 0) → List A → Type 0
All P [] = Unit
All P (x ∷ xs) = P x × All P xs

-- "every word fits its wire width": w bits.
abbrev pub Fits : ℕ → ℕ → Type 0
Fits w v = v < 2 ^ w

-- From 13.3 ..
abbrev pub Since3 : VersionClass → Type 0
Since3 c = since13_3 c ≡ true

-- .. and from 13.4.
abbrev pub Since4 : VersionClass → Type 0
Since4 c = since13_4 c ≡ true

-- "A field absent on the wire is 0": it is there only if P.
abbrev pub OnlyIf : Type 0 → ℕ → Type 0
OnlyIf P v = P ⊎ (v ≡ 0)

-- "b if flags bit 0"
abbrev pub OptionalByte : ℕ → ℕ → Type 0
OptionalByte flags b = OnlyIf (Bit0 flags) b × Fits 8 b

-- A type row: its tag is known, i32 numbers and bytes fit, and what its version and its flags leave out is 0.
abbrev pub SoundType : VersionClass → TypeRow → Type 0
SoundType c (plain tag) = among tag plain_tags ≡ true
SoundType c (pointer flags element attribute) = OnlyIf (Since4 c) flags × OptionalByte flags attribute
SoundType c (tile element dims) = Unit
SoundType c (tensor_view flags element shape strides attribute) = OnlyIf (Since4 c) flags × OptionalByte flags attribute
SoundType c (partition_view flags shape view dims padding) =
    (Since3 c ⊎ (flags < 2)) × All (Fits 32) shape × All (Fits 32) dims × OnlyIf (Bit0 flags) padding ×
    (¬ Since3 c ⊎ Fits 8 padding)
SoundType c (gather_scatter_view flags shape view sparse padding) = All (Fits 32) shape × OptionalByte flags padding
SoundType c (strided_view flags shape strides view dims padding) =
    All (Fits 32) shape × All (Fits 32) strides × All (Fits 32) dims × OptionalByte flags padding
SoundType c (function inputs results) = Unit

-- A global: a visibility byte and a constant flag 0 or 1, both 0 below 13.3.
pub record SoundGlobal (c : VersionClass) (g : Global) : Type 0 where
  pub visibility_byte : Fits 8 g.visibility
  pub visibility_since : OnlyIf (Since3 c) g.visibility
  pub flag_bit : g.constant_flag < 2
  pub flag_since : OnlyIf (Since3 c) g.constant_flag

-- A function: a flags byte, "no hints flag".
pub record SoundFunction (f : FunctionRow) : Type 0 where
  pub flags_byte : Fits 8 f.flags
  pub no_hints : NoHints f.flags

-- A debug attribute: its tag is known, and the fields beyond its tag's count are 0.
pub record SoundAttribute (a : Attribute) : Type 0 where
  pub tag_known : a.tag < length field_counts
  pub absent : All (λ v. v ≡ 0) (drop (get_or field_counts a.tag 0) (attribute_fields a))

-- "producer inside the strings"
abbrev pub Inside : Option ℕ → ℕ → Type 0
Inside none n = Unit
Inside (some index) n = index < n

pub record SoundVersion (v : Version) : Type 0 where
  pub major_byte : Fits 8 v.major
  pub minor_byte : Fits 8 v.minor
  pub tag_half : Fits 16 v.tag

-- The version class decides; the header gives it.
abbrev pub class_in : Frame → VersionClass
class_in r = class r.version

-- A frame that is well-formed. Strings, constants and lists are so always.
pub record SoundFrame (r : Frame) : Type 0 where
  pub version : SoundVersion r.version
  pub producer : Inside r.producer (length r.strings)
  pub types : All (SoundType (class_in r)) r.types
  pub globals : All (SoundGlobal (class_in r)) r.globals
  pub functions : All SoundFunction r.functions
  pub attributes : All SoundAttribute r.attributes

-- Tables that are well-formed: "a u64 list and a byte pool" hold them (varints, ids and i64 numbers fit their width by
-- that), and their rows are well-formed.
pub record Sound (t : Tables) : Type 0 where
  pub words : All (Fits 64) (sheet_of t)
  pub pool : All (Fits 8) (pool_of t)
  pub frame : SoundFrame (frame_of t)
