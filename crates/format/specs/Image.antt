-- The image: the bytes that the container writer makes of tables (document 01, "The sheet", the paragraph "Writer", and
-- "The container"). Numbers have their shortest spelling, and each first start is 0.
use Rattle.std.specs.Prelude.{ℕ, ◌+◌, Bool, true, false, cond, ◌||◌, List, [], ◌∷◌, ◌++◌, map, length, take, get_or, replicate}
use Rattle.std.proofs.Math.Decide.{ℕ_discrete}
use Rattle.std.proofs.Math.Option.{Option, none, some}
use Rattle.exact.specs.Choice.{choose}
use Rattle.exact.specs.Fixed.{bytes_of}
use Rattle.exact.specs.Padding.{gap}
use Rattle.exact.specs.Tiling.{join, sums}
use Rattle.enums.specs.declared.VersionClass.{VersionClass}
use Rattle.enums.specs.Container.{
  P,
  magic,
  end_of_bytecode,
  string_id,
  func_id,
  debug_id,
  constant_id,
  type_id,
  global_id,
  producer_id,
}
use Rattle.enums.specs.Types.{tag_pointer, tag_tile, tag_tensor_view, tag_partition_view, tag_func, tag_gather_scatter_view, tag_strided_view}
use Rattle.enums.specs.Debug.{field_counts}
use Rattle.encoding.specs.Varint.{spelling}
use Rattle.encoding.specs.Out.{flat, counted_bytes}
use Rattle.format.specs.Tables.{
  Version,
  TypeRow,
  plain,
  pointer,
  tile,
  tensor_view,
  partition_view,
  gather_scatter_view,
  strided_view,
  function,
  Global,
  Function,
  Attribute,
  Tables,
}
use Rattle.format.specs.Explains.{class}
use Rattle.format.specs.Sheet.{attribute_fields}
use Rattle.format.specs.Sound.{All, Fits}
use Rattle.format.specs.Tests.{bit0?, since3?, since4?}

-- Varints, one after the other.
unfoldable pub varints : List ℕ → List ℕ
varints vs = join (map spelling vs)

-- A count and as many varints.
unfoldable pub counted_varints : List ℕ → List ℕ
counted_varints vs = spelling (length vs) ++ varints vs

-- Bytes that are there only where the question holds.
unfoldable pub only_where : {Q : Type 0} → Dec Q → List ℕ → List ℕ
only_where q bs = choose q bs []

-- "b if flags bit 0"
unfoldable pub optional_byte : ℕ → ℕ → List ℕ
optional_byte flags b = only_where (bit0? flags) (b ∷ [])

-- PartitionView: from 13.3 flags first and padding as b; below 13.3 a presence byte behind the map and padding as v.
unfoldable pub partition_bytes : VersionClass → ℕ → List ℕ → ℕ → List ℕ → ℕ → List ℕ
partition_bytes c flags shape view dims padding =
    choose (since3? c)
    (spelling flags ++ (counted_bytes 4 shape ++ (spelling view ++ (counted_bytes 4 dims ++ optional_byte flags padding))))
    (counted_bytes 4 shape ++ (spelling view ++ (counted_bytes 4 dims ++ (flags ∷ only_where (ℕ_discrete flags 1) (spelling padding)))))

-- A type entry: a varint tag and its fields.
unfoldable pub type_bytes : VersionClass → TypeRow → List ℕ
type_bytes c (plain tag) = spelling tag
type_bytes c (pointer flags element attribute) =
    spelling tag_pointer ++ (only_where (since4? c) (spelling flags) ++ (spelling element ++ optional_byte flags attribute))
type_bytes c (tile element dims) = spelling tag_tile ++ (spelling element ++ counted_bytes 8 dims)
type_bytes c (tensor_view flags element shape strides attribute) =
    spelling tag_tensor_view ++ (only_where (since4? c) (spelling flags) ++ (spelling element ++
    (counted_bytes 8 shape ++ (counted_bytes 8 strides ++ optional_byte flags attribute))))
type_bytes c (partition_view flags shape view dims padding) =
    spelling tag_partition_view ++ partition_bytes c flags shape view dims padding
type_bytes c (gather_scatter_view flags shape view sparse padding) =
    spelling tag_gather_scatter_view ++ (spelling flags ++ (counted_bytes 4 shape ++ (spelling view ++ (spelling sparse ++
    optional_byte flags padding))))
type_bytes c (strided_view flags shape strides view dims padding) =
    spelling tag_strided_view ++ (spelling flags ++ (counted_bytes 4 shape ++ (counted_bytes 4 strides ++ (spelling view ++
    (counted_bytes 4 dims ++ optional_byte flags padding)))))
type_bytes c (function inputs results) = spelling tag_func ++ (counted_varints inputs ++ counted_varints results)

-- A global: from 13.3 with a visibility byte and a constant flag.
unfoldable pub global_bytes : VersionClass → Global → List ℕ
global_bytes c g =
    spelling g.name ++ (spelling g.type ++ (spelling g.constant ++ (spelling g.alignment ++
    (only_where (since3? c) (g.visibility ∷ []) ++ only_where (since3? c) (spelling g.constant_flag)))))

-- A function, its body last.
unfoldable pub function_bytes : Function → List ℕ
function_bytes f =
    spelling f.name ++ (spelling f.signature ++ (f.flags ∷ (spelling f.location ++
    (spelling (length f.body) ++ f.body))))

-- A debug attribute: a tag byte and as many varints as the tag says.
unfoldable pub attribute_bytes : Attribute → List ℕ
attribute_bytes a = a.tag ∷ varints (take (get_or field_counts a.tag 0) (attribute_fields a))

-- At place i of a payload: a count, padding to a, and the numbers of w bytes each.
unfoldable pub padded_numbers : ℕ → ℕ → ℕ → List ℕ → List ℕ
padded_numbers w a i vs =
    let count = spelling (length vs) in count ++ (replicate (gap a (i + length count)) P ++ flat w vs)

-- An offset table: its starts from 0 on, and the entries.
unfoldable pub offset_table : ℕ → ℕ → ℕ → List (List ℕ) → List ℕ
offset_table w a i entries = padded_numbers w a i (sums 0 entries) ++ join entries

-- Debug: list starts counted in ids, the ids of all lists, and the attributes.
unfoldable pub debug_bytes : List (List ℕ) → List (List ℕ) → List ℕ
debug_bytes lists attributes =
    let starts = padded_numbers 4 4 0 (sums 0 lists) in
    let ids = padded_numbers 8 8 (length starts) (join lists) in
    starts ++ (ids ++ offset_table 4 4 (length starts + length ids) attributes)

-- A section: whether it is written, its id, its alignment if it has one, and its payload.
pub record Part : Type 0 where
  pub present : Bool
  pub id : ℕ
  pub alignment : Option ℕ
  pub payload : List ℕ

-- What stands between length and payload at file offset i.
unfoldable pub alignment_bytes : Option ℕ → ℕ → List ℕ
alignment_bytes none i = []
alignment_bytes (some a) i = spelling a ++ replicate (gap a (i + length (spelling a))) P

-- The id, with the top bit if there is an alignment.
unfoldable pub first_byte : ℕ → Option ℕ → ℕ
first_byte id none = id
first_byte id (some a) = id + 0x80

-- A section at file offset i.
unfoldable pub part_bytes : ℕ → Part → List ℕ
part_bytes i s =
    let size = spelling (length s.payload) in
    first_byte s.id s.alignment ∷ (size ++ (alignment_bytes s.alignment (i + 1 + length size) ++ s.payload))

-- The sections that are written, from file offset i on, and the end id.
unfoldable pub parts_from : ℕ → List Part → List ℕ
parts_from i [] = end_of_bytecode ∷ []
parts_from i (s ∷ ss) = cond s.present (part_bytes i s ++ parts_from (i + length (part_bytes i s)) ss) (parts_from i ss)

-- "nonempty tables only"
unfoldable pub has_rows : {A : Type 0} → List A → Bool
has_rows [] = false
has_rows (x ∷ xs) = true

-- "alignment 4 for String and Type, 8 for Constant and Debug, no alignment bit elsewhere"
unfoldable pub string_part : List (List ℕ) → Part
string_part strings =
    record { present = has_rows strings; id = string_id; alignment = some 4; payload = offset_table 4 4 0 strings }

-- "Producer if named"
unfoldable pub is_named : Option ℕ → Bool
is_named none = false
is_named (some index) = true

unfoldable pub producer_bytes : Option ℕ → List ℕ
producer_bytes none = []
producer_bytes (some index) = spelling index

unfoldable pub producer_part : Option ℕ → Part
producer_part producer =
    record { present = is_named producer; id = producer_id; alignment = none; payload = producer_bytes producer }

unfoldable pub type_part : VersionClass → List TypeRow → Part
type_part c types =
    record { present = has_rows types; id = type_id; alignment = some 4; payload = offset_table 4 4 0 (map (type_bytes c) types) }

unfoldable pub constant_part : List (List ℕ) → Part
constant_part constants =
    record { present = has_rows constants; id = constant_id; alignment = some 8; payload = offset_table 8 8 0 constants }

unfoldable pub global_part : VersionClass → List Global → Part
global_part c globals =
    record {
      present = has_rows globals;
      id = global_id;
      alignment = none;
      payload = spelling (length globals) ++ join (map (global_bytes c) globals);
    }

unfoldable pub function_part : List Function → Part
function_part functions =
    record {
      present = has_rows functions;
      id = func_id;
      alignment = none;
      payload = spelling (length functions) ++ join (map function_bytes functions);
    }

-- "Debug if either of its tables has rows"
unfoldable pub debug_part : List (List ℕ) → List Attribute → Part
debug_part lists attributes =
    record {
      present = has_rows lists || has_rows attributes;
      id = debug_id;
      alignment = some 8;
      payload = debug_bytes lists (map attribute_bytes attributes);
    }

-- "in reading order"
unfoldable pub parts_of : Tables → List Part
parts_of t =
    string_part t.strings ∷ producer_part t.producer ∷ type_part (class t.version) t.types ∷
    constant_part t.constants ∷ global_part (class t.version) t.globals ∷ function_part t.functions ∷
    debug_part t.lists t.attributes ∷ []

-- Eight bytes MAGIC, major u8, minor u8, tag u16.
unfoldable pub header_bytes : Version → List ℕ
header_bytes v = magic ++ (v.major ∷ v.minor ∷ bytes_of 2 v.tag)

-- The image of tables: the header, the sections from offset 12 on, the end id.
unfoldable pub image : Tables → List ℕ
image t = header_bytes t.version ++ parts_from 12 (parts_of t)

-- Every u32 start fits (else refusal 13).
pub record Starts32 (t : Tables) : Type 0 where
  pub strings : All (Fits 32) (sums 0 t.strings)
  pub types : All (Fits 32) (sums 0 (map (type_bytes (class t.version)) t.types))
  pub lists : All (Fits 32) (sums 0 t.lists)
  pub attributes : All (Fits 32) (sums 0 (map attribute_bytes t.attributes))
