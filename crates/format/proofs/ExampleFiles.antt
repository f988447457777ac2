-- Example files, part by part, and what they stand for: the whole case of document 01, what a layout leaves free, the
-- version classes, and every table. Assumes nothing.
use Prim.Native.Nat.{ℕ}
use mathlib.Core.Option.{none, some}
use mathlib.Core.List.{List, [], ◌∷◌, ◌++◌}
use lib.ListN.{length}
use Rattle.exact.specs.Tiling.{join, sums}
use Rattle.enums.specs.Container as id
use Rattle.enums.specs.Container.{magic, P}
use Rattle.enums.specs.Types as tags
use Rattle.enums.specs.Debug as di
use Rattle.format.specs.Tables.{Tables, TypeRow, plain, pointer, tile, tensor_view, gather_scatter_view, strided_view, function}
use Rattle.format.specs.Sections.{Place}
use Rattle.format.specs.Explains.{Placed}
use Rattle.format.specs.Debug.{attribute_of}

-- MAGIC, major, minor, tag 0.
abbrev pub header : ℕ → ℕ → List ℕ
header major minor = magic ++ (major ∷ minor ∷ 0 ∷ 0 ∷ [])

-- Small numbers of four and of eight bytes.
abbrev pub u32 : ℕ → List ℕ
u32 n = n ∷ 0 ∷ 0 ∷ 0 ∷ []

abbrev pub u64 : ℕ → List ℕ
u64 n = n ∷ 0 ∷ 0 ∷ 0 ∷ 0 ∷ 0 ∷ 0 ∷ 0 ∷ []

-- A section without alignment, of fewer than 128 bytes.
abbrev pub bare : ℕ → List ℕ → List ℕ
bare id payload = id ∷ length payload ∷ payload

-- Small u32 starts, one after the other.
abbrev pub starts : List ℕ → List ℕ
starts [] = []
starts (s ∷ ss) = u32 s ++ starts ss

-- A String or Type payload with these entries, fewer than 128.
abbrev pub table : List (List ℕ) → List ℕ
table es = length es ∷ P ∷ P ∷ P ∷ (starts (sums 0 es) ++ join es)

-- Tables of this version with these strings and types, and nothing else.
abbrev pub tables_with : ℕ → ℕ → List (List ℕ) → List TypeRow → Tables
tables_with major minor strings types =
    record {
      version = record { major = major; minor = minor; tag = 0 };
      producer = none;
      strings = strings;
      types = types;
      constants = [];
      globals = [];
      functions = [];
      attributes = [];
      lists = [];
    }

-- The strings "a" and "bc".
abbrev pub abc : List (List ℕ)
abc = (0x61 ∷ []) ∷ (0x62 ∷ 0x63 ∷ []) ∷ []

-- The whole case.
abbrev pub whole_case : List ℕ
whole_case =
    magic ++ (0x0D ∷ 0x01 ∷ 0x00 ∷ 0x00 ∷ 0x81 ∷ 0x0F ∷ 0x04 ∷ P ∷ 0x02 ∷ P ∷ P ∷ P ∷ 0x00 ∷ 0x00 ∷ 0x00 ∷ 0x00 ∷
    0x01 ∷ 0x00 ∷ 0x00 ∷ 0x00 ∷ 0x61 ∷ 0x62 ∷ 0x63 ∷ 0x00 ∷ [])

-- The same tables otherwise: a section with an unknown id, an earlier String section of any bytes, longer spellings
-- of length (16), alignment (7) and count (2), an odd alignment, a gap before the first entry, the end marker with
-- its top bit set, and bytes after it.
abbrev pub free_case : List ℕ
free_case =
    header 13 1 ++ (bare 0x7F (0xAA ∷ 0xBB ∷ []) ++ (bare id.string_id (0xFF ∷ []) ++
    ((0x81 ∷ 0x90 ∷ 0x00 ∷ 0x87 ∷ 0x00 ∷ P ∷ P ∷ P ∷ P ∷ 0x82 ∷ 0x00 ∷ P ∷ P ∷ []) ++ (u32 1 ++ (u32 2 ++
    (0xEE ∷ 0x61 ∷ 0x62 ∷ 0x63 ∷ 0x80 ∷ 0x01 ∷ 0x02 ∷ 0x03 ∷ []))))))

-- A count of 0 ends a table, and any bytes may follow; an absent section is an empty table too.
abbrev pub count_zero : List ℕ
count_zero = header 13 1 ++ (bare id.string_id (0x00 ∷ 0xEE ∷ []) ++ (0x00 ∷ []))

-- A PartitionView below 13.3: shape, view, map, a presence byte, and the padding as a varint.
abbrev pub partition_old : List ℕ
partition_old = tags.tag_partition_view ∷ 0x01 ∷ (u32 5 ++ (0x02 ∷ 0x01 ∷ (u32 0 ++ (0x03 ∷ 0x81 ∷ 0x02 ∷ []))))

-- And from 13.3: flags, shape, view, map, and the padding as a byte.
abbrev pub partition_new : List ℕ
partition_new = tags.tag_partition_view ∷ 0x03 ∷ 0x01 ∷ (u32 5 ++ (0x02 ∷ 0x01 ∷ (u32 0 ++ (0x81 ∷ []))))

-- A file of version 13.minor with this type entry.
abbrev pub one_type : ℕ → List ℕ → List ℕ
one_type minor e = header 13 minor ++ (bare id.type_id (table (e ∷ [])) ++ (0x00 ∷ []))

-- A type entry of each kind with fields, one with bytes left over, and one whose tag takes two bytes.
abbrev pub type_entries : List (List ℕ)
type_entries =
    (tags.tag_pointer ∷ 0x01 ∷ 0x00 ∷ 0x09 ∷ []) ∷
    (tags.tag_tile ∷ 0x02 ∷ 0x02 ∷ (u64 3 ++ u64 5)) ∷
    (tags.tag_tensor_view ∷ 0x00 ∷ 0x04 ∷ 0x01 ∷ (u64 7 ++ (0x00 ∷ []))) ∷
    (tags.tag_gather_scatter_view ∷ 0x02 ∷ 0x01 ∷ (u32 8 ++ (0x03 ∷ 0x01 ∷ []))) ∷
    (tags.tag_strided_view ∷ 0x01 ∷ 0x00 ∷ 0x01 ∷ (0xFF ∷ 0xFF ∷ 0xFF ∷ 0xFF ∷ 0x02 ∷ 0x00 ∷ 0x04 ∷ [])) ∷
    (tags.tag_func ∷ 0x02 ∷ 0x00 ∷ 0x01 ∷ 0x01 ∷ 0x02 ∷ []) ∷
    (tags.tag_i1 ∷ 0xEE ∷ 0xEE ∷ []) ∷
    (0x82 ∷ 0x01 ∷ []) ∷ []

abbrev pub type_rows : List TypeRow
type_rows =
    pointer 1 0 9 ∷ tile 2 (3 ∷ 5 ∷ []) ∷ tensor_view 0 4 (7 ∷ []) [] 0 ∷ gather_scatter_view 2 (8 ∷ []) 3 1 0 ∷
    strided_view 1 [] (0xFFFFFFFF ∷ []) 2 [] 4 ∷ function (0 ∷ 1 ∷ []) (2 ∷ []) ∷ plain tags.tag_i1 ∷ plain tags.tag_f8e5m3fnu ∷ []

-- Two constants, the second of them empty.
abbrev pub constant_payload : List ℕ
constant_payload = 2 ∷ P ∷ P ∷ P ∷ P ∷ P ∷ P ∷ P ∷ (u64 0 ++ (u64 2 ++ (0x01 ∷ 0x02 ∷ [])))

-- One global: name, type, constant, alignment, visibility, a constant flag of 5; and a byte after the last item.
abbrev pub global_payload : List ℕ
global_payload = 1 ∷ 0 ∷ 1 ∷ 0 ∷ 8 ∷ 1 ∷ 5 ∷ 0xEE ∷ []

-- Two functions, the second with an empty body.
abbrev pub function_payload : List ℕ
function_payload = 2 ∷ 1 ∷ 6 ∷ 2 ∷ 0 ∷ 3 ∷ 0xAA ∷ 0xBB ∷ 0xCC ∷ 0 ∷ 6 ∷ 1 ∷ 0 ∷ 0 ∷ []

-- Three lists over the ids 9, 1, 2, the first id in none of them and the second list empty; then a DIFile and an
-- Unknown.
abbrev pub debug_payload : List ℕ
debug_payload =
    (3 ∷ P ∷ P ∷ P ∷ (u32 1 ++ (u32 2 ++ u32 2))) ++ ((3 ∷ P ∷ P ∷ P ∷ P ∷ P ∷ P ∷ P ∷ (u64 9 ++ (u64 1 ++ u64 2))) ++
    (2 ∷ P ∷ P ∷ P ∷ (u32 0 ++ (u32 3 ++ (di.tag_di_file ∷ 0 ∷ 1 ∷ di.tag_unknown ∷ [])))))

-- Every table, in another order than the reading order.
abbrev pub every_table : List ℕ
every_table =
    header 13 4 ++ (bare id.debug_id debug_payload ++ (bare id.func_id function_payload ++ (bare id.string_id (table abc) ++
    (bare id.producer_id (1 ∷ []) ++ (bare id.type_id (table type_entries) ++ (bare id.constant_id constant_payload ++
    (bare id.global_id global_payload ++ (0x00 ∷ []))))))))

abbrev pub every_row : Tables
every_row =
    record {
      version = record { major = 13; minor = 4; tag = 0 };
      producer = some 1;
      strings = abc;
      types = type_rows;
      constants = (0x01 ∷ 0x02 ∷ []) ∷ [] ∷ [];
      globals = record { name = 0; type = 1; constant = 0; alignment = 8; visibility = 1; constant_flag = 1 } ∷ [];
      functions =
          record { name = 1; signature = 6; flags = 2; location = 0; body = 0xAA ∷ 0xBB ∷ 0xCC ∷ [] } ∷
          record { name = 0; signature = 6; flags = 1; location = 0; body = [] } ∷ [];
      attributes = attribute_of di.tag_di_file (0 ∷ 1 ∷ []) ∷ attribute_of di.tag_unknown [] ∷ [];
      lists = (1 ∷ []) ∷ [] ∷ (2 ∷ []) ∷ [];
    }

-- A place: presence, start and length.
abbrev pub at : ℕ → ℕ → ℕ → Place
at presence start size = record { presence = presence; start = start; size = size }

-- Where its rows stand. The sections are, by id: end marker, String, Func, Debug, Constant, Type, Global, Producer.
abbrev pub every_placed : Placed
every_placed =
    record {
      tables = every_row;
      places = record {
        strings = 108 ∷ 109 ∷ [];
        constants = 245 ∷ 247 ∷ [];
        bodies = 86 ∷ 94 ∷ [];
        sections = at 0 0 0 ∷ at 1 96 15 ∷ at 1 80 14 ∷ at 1 14 64 ∷ at 1 221 26 ∷ at 1 116 103 ∷ at 1 249 8 ∷ at 1 113 1 ∷ [];
      };
    }
