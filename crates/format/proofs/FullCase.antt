-- A case with rows in every table and a type of every kind (version 13.4): its sheet, pool and image, each made by hand
-- from document 01, and the judge's and the reader's answers. Assumes nothing.
use mathlib.Core.Path.{◌≡◌, refl}
use Prim.Native.Nat.{ℕ, ◌≤◌}
use native.Mathlib.Decide.{dec_le, dec_lt, ℕ_discrete}
use native.Mathlib.Omega.{arith}
use mathlib.Core.List.{List, [], ◌∷◌}
use mathlib.Core.Option.{some}
use lib.ListN.{length}
use Rattle.exact.specs.Got.{follow}
use Rattle.exact.specs.Basic.{byte, byte_of, pure}
use Rattle.exact.specs.Sequence.{bind, mapped}
use Rattle.exact.specs.Choice.{choose, such}
use Rattle.exact.specs.Repeat.{times, counted}
use Rattle.exact.specs.Fixed.{raw, bytes_of}
use Rattle.exact.specs.Padding.{gap, here}
use Rattle.enums.specs.Version.{class_of}
use Rattle.encoding.specs.Varint.{shortest}
use Rattle.format.specs.Tables.{
  Tables,
  plain,
  pointer,
  tile,
  tensor_view,
  partition_view,
  gather_scatter_view,
  strided_view,
  function,
}
use Rattle.format.specs.Read.{accepted}
use Rattle.format.specs.Decode.{most_bytes, decode}
use Rattle.format.specs.Sheet.{
  function_row_of,
  frame_of,
  field_words,
  type_words,
  global_words,
  function_words,
  attribute_fields,
  attribute_words,
  bodies,
  contents,
  producer_word,
  total,
  pool_length,
  words_of,
  sheet_of,
  pool_of,
}
use Rattle.format.specs.Tests.{
  same?,
  both?,
  either?,
  not?,
  all?,
  fits?,
  since3?,
  since4?,
  only_if?,
  bit0?,
  optional_byte?,
  plain?,
  type?,
  global?,
  function?,
  attribute?,
  inside?,
  version?,
}
use Rattle.format.specs.Judge.{
  list_at,
  pointer_at,
  tile_at,
  tensor_view_at,
  partition_view_at,
  gather_scatter_view_at,
  strided_view_at,
  function_type_at,
  kind_at,
  type_at,
  global_at,
  function_at,
  attribute_at,
  contents_at,
  starts_here,
  table_at,
  tables_at,
  version_at,
  producer_of,
  producer_at,
  frame_at,
  ending_at,
  judged,
  runs,
  with_bodies,
  cutting,
  with_pool,
  tables_of,
}
use Rattle.format.specs.Image.{
  varints,
  counted_varints,
  only_where,
  optional_byte,
  partition_bytes,
  type_bytes,
  global_bytes,
  function_bytes,
  attribute_bytes,
  padded_numbers,
  offset_table,
  debug_bytes,
  alignment_bytes,
  first_byte,
  part_bytes,
  parts_from,
  has_rows,
  is_named,
  producer_bytes,
  string_part,
  producer_part,
  type_part,
  constant_part,
  global_part,
  function_part,
  debug_part,
  parts_of,
  header_bytes,
  image,
}
use Rattle.format.proofs.Sheets.{sheet-judged}
use Rattle.format.proofs.Images.{image-read}

abbrev full : Tables
full =
    record {
      version = record { major = 13; minor = 4; tag = 0 };
      producer = some 0;
      strings = (0x61 ∷ []) ∷ [];
      types =
          plain 3 ∷ pointer 1 0 7 ∷ tile 0 (4 ∷ 8 ∷ []) ∷ tensor_view 0 0 (2 ∷ []) (1 ∷ []) 0 ∷ partition_view 1 (2 ∷ []) 3 (0 ∷ []) 5 ∷
          gather_scatter_view 0 (2 ∷ []) 3 1 0 ∷ strided_view 0 (2 ∷ []) (1 ∷ []) 3 (0 ∷ []) 0 ∷ function (0 ∷ []) (1 ∷ []) ∷ [];
      constants = (1 ∷ 2 ∷ []) ∷ [];
      globals = record { name = 0; type = 1; constant = 0; alignment = 8; visibility = 1; constant_flag = 1 } ∷ [];
      functions = record { name = 0; signature = 7; flags = 2; location = 3; body = 9 ∷ 9 ∷ [] } ∷ [];
      attributes = record { tag = 2; field1 = 0; field2 = 300; field3 = 0; field4 = 0; field5 = 0; field6 = 0 } ∷ [];
      lists = (0 ∷ []) ∷ [] ∷ [];
    }

abbrev full_sheet : List ℕ
full_sheet =
    13 ∷ 4 ∷ 0 ∷ 1 ∷ 5 ∷ 19 ∷ 1 ∷ 20 ∷ 8 ∷ 76 ∷ 1 ∷ 77 ∷ 1 ∷ 83 ∷ 1 ∷ 88 ∷ 1 ∷ 95 ∷ 2 ∷ 1 ∷ 1 ∷ 3 ∷ 4 ∷ 12 ∷
    1 ∷ 0 ∷ 7 ∷ 5 ∷ 13 ∷ 0 ∷ 2 ∷ 4 ∷ 8 ∷ 8 ∷ 14 ∷ 0 ∷ 0 ∷ 1 ∷ 2 ∷ 1 ∷ 1 ∷ 0 ∷ 8 ∷ 15 ∷ 1 ∷ 1 ∷ 2 ∷ 3 ∷
    1 ∷ 0 ∷ 5 ∷ 7 ∷ 20 ∷ 0 ∷ 1 ∷ 2 ∷ 3 ∷ 1 ∷ 0 ∷ 10 ∷ 21 ∷ 0 ∷ 1 ∷ 2 ∷ 1 ∷ 1 ∷ 3 ∷ 1 ∷ 0 ∷ 0 ∷ 5 ∷ 16 ∷
    1 ∷ 0 ∷ 1 ∷ 1 ∷ 2 ∷ 0 ∷ 1 ∷ 0 ∷ 8 ∷ 1 ∷ 1 ∷ 0 ∷ 7 ∷ 2 ∷ 3 ∷ 2 ∷ 2 ∷ 0 ∷ 300 ∷ 0 ∷ 0 ∷ 0 ∷ 0 ∷ 1 ∷
    0 ∷ 0 ∷ []

abbrev full_pool : List ℕ
full_pool = 97 ∷ 1 ∷ 2 ∷ 9 ∷ 9 ∷ []

abbrev full_image : List ℕ
full_image =
    127 ∷ 84 ∷ 105 ∷ 108 ∷ 101 ∷ 73 ∷ 82 ∷ 0 ∷ 13 ∷ 4 ∷ 0 ∷ 0 ∷ 129 ∷ 9 ∷ 4 ∷ 203 ∷ 1 ∷ 203 ∷ 203 ∷ 203 ∷ 0 ∷ 0 ∷ 0 ∷ 0 ∷
    97 ∷ 7 ∷ 1 ∷ 0 ∷ 133 ∷ 127 ∷ 4 ∷ 203 ∷ 8 ∷ 203 ∷ 203 ∷ 203 ∷ 0 ∷ 0 ∷ 0 ∷ 0 ∷ 1 ∷ 0 ∷ 0 ∷ 0 ∷ 5 ∷ 0 ∷ 0 ∷ 0 ∷
    24 ∷ 0 ∷ 0 ∷ 0 ∷ 45 ∷ 0 ∷ 0 ∷ 0 ∷ 59 ∷ 0 ∷ 0 ∷ 0 ∷ 68 ∷ 0 ∷ 0 ∷ 0 ∷ 86 ∷ 0 ∷ 0 ∷ 0 ∷ 3 ∷ 12 ∷ 1 ∷ 0 ∷
    7 ∷ 13 ∷ 0 ∷ 2 ∷ 4 ∷ 0 ∷ 0 ∷ 0 ∷ 0 ∷ 0 ∷ 0 ∷ 0 ∷ 8 ∷ 0 ∷ 0 ∷ 0 ∷ 0 ∷ 0 ∷ 0 ∷ 0 ∷ 14 ∷ 0 ∷ 0 ∷ 1 ∷
    2 ∷ 0 ∷ 0 ∷ 0 ∷ 0 ∷ 0 ∷ 0 ∷ 0 ∷ 1 ∷ 1 ∷ 0 ∷ 0 ∷ 0 ∷ 0 ∷ 0 ∷ 0 ∷ 0 ∷ 15 ∷ 1 ∷ 1 ∷ 2 ∷ 0 ∷ 0 ∷ 0 ∷
    3 ∷ 1 ∷ 0 ∷ 0 ∷ 0 ∷ 0 ∷ 5 ∷ 20 ∷ 0 ∷ 1 ∷ 2 ∷ 0 ∷ 0 ∷ 0 ∷ 3 ∷ 1 ∷ 21 ∷ 0 ∷ 1 ∷ 2 ∷ 0 ∷ 0 ∷ 0 ∷ 1 ∷
    1 ∷ 0 ∷ 0 ∷ 0 ∷ 3 ∷ 1 ∷ 0 ∷ 0 ∷ 0 ∷ 0 ∷ 16 ∷ 1 ∷ 0 ∷ 1 ∷ 1 ∷ 132 ∷ 18 ∷ 8 ∷ 203 ∷ 203 ∷ 203 ∷ 203 ∷ 203 ∷ 203 ∷
    1 ∷ 203 ∷ 203 ∷ 203 ∷ 203 ∷ 203 ∷ 203 ∷ 203 ∷ 0 ∷ 0 ∷ 0 ∷ 0 ∷ 0 ∷ 0 ∷ 0 ∷ 0 ∷ 1 ∷ 2 ∷ 6 ∷ 7 ∷ 1 ∷ 0 ∷ 1 ∷ 0 ∷
    8 ∷ 1 ∷ 1 ∷ 2 ∷ 8 ∷ 1 ∷ 0 ∷ 7 ∷ 2 ∷ 3 ∷ 2 ∷ 9 ∷ 9 ∷ 131 ∷ 36 ∷ 8 ∷ 2 ∷ 203 ∷ 203 ∷ 203 ∷ 0 ∷ 0 ∷ 0 ∷ 0 ∷
    1 ∷ 0 ∷ 0 ∷ 0 ∷ 1 ∷ 203 ∷ 203 ∷ 203 ∷ 0 ∷ 0 ∷ 0 ∷ 0 ∷ 0 ∷ 0 ∷ 0 ∷ 0 ∷ 1 ∷ 203 ∷ 203 ∷ 203 ∷ 0 ∷ 0 ∷ 0 ∷ 0 ∷
    2 ∷ 0 ∷ 172 ∷ 2 ∷ 0 ∷ []

pub full-sheet : sheet_of full ≡ full_sheet
unfolding sheet_of frame_of function_row_of words_of contents bodies producer_word pool_length total type_words field_words global_words function_words attribute_words attribute_fields
full-sheet = refl

pub full-pool : pool_of full ≡ full_pool
unfolding pool_of
full-pool = refl

pub full-image : image full ≡ full_image
unfolding image header_bytes parts_of string_part is_named producer_bytes producer_part type_part constant_part global_part function_part debug_part parts_from part_bytes has_rows first_byte alignment_bytes offset_table padded_numbers debug_bytes attribute_bytes attribute_fields function_bytes global_bytes type_bytes partition_bytes optional_byte only_where counted_varints varints bit0? since3? since4? class_of shortest gap bytes_of choose dec_lt ℕ_discrete
full-image = refl

pub full-judged : tables_of full_sheet full_pool ≡ some full
unfolding tables_of with_pool cutting with_bodies runs judged ending_at frame_at producer_at producer_of version_at tables_at table_at starts_here contents_at attribute_at function_at global_at type_at kind_at function_type_at strided_view_at gather_scatter_view_at partition_view_at tensor_view_at tile_at pointer_at list_at same? both? either? not? all? fits? since3? since4? only_if? bit0? optional_byte? plain? type? global? function? attribute? inside? version? field_words attribute_fields total pool_length class_of follow byte byte_of pure bind mapped choose such times counted raw here dec_le dec_lt ℕ_discrete
full-judged = refl

-- The image made by hand reads as the tables.
pub full-read : decode full_image ≡ accepted full
full-read =
    let s = ((sheet-judged full_sheet full_pool full).0 full-judged).2 in
    let l : length (image full) ≤ most_bytes = rw full-image (omega arith) in
    rw (← full-image) (image-read full s l)
