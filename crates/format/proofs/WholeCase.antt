-- The whole case of document 01, "The sheet", computed: the strings "a" and "bc" of version 13.1, their sheet and pool,
-- their image, and the judge's answer. Assumes nothing.
use mathlib.Core.Path.{◌≡◌, refl}
use Prim.Native.Nat.{ℕ}
use native.Mathlib.Decide.{dec_le, dec_lt, ℕ_discrete}
use mathlib.Core.List.{List, [], ◌∷◌, ◌++◌}
use mathlib.Core.Option.{none, some}
use Rattle.exact.specs.Got.{follow}
use Rattle.exact.specs.Basic.{byte, byte_of, pure}
use Rattle.exact.specs.Sequence.{bind, mapped}
use Rattle.exact.specs.Choice.{choose, such}
use Rattle.exact.specs.Repeat.{times}
use Rattle.exact.specs.Fixed.{raw, bytes_of}
use Rattle.exact.specs.Padding.{gap, here}
use Rattle.enums.specs.Container.{magic, P}
use Rattle.encoding.specs.Varint.{shortest}
use Rattle.format.specs.Tables.{Tables}
use Rattle.format.specs.Sheet.{frame_of, bodies, contents, producer_word, total, pool_length, words_of, sheet_of, pool_of}
use Rattle.format.specs.Tests.{same?, both?, all?, fits?, inside?, version?}
use Rattle.format.specs.Judge.{
  contents_at,
  starts_here,
  table_at,
  tables_at,
  version_at,
  producer_of,
  producer_at,
  frame_at,
  ending_at,
  judged,
  runs,
  with_bodies,
  cutting,
  with_pool,
  tables_of,
}
use Rattle.format.specs.Image.{
  padded_numbers,
  offset_table,
  alignment_bytes,
  first_byte,
  part_bytes,
  parts_from,
  has_rows,
  string_part,
  is_named,
  producer_bytes,
  producer_part,
  type_part,
  constant_part,
  global_part,
  function_part,
  debug_part,
  parts_of,
  header_bytes,
  image,
}

-- The strings "a" and "bc", and nothing else.
abbrev whole : Tables
whole =
    record {
      version = record { major = 13; minor = 1; tag = 0 };
      producer = none;
      strings = (0x61 ∷ []) ∷ (0x62 ∷ 0x63 ∷ []) ∷ [];
      types = [];
      constants = [];
      globals = [];
      functions = [];
      attributes = [];
      lists = [];
    }

abbrev whole_sheet : List ℕ
whole_sheet = 13 ∷ 1 ∷ 0 ∷ 0 ∷ 3 ∷ 19 ∷ 2 ∷ 21 ∷ 0 ∷ 21 ∷ 0 ∷ 21 ∷ 0 ∷ 21 ∷ 0 ∷ 21 ∷ 0 ∷ 21 ∷ 0 ∷ 1 ∷ 2 ∷ []

abbrev whole_pool : List ℕ
whole_pool = 0x61 ∷ 0x62 ∷ 0x63 ∷ []

pub whole-sheet : sheet_of whole ≡ whole_sheet
unfolding sheet_of frame_of words_of contents bodies producer_word pool_length total
whole-sheet = refl

pub whole-pool : pool_of whole ≡ whole_pool
unfolding pool_of
whole-pool = refl

pub whole-image : image whole ≡
    magic ++ (0x0D ∷ 0x01 ∷ 0x00 ∷ 0x00 ∷ 0x81 ∷ 0x0F ∷ 0x04 ∷ P ∷ 0x02 ∷ P ∷ P ∷ P ∷ 0x00 ∷ 0x00 ∷ 0x00 ∷ 0x00 ∷ 0x01 ∷ 0x00 ∷ 0x00 ∷ 0x00 ∷ 0x61 ∷ 0x62 ∷ 0x63 ∷ 0x00 ∷ [])
unfolding image header_bytes parts_of string_part is_named producer_bytes producer_part type_part constant_part global_part function_part debug_part parts_from part_bytes has_rows first_byte alignment_bytes offset_table padded_numbers shortest gap bytes_of choose dec_lt
whole-image = refl

pub whole-judged : tables_of whole_sheet whole_pool ≡ some whole
unfolding tables_of with_pool cutting with_bodies runs judged ending_at frame_at producer_at producer_of version_at tables_at table_at starts_here contents_at same? both? all? fits? inside? version? total pool_length follow byte byte_of pure bind mapped choose such times raw here dec_le dec_lt ℕ_discrete
whole-judged = refl
