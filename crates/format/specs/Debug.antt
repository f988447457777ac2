-- Debug (document 01, "The container"): function count, padding to 4, u32 list starts counted in ids; id count,
-- padding to 8, u64 ids; attribute count, padding to 4, u32 starts counted in bytes; data.
use Rattle.std.specs.Prelude.{ℕ, ◌+◌, ◌<◌, List, [], ◌∷◌, ◌++◌, length, get_or}
use Rattle.exact.specs.Repeat.{Many}
use Rattle.exact.specs.Tiling.{Tiled}
use Rattle.exact.specs.Entries.{Rows, Entries}
use Rattle.enums.specs.Container.{P}
use Rattle.enums.specs.Debug.{field_counts}
use Rattle.format.specs.Tables.{Attribute}
use Rattle.format.specs.Items.{Number, Padded}

-- An attribute with these fields; those that are absent are 0.
abbrev pub attribute_of : ℕ → List ℕ → Attribute
attribute_of t vs = record {
  tag = t;
  field1 = get_or vs 0 0;
  field2 = get_or vs 1 0;
  field3 = get_or vs 2 0;
  field4 = get_or vs 3 0;
  field5 = get_or vs 4 0;
  field6 = get_or vs 5 0;
}

-- An attribute: a tag byte that is known, as many varints as it asks for, and any bytes left. It is never empty.
pub data AttributeEntry : ℕ → List ℕ → Attribute → Type 0 where
  attribute : {i t : ℕ} {bs vs : List ℕ} (left : List ℕ) → t < length field_counts →
      Many Number (get_or field_counts t 0) (i + 1) bs vs → AttributeEntry i (t ∷ (bs ++ left)) (attribute_of t vs)

-- What the section stands for.
pub record DebugTables : Type 0 where
  pub attributes : List Attribute
  pub lists : List (List ℕ)

-- Nothing.
abbrev pub no_debug : DebugTables
no_debug = record { attributes = []; lists = [] }

-- List starts, ids, and the table of attributes. The ids are a gap and then the lists, which begin at the starts,
-- counted in ids; the last ends at the id count, and a list may be empty.
pub data Debug : ℕ → List ℕ → DebugTables → Type 0 where
  debug : {i : ℕ} {start_bytes id_bytes attribute_bytes starts ids : List ℕ} {lists : List (List ℕ)}
      {attributes : Rows Attribute} →
      Padded 4 4 i start_bytes starts →
      Padded 8 8 (i + length start_bytes) id_bytes ids →
      Entries Number P 4 4 0 AttributeEntry (i + length start_bytes + length id_bytes) attribute_bytes attributes →
      Tiled starts ids lists →
      Debug i (start_bytes ++ (id_bytes ++ attribute_bytes)) (record { attributes = attributes.values; lists = lists })
