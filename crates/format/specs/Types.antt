-- Type entries (document 01, "The container": a varint tag and then its fields, by kind and version class).
use Rattle.std.specs.Prelude.{◌≡◌, ℕ, Bool, true, false, ◌||◌, List, [], ◌∷◌, ◌++◌, eqb}
use Rattle.exact.specs.Exact.{Lang}
use Rattle.exact.specs.Sequence.{Of}
use Rattle.exact.specs.Entries.{Rows}
use Rattle.enums.specs.Types as tags
use Rattle.enums.specs.declared.VersionClass.{VersionClass}
use Rattle.enums.specs.Version.{since13_3, since13_4}
use Rattle.encoding.specs.Varint.{Spells}
use Rattle.format.specs.Tables.{TypeRow, plain, pointer, tile, tensor_view, partition_view, gather_scatter_view, strided_view, function}
use Rattle.format.specs.Items.{Byte, Field, Array, Indices, Truth, Bit0}
use Rattle.format.specs.Strings.{OffsetTable}

-- The sixteen scalars and Token: nothing follows their tag.
abbrev pub plain_tags : List ℕ
plain_tags =
    tags.tag_i1 ∷ tags.tag_i8 ∷ tags.tag_i16 ∷ tags.tag_i32 ∷ tags.tag_i64 ∷ tags.tag_f16 ∷ tags.tag_bf16 ∷ tags.tag_f32 ∷
    tags.tag_tf32 ∷ tags.tag_f64 ∷ tags.tag_f8e4m3fn ∷ tags.tag_f8e5m2 ∷ tags.tag_token ∷ tags.tag_f8e8m0fnu ∷
    tags.tag_f4e2m1fn ∷ tags.tag_i4 ∷ tags.tag_f8e5m3fnu ∷ []

-- Whether a number is among these.
abbrev pub among : ℕ → List ℕ → Bool
among t [] = false
among t (u ∷ us) = eqb t u || among t us

-- Pointer: flags v from 13.4, element v, b if flags bit 0.
pub data Pointer (c : VersionClass) : List ℕ → TypeRow → Type 0 where
  fields : {flags_bytes element_bytes attribute_bytes : List ℕ} {flags element attribute : ℕ} →
      Field (since13_4 c ≡ true) Spells flags_bytes flags →
      Spells element_bytes element →
      Field (Bit0 flags) Byte attribute_bytes attribute →
      Pointer c (flags_bytes ++ (element_bytes ++ attribute_bytes)) (pointer flags element attribute)

-- Tile: element v, rank v, i64 dims.
pub data Tile : List ℕ → TypeRow → Type 0 where
  fields : {element_bytes dims_bytes dims : List ℕ} {element : ℕ} →
      Spells element_bytes element →
      Array 8 dims_bytes dims →
      Tile (element_bytes ++ dims_bytes) (tile element dims)

-- TensorView: flags v from 13.4, element v, counted i64 shape, counted i64 strides, b if bit 0.
pub data TensorView (c : VersionClass) : List ℕ → TypeRow → Type 0 where
  fields : {flags_bytes element_bytes shape_bytes strides_bytes attribute_bytes shape strides : List ℕ}
      {flags element attribute : ℕ} →
      Field (since13_4 c ≡ true) Spells flags_bytes flags →
      Spells element_bytes element →
      Array 8 shape_bytes shape →
      Array 8 strides_bytes strides →
      Field (Bit0 flags) Byte attribute_bytes attribute →
      TensorView c (flags_bytes ++ (element_bytes ++ (shape_bytes ++ (strides_bytes ++ attribute_bytes))))
      (tensor_view flags element shape strides attribute)

-- PartitionView from 13.3: flags v, counted i32 shape, view v, counted i32 map; if flags bit 0, padding as b.
pub data PartitionView : List ℕ → TypeRow → Type 0 where
  fields : {flags_bytes shape_bytes view_bytes map_bytes padding_bytes shape map : List ℕ} {flags view padding : ℕ} →
      Spells flags_bytes flags →
      Array 4 shape_bytes shape →
      Spells view_bytes view →
      Array 4 map_bytes map →
      Field (Bit0 flags) Byte padding_bytes padding →
      PartitionView (flags_bytes ++ (shape_bytes ++ (view_bytes ++ (map_bytes ++ padding_bytes))))
      (partition_view flags shape view map padding)

-- PartitionView below 13.3: counted i32 shape, view v, counted i32 map, a presence byte (nonzero means 1); if
-- present, padding as v. The presence stands where flags stand from 13.3.
pub data OldPartitionView : List ℕ → TypeRow → Type 0 where
  fields : {shape_bytes view_bytes map_bytes presence_bytes padding_bytes shape map : List ℕ} {view presence padding : ℕ} →
      Array 4 shape_bytes shape →
      Spells view_bytes view →
      Array 4 map_bytes map →
      Truth Byte presence_bytes presence →
      Field (presence ≡ 1) Spells padding_bytes padding →
      OldPartitionView (shape_bytes ++ (view_bytes ++ (map_bytes ++ (presence_bytes ++ padding_bytes))))
      (partition_view presence shape view map padding)

-- GatherScatterView: flags v, counted i32 shape, view v, sparse v, b if bit 0.
pub data GatherScatterView : List ℕ → TypeRow → Type 0 where
  fields : {flags_bytes shape_bytes view_bytes sparse_bytes padding_bytes shape : List ℕ} {flags view sparse padding : ℕ} →
      Spells flags_bytes flags →
      Array 4 shape_bytes shape →
      Spells view_bytes view →
      Spells sparse_bytes sparse →
      Field (Bit0 flags) Byte padding_bytes padding →
      GatherScatterView (flags_bytes ++ (shape_bytes ++ (view_bytes ++ (sparse_bytes ++ padding_bytes))))
      (gather_scatter_view flags shape view sparse padding)

-- StridedView: flags v, counted i32 shape, counted i32 strides, view v, counted i32 map, b if bit 0.
pub data StridedView : List ℕ → TypeRow → Type 0 where
  fields : {flags_bytes shape_bytes strides_bytes view_bytes map_bytes padding_bytes shape strides map : List ℕ}
      {flags view padding : ℕ} →
      Spells flags_bytes flags →
      Array 4 shape_bytes shape →
      Array 4 strides_bytes strides →
      Spells view_bytes view →
      Array 4 map_bytes map →
      Field (Bit0 flags) Byte padding_bytes padding →
      StridedView (flags_bytes ++ (shape_bytes ++ (strides_bytes ++ (view_bytes ++ (map_bytes ++ padding_bytes)))))
      (strided_view flags shape strides view map padding)

-- Func: counted v inputs, counted v results.
pub data FunctionType : List ℕ → TypeRow → Type 0 where
  fields : {inputs_bytes results_bytes inputs results : List ℕ} →
      Indices inputs_bytes inputs →
      Indices results_bytes results →
      FunctionType (inputs_bytes ++ results_bytes) (function inputs results)

-- What stands behind the tag t, by kind.
pub data Fields (c : VersionClass) (t : ℕ) : List ℕ → TypeRow → Type 0 where
  a_plain : among t plain_tags ≡ true → Fields c t [] (plain t)
  a_pointer : {bs : List ℕ} {v : TypeRow} → t ≡ tags.tag_pointer → Pointer c bs v → Fields c t bs v
  a_tile : {bs : List ℕ} {v : TypeRow} → t ≡ tags.tag_tile → Tile bs v → Fields c t bs v
  a_tensor_view : {bs : List ℕ} {v : TypeRow} → t ≡ tags.tag_tensor_view → TensorView c bs v → Fields c t bs v
  a_partition_view : {bs : List ℕ} {v : TypeRow} → t ≡ tags.tag_partition_view → since13_3 c ≡ true → PartitionView bs v →
      Fields c t bs v
  an_old_partition_view : {bs : List ℕ} {v : TypeRow} → t ≡ tags.tag_partition_view → since13_3 c ≡ false →
      OldPartitionView bs v → Fields c t bs v
  a_gather_scatter_view : {bs : List ℕ} {v : TypeRow} → t ≡ tags.tag_gather_scatter_view → GatherScatterView bs v →
      Fields c t bs v
  a_strided_view : {bs : List ℕ} {v : TypeRow} → t ≡ tags.tag_strided_view → StridedView bs v → Fields c t bs v
  a_function : {bs : List ℕ} {v : TypeRow} → t ≡ tags.tag_func → FunctionType bs v → Fields c t bs v

-- A type entry: its tag, its fields, and any bytes left in it.
pub data TypeEntry (c : VersionClass) : ℕ → List ℕ → TypeRow → Type 0 where
  type_entry : {i : ℕ} {tag_bytes field_bytes : List ℕ} {t : ℕ} {v : TypeRow} (left : List ℕ) → Spells tag_bytes t →
      Fields c t field_bytes v → TypeEntry c i (tag_bytes ++ (field_bytes ++ left)) v

-- The rows alone.
abbrev pub values_of : {A : Type 0} → Rows A → List A
values_of r = r.values

-- Type: padding to 4, u32 starts.
abbrev pub Types : VersionClass → ℕ → Lang (List TypeRow)
Types c o = Of values_of (OffsetTable 4 4 o (TypeEntry c))
