-- The reader of type entries, one for each kind, in reading order (document 01, "The container").
use Rattle.std.specs.Prelude.{ℕ, ◌%◌, true, ◌≡◌, List, [], ◌∷◌}
use Rattle.std.proofs.Math.Decide.{ℕ_discrete}
use Rattle.std.proofs.Math.Bool.{Bool-discrete}
use Rattle.exact.specs.Exact.{Parser}
use Rattle.exact.specs.Basic.{byte, pure}
use Rattle.exact.specs.Sequence.{bind, mapped}
use Rattle.exact.specs.Choice.{choose, If}
use Rattle.exact.specs.Padding.{here}
use Rattle.exact.specs.Kinds.{Case}
use Rattle.exact.specs.Refuse.{pick_at}
use Rattle.exact.specs.Upto.{upto}
use Rattle.enums.specs.Refusals as refusals
use Rattle.enums.specs.Types as tags
use Rattle.enums.specs.declared.VersionClass.{VersionClass}
use Rattle.enums.specs.Version.{since13_3, since13_4}
use Rattle.reading.specs.Numbers.{varint_at, counted_at}
use Rattle.format.specs.Tables.{TypeRow, plain, pointer, tile, tensor_view, partition_view, gather_scatter_view, strided_view, function}
use Rattle.format.specs.Items.{truth}
use Rattle.format.specs.Types.{plain_tags, among, Pointer, Tile, TensorView, PartitionView, OldPartitionView, GatherScatterView, StridedView, FunctionType, values_of}
use Rattle.format.specs.DecodeTables.{field_at, indices_at, offset_table_at}

-- Flags that are there from 13.4 on.
unfoldable pub flags_at : VersionClass → Parser ℕ
flags_at c = field_at (Bool-discrete (since13_4 c) true) varint_at

-- A byte that is there if bit 0 of the flags is set.
unfoldable pub byte_if : ℕ → Parser ℕ
byte_if flags = field_at (ℕ_discrete (flags % 2) 1) byte

unfoldable pub pointer_at : VersionClass → Parser TypeRow
pointer_at c = bind (flags_at c) (λ flags. bind varint_at (λ element. mapped (λ a. pointer flags element a) (byte_if flags)))

unfoldable pub tile_at : Parser TypeRow
tile_at = bind varint_at (λ element. mapped (λ dims. tile element dims) (counted_at 8))

unfoldable pub tensor_view_at : VersionClass → Parser TypeRow
tensor_view_at c =
    bind (flags_at c)
    (λ flags. bind varint_at
    (λ element. bind (counted_at 8)
    (λ shape. bind (counted_at 8)
    (λ strides. mapped (λ a. tensor_view flags element shape strides a) (byte_if flags)))))

unfoldable pub partition_view_at : Parser TypeRow
partition_view_at =
    bind varint_at
    (λ flags. bind (counted_at 4)
    (λ shape. bind varint_at
    (λ view. bind (counted_at 4)
    (λ m. mapped (λ padding. partition_view flags shape view m padding) (byte_if flags)))))

unfoldable pub old_partition_view_at : Parser TypeRow
old_partition_view_at =
    bind (counted_at 4)
    (λ shape. bind varint_at
    (λ view. bind (counted_at 4)
    (λ m. bind (mapped truth byte)
    (λ presence. mapped (λ padding. partition_view presence shape view m padding)
    (field_at (ℕ_discrete presence 1) varint_at)))))

unfoldable pub gather_scatter_view_at : Parser TypeRow
gather_scatter_view_at =
    bind varint_at
    (λ flags. bind (counted_at 4)
    (λ shape. bind varint_at
    (λ view. bind varint_at
    (λ sparse. mapped (λ padding. gather_scatter_view flags shape view sparse padding) (byte_if flags)))))

unfoldable pub strided_view_at : Parser TypeRow
strided_view_at =
    bind varint_at
    (λ flags. bind (counted_at 4)
    (λ shape. bind (counted_at 4)
    (λ strides. bind varint_at
    (λ view. bind (counted_at 4)
    (λ m. mapped (λ padding. strided_view flags shape strides view m padding) (byte_if flags))))))

unfoldable pub function_type_at : Parser TypeRow
function_type_at = bind indices_at (λ inputs. mapped (λ results. function inputs results) indices_at)

-- The kinds with fields, by tag.
abbrev pub kinds : VersionClass → List (Case TypeRow)
kinds c =
    record { tag = tags.tag_pointer; run = pointer_at c; says = λ i. Pointer c } ∷
    record { tag = tags.tag_tile; run = tile_at; says = λ i. Tile } ∷
    record { tag = tags.tag_tensor_view; run = tensor_view_at c; says = λ i. TensorView c } ∷
    record {
      tag = tags.tag_partition_view;
      run = choose (Bool-discrete (since13_3 c) true) partition_view_at old_partition_view_at;
      says = If (since13_3 c ≡ true) (λ i. PartitionView) (λ i. OldPartitionView);
    } ∷
    record { tag = tags.tag_func; run = function_type_at; says = λ i. FunctionType } ∷
    record { tag = tags.tag_gather_scatter_view; run = gather_scatter_view_at; says = λ i. GatherScatterView } ∷
    record { tag = tags.tag_strided_view; run = strided_view_at; says = λ i. StridedView } ∷
    []

-- What stands behind the tag t; a tag that is not known is refused at its first byte, k.
unfoldable pub fields_at : VersionClass → ℕ → ℕ → Parser TypeRow
fields_at c k t =
    choose (Bool-discrete (among t plain_tags) true) (pure (plain t)) (pick_at refusals.type_tag k (kinds c) t)

-- A type entry.
unfoldable pub type_entry_at : VersionClass → Parser TypeRow
type_entry_at c = upto (here (λ k. bind varint_at (fields_at c k)))

unfoldable pub types_at : VersionClass → ℕ → Parser (List TypeRow)
types_at c o = mapped values_of (offset_table_at 4 4 o (type_entry_at c))
