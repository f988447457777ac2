-- The kinds of types, for whoever goes by a row's tag (document 01, "The container"). Assumes nothing.
use Rattle.std.specs.Prelude.{ℕ, cond, eqb}
use Rattle.enums.specs.Types.{tag_pointer, tag_tile, tag_tensor_view, tag_partition_view, tag_func, tag_gather_scatter_view, tag_strided_view}

-- The kinds, by their tags; what has no fields is plain.
pub data Kind : Type 0 where
  a_pointer : Kind
  a_tile : Kind
  a_tensor_view : Kind
  a_partition_view : Kind
  a_function : Kind
  a_gather_scatter_view : Kind
  a_strided_view : Kind
  a_plain : Kind

unfoldable pub kind_of : ℕ → Kind
kind_of tag =
    cond (eqb tag tag_pointer) a_pointer
    (cond (eqb tag tag_tile) a_tile
    (cond (eqb tag tag_tensor_view) a_tensor_view
    (cond (eqb tag tag_partition_view) a_partition_view
    (cond (eqb tag tag_func) a_function
    (cond (eqb tag tag_gather_scatter_view) a_gather_scatter_view (cond (eqb tag tag_strided_view) a_strided_view a_plain))))))
