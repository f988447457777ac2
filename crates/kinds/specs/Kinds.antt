-- The kinds of types in the code, as `format` has them. Assumes nothing.
use Rattle.format.specs.Kinds.{Kind, a_pointer, a_tile, a_tensor_view, a_partition_view, a_function, a_gather_scatter_view, a_strided_view, a_plain}
use Rattle.kinds.specs.declared.Kind.TheVariants as code
use Rattle.kinds.specs.declared.Kind as declared

abbrev pub shown : declared.Kind → Kind
shown code.Pointer = a_pointer
shown code.Tile = a_tile
shown code.TensorView = a_tensor_view
shown code.PartitionView = a_partition_view
shown code.Function = a_function
shown code.GatherScatterView = a_gather_scatter_view
shown code.StridedView = a_strided_view
shown code.Plain = a_plain
