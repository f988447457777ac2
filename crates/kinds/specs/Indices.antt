-- Where the indices of the names in a type's text stand (document 01, "The sheet": tag, fields in wire order with
-- counts before lists), over the words of any sheet. A row is at the word of its tag. Assumes nothing.
use Rattle.std.specs.Prelude.{ℕ, ◌+◌, ◌%◌, ◌^◌, List}
use Rattle.format.specs.Kinds.{Kind, a_pointer, a_tile, a_tensor_view, a_partition_view, a_function, a_gather_scatter_view, a_strided_view, a_plain}
use Rattle.text.specs.Counted.{word, after_list}
use Rattle.kinds.specs.declared.Indices.{Indices}

-- So many indices from a place on ..
abbrev pub from : ℕ → ℕ → Indices
from i n = record { word = i % 2 ^ 64; count = n }

-- .. those of a list, whose count stands at a place ..
unfoldable pub counted_from : List ℕ → ℕ → Indices
counted_from ws i = from (i + 1) (word ws i)

-- .. and those that the text of a row names first, by kind: an element, a view behind its shape and, of a strided view,
-- its strides; the inputs of a function type.
unfoldable pub indices : Kind → List ℕ → ℕ → Indices
indices a_pointer ws at = from (at + 2) 1
indices a_tile ws at = from (at + 1) 1
indices a_tensor_view ws at = from (at + 2) 1
indices a_partition_view ws at = from (after_list ws (at + 2)) 1
indices a_gather_scatter_view ws at = from (after_list ws (at + 2)) 1
indices a_strided_view ws at = from (after_list ws (after_list ws (at + 2))) 1
indices a_function ws at = counted_from ws (at + 1)
indices a_plain ws at = from at 0
