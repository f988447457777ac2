-- The parts of a type's text that have no names, by kind (document 02, request 1/14, in the words of
-- `decode_type_entry`), over the words of any sheet. A row is at the word of its tag. Assumes nothing.
use Rattle.std.specs.Prelude.{ℕ, ◌+◌, List, [], ◌++◌, map}
use Rattle.format.specs.Kinds.{Kind, a_pointer, a_tile, a_tensor_view, a_partition_view, a_function, a_gather_scatter_view, a_strided_view, a_plain, kind_of}
use Rattle.format.specs.Names.{ascii, decimal, dimension, joined, if_bit0, tile_dims, scalar_names, name_of_tag}
use Rattle.text.specs.Counted.{word, counted, after_list}
use Rattle.text.specs.Numbers.{low32}
use Rattle.kinds.specs.declared.Part.{Part}
use Rattle.kinds.specs.declared.Part.TheVariants.{Opening, Ending}

-- The kind of a view, and the shape of its tile.
abbrev pub shaped : List ℕ → List ℕ → ℕ → List ℕ
shaped kind ws at = kind ++ joined "x" (map low32 (counted ws (at + 2)))

-- What stands before the names: all of it, of a scalar.
unfoldable pub opening : Kind → ℕ → List ℕ → ℕ → List ℕ
opening a_pointer tag ws at = ascii "ptr<"
opening a_tile tag ws at = ascii "tile<" ++ tile_dims (counted ws (at + 2))
opening a_tensor_view tag ws at = ascii "tensor_view<" ++ (joined "x" (map dimension (counted ws (at + 3))) ++ ascii "x")
opening a_partition_view tag ws at = shaped (ascii "partition_view<tile=(") ws at ++ ascii "), tv="
opening a_gather_scatter_view tag ws at = shaped (ascii "gather_scatter_view<tile=(") ws at ++ ascii "), tv="
opening a_strided_view tag ws at =
    shaped (ascii "strided_view<tile=(") ws at ++ (ascii "), traversal_strides=[" ++
    (joined "," (map low32 (counted ws (after_list ws (at + 2)))) ++ ascii "], tv="))
opening a_function tag ws at = ascii "("
opening a_plain tag ws at = name_of_tag scalar_names tag

-- What is there if bit 0 of the flags is set, which stand behind the tag: a name and the value at a place; and the end.
unfoldable pub closed : List ℕ → ℕ → List ℕ → ℕ → List ℕ
closed ws at name place = if_bit0 (word ws (at + 1)) (name ++ decimal (word ws place)) ++ ascii ">"

-- What stands behind the names, whose words end before `behind`; of a function type, up to its results.
unfoldable pub ending : Kind → List ℕ → ℕ → ℕ → List ℕ
ending a_pointer ws at behind = closed ws at (ascii ", ptr_attr=") behind
ending a_tile ws at behind = ascii ">"
ending a_tensor_view ws at behind =
    ascii ", strides=[" ++ (joined "," (map dimension (counted ws (after_list ws behind))) ++
    (ascii "]" ++ closed ws at (ascii ", ptr_attr=") (after_list ws (after_list ws behind))))
ending a_partition_view ws at behind = closed ws at (ascii ", padding=") (after_list ws behind)
ending a_gather_scatter_view ws at behind =
    ascii ", sparse_dim=" ++ (decimal (word ws behind) ++ closed ws at (ascii ", padding=") (behind + 1))
ending a_strided_view ws at behind =
    ascii ", dim_map=[" ++ (joined "," (map low32 (counted ws behind)) ++
    (ascii "]" ++ closed ws at (ascii ", padding=") (after_list ws behind)))
ending a_function ws at behind = ascii ") -> ("
ending a_plain ws at behind = []

-- A part of a row's text, by the row's tag.
unfoldable pub part_text : Part → ℕ → List ℕ → ℕ → List ℕ
part_text Opening tag ws at = opening (kind_of tag) tag ws at
part_text (Ending behind) tag ws at = ending (kind_of tag) ws at behind
