-- The names of a table with every kind, in the words of `decode_type_entry`. Assumes nothing.
use mathlib.Core.Path.{◌≡◌, refl}
use Prim.Native.Nat.{ℕ, ◌-◌, ◌^◌}
use native.Mathlib.Decide.{dec_lt, ℕ_discrete}
use mathlib.Core.List.{List, [], ◌∷◌, map}
use Rattle.enums.specs.Types as tags
use Rattle.format.specs.Tables.{TypeRow, plain, pointer, tile, tensor_view, partition_view, gather_scatter_view, strided_view, function}
use Rattle.format.specs.Names.{ascii, dynamic, digits, signed, dimension, type_text, names_of, scalar_names, name_of_tag}
use Rattle.format.specs.Tests.{bit0?}
use Rattle.exact.specs.Choice.{choose}

-- A row of each kind, of ranks 0 and 2, with and without what a flag brings, and rows that name no earlier one.
abbrev pub rows : List TypeRow
rows =
    plain tags.tag_f32 ∷ pointer 0 0 0 ∷ pointer 1 0 255 ∷ tile 0 (2 ∷ 4 ∷ []) ∷ tile 0 [] ∷ tile 0 (dynamic ∷ []) ∷
    tensor_view 0 0 (dynamic ∷ (2 ^ 64 - 1) ∷ []) (1 ∷ dynamic ∷ []) 0 ∷ tensor_view 1 0 [] [] 7 ∷
    partition_view 0 (8 ∷ (2 ^ 32 - 2) ∷ []) 6 (0 ∷ []) 0 ∷ partition_view 1 [] 9 [] 3 ∷
    gather_scatter_view 1 (16 ∷ []) 7 18446744073709551615 2 ∷ strided_view 1 (1 ∷ []) (2 ∷ 3 ∷ []) 12 (0 ∷ 1 ∷ []) 1 ∷
    function [] [] ∷ function (0 ∷ 13 ∷ 12 ∷ []) (3 ∷ []) ∷ []

abbrev pub names : List (List ℕ)
names =
    ascii "f32" ∷ ascii "ptr<f32>" ∷ ascii "ptr<f32, ptr_attr=255>" ∷ ascii "tile<2x4xf32>" ∷ ascii "tile<f32>" ∷
    ascii "tile<-9223372036854775808xf32>" ∷ ascii "tensor_view<?x-1xf32, strides=[1,?]>" ∷
    ascii "tensor_view<xf32, strides=[], ptr_attr=7>" ∷
    ascii "partition_view<tile=(8x-2), tv=tensor_view<?x-1xf32, strides=[1,?]>>" ∷
    ascii "partition_view<tile=(), tv=?, padding=3>" ∷
    ascii "gather_scatter_view<tile=(16), tv=tensor_view<xf32, strides=[], ptr_attr=7>, sparse_dim=18446744073709551615, padding=2>" ∷
    ascii "strided_view<tile=(1), traversal_strides=[2,3], tv=?, dim_map=[0,1], padding=1>" ∷
    ascii "() -> ()" ∷ ascii "(f32, ?, () -> ()) -> (tile<2x4xf32>)" ∷ []

pub rows_named : names_of rows ≡ names
unfolding type_text name_of_tag digits signed dimension bit0? choose dec_lt ℕ_discrete
rows_named = refl

-- Each scalar, and Token, by its tag.
pub scalars-named : map (λ n. name_of_tag scalar_names n.0) scalar_names ≡ map (λ n. ascii n.1) scalar_names
unfolding name_of_tag choose ℕ_discrete
scalars-named = refl
