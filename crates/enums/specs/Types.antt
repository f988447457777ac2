-- The tags of type entries, each named once (enums.rs, `TypeTag`).
use Rattle.std.specs.Prelude.{ℕ, List, [], ◌∷◌}

abbrev pub tag_i1 : ℕ
tag_i1 = 0

abbrev pub tag_i8 : ℕ
tag_i8 = 1

abbrev pub tag_i16 : ℕ
tag_i16 = 2

abbrev pub tag_i32 : ℕ
tag_i32 = 3

abbrev pub tag_i64 : ℕ
tag_i64 = 4

abbrev pub tag_f16 : ℕ
tag_f16 = 5

abbrev pub tag_bf16 : ℕ
tag_bf16 = 6

abbrev pub tag_f32 : ℕ
tag_f32 = 7

abbrev pub tag_tf32 : ℕ
tag_tf32 = 8

abbrev pub tag_f64 : ℕ
tag_f64 = 9

abbrev pub tag_f8e4m3fn : ℕ
tag_f8e4m3fn = 10

abbrev pub tag_f8e5m2 : ℕ
tag_f8e5m2 = 11

abbrev pub tag_pointer : ℕ
tag_pointer = 12

abbrev pub tag_tile : ℕ
tag_tile = 13

abbrev pub tag_tensor_view : ℕ
tag_tensor_view = 14

abbrev pub tag_partition_view : ℕ
tag_partition_view = 15

abbrev pub tag_func : ℕ
tag_func = 16

abbrev pub tag_token : ℕ
tag_token = 17

abbrev pub tag_f8e8m0fnu : ℕ
tag_f8e8m0fnu = 18

abbrev pub tag_f4e2m1fn : ℕ
tag_f4e2m1fn = 19

abbrev pub tag_gather_scatter_view : ℕ
tag_gather_scatter_view = 20

abbrev pub tag_strided_view : ℕ
tag_strided_view = 21

abbrev pub tag_i4 : ℕ
tag_i4 = 22

abbrev pub tag_f8e5m3fnu : ℕ
tag_f8e5m3fnu = 0x82

-- All type tags, in their order.
abbrev pub type_tags : List ℕ
type_tags =
    tag_i1 ∷ tag_i8 ∷ tag_i16 ∷ tag_i32 ∷ tag_i64 ∷ tag_f16 ∷ tag_bf16 ∷ tag_f32 ∷ tag_tf32 ∷ tag_f64 ∷ tag_f8e4m3fn ∷
    tag_f8e5m2 ∷ tag_pointer ∷ tag_tile ∷ tag_tensor_view ∷ tag_partition_view ∷ tag_func ∷ tag_token ∷ tag_f8e8m0fnu ∷
    tag_f4e2m1fn ∷ tag_gather_scatter_view ∷ tag_strided_view ∷ tag_i4 ∷ tag_f8e5m3fnu ∷ []
