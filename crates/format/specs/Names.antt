-- The names of types (document 02, request 1/14): a type row as the text that `decode_type_entry` prints, in its words.
-- Assumes nothing.
use Rattle.std.specs.Prelude.{ℕ, zero, suc, ◌+◌, ◌-◌, ◌*◌, ◌/◌, ◌%◌, ◌^◌, List, [], ◌∷◌, ◌++◌, map, length, get_or}
use Prim.Native.Char.{code}
use Prim.Native.String.{String, [] as no_char, ◌∷◌ as ◌char◌}
use Rattle.std.proofs.Math.Decide.{dec_lt, ℕ_discrete}
use Rattle.std.proofs.Math.Option.{Option, none, some}
use Rattle.exact.specs.Choice.{choose}
use Rattle.exact.specs.Tiling.{join}
use Rattle.enums.specs.Types as tags
use Rattle.enums.specs.Refusals as refusals
use Rattle.format.specs.Tables.{
  TypeRow,
  plain,
  pointer,
  tile,
  tensor_view,
  partition_view,
  gather_scatter_view,
  strided_view,
  function,
}
use Rattle.format.specs.Read.{Read, accepted, refused}
use Rattle.format.specs.Sheet.{Frame}
use Rattle.format.specs.Tests.{bit0?}

-- The bytes of a text.
abbrev pub ascii : String → List ℕ
ascii no_char = []
ascii (c char s) = code c ∷ ascii s

-- The digits of n, of which there are at most k: the last one behind those of a tenth.
unfoldable pub digits : ℕ → ℕ → List ℕ
digits zero n = []
digits (suc k) n = choose (dec_lt n 10) ((48 + n) ∷ []) (digits k (n / 10) ++ ((48 + n % 10) ∷ []))

-- A number. Twenty digits hold each u64.
abbrev pub decimal : ℕ → List ℕ
decimal n = digits 20 n

-- A signed number by its bit pattern, of which there are 2 h: those from h on are the negative ones.
unfoldable pub signed : ℕ → ℕ → List ℕ
signed h v = choose (dec_lt v h) (decimal v) (ascii "-" ++ decimal (2 * h - v))

abbrev pub i32 : ℕ → List ℕ
i32 = signed (2 ^ 31)

abbrev pub i64 : ℕ → List ℕ
i64 = signed (2 ^ 63)

-- `DYNAMIC`: the bit pattern of i64::MIN.
abbrev pub dynamic : ℕ
dynamic = 2 ^ 63

-- A dimension or a stride that may be dynamic.
unfoldable pub dimension : ℕ → List ℕ
dimension v = choose (ℕ_discrete v dynamic) (ascii "?") (i64 v)

-- Texts with a separator between them.
abbrev pub joined : String → List (List ℕ) → List ℕ
joined s [] = []
joined s (t ∷ ts) = t ++ join (map (λ u. ascii s ++ u) ts)

-- A text that is there if bit 0 of the flags is set.
abbrev pub if_bit0 : ℕ → List ℕ → List ℕ
if_bit0 flags t = choose (bit0? flags) t []

-- The names of the scalars and of Token, in the order of `decode_type_entry`.
abbrev pub scalar_names : List (ℕ × String)
scalar_names =
    (tags.tag_i1, "i1") ∷ (tags.tag_i4, "i4") ∷ (tags.tag_i8, "i8") ∷ (tags.tag_i16, "i16") ∷ (tags.tag_i32, "i32") ∷
    (tags.tag_i64, "i64") ∷ (tags.tag_f16, "f16") ∷ (tags.tag_bf16, "bf16") ∷ (tags.tag_f32, "f32") ∷
    (tags.tag_tf32, "tf32") ∷ (tags.tag_f64, "f64") ∷ (tags.tag_f8e4m3fn, "f8e4m3fn") ∷ (tags.tag_f8e5m2, "f8e5m2") ∷
    (tags.tag_f8e8m0fnu, "f8e8m0fnu") ∷ (tags.tag_f4e2m1fn, "f4e2m1fn") ∷ (tags.tag_f8e5m3fnu, "f8e5m3fnu") ∷
    (tags.tag_token, "token") ∷ []

-- The name that a list of names has for a tag.
unfoldable pub name_of_tag : List (ℕ × String) → ℕ → List ℕ
name_of_tag [] t = []
name_of_tag (n ∷ ns) t = choose (ℕ_discrete t n.0) (ascii n.1) (name_of_tag ns t)

-- The name of a row by its index; "?" where it is none of the earlier rows.
abbrev pub named : List (List ℕ) → ℕ → List ℕ
named earlier index = get_or earlier index (ascii "?")

-- The names of rows, by their indices.
abbrev pub listed : List (List ℕ) → List ℕ → List ℕ
listed earlier indices = joined ", " (map (named earlier) indices)

-- The dims of a Tile, and their x; neither where the rank is 0.
abbrev pub tile_dims : List ℕ → List ℕ
tile_dims [] = []
tile_dims (d ∷ ds) = joined "x" (map i64 (d ∷ ds)) ++ ascii "x"

-- The text of a row, of the names of the earlier rows.
unfoldable pub type_text : List (List ℕ) → TypeRow → List ℕ
type_text earlier (plain tag) = name_of_tag scalar_names tag
type_text earlier (pointer flags element attribute) =
    ascii "ptr<" ++ (named earlier element ++ (if_bit0 flags (ascii ", ptr_attr=" ++ decimal attribute) ++ ascii ">"))
type_text earlier (tile element dims) = ascii "tile<" ++ (tile_dims dims ++ (named earlier element ++ ascii ">"))
type_text earlier (tensor_view flags element shape strides attribute) =
    ascii "tensor_view<" ++ (joined "x" (map dimension shape) ++ (ascii "x" ++ (named earlier element ++
    (ascii ", strides=[" ++ (joined "," (map dimension strides) ++ (ascii "]" ++
    (if_bit0 flags (ascii ", ptr_attr=" ++ decimal attribute) ++ ascii ">")))))))
type_text earlier (partition_view flags shape view dims padding) =
    ascii "partition_view<tile=(" ++ (joined "x" (map i32 shape) ++ (ascii "), tv=" ++ (named earlier view ++
    (if_bit0 flags (ascii ", padding=" ++ decimal padding) ++ ascii ">"))))
type_text earlier (gather_scatter_view flags shape view sparse padding) =
    ascii "gather_scatter_view<tile=(" ++ (joined "x" (map i32 shape) ++ (ascii "), tv=" ++ (named earlier view ++
    (ascii ", sparse_dim=" ++ (decimal sparse ++ (if_bit0 flags (ascii ", padding=" ++ decimal padding) ++ ascii ">"))))))
type_text earlier (strided_view flags shape strides view dims padding) =
    ascii "strided_view<tile=(" ++ (joined "x" (map i32 shape) ++ (ascii "), traversal_strides=[" ++
    (joined "," (map i32 strides) ++ (ascii "], tv=" ++ (named earlier view ++ (ascii ", dim_map=[" ++
    (joined "," (map i32 dims) ++ (ascii "]" ++ (if_bit0 flags (ascii ", padding=" ++ decimal padding) ++ ascii ">")))))))))
type_text earlier (function inputs results) =
    ascii "(" ++ (listed earlier inputs ++ (ascii ") -> (" ++ (listed earlier results ++ ascii ")")))

-- These names, and behind them those of these rows, each made of all names before it ..
abbrev pub names_from : List (List ℕ) → List TypeRow → List (List ℕ)
names_from earlier [] = earlier
names_from earlier (row ∷ rows) = names_from (earlier ++ (type_text earlier row ∷ [])) rows

-- .. so that these are the names of a table.
abbrev pub names_of : List TypeRow → List (List ℕ)
names_of rows = names_from [] rows

-- The name of a row of a sheet: 12 where it is not well-formed, 14 where it does not have the row.
unfoldable pub name_in : Option Frame → ℕ → Read (List ℕ)
name_in none row = refused refusals.unsound refusals.at_call 0
name_in (some r) row =
    choose (dec_lt row (length r.types)) (accepted (get_or (names_of r.types) row []))
    (refused refusals.not_there refusals.at_call 0)
