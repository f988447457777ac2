-- The sheet and the pool of tables (document 01, "The sheet"): a table of contents first, then the bodies.
use Rattle.std.specs.Prelude.{ℕ, ◌+◌, List, [], ◌∷◌, ◌++◌, map, length}
use Rattle.std.proofs.Math.Option.{Option, none, some}
use Rattle.exact.specs.Tiling.{join}
use Rattle.enums.specs.Types.{tag_pointer, tag_tile, tag_tensor_view, tag_partition_view, tag_func, tag_gather_scatter_view, tag_strided_view}
use Rattle.format.specs.Tables.{
  Version,
  TypeRow,
  plain,
  pointer,
  tile,
  tensor_view,
  partition_view,
  gather_scatter_view,
  strided_view,
  function,
  Global,
  Function,
  Attribute,
  Tables,
}

-- A function's row: a length stands in the place of its body.
pub record FunctionRow : Type 0 where
  pub name : ℕ
  pub signature : ℕ
  pub flags : ℕ
  pub location : ℕ
  pub body_length : ℕ

-- The frame: all that a sheet says without its pool. The tables, with a length in the place of each run of bytes.
pub record Frame : Type 0 where
  pub version : Version
  pub producer : Option ℕ
  pub strings : List ℕ
  pub types : List TypeRow
  pub constants : List ℕ
  pub globals : List Global
  pub functions : List FunctionRow
  pub attributes : List Attribute
  pub lists : List (List ℕ)

unfoldable pub function_row_of : Function → FunctionRow
function_row_of f =
    record {
      name = f.name;
      signature = f.signature;
      flags = f.flags;
      location = f.location;
      body_length = length f.body;
    }

-- The frame of tables.
unfoldable pub frame_of : Tables → Frame
frame_of t =
    record {
      version = t.version;
      producer = t.producer;
      strings = map length t.strings;
      types = t.types;
      constants = map length t.constants;
      globals = t.globals;
      functions = map function_row_of t.functions;
      attributes = t.attributes;
      lists = t.lists;
    }

-- "counts before lists"
abbrev pub counted_words : List ℕ → List ℕ
counted_words vs = length vs ∷ vs

-- "string and constant, a length"
abbrev pub length_words : ℕ → List ℕ
length_words n = n ∷ []

-- "tag, fields in wire order with counts before lists", optional bytes last in their row
unfoldable pub field_words : TypeRow → List ℕ
field_words (plain tag) = tag ∷ []
field_words (pointer flags element attribute) = tag_pointer ∷ flags ∷ element ∷ attribute ∷ []
field_words (tile element dims) = tag_tile ∷ element ∷ counted_words dims
field_words (tensor_view flags element shape strides attribute) =
    tag_tensor_view ∷ flags ∷ element ∷ (counted_words shape ++ (counted_words strides ++ (attribute ∷ [])))
field_words (partition_view flags shape view dims padding) =
    tag_partition_view ∷ flags ∷ (counted_words shape ++ (view ∷ (counted_words dims ++ (padding ∷ []))))
field_words (gather_scatter_view flags shape view sparse padding) =
    tag_gather_scatter_view ∷ flags ∷ (counted_words shape ++ (view ∷ sparse ∷ padding ∷ []))
field_words (strided_view flags shape strides view dims padding) =
    tag_strided_view ∷ flags ∷ (counted_words shape ++ (counted_words strides ++ (view ∷ (counted_words dims ++ (padding ∷ [])))))
field_words (function inputs results) = tag_func ∷ (counted_words inputs ++ counted_words results)

-- "type, the number of words that follow, tag, fields"
unfoldable pub type_words : TypeRow → List ℕ
type_words r = counted_words (field_words r)

-- "global, 6 words"
unfoldable pub global_words : Global → List ℕ
global_words g = g.name ∷ g.type ∷ g.constant ∷ g.alignment ∷ g.visibility ∷ g.constant_flag ∷ []

-- "function, name, signature, flags, location, body length"
unfoldable pub function_words : FunctionRow → List ℕ
function_words f = f.name ∷ f.signature ∷ f.flags ∷ f.location ∷ f.body_length ∷ []

-- The six fields of an attribute.
unfoldable pub attribute_fields : Attribute → List ℕ
attribute_fields a = a.field1 ∷ a.field2 ∷ a.field3 ∷ a.field4 ∷ a.field5 ∷ a.field6 ∷ []

-- "attribute, tag and 6 fields"
unfoldable pub attribute_words : Attribute → List ℕ
attribute_words a = a.tag ∷ attribute_fields a

-- "list, count and ids"
abbrev pub list_words : List ℕ → List ℕ
list_words = counted_words

-- The bodies: the words of each row of each table, the tables in the sheet's order.
unfoldable pub bodies : Frame → List (List (List ℕ))
bodies r =
    map length_words r.strings ∷ map type_words r.types ∷ map length_words r.constants ∷
    map global_words r.globals ∷ map function_words r.functions ∷ map attribute_words r.attributes ∷
    map list_words r.lists ∷ []

-- "start word and row count of" each table, "in that order without gaps" from word n.
unfoldable pub contents : ℕ → List (List (List ℕ)) → List ℕ
contents n [] = []
contents n (rows ∷ tables) = n ∷ length rows ∷ contents (n + length (join rows)) tables

-- "producer index + 1 (0 for none)"
unfoldable pub producer_word : Option ℕ → ℕ
producer_word none = 0
producer_word (some index) = index + 1

-- The sum of lengths.
unfoldable pub total : List ℕ → ℕ
total [] = 0
total (n ∷ ns) = n + total ns

-- "the sum of the row lengths": of strings, constants and bodies.
unfoldable pub pool_length : Frame → ℕ
pool_length r = total r.strings + (total r.constants + total (map (λ f. f.body_length) r.functions))

-- Words 0 to 3, word 4, words 5 to 18, and from word 19 the bodies.
unfoldable pub words_of : Frame → List ℕ
words_of r =
    r.version.major ∷ r.version.minor ∷ r.version.tag ∷ producer_word r.producer ∷ pool_length r ∷
    (contents 19 (bodies r) ++ join (map join (bodies r)))

-- The sheet of tables.
unfoldable pub sheet_of : Tables → List ℕ
sheet_of t = words_of (frame_of t)

-- "Pool: strings, constants, bodies."
unfoldable pub pool_of : Tables → List ℕ
pool_of t = join t.strings ++ (join t.constants ++ join (map (λ f. f.body) t.functions))
