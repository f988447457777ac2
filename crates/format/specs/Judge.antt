-- Judging a handed sheet (document 01, "The sheet"; nothing is refusal 12): the contents are read first and each start
-- is checked before its table is followed; the rows of a table follow each other from there. Words are read as bytes
-- are: one element of a list.
use Rattle.std.specs.Prelude.{ℕ, zero, suc, ◌+◌, ◌*◌, List, [], ◌∷◌, map, length, take, drop, get_or}
use Rattle.std.proofs.Math.Decide.{ℕ_discrete}
use Rattle.std.proofs.Math.Option.{Option, none, some}
use Rattle.exact.specs.Got.{Got, got, stop}
use Rattle.exact.specs.Exact.{Parser}
use Rattle.exact.specs.Basic.{byte, pure, fail}
use Rattle.exact.specs.Sequence.{bind}
use Rattle.exact.specs.Sequence as sequence
use Rattle.exact.specs.Choice.{choose, such}
use Rattle.exact.specs.Repeat.{times, counted}
use Rattle.exact.specs.Fixed.{raw}
use Rattle.exact.specs.Padding.{here}
use Rattle.enums.specs.declared.VersionClass.{VersionClass}
use Rattle.enums.specs.Refusals as refusals
use Rattle.enums.specs.Types.{tag_pointer, tag_tile, tag_tensor_view, tag_partition_view, tag_func, tag_gather_scatter_view, tag_strided_view}
use Rattle.format.specs.Tables.{
  Version,
  TypeRow,
  plain,
  pointer,
  tile,
  tensor_view,
  partition_view,
  gather_scatter_view,
  strided_view,
  function,
  Global,
  Function,
  Attribute,
  Tables,
}
use Rattle.format.specs.Explains.{class}
use Rattle.format.specs.Sheet.{FunctionRow, Frame, field_words, total, pool_length}
use Rattle.format.specs.Tests.{both?, all?, fits?, plain?, type?, global?, function?, attribute?, inside?, version?}

-- One word.
abbrev pub word : Parser ℕ
word = byte

-- Count and numbers: a list's row, and a list inside a type's row.
unfoldable pub list_at : Parser (List ℕ)
list_at = counted word word

-- The fields behind the tag, for each kind of type.
unfoldable pub pointer_at : Parser TypeRow
pointer_at = bind word (λ flags. bind word (λ element. sequence.mapped (pointer flags element) word))

unfoldable pub tile_at : Parser TypeRow
tile_at = bind word (λ element. sequence.mapped (tile element) list_at)

unfoldable pub tensor_view_at : Parser TypeRow
tensor_view_at =
    bind word (λ flags. bind word (λ element. bind list_at (λ shape. bind list_at (λ strides.
    sequence.mapped (tensor_view flags element shape strides) word))))

unfoldable pub partition_view_at : Parser TypeRow
partition_view_at =
    bind word (λ flags. bind list_at (λ shape. bind word (λ view. bind list_at (λ dims.
    sequence.mapped (partition_view flags shape view dims) word))))

unfoldable pub gather_scatter_view_at : Parser TypeRow
gather_scatter_view_at =
    bind word (λ flags. bind list_at (λ shape. bind word (λ view. bind word (λ sparse.
    sequence.mapped (gather_scatter_view flags shape view sparse) word))))

unfoldable pub strided_view_at : Parser TypeRow
strided_view_at =
    bind word (λ flags. bind list_at (λ shape. bind list_at (λ strides. bind word (λ view. bind list_at (λ dims.
    sequence.mapped (strided_view flags shape strides view dims) word)))))

unfoldable pub function_type_at : Parser TypeRow
function_type_at = bind list_at (λ inputs. sequence.mapped (function inputs) list_at)

-- "tags are known"
unfoldable pub kind_at : ℕ → Parser TypeRow
kind_at tag =
    choose (plain? tag) (pure (plain tag))
    (choose (ℕ_discrete tag tag_pointer) pointer_at
    (choose (ℕ_discrete tag tag_tile) tile_at
    (choose (ℕ_discrete tag tag_tensor_view) tensor_view_at
    (choose (ℕ_discrete tag tag_partition_view) partition_view_at
    (choose (ℕ_discrete tag tag_gather_scatter_view) gather_scatter_view_at
    (choose (ℕ_discrete tag tag_strided_view) strided_view_at
    (choose (ℕ_discrete tag tag_func) function_type_at (fail refusals.unsound))))))))

-- A type's row: "each type row's count is that of its tag and fields".
unfoldable pub type_at : VersionClass → Parser TypeRow
type_at c =
    bind word (λ count.
    such refusals.unsound (λ r. both? (ℕ_discrete (length (field_words r)) count) (type? c r)) (bind word kind_at))

unfoldable pub global_at : VersionClass → Parser Global
global_at c =
    such refusals.unsound (global? c)
    (bind word (λ name. bind word (λ type. bind word (λ constant. bind word (λ alignment. bind word (λ visibility.
    sequence.mapped
    (λ flag.
    record {
      name = name;
      type = type;
      constant = constant;
      alignment = alignment;
      visibility = visibility;
      constant_flag = flag;
    })
    word))))))

unfoldable pub function_at : Parser FunctionRow
function_at =
    such refusals.unsound function?
    (bind word (λ name. bind word (λ signature. bind word (λ flags. bind word (λ location.
    sequence.mapped
    (λ n. record { name = name; signature = signature; flags = flags; location = location; body_length = n }) word)))))

unfoldable pub attribute_at : Parser Attribute
attribute_at =
    such refusals.unsound attribute?
    (bind word (λ tag. bind word (λ a. bind word (λ b. bind word (λ c. bind word (λ d. bind word (λ e.
    sequence.mapped
    (λ f. record { tag = tag; field1 = a; field2 = b; field3 = c; field4 = d; field5 = e; field6 = f }) word)))))))

-- Words 5 to 18, and in them the start word and the row count of table k.
unfoldable pub contents_at : Parser (List ℕ)
contents_at = raw 14

abbrev pub start_in : List ℕ → ℕ → ℕ
start_in cs k = get_or cs (2 * k) 0

abbrev pub count_in : List ℕ → ℕ → ℕ
count_in cs k = get_or cs (2 * k + 1) 0

-- "without gaps": here is the start word.
unfoldable pub starts_here : ℕ → Parser (Unit {0})
starts_here start = here (λ i. choose (ℕ_discrete i start) (pure tt) (fail refusals.unsound))

-- Table k of the contents, row by row.
unfoldable pub table_at : {A : Type 0} → List ℕ → ℕ → Parser A → Parser (List A)
table_at cs k row = bind (starts_here (start_in cs k)) (λ u. times (count_in cs k) row)

-- The seven tables behind the contents.
unfoldable pub tables_at : Version → Option ℕ → List ℕ → Parser Frame
tables_at version producer cs =
    bind (table_at cs 0 word) (λ strings.
    bind (table_at cs 1 (type_at (class version))) (λ types.
    bind (table_at cs 2 word) (λ constants.
    bind (table_at cs 3 (global_at (class version))) (λ globals.
    bind (table_at cs 4 function_at) (λ functions.
    bind (table_at cs 5 attribute_at) (λ attributes.
    sequence.mapped
    (λ lists.
    record {
      version = version;
      producer = producer;
      strings = strings;
      types = types;
      constants = constants;
      globals = globals;
      functions = functions;
      attributes = attributes;
      lists = lists;
    })
    (table_at cs 6 list_at)))))))

-- Words 0 to 2.
unfoldable pub version_at : Parser Version
version_at =
    such refusals.unsound version?
    (bind word (λ major. bind word (λ minor.
    sequence.mapped (λ tag. record { major = major; minor = minor; tag = tag }) word)))

-- Word 3.
unfoldable pub producer_of : ℕ → Option ℕ
producer_of zero = none
producer_of (suc index) = some index

unfoldable pub producer_at : Parser (Option ℕ)
producer_at = sequence.mapped producer_of word

-- The sheet from its first word on; word 4 is "the sum of the row lengths", and the producer is "inside the strings".
unfoldable pub frame_at : Parser Frame
frame_at =
    bind version_at (λ version. bind producer_at (λ producer. bind word (λ pool. bind contents_at (λ cs.
    such refusals.unsound
    (λ r. both? (ℕ_discrete (pool_length r) pool) (inside? r.producer (length r.strings)))
    (tables_at version producer cs)))))

-- "the list ends with its last row": what was read, if it ended at word n.
unfoldable pub ending_at : {A : Type 0} → ℕ → Got A → Option A
ending_at n (got v j) = choose (ℕ_discrete j n) (some v) none
ending_at n (stop c k) = none

-- The judge of a sheet alone, for a call lent no pool.
unfoldable pub judged : List ℕ → Option Frame
judged sheet = choose (all? (fits? 64) sheet) (ending_at (length sheet) (frame_at sheet 0)) none

-- Runs of these lengths, one right behind the other.
unfoldable pub runs : List ℕ → List ℕ → List (List ℕ)
runs [] pool = []
runs (n ∷ ns) pool = take n pool ∷ runs ns (drop n pool)

-- The functions of these rows with these bodies.
unfoldable pub with_bodies : List FunctionRow → List (List ℕ) → List Function
with_bodies [] bodies = []
with_bodies (f ∷ fs) [] = []
with_bodies (f ∷ fs) (b ∷ bs) =
    record { name = f.name; signature = f.signature; flags = f.flags; location = f.location; body = b } ∷ with_bodies fs bs

-- The tables of these rows with the runs that they cut out of the pool: strings, constants, bodies.
unfoldable pub cutting : Frame → List ℕ → Tables
cutting r pool =
    let behind = drop (total r.strings) pool in
    let last = drop (total r.constants) behind in
    record {
      version = r.version;
      producer = r.producer;
      strings = runs r.strings pool;
      types = r.types;
      constants = runs r.constants behind;
      globals = r.globals;
      functions = with_bodies r.functions (runs (map (λ f. f.body_length) r.functions) last);
      attributes = r.attributes;
      lists = r.lists;
    }

-- "the pool's length is word 4 and the sum of the row lengths"
unfoldable pub with_pool : List ℕ → Option Frame → Option Tables
with_pool pool none = none
with_pool pool (some r) =
    choose (both? (ℕ_discrete (length pool) (pool_length r)) (all? (fits? 8) pool)) (some (cutting r pool)) none

-- The judge of a sheet with its pool: its tables, or nothing.
unfoldable pub tables_of : List ℕ → List ℕ → Option Tables
tables_of sheet pool = with_pool pool (judged sheet)
