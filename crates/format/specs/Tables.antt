-- The tables: what a file means (document 01, "The container" and "The sheet"). Plain numbers and lists, no offsets.
-- A field that a version or a flag leaves out on the wire is 0 here.
use Rattle.std.specs.Prelude.{ℕ, List}
use Rattle.std.proofs.Math.Option.{Option}

-- major.minor and tag.
pub record Version : Type 0 where
  pub major : ℕ
  pub minor : ℕ
  pub tag : ℕ

-- A type row, a constructor for each kind, its fields in wire order. Indices are kept as they stand; signed numbers of
-- shapes, strides and maps stand as their bit pattern in their width.
pub data TypeRow : Type 0 where
  -- one of the sixteen scalars, or Token: its tag
  plain : ℕ → TypeRow
  -- flags, element, attribute
  pointer : ℕ → ℕ → ℕ → TypeRow
  -- element, dims
  tile : ℕ → List ℕ → TypeRow
  -- flags, element, shape, strides, attribute
  tensor_view : ℕ → ℕ → List ℕ → List ℕ → ℕ → TypeRow
  -- flags (below 13.3 the presence), shape, view, map, padding
  partition_view : ℕ → List ℕ → ℕ → List ℕ → ℕ → TypeRow
  -- flags, shape, view, sparse, padding
  gather_scatter_view : ℕ → List ℕ → ℕ → ℕ → ℕ → TypeRow
  -- flags, shape, strides, view, map, padding
  strided_view : ℕ → List ℕ → List ℕ → ℕ → List ℕ → ℕ → TypeRow
  -- inputs, results
  function : List ℕ → List ℕ → TypeRow

pub record Global : Type 0 where
  pub name : ℕ
  pub type : ℕ
  pub constant : ℕ
  pub alignment : ℕ
  pub visibility : ℕ
  pub constant_flag : ℕ

pub record Function : Type 0 where
  pub name : ℕ
  pub signature : ℕ
  pub flags : ℕ
  pub location : ℕ
  pub body : List ℕ

-- A debug attribute: its tag and six fields, of which the tag says how many are on the wire.
pub record Attribute : Type 0 where
  pub tag : ℕ
  pub field1 : ℕ
  pub field2 : ℕ
  pub field3 : ℕ
  pub field4 : ℕ
  pub field5 : ℕ
  pub field6 : ℕ

pub record Tables : Type 0 where
  pub version : Version
  -- the index of the producer's string, if one is named
  pub producer : Option ℕ
  pub strings : List (List ℕ)
  pub types : List TypeRow
  pub constants : List (List ℕ)
  pub globals : List Global
  pub functions : List Function
  pub attributes : List Attribute
  -- for each function of the Debug section the ids of its attributes
  pub lists : List (List ℕ)
