-- What the writers of type entries answer and leave in the output (document 01, "The container": a varint tag and then
-- the fields, by kind and version class; "The sheet": type, the number of words that follow, tag, fields).
use Rattle.std.specs.Prelude.{◌≡◌, ℕ, ◌<◌, ◌⊎◌, List, [], ◌∷◌, ◌++◌}
use Rattle.std.proofs.Math.Decide.{ℕ_discrete}
use Rattle.enums.specs.declared.VersionClass.{VersionClass}
use Rattle.encoding.specs.Varint.{spelling}
use Rattle.encoding.specs.Out.{counted_bytes}
use Rattle.format.specs.Tables.{TypeRow}
use Rattle.format.specs.Sheet.{counted_words, type_words}
use Rattle.format.specs.Sound.{Fits, Since3, SoundType}
use Rattle.format.specs.Tests.{since4?}
use Rattle.format.specs.Kinds.{Kind, a_pointer, a_tile, a_tensor_view, a_partition_view, a_function, a_gather_scatter_view, a_strided_view, a_plain}
use Rattle.format.specs.Image.{counted_varints, only_where, optional_byte, partition_bytes, type_bytes}
use Rattle.images.specs.Fields.{Copied}
use Rattle.images.specs.declared.fields.Pen.{Pen}

-- Of each kind: whatever the fields behind the tag are, they were copied.
pub record PointerCopied (c : VersionClass) (s : List ℕ) (p : Pen) (out out' : List ℕ) (q : Pen) : Type 0 where
  pub each : (pool : List ℕ) (flags element attribute : ℕ) → Fits 8 attribute →
      Copied (flags ∷ element ∷ attribute ∷ []) []
      (only_where (since4? c) (spelling flags) ++ (spelling element ++ optional_byte flags attribute)) s pool p out out' q

pub record TileCopied (s : List ℕ) (p : Pen) (out out' : List ℕ) (q : Pen) : Type 0 where
  pub each : (pool : List ℕ) (element : ℕ) (dims : List ℕ) →
      Copied (element ∷ counted_words dims) [] (spelling element ++ counted_bytes 8 dims) s pool p out out' q

pub record TensorViewCopied (c : VersionClass) (s : List ℕ) (p : Pen) (out out' : List ℕ) (q : Pen) : Type 0 where
  pub each : (pool : List ℕ) (flags element : ℕ) (shape strides : List ℕ) (attribute : ℕ) → Fits 8 attribute →
      Copied (flags ∷ element ∷ (counted_words shape ++ (counted_words strides ++ (attribute ∷ [])))) []
      (only_where (since4? c) (spelling flags) ++ (spelling element ++ (counted_bytes 8 shape ++ (counted_bytes 8 strides ++
      optional_byte flags attribute)))) s pool p out out' q

-- From 13.3 on ..
pub record NewPartitionViewCopied (s : List ℕ) (p : Pen) (out out' : List ℕ) (q : Pen) : Type 0 where
  pub each : (pool : List ℕ) (flags : ℕ) (shape : List ℕ) (view : ℕ) (dims : List ℕ) (padding : ℕ) → Fits 8 padding →
      Copied (flags ∷ (counted_words shape ++ (view ∷ (counted_words dims ++ (padding ∷ []))))) []
      (spelling flags ++ (counted_bytes 4 shape ++ (spelling view ++ (counted_bytes 4 dims ++ optional_byte flags padding))))
      s pool p out out' q

-- .. and below.
pub record OldPartitionViewCopied (s : List ℕ) (p : Pen) (out out' : List ℕ) (q : Pen) : Type 0 where
  pub each : (pool : List ℕ) (flags : ℕ) (shape : List ℕ) (view : ℕ) (dims : List ℕ) (padding : ℕ) → flags < 2 →
      Copied (flags ∷ (counted_words shape ++ (view ∷ (counted_words dims ++ (padding ∷ []))))) []
      (counted_bytes 4 shape ++ (spelling view ++ (counted_bytes 4 dims ++
      (flags ∷ only_where (ℕ_discrete flags 1) (spelling padding))))) s pool p out out' q

pub record PartitionViewCopied (c : VersionClass) (s : List ℕ) (p : Pen) (out out' : List ℕ) (q : Pen) : Type 0 where
  pub each : (pool : List ℕ) (flags : ℕ) (shape : List ℕ) (view : ℕ) (dims : List ℕ) (padding : ℕ) →
      Since3 c ⊎ (flags < 2) → (¬ Since3 c) ⊎ Fits 8 padding →
      Copied (flags ∷ (counted_words shape ++ (view ∷ (counted_words dims ++ (padding ∷ []))))) []
      (partition_bytes c flags shape view dims padding) s pool p out out' q

pub record GatherScatterViewCopied (s : List ℕ) (p : Pen) (out out' : List ℕ) (q : Pen) : Type 0 where
  pub each : (pool : List ℕ) (flags : ℕ) (shape : List ℕ) (view sparse padding : ℕ) → Fits 8 padding →
      Copied (flags ∷ (counted_words shape ++ (view ∷ sparse ∷ padding ∷ []))) []
      (spelling flags ++ (counted_bytes 4 shape ++ (spelling view ++ (spelling sparse ++ optional_byte flags padding))))
      s pool p out out' q

pub record StridedViewCopied (s : List ℕ) (p : Pen) (out out' : List ℕ) (q : Pen) : Type 0 where
  pub each : (pool : List ℕ) (flags : ℕ) (shape strides : List ℕ) (view : ℕ) (dims : List ℕ) (padding : ℕ) → Fits 8 padding →
      Copied (flags ∷ (counted_words shape ++ (counted_words strides ++ (view ∷ (counted_words dims ++ (padding ∷ [])))))) []
      (spelling flags ++ (counted_bytes 4 shape ++ (counted_bytes 4 strides ++ (spelling view ++ (counted_bytes 4 dims ++
      optional_byte flags padding))))) s pool p out out' q

pub record FunctionCopied (s : List ℕ) (p : Pen) (out out' : List ℕ) (q : Pen) : Type 0 where
  pub each : (pool inputs results : List ℕ) →
      Copied (counted_words inputs ++ counted_words results) [] (counted_varints inputs ++ counted_varints results) s pool p out out' q

-- The fields of a row of this kind were copied.
unfoldable pub FieldsCopied : VersionClass → Kind → List ℕ → Pen → List ℕ → List ℕ → Pen → Type 0
FieldsCopied c a_pointer s p out out' q = PointerCopied c s p out out' q
FieldsCopied c a_tile s p out out' q = TileCopied s p out out' q
FieldsCopied c a_tensor_view s p out out' q = TensorViewCopied c s p out out' q
FieldsCopied c a_partition_view s p out out' q = PartitionViewCopied c s p out out' q
FieldsCopied c a_function s p out out' q = FunctionCopied s p out out' q
FieldsCopied c a_gather_scatter_view s p out out' q = GatherScatterViewCopied s p out out' q
FieldsCopied c a_strided_view s p out out' q = StridedViewCopied s p out out' q
FieldsCopied c a_plain s p out out' q = (q ≡ p) × (out' ≡ out)

-- Whatever well-formed type row the sheet has next, its entry was put.
pub record TypeCopied (c : VersionClass) (s : List ℕ) (p : Pen) (out out' : List ℕ) (q : Pen) : Type 0 where
  pub each : (pool : List ℕ) (row : TypeRow) → SoundType c row → Copied (type_words row) [] (type_bytes c row) s pool p out out' q
