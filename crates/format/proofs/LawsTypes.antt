-- Type entries are read exactly, kind by kind. Assumes nothing.
use mathlib.Core.Path.{◌≡◌, refl, sym, ap, ◌∙◌}
use Prim.Native.Nat.{ℕ, ◌%◌}
use native.Mathlib.Omega.{arith}
use native.Mathlib.Decide.{ℕ_discrete}
use mathlib.Core.Bool.{true, false, Bool-discrete, false≢true}
use mathlib.Core.List.{List, ◌++◌, append_assoc}
use Rattle.exact.specs.Exact.{Lang, Exact, Ends}
use Rattle.exact.specs.Basic.{byte, Is, is}
use Rattle.exact.specs.Sequence.{mapped, Then, then, Of, of}
use Rattle.exact.specs.Choice.{If, so, else}
use Rattle.exact.specs.Kinds.{OneOf, AllExact}
use Rattle.exact.specs.Upto.{Upto, upto_of}
use Rattle.exact.proofs.LawsExact.{same-exact, same_ends}
use Rattle.exact.proofs.LawsBasic.{pure-exact}
use Rattle.exact.proofs.LawsSequence.{bind-exact, map-exact}
use Rattle.exact.proofs.LawsChoice.{choose-exact}
use Rattle.exact.proofs.LawsPadding.{here-exact}
use Rattle.exact.proofs.LawsRefuse.{pick-at-exact}
use Rattle.exact.proofs.LawsUpto.{upto-ends}
use Rattle.enums.specs.declared.VersionClass.{VersionClass}
use Rattle.enums.specs.Version.{since13_3, since13_4}
use Rattle.encoding.specs.Varint.{Spells}
use Rattle.reading.specs.Numbers.{varint_at}
use Rattle.reading.proofs.LawsNumbers.{varint-exact}
use Rattle.format.specs.Tables.{TypeRow, plain, pointer, tile, tensor_view, partition_view, gather_scatter_view, strided_view, function}
use Rattle.format.specs.DecodeTables.{field_at}
use Rattle.format.specs.Items.{truth, Number, Byte, Field, Array, Indices, Truth, Bit0}
use Rattle.format.specs.Types as T
use Rattle.format.specs.DecodeTypes as D
use Rattle.format.proofs.LawsItems.{array-exact, indices-exact, one-byte-exact, field-exact, truth-exact, not-true}

-- Flags from 13.4 on, a byte by bit 0, and counted numbers of w bytes.
abbrev Flags : VersionClass → Lang ℕ
Flags c i = Field (since13_4 c ≡ true) Spells

abbrev ByteIf : ℕ → Lang ℕ
ByteIf flags i = Field (Bit0 flags) Byte

abbrev Numbers : ℕ → Lang (List ℕ)
Numbers w i = Array w

flags-exact : (c : VersionClass) → Exact (D.flags_at c) (Flags c)
unfolding D.flags_at
flags-exact c = field-exact (Bool-discrete (since13_4 c) true) varint-exact

byte-if-exact : (flags : ℕ) → Exact (D.byte_if flags) (ByteIf flags)
unfolding D.byte_if
byte-if-exact flags = field-exact (ℕ_discrete (flags % 2) 1) one-byte-exact

presence-exact : Exact (mapped truth byte) (λ i. Truth Byte)
presence-exact = truth-exact one-byte-exact

padding-exact : (presence : ℕ) → Exact (field_at (ℕ_discrete presence 1) varint_at) (λ i. Field (presence ≡ 1) Spells)
padding-exact presence = field-exact (ℕ_discrete presence 1) varint-exact

-- What the kinds are made of.
ruleset exacts = (bind-exact, map-exact, varint-exact, array-exact, indices-exact, flags-exact, byte-if-exact, presence-exact, padding-exact)

abbrev PointerChain : VersionClass → Lang TypeRow
PointerChain c = Then (Flags c) (λ f. Then Number (λ e. Of (λ a. pointer f e a) (ByteIf f)))

to-pointer : (c : VersionClass) (i : ℕ) (bs : List ℕ) (v : TypeRow) → PointerChain c i bs v → T.Pointer c bs v
to-pointer c i bs w (then f (then e (of a))) = T.Pointer.fields f e a

of-pointer : (c : VersionClass) (i : ℕ) (bs : List ℕ) (v : TypeRow) → T.Pointer c bs v → PointerChain c i bs v
of-pointer c i bs w (T.Pointer.fields f e a) = then f (then e (of a))

pointer-exact : (c : VersionClass) → Exact (D.pointer_at c) (λ i. T.Pointer c)
unfolding D.pointer_at
pointer-exact c = let x : Exact (D.pointer_at c) (PointerChain c) = search exacts depth 24 in same-exact x (λ i bs v. (to-pointer c i bs v, of-pointer c i bs v))

abbrev TileChain : Lang TypeRow
TileChain = Then Number (λ e. Of (λ d. tile e d) (Numbers 8))

to-tile : (i : ℕ) (bs : List ℕ) (v : TypeRow) → TileChain i bs v → T.Tile bs v
to-tile i bs w (then e (of d)) = T.Tile.fields e d

of-tile : (i : ℕ) (bs : List ℕ) (v : TypeRow) → T.Tile bs v → TileChain i bs v
of-tile i bs w (T.Tile.fields e d) = then e (of d)

tile-exact : Exact D.tile_at (λ i. T.Tile)
unfolding D.tile_at
tile-exact = let x : Exact D.tile_at TileChain = search exacts depth 24 in same-exact x (λ i bs v. (to-tile i bs v, of-tile i bs v))

abbrev TensorViewChain : VersionClass → Lang TypeRow
TensorViewChain c =
    Then (Flags c)
    (λ f. Then Number
    (λ e. Then (Numbers 8)
    (λ s. Then (Numbers 8)
    (λ t. Of (λ a. tensor_view f e s t a) (ByteIf f)))))

to-tensor-view : (c : VersionClass) (i : ℕ) (bs : List ℕ) (v : TypeRow) → TensorViewChain c i bs v → T.TensorView c bs v
to-tensor-view c i bs w (then f (then e (then s (then t (of a))))) = T.TensorView.fields f e s t a

of-tensor-view : (c : VersionClass) (i : ℕ) (bs : List ℕ) (v : TypeRow) → T.TensorView c bs v → TensorViewChain c i bs v
of-tensor-view c i bs w (T.TensorView.fields f e s t a) = then f (then e (then s (then t (of a))))

tensor-view-exact : (c : VersionClass) → Exact (D.tensor_view_at c) (λ i. T.TensorView c)
unfolding D.tensor_view_at
tensor-view-exact c = let x : Exact (D.tensor_view_at c) (TensorViewChain c) = search exacts depth 24 in same-exact x (λ i bs v. (to-tensor-view c i bs v, of-tensor-view c i bs v))

abbrev PartitionViewChain : Lang TypeRow
PartitionViewChain =
    Then Number
    (λ f. Then (Numbers 4)
    (λ s. Then Number
    (λ v. Then (Numbers 4)
    (λ m. Of (λ a. partition_view f s v m a) (ByteIf f)))))

to-partition-view : (i : ℕ) (bs : List ℕ) (v : TypeRow) → PartitionViewChain i bs v → T.PartitionView bs v
to-partition-view i bs w (then f (then s (then v (then m (of a))))) = T.PartitionView.fields f s v m a

of-partition-view : (i : ℕ) (bs : List ℕ) (v : TypeRow) → T.PartitionView bs v → PartitionViewChain i bs v
of-partition-view i bs w (T.PartitionView.fields f s v m a) = then f (then s (then v (then m (of a))))

partition-view-exact : Exact D.partition_view_at (λ i. T.PartitionView)
unfolding D.partition_view_at
partition-view-exact = let x : Exact D.partition_view_at PartitionViewChain = search exacts depth 24 in same-exact x (λ i bs v. (to-partition-view i bs v, of-partition-view i bs v))

abbrev OldPartitionViewChain : Lang TypeRow
OldPartitionViewChain =
    Then (Numbers 4)
    (λ s. Then Number
    (λ v. Then (Numbers 4)
    (λ m. Then (λ i. Truth Byte)
    (λ f. Of (λ a. partition_view f s v m a) (λ i. Field (f ≡ 1) Spells)))))

to-old-partition-view : (i : ℕ) (bs : List ℕ) (v : TypeRow) → OldPartitionViewChain i bs v → T.OldPartitionView bs v
to-old-partition-view i bs w (then s (then v (then m (then f (of a))))) = T.OldPartitionView.fields s v m f a

of-old-partition-view : (i : ℕ) (bs : List ℕ) (v : TypeRow) → T.OldPartitionView bs v → OldPartitionViewChain i bs v
of-old-partition-view i bs w (T.OldPartitionView.fields s v m f a) = then s (then v (then m (then f (of a))))

old-partition-view-exact : Exact D.old_partition_view_at (λ i. T.OldPartitionView)
unfolding D.old_partition_view_at
old-partition-view-exact = let x : Exact D.old_partition_view_at OldPartitionViewChain = search exacts depth 24 in same-exact x (λ i bs v. (to-old-partition-view i bs v, of-old-partition-view i bs v))

abbrev GatherScatterViewChain : Lang TypeRow
GatherScatterViewChain =
    Then Number
    (λ f. Then (Numbers 4)
    (λ s. Then Number
    (λ v. Then Number
    (λ d. Of (λ a. gather_scatter_view f s v d a) (ByteIf f)))))

to-gather-scatter-view : (i : ℕ) (bs : List ℕ) (v : TypeRow) → GatherScatterViewChain i bs v → T.GatherScatterView bs v
to-gather-scatter-view i bs w (then f (then s (then v (then d (of a))))) = T.GatherScatterView.fields f s v d a

of-gather-scatter-view : (i : ℕ) (bs : List ℕ) (v : TypeRow) → T.GatherScatterView bs v → GatherScatterViewChain i bs v
of-gather-scatter-view i bs w (T.GatherScatterView.fields f s v d a) = then f (then s (then v (then d (of a))))

gather-scatter-view-exact : Exact D.gather_scatter_view_at (λ i. T.GatherScatterView)
unfolding D.gather_scatter_view_at
gather-scatter-view-exact = let x : Exact D.gather_scatter_view_at GatherScatterViewChain = search exacts depth 24 in same-exact x (λ i bs v. (to-gather-scatter-view i bs v, of-gather-scatter-view i bs v))

abbrev StridedViewChain : Lang TypeRow
StridedViewChain =
    Then Number
    (λ f. Then (Numbers 4)
    (λ s. Then (Numbers 4)
    (λ t. Then Number
    (λ v. Then (Numbers 4)
    (λ m. Of (λ a. strided_view f s t v m a) (ByteIf f))))))

to-strided-view : (i : ℕ) (bs : List ℕ) (v : TypeRow) → StridedViewChain i bs v → T.StridedView bs v
to-strided-view i bs w (then f (then s (then t (then v (then m (of a)))))) = T.StridedView.fields f s t v m a

of-strided-view : (i : ℕ) (bs : List ℕ) (v : TypeRow) → T.StridedView bs v → StridedViewChain i bs v
of-strided-view i bs w (T.StridedView.fields f s t v m a) = then f (then s (then t (then v (then m (of a)))))

strided-view-exact : Exact D.strided_view_at (λ i. T.StridedView)
unfolding D.strided_view_at
strided-view-exact = let x : Exact D.strided_view_at StridedViewChain = search exacts depth 24 in same-exact x (λ i bs v. (to-strided-view i bs v, of-strided-view i bs v))

abbrev FunctionTypeChain : Lang TypeRow
FunctionTypeChain = Then (λ i. Indices) (λ n. Of (λ r. function n r) (λ i. Indices))

to-function-type : (i : ℕ) (bs : List ℕ) (v : TypeRow) → FunctionTypeChain i bs v → T.FunctionType bs v
to-function-type i bs w (then n (of r)) = T.FunctionType.fields n r

of-function-type : (i : ℕ) (bs : List ℕ) (v : TypeRow) → T.FunctionType bs v → FunctionTypeChain i bs v
of-function-type i bs w (T.FunctionType.fields n r) = then n (of r)

function-type-exact : Exact D.function_type_at (λ i. T.FunctionType)
unfolding D.function_type_at
function-type-exact = let x : Exact D.function_type_at FunctionTypeChain = search exacts depth 24 in same-exact x (λ i bs v. (to-function-type i bs v, of-function-type i bs v))

-- Each kind is read exactly.
all-exact : (c : VersionClass) → AllExact (D.kinds c)
all-exact c = (
  pointer-exact c,
  (
    tile-exact,
    (
      tensor-view-exact c,
      (
        choose-exact (Bool-discrete (since13_3 c) true) partition-view-exact old-partition-view-exact,
        (function-type-exact, (gather-scatter-view-exact, (strided-view-exact, tt))),
      ),
    ),
  ),
)

-- The decision over the tag: first the plain ones, then the kinds with fields.
abbrev Decided : VersionClass → ℕ → Lang TypeRow
Decided c t = If (T.among t T.plain_tags ≡ true) (Is (plain t)) (OneOf (D.kinds c) t)

to_fields : (c : VersionClass) (t i : ℕ) (bs : List ℕ) (v : TypeRow) → Decided c t i bs v → T.Fields c t bs v
to_fields c t i bs v (so h is) = T.a_plain h
to_fields c t i bs v (else _ (so h r)) = T.a_pointer h r
to_fields c t i bs v (else _ (else _ (so h r))) = T.a_tile h r
to_fields c t i bs v (else _ (else _ (else _ (so h r)))) = T.a_tensor_view h r
to_fields c t i bs v (else _ (else _ (else _ (else _ (so h (so k r)))))) = T.a_partition_view h k r
to_fields c t i bs v (else _ (else _ (else _ (else _ (so h (else k r)))))) = T.an_old_partition_view h (not-true (since13_3 c) k) r
to_fields c t i bs v (else _ (else _ (else _ (else _ (else _ (so h r)))))) = T.a_function h r
to_fields c t i bs v (else _ (else _ (else _ (else _ (else _ (else _ (so h r))))))) = T.a_gather_scatter_view h r
to_fields c t i bs v (else _ (else _ (else _ (else _ (else _ (else _ (else _ (so h r)))))))) = T.a_strided_view h r
to_fields c t i bs v (else _ (else _ (else _ (else _ (else _ (else _ (else _ (else _ n)))))))) = absurd n

not_plain : (t u : ℕ) → t ≡ u → T.among u T.plain_tags ≡ false → ¬ (T.among t T.plain_tags ≡ true)
not_plain t u h f e = false≢true (sym f ∙ ap (λ n. T.among n T.plain_tags) (sym h) ∙ e)

of_fields : (c : VersionClass) (t i : ℕ) (bs : List ℕ) (v : TypeRow) → T.Fields c t bs v → Decided c t i bs v
of_fields c t i bs v (T.a_plain h) = so h is
of_fields c t i bs v (T.a_pointer h r) = else (not_plain t 12 h refl) (so h r)
of_fields c t i bs v (T.a_tile h r) = else (not_plain t 13 h refl) (else (omega arith) (so h r))
of_fields c t i bs v (T.a_tensor_view h r) = else (not_plain t 14 h refl) (else (omega arith) (else (omega arith) (so h r)))
of_fields c t i bs v (T.a_partition_view h k r) =
    else (not_plain t 15 h refl) (else (omega arith) (else (omega arith) (else (omega arith) (so h (so k r)))))
of_fields c t i bs v (T.an_old_partition_view h k r) =
    else (not_plain t 15 h refl) (else (omega arith) (else (omega arith) (else (omega arith)
    (so h (else (λ e. false≢true (sym k ∙ e)) r)))))
of_fields c t i bs v (T.a_function h r) =
    else (not_plain t 16 h refl) (else (omega arith) (else (omega arith) (else (omega arith) (else (omega arith) (so h r)))))
of_fields c t i bs v (T.a_gather_scatter_view h r) =
    else (not_plain t 20 h refl) (else (omega arith) (else (omega arith) (else (omega arith) (else (omega arith)
    (else (omega arith) (so h r))))))
of_fields c t i bs v (T.a_strided_view h r) =
    else (not_plain t 21 h refl) (else (omega arith) (else (omega arith) (else (omega arith) (else (omega arith)
    (else (omega arith) (else (omega arith) (so h r)))))))

-- What stands behind a tag is read exactly.
pub fields-exact : (c : VersionClass) (k t : ℕ) → Exact (D.fields_at c k t) (λ i. T.Fields c t)
unfolding D.fields_at
fields-exact c k t =
    same-exact
    (choose-exact (Bool-discrete (T.among t T.plain_tags) true) (pure-exact (plain t))
    (pick-at-exact _ k (D.kinds c) (all-exact c) t))
    (λ i bs v. (to_fields c t i bs v, of_fields c t i bs v))

abbrev Tagged : VersionClass → Lang TypeRow
Tagged c = Then Number (λ t i. T.Fields c t)

to-entry : (c : VersionClass) (i : ℕ) (bs : List ℕ) (v : TypeRow) → Upto (Tagged c) i bs v → T.TypeEntry c i bs v
to-entry c i bs v (upto_of left (then s r)) = rw append_assoc (T.type_entry left s r)

of_entry : (c : VersionClass) (i : ℕ) (bs : List ℕ) (v : TypeRow) → T.TypeEntry c i bs v → Upto (Tagged c) i bs v
of_entry c i bs v (T.type_entry {tag_bytes = a} {field_bytes = b} left s r) =
    let u : Upto (Tagged c) i ((a ++ b) ++ left) v = upto_of left (then s r) in rw append_assoc at u

-- A type entry is read exactly, to its end.
pub type-entry-ends : (c : VersionClass) → Ends (D.type_entry_at c) (T.TypeEntry c)
unfolding D.type_entry_at
type-entry-ends c =
    same_ends (upto-ends (here-exact {R = λ k. Tagged c} (λ k. bind-exact varint-exact (fields-exact c k))))
    (λ i bs v. (to-entry c i bs v, of_entry c i bs v))
