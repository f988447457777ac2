-- What the writer writes for a well-formed type row is an entry that stands for it. Assumes nothing.
use mathlib.Core.Path.{◌≡◌, refl, sym, subst}
use mathlib.Core.Logic.{inl, inr}
use mathlib.Core.Bool.{true}
use Prim.Native.Nat.{ℕ, ◌<◌}
use native.Mathlib.Decide.{ℕ_discrete}
use native.Mathlib.Omega.{arith}
use mathlib.Core.List.{List, [], ◌∷◌, ◌++◌, append-nil}
use Rattle.exact.specs.Choice.{choose}
use Rattle.enums.specs.declared.VersionClass.{VersionClass}
use Rattle.enums.specs.Types as tags
use Rattle.enums.specs.Version.{since13_3}
use Rattle.encoding.specs.Varint.{spelling}
use Rattle.encoding.specs.Out.{counted_bytes}
use Rattle.encoding.proofs.LawsVarint.{spelling-spells}
use Rattle.format.specs.Tables.{
  TypeRow,
  plain,
  pointer,
  tile,
  tensor_view,
  partition_view,
  gather_scatter_view,
  strided_view,
  function,
}
use Rattle.format.specs.Items.{Byte, byte_of, Array, Truth, truth, truth_of, Bit0}
use Rattle.format.specs.Types as T
use Rattle.format.specs.Sheet.{counted_words, field_words}
use Rattle.format.specs.Sound.{All, Fits, OnlyIf, SoundType}
use Rattle.format.specs.Tests.{since3?, since4?}
use Rattle.format.specs.Image.{only_where, optional_byte, partition_bytes, type_bytes}
use Rattle.format.proofs.LawsImageItems.{all-front, all_back, array_of, indices-of, field_of, byte-field}
use Rattle.format.proofs.LawsItems.{not-true}

-- The words of a row: a list with its count, and what stands behind it.
abbrev Words : List ℕ → Type 0
Words = All (Fits 64)

front : (xs ws : List ℕ) → Words (counted_words xs ++ ws) → Words (counted_words xs)
front xs ws = all-front (Fits 64) (counted_words xs) ws

back : (xs ws : List ℕ) → Words (counted_words xs ++ ws) → Words ws
back xs ws = all_back (Fits 64) (counted_words xs) ws

-- An array of i64 numbers, and one of i32 numbers.
longs : (xs ws : List ℕ) → Words (counted_words xs ++ ws) → Array 8 (counted_bytes 8 xs) xs
longs xs ws h = let f = front xs ws h in array_of 8 xs f.0 f.1

ints : (xs ws : List ℕ) → Words (counted_words xs ++ ws) → All (Fits 32) xs → Array 4 (counted_bytes 4 xs) xs
ints xs ws h a = array_of 4 xs (front xs ws h).0 a

-- A presence 0 or 1 stands for itself.
pub truth-bit : (v : ℕ) → v < 2 → truth v ≡ v
unfolding truth choose
truth-bit v h = go (ℕ_discrete v 0)
  where
    go : (d : Dec (v ≡ 0)) → choose d 0 1 ≡ v
    go (yes e) = sym e
    go (no n) = omega arith

presence : (v : ℕ) → v < 2 → Truth Byte (v ∷ []) v
presence v h = let t : Truth Byte (v ∷ []) (truth v) = truth_of byte_of in subst (Truth Byte (v ∷ [])) (truth-bit v h) t

-- Present, where it is 0 or 1, is bit 0.
present-only : (flags v : ℕ) → flags < 2 → OnlyIf (Bit0 flags) v → OnlyIf (flags ≡ 1) v
present-only flags v h (inl b) = inl (omega arith)
present-only flags v h (inr e) = inr e

module _ (c : VersionClass) (flags : ℕ) (shape : List ℕ) (view : ℕ) (dims : List ℕ) (padding : ℕ)
    (w : Words (field_words (partition_view flags shape view dims padding)))
    (s : SoundType c (partition_view flags shape view dims padding)) where
  partition-fields : T.Fields c tags.tag_partition_view (partition_bytes c flags shape view dims padding) (partition_view flags shape view dims padding)
  unfolding partition_bytes field_words choose
  partition-fields = go (since3? c)
    where
      wb : Words (view ∷ (counted_words dims ++ (padding ∷ [])))
      wb = back shape (view ∷ (counted_words dims ++ (padding ∷ []))) w.1.1

      wp : Words (padding ∷ [])
      wp = back dims (padding ∷ []) wb.1

      go : (d : Dec (since13_3 c ≡ true)) →
          T.Fields c tags.tag_partition_view
          (choose d
          (spelling flags ++ (counted_bytes 4 shape ++ (spelling view ++ (counted_bytes 4 dims ++ optional_byte flags padding))))
          (counted_bytes 4 shape ++ (spelling view ++ (counted_bytes 4 dims ++ (flags ∷ only_where (ℕ_discrete flags 1) (spelling padding))))))
          (partition_view flags shape view dims padding)
      go (yes q) =
          T.a_partition_view refl q
          (T.PartitionView.fields (spelling-spells flags w.1.0) (ints shape _ w.1.1 s.1) (spelling-spells view wb.0)
          (ints dims _ wb.1 s.2) (byte-field flags padding s.3))
      go (no n) =
          let f : flags < 2 = elim s.0 [ inl q ↦ absurd (n q) | inr l ↦ l ] in
          T.an_old_partition_view refl (not-true (since13_3 c) n)
          (T.OldPartitionView.fields (ints shape _ w.1.1 s.1) (spelling-spells view wb.0) (ints dims _ wb.1 s.2)
          (presence flags f)
          (field_of (ℕ_discrete flags 1) (spelling padding) padding (present-only flags padding f s.3) (spelling-spells padding wp.0)))

-- An entry without bytes left over.
entry : (c : VersionClass) (i t : ℕ) (bs : List ℕ) (r : TypeRow) → Fits 64 t → T.Fields c t bs r → T.TypeEntry c i (spelling t ++ bs) r
entry c i t bs r h f =
    let e : T.TypeEntry c i (spelling t ++ (bs ++ [])) r = T.type_entry [] (spelling-spells t h) f in rw append-nil at e

-- A row whose fields are u64 and which is well-formed.
pub record GoodType (c : VersionClass) (r : TypeRow) : Type 0 where
  pub words : All (Fits 64) (field_words r)
  pub sound : SoundType c r

-- A well-formed row's entry.
type-entry-of : (c : VersionClass) (i : ℕ) (r : TypeRow) → Words (field_words r) → SoundType c r → T.TypeEntry c i (type_bytes c r) r
unfolding type_bytes field_words
type-entry-of c i (plain tag) w s = rw (← append-nil (spelling tag)) (entry c i tag [] (plain tag) w.0 (T.a_plain s))
type-entry-of c i (pointer f e a) w s =
    entry c i tags.tag_pointer _ (pointer f e a) w.0
    (T.a_pointer refl
    (T.Pointer.fields (field_of (since4? c) (spelling f) f s.0 (spelling-spells f w.1.0)) (spelling-spells e w.1.1.0)
    (byte-field f a s.1.0)))
type-entry-of c i (tile e ds) w s =
    entry c i tags.tag_tile _ (tile e ds) w.0
    (T.a_tile refl (T.Tile.fields (spelling-spells e w.1.0) (array_of 8 ds w.1.1.0 w.1.1.1)))
type-entry-of c i (tensor_view f e ss ts a) w s =
    let k = back ss (counted_words ts ++ (a ∷ [])) w.1.1.1 in
    entry c i tags.tag_tensor_view _ (tensor_view f e ss ts a) w.0
    (T.a_tensor_view refl
    (T.TensorView.fields (field_of (since4? c) (spelling f) f s.0 (spelling-spells f w.1.0)) (spelling-spells e w.1.1.0)
    (longs ss _ w.1.1.1) (longs ts _ k) (byte-field f a s.1.0)))
type-entry-of c i (partition_view f ss v m p) w s =
    entry c i tags.tag_partition_view _ (partition_view f ss v m p) w.0 (partition-fields c f ss v m p w s)
type-entry-of c i (gather_scatter_view f ss v d p) w s =
    let k = back ss (v ∷ d ∷ p ∷ []) w.1.1 in
    entry c i tags.tag_gather_scatter_view _ (gather_scatter_view f ss v d p) w.0
    (T.a_gather_scatter_view refl
    (T.GatherScatterView.fields (spelling-spells f w.1.0) (ints ss _ w.1.1 s.0) (spelling-spells v k.0)
    (spelling-spells d k.1.0) (byte-field f p s.1.0)))
type-entry-of c i (strided_view f ss ts v m p) w s =
    let k = back ss (counted_words ts ++ (v ∷ (counted_words m ++ (p ∷ [])))) w.1.1 in
    let l = back ts (v ∷ (counted_words m ++ (p ∷ []))) k in
    entry c i tags.tag_strided_view _ (strided_view f ss ts v m p) w.0
    (T.a_strided_view refl
    (T.StridedView.fields (spelling-spells f w.1.0) (ints ss _ w.1.1 s.0) (ints ts _ k s.1) (spelling-spells v l.0)
    (ints m _ l.1 s.2) (byte-field f p s.3.0)))
type-entry-of c i (function xs ys) w s =
    let f = front xs (counted_words ys) w.1 in
    let k = back xs (counted_words ys) w.1 in
    entry c i tags.tag_func _ (function xs ys) w.0
    (T.a_function refl (T.FunctionType.fields (indices-of xs f.0 f.1) (indices-of ys k.0 k.1)))

pub type-of : (c : VersionClass) (r : TypeRow) → GoodType c r → T.TypeEntry c 0 (type_bytes c r) r
type-of c r g = type-entry-of c 0 r g.words g.sound
