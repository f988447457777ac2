-- A type entry of a file's bytes stands for a well-formed row of at most eight words a byte. Assumes nothing.
use mathlib.Core.Path.{◌≡◌, sym, ◌∙◌}
use mathlib.Core.Logic.{inl, inr}
use mathlib.Core.Bool.{false≢true}
use Prim.Native.Nat.{ℕ, ◌+◌, ◌^◌, ◌≤◌, ◌<◌}
use native.Mathlib.Omega.{arith}
use mathlib.Core.List.{List, [], ◌∷◌, ◌++◌}
use lib.ListN.{length, length-append}
use Rattle.enums.specs.declared.VersionClass.{VersionClass}
use Rattle.encoding.proofs.LawsVarint.{spells-below}
use Rattle.format.specs.Tables.{TypeRow}
use Rattle.format.specs.Items.{byte_of, truth, truth_of, Bit0}
use Rattle.format.specs.Types as T
use Rattle.format.specs.Sheet.{counted_words, field_words, type_words}
use Rattle.format.specs.Sound.{All, Fits, OnlyIf, SoundType}
use Rattle.format.proofs.LawsImageItems.{all_both}
use Rattle.format.proofs.LawsImageTypes.{GoodType}
use Rattle.format.proofs.LawsSoundRows.{RowSized}
use Rattle.format.proofs.LawsSoundItems.{
  Bytes,
  bytes-front,
  bytes_back,
  spells-some,
  Listed,
  array-listed,
  indices-listed,
  field-only,
  varint-field,
  byte-below,
  truth-below,
}

-- What a row is whose tag and fields take n bytes.
record Behind (c : VersionClass) (t n : ℕ) (r : TypeRow) : Type 0 where
  words : All (Fits 64) (field_words r)
  sound : SoundType c r
  size : length (field_words r) ≤ n + 3

-- The words of a list, and those behind it.
listed-words : (w : ℕ) (bs vs ws : List ℕ) → Listed w bs vs → All (Fits 64) vs → All (Fits 64) ws → All (Fits 64) (counted_words vs ++ ws)
listed-words w bs vs ws l a h = all_both (Fits 64) (counted_words vs) ws (l.count, a) h

-- i32 numbers are u64 words.
wider : (vs : List ℕ) → All (Fits 32) vs → All (Fits 64) vs
wider [] h = tt
wider (v ∷ vs) h =
    let k : v < 2 ^ 32 = h.0 in
    (omega arith, wider vs h.1)

tag_word : (t k : ℕ) → Fits 64 t → t ≡ k → Fits 64 k
tag_word t k h e = rw (← e) h

-- A presence of 1 has bit 0.
present-bit : (v a : ℕ) → OnlyIf (v ≡ 1) a → OnlyIf (Bit0 v) a
present-bit v a (inl e) = inl (omega arith)
present-bit v a (inr e) = inr e

fields-behind : (c : VersionClass) (t : ℕ) (bs : List ℕ) (r : TypeRow) → Fits 64 t → T.Fields c t bs r → Bytes bs → Behind c t (length bs) r
unfolding field_words
fields-behind c t bs r f (T.a_plain h) b = record { words = (f, tt); sound = h; size = omega arith }
fields-behind c t bs r f (T.a_pointer e
    (T.Pointer.fields {flags_bytes = x} {element_bytes = y} {attribute_bytes = z} {flags = p} {element = q}
    {attribute = a} i j k)) b =
    let d = bytes_back y z (bytes_back x (y ++ z) b) in
    let m : Fits 8 a = byte-below z a k d in
    let w : Fits 64 a = omega arith in
    record {
      words = (tag_word t _ f e, (varint-field x p i, (spells-below y q j, (w, tt))));
      sound = (field-only x p i, (field-only z a k, m));
      size = omega (arith, length-append x (y ++ z), length-append y z, spells-some y q j);
    }
fields-behind c t bs r f (T.a_tile e
    (T.Tile.fields {element_bytes = x} {dims_bytes = y} {dims = ds} {element = q} i j)) b =
    let l = array-listed 7 y ds j (bytes_back x y b) in
    record {
      words = (tag_word t _ f e, (spells-below x q i, (l.count, l.each)));
      sound = tt;
      size = omega (arith, length-append x y, spells-some x q i, l.size);
    }
fields-behind c t bs r f (T.a_tensor_view e
    (T.TensorView.fields {flags_bytes = x} {element_bytes = y} {shape_bytes = u} {strides_bytes = v}
    {attribute_bytes = z} {shape = ss} {strides = ts} {flags = p} {element = q} {attribute = a} i j k l m)) b =
    let b₁ = bytes_back x (y ++ (u ++ (v ++ z))) b in
    let b₂ = bytes_back y (u ++ (v ++ z)) b₁ in
    let b₃ = bytes_back u (v ++ z) b₂ in
    let s = array-listed 7 u ss k (bytes-front u (v ++ z) b₂) in
    let o = array-listed 7 v ts l (bytes-front v z b₃) in
    let g : Fits 8 a = byte-below z a m (bytes_back v z b₃) in
    let w : Fits 64 a = omega arith in
    record {
      words = (
        tag_word t _ f e,
        (
          varint-field x p i,
          (
            spells-below y q j,
            listed-words 8 u ss _ s s.each (listed-words 8 v ts _ o o.each (w, tt)),
          ),
        ),
      );
      sound = (field-only x p i, (field-only z a m, g));
      size = simp length-append (omega (arith, spells-some y q j, s.size, o.size));
    }
fields-behind c t bs r f (T.a_partition_view e h
    (T.PartitionView.fields {flags_bytes = x} {shape_bytes = u} {view_bytes = y} {map_bytes = v} {padding_bytes = z}
    {shape = ss} {map = ms} {flags = p} {view = q} {padding = a} i j k l m)) b =
    let b₁ = bytes_back x (u ++ (y ++ (v ++ z))) b in
    let b₂ = bytes_back y (v ++ z) (bytes_back u (y ++ (v ++ z)) b₁) in
    let s = array-listed 3 u ss j (bytes-front u (y ++ (v ++ z)) b₁) in
    let o = array-listed 3 v ms l (bytes-front v z b₂) in
    let g : Fits 8 a = byte-below z a m (bytes_back v z b₂) in
    let w : Fits 64 a = omega arith in
    record {
      words = (
        tag_word t _ f e,
        (
          spells-below x p i,
          listed-words 4 u ss _ s (wider ss s.each) (spells-below y q k, listed-words 4 v ms _ o (wider ms o.each) (w, tt)),
        ),
      );
      sound = (inl h, s.each, o.each, field-only z a m, inr g);
      size = simp length-append (omega (arith, spells-some x p i, spells-some y q k, s.size, o.size));
    }
fields-behind c t bs r f (T.an_old_partition_view e h
    (T.OldPartitionView.fields {shape_bytes = u} {view_bytes = y} {map_bytes = v} {padding_bytes = z} {shape = ss}
    {map = ms} {view = q} {padding = a} j k l (truth_of (byte_of {b = p})) m)) b =
    let b₂ = bytes_back y (v ++ (p ∷ z)) (bytes_back u (y ++ (v ++ (p ∷ z))) b) in
    let s = array-listed 3 u ss j (bytes-front u (y ++ (v ++ (p ∷ z))) b) in
    let o = array-listed 3 v ms l (bytes-front v (p ∷ z) b₂) in
    let g = truth-below p in
    let w : Fits 64 (truth p) = omega arith in
    record {
      words = (
        tag_word t _ f e,
        (
          w,
          listed-words 4 u ss _ s (wider ss s.each)
              (spells-below y q k, listed-words 4 v ms _ o (wider ms o.each) (varint-field z a m, tt)),
        ),
      );
      sound = (inr g, s.each, o.each, present-bit (truth p) a (field-only z a m), inl (λ y. false≢true (sym h ∙ y)));
      size = simp length-append (omega (arith, spells-some y q k, s.size, o.size));
    }
fields-behind c t bs r f (T.a_gather_scatter_view e
    (T.GatherScatterView.fields {flags_bytes = x} {shape_bytes = u} {view_bytes = y} {sparse_bytes = v}
    {padding_bytes = z} {shape = ss} {flags = p} {view = q} {sparse = d} {padding = a} i j k l m)) b =
    let b₁ = bytes_back x (u ++ (y ++ (v ++ z))) b in
    let b₃ = bytes_back v z (bytes_back y (v ++ z) (bytes_back u (y ++ (v ++ z)) b₁)) in
    let s = array-listed 3 u ss j (bytes-front u (y ++ (v ++ z)) b₁) in
    let g : Fits 8 a = byte-below z a m b₃ in
    let w : Fits 64 a = omega arith in
    record {
      words = (
        tag_word t _ f e,
        (
          spells-below x p i,
          listed-words 4 u ss _ s (wider ss s.each) (spells-below y q k, (spells-below v d l, (w, tt))),
        ),
      );
      sound = (s.each, (field-only z a m, g));
      size = simp length-append (omega (arith, spells-some x p i, spells-some y q k, spells-some v d l, s.size));
    }
fields-behind c t bs r f (T.a_strided_view e
    (T.StridedView.fields {flags_bytes = x} {shape_bytes = u} {strides_bytes = o} {view_bytes = y} {map_bytes = v}
    {padding_bytes = z} {shape = ss} {strides = ts} {map = ms} {flags = p} {view = q} {padding = a} i j k l m n)) b =
    let b₁ = bytes_back x (u ++ (o ++ (y ++ (v ++ z)))) b in
    let b₂ = bytes_back u (o ++ (y ++ (v ++ z))) b₁ in
    let b₄ = bytes_back y (v ++ z) (bytes_back o (y ++ (v ++ z)) b₂) in
    let s₁ = array-listed 3 u ss j (bytes-front u (o ++ (y ++ (v ++ z))) b₁) in
    let s₂ = array-listed 3 o ts k (bytes-front o (y ++ (v ++ z)) b₂) in
    let s₃ = array-listed 3 v ms m (bytes-front v z b₄) in
    let g : Fits 8 a = byte-below z a n (bytes_back v z b₄) in
    let w : Fits 64 a = omega arith in
    record {
      words = (
        tag_word t _ f e,
        (
          spells-below x p i,
          listed-words 4 u ss _ s₁ (wider ss s₁.each) (listed-words 4 o ts _ s₂ (wider ts s₂.each)
              (spells-below y q l, listed-words 4 v ms _ s₃ (wider ms s₃.each) (w, tt))),
        ),
      );
      sound = (s₁.each, s₂.each, s₃.each, (field-only z a n, g));
      size = simp length-append (omega (arith, spells-some x p i, spells-some y q l, s₁.size, s₂.size, s₃.size));
    }
fields-behind c t bs r f (T.a_function e
    (T.FunctionType.fields {inputs_bytes = x} {results_bytes = y} {inputs = xs} {results = ys} i j)) b =
    let s = indices-listed x xs i in
    let o = indices-listed y ys j in
    record {
      words = (tag_word t _ f e, listed-words 8 x xs _ s s.each (o.count, o.each));
      sound = tt;
      size = simp length-append (omega (arith, s.size, o.size));
    }

-- An entry of bytes.
pub type-sized : (c : VersionClass) (i : ℕ) (bs : List ℕ) (r : TypeRow) → T.TypeEntry c i bs r → Bytes bs →
    RowSized type_words (GoodType c) (length bs) r
unfolding type_words
type-sized c i bs r (T.type_entry {tag_bytes = x} {field_bytes = y} {t = t} left s f) b =
    let h = fields-behind c t y r (spells-below x t s) f (bytes-front y left (bytes_back x (y ++ left) b)) in
    let k : length (x ++ (y ++ left)) ≡ length x + (length y + length left) = simp length-append in
    let o = spells-some x t s in
    let m = h.size in
    record { good = record { words = h.words; sound = h.sound }; size = omega arith; some = omega arith }
