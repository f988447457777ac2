-- Steps that copy the fields of each kind, one after the other, put a type's entry. Assumes nothing.
use Rattle.format.proofs.LawsKinds.{kind-plain}
use Rattle.std.proofs.lemmas.Bool.Decides.{nat_tests}
use Rattle.std.proofs.Common.{◌≡◌, ℕ, ◌%◌, Bool, cond, nat_eq, ◌<◌, true, false, List, [], ◌∷◌, ◌++◌, length, get_or, sym, refl, ap, ◌∙◌, subst, ap₂, inl, inr, mod-eq_of_lt, arith}
use mathlib.Core.Bool.{false≢true}
use native.Mathlib.Decide.{ℕ_discrete}
use Rattle.exact.specs.Choice.{choose}
use Rattle.exact.specs.Fixed.{bytes_of}
use Rattle.exact.proofs.LawsChoice.{choose_yes, choose_no}
use Rattle.enums.specs.declared.VersionClass.{VersionClass}
use Rattle.enums.specs.Types.{tag_pointer, tag_tile, tag_tensor_view, tag_partition_view, tag_func, tag_gather_scatter_view, tag_strided_view}
use Rattle.enums.specs.Version.{since13_3}
use Rattle.encoding.specs.Varint.{spelling}
use Rattle.encoding.specs.Out.{Tells, flat, counted_bytes}
use Rattle.format.specs.Tables.{TypeRow, plain, pointer, tile, tensor_view, partition_view, gather_scatter_view, strided_view, function}
use Rattle.format.specs.Types.{plain_tags, among}
use Rattle.format.specs.Kinds.{kind_of, a_plain}
use Rattle.format.proofs.LawsKinds.{plain-kind}
use Rattle.format.specs.Sheet.{counted_words, field_words, type_words}
use Rattle.format.specs.Sound.{SoundType}
use Rattle.format.specs.Tests.{bit0?, since3?}
use Rattle.format.specs.Image.{varints, counted_varints, only_where, optional_byte, partition_bytes, type_bytes}
use Rattle.sheet.specs.Store.{words_in}
use Rattle.images.specs.Put.{Wrote}
use Rattle.images.specs.Fields.{bytes_as, many_as, Copied, NumberCopied, NumberCopiedWhere, WordsSkipped, ListCopied}
use Rattle.images.specs.Types.{
  PointerCopied,
  TileCopied,
  TensorViewCopied,
  NewPartitionViewCopied,
  OldPartitionViewCopied,
  PartitionViewCopied,
  GatherScatterViewCopied,
  StridedViewCopied,
  FunctionCopied,
  FieldsCopied,
  TypeCopied,
}
use Rattle.images.specs.declared.fields.Number.{Number}
use Rattle.images.specs.declared.fields.Number.TheVariants.{Varint, Byte, I32, I64}
use Rattle.images.specs.declared.fields.Pen.{Pen}
use Rattle.sheet.proofs.LawsLies.{lies-first}
use Rattle.images.proofs.LawsFields.{copied-then, copied-knowing, copied-as, copied-put, skipped-one}

where-bytes : {Q : Type 0} (d : Dec Q) {b : Bool} → Tells Q b → (bs : List ℕ) → cond b bs [] ≡ only_where d bs
unfolding choose only_where
where-bytes (yes h) {b = true} t bs = refl
where-bytes (yes h) {b = false} t bs = absurd (t.fails refl h)
where-bytes (no h) {b = true} t bs = absurd (h (t.holds refl))
where-bytes (no h) {b = false} t bs = refl

-- What a test of the version class, of the flags, or of the presence tells.
pub tells_same : {b a : Bool} → b ≡ a → Tells (a ≡ true) b
tells_same e = record { holds = λ h. sym e ∙ h; fails = λ h i. false≢true (sym h ∙ e ∙ i) }

pub tells-equal : (n m : ℕ) → Tells (n ≡ m) (nat_eq n m)
tells-equal n m = record { holds = λ e. grind (arith, nat_tests); fails = λ e h. grind (arith, nat_tests) }

-- A byte is itself.
pub byte-as : (v : ℕ) → v < 256 → bytes_as Byte v ≡ v ∷ []
unfolding bytes_as bytes_of
byte-as v h = ap (λ b. b ∷ []) (mod-eq_of_lt h)

-- A number that is there only where the question holds.
pub where-copied : {Q : Type 0} (d : Dec Q) {b : Bool} → Tells Q b → {k : Number} {s : List ℕ} {p q : Pen} {out out' : List ℕ} →
    NumberCopiedWhere b k s p out out' q → (pool : List ℕ) (v : ℕ) →
    Copied (v ∷ []) [] (only_where d (bytes_as k v)) s pool p out out' q
where-copied d t {k} x pool v = copied-as (where-bytes d t (bytes_as k v)) (x.each pool v)

pub varint-where : {Q : Type 0} (d : Dec Q) {b : Bool} → Tells Q b → {s : List ℕ} {p q : Pen} {out out' : List ℕ} →
    NumberCopiedWhere b Varint s p out out' q → (pool : List ℕ) (v : ℕ) →
    Copied (v ∷ []) [] (only_where d (spelling v)) s pool p out out' q
unfolding bytes_as
varint-where d t x pool v = where-copied d t x pool v

-- An optional byte, by the flags that were read.
pub optional-copied : {b : Bool} {s : List ℕ} {p q : Pen} {out out' : List ℕ} (bits flags : ℕ) → bits ≡ flags →
    Tells (bits % 2 ≡ 1) b → NumberCopiedWhere b Byte s p out out' q → (pool : List ℕ) (v : ℕ) → v < 256 →
    Copied (v ∷ []) [] (optional_byte flags v) s pool p out out' q
unfolding optional_byte
optional-copied {b} bits flags i t x pool v h =
    copied-as (ap (only_where (bit0? flags)) (byte-as v h))
    (where-copied (bit0? flags) (subst (λ n. Tells (n % 2 ≡ 1) b) i t) x pool v)

-- Numbers of a fixed width, one behind the other.
many-flat : (k : Number) (w : ℕ) → ((v : ℕ) → bytes_as k v ≡ bytes_of w v) → (vs : List ℕ) → many_as k vs ≡ flat w vs
unfolding many_as
many-flat k w h [] = refl
many-flat k w h (v ∷ vs) = ap₂ (λ a b. a ++ b) (h v) (many-flat k w h vs)

many-flat32 : (vs : List ℕ) → many_as I32 vs ≡ flat 4 vs
unfolding bytes_as
many-flat32 vs = many-flat I32 4 (λ v. refl) vs

pub many-flat64 : (vs : List ℕ) → many_as I64 vs ≡ flat 8 vs
unfolding bytes_as
many-flat64 vs = many-flat I64 8 (λ v. refl) vs

pub many-varints : (vs : List ℕ) → many_as Varint vs ≡ varints vs
unfolding many_as bytes_as varints
many-varints [] = refl
many-varints (v ∷ vs) = ap (λ r. bytes_as Varint v ++ r) (many-varints vs)

module _ {s : List ℕ} {p q : Pen} {out out' : List ℕ} where
  -- A varint, and counted numbers.
  pub varint-copied : NumberCopied Varint s p out out' q → (pool : List ℕ) (v : ℕ) → Copied (v ∷ []) [] (spelling v) s pool p out out' q
  unfolding bytes_as
  varint-copied x pool v = x.each pool v

  pub list32 : ListCopied I32 s p out out' q → (pool vs : List ℕ) → Copied (counted_words vs) [] (counted_bytes 4 vs) s pool p out out' q
  list32 x pool vs = rw (← many-flat32 vs) (x.each pool vs)

  pub list64 : ListCopied I64 s p out out' q → (pool vs : List ℕ) → Copied (counted_words vs) [] (counted_bytes 8 vs) s pool p out out' q
  list64 x pool vs = rw (← many-flat64 vs) (x.each pool vs)

  pub indices : ListCopied Varint s p out out' q → (pool vs : List ℕ) → Copied (counted_words vs) [] (counted_varints vs) s pool p out out' q
  unfolding counted_varints
  indices x pool vs = rw (← many-varints vs) (x.each pool vs)

-- The presence as a byte, and what is there only if it is 1.
pub presence-put : {s pool : List ℕ} {p : Pen} {out out' : List ℕ} {next : ℕ} (bits flags : ℕ) → bits ≡ flags → flags < 2 →
    Wrote (bytes_as Byte bits) p.at out out' next →
    Copied [] [] (flags ∷ []) s pool p out out' (record { word = p.word; run = p.run; at = next })
presence-put bits flags i h x =
    let k : flags < 256 = omega arith in
    copied-as (ap (bytes_as Byte) i ∙ byte-as flags k) (copied-put x)

pub present-copied : {s : List ℕ} {p q : Pen} {out out' : List ℕ} (bits flags : ℕ) → bits ≡ flags →
    NumberCopiedWhere (nat_eq bits 1) Varint s p out out' q → (pool : List ℕ) (v : ℕ) →
    Copied (v ∷ []) [] (only_where (ℕ_discrete flags 1) (spelling v)) s pool p out out' q
present-copied bits flags i x pool v =
    varint-where (ℕ_discrete flags 1) (subst (λ n. Tells (n ≡ 1) (nat_eq bits 1)) i (tells-equal bits 1)) x pool v

module _ {s : List ℕ} {p q : Pen} {out out' : List ℕ} where
  -- A partition view, by the version class.
  pub partition-old : (c : VersionClass) → since13_3 c ≡ false → OldPartitionViewCopied s p out out' q →
      PartitionViewCopied c s p out out' q
  unfolding partition_bytes
  partition-old c e x =
      record {
        each =
            λ pool flags shape view dims padding h k.
            copied-as (sym (choose_no (since3? c) _ _ (λ n. false≢true (sym e ∙ n))))
            (x.each pool flags shape view dims padding (elim h [ inl n ↦ absurd (false≢true (sym e ∙ n)) | inr l ↦ l ]));
      }

  pub partition-new : (c : VersionClass) → since13_3 c ≡ true → NewPartitionViewCopied s p out out' q →
      PartitionViewCopied c s p out out' q
  unfolding partition_bytes
  partition-new c e x =
      record {
        each =
            λ pool flags shape view dims padding h k.
            copied-as (sym (choose_yes (since3? c) _ _ e))
            (x.each pool flags shape view dims padding (elim k [ inl n ↦ absurd (n e) | inr l ↦ l ]));
      }

-- The tag was put and then the fields of its kind: an entry, whatever row it is.
module _ (c : VersionClass) {s : List ℕ} {p q : Pen} (r : Pen) {out mid : List ℕ} (out' : List ℕ) {tag : ℕ} (e : tag ≡ get_or (words_in s) p.word 0)
    (x : NumberCopied Varint s p out mid q) (y : FieldsCopied c (kind_of tag) s q mid out' r) where
  plain_copied : (pool : List ℕ) (t : ℕ) → among t plain_tags ≡ true → tag ≡ t → Copied (t ∷ []) [] (spelling t) s pool p out out' r
  unfolding FieldsCopied
  plain_copied pool t h i =
      let z : FieldsCopied c a_plain s q mid out' r = subst (λ k. FieldsCopied c k s q mid out' r) (ap kind_of i ∙ plain-kind t h) y in
      rw (z.0, z.1) (varint-copied x pool t)

  known : (k : ℕ) → tag ≡ k → FieldsCopied c (kind_of k) s q mid out' r
  known k i = subst (λ t. FieldsCopied c (kind_of t) s q mid out' r) i y

  row_copied : (pool : List ℕ) (row : TypeRow) → SoundType c row → Copied (field_words row) [] (type_bytes c row) s pool p out out' r
  unfolding field_words type_bytes FieldsCopied kind_of
  row_copied pool (plain t) h = copied-knowing (λ l. plain_copied pool t h (e ∙ lies-first t [] l))
  row_copied pool (pointer flags element attribute) h =
      copied-knowing
      (λ l.
      let f : PointerCopied c s q mid out' r = known tag_pointer (e ∙ lies-first tag_pointer _ l) in
      copied-then (varint-copied x pool tag_pointer) (f.each pool flags element attribute h.1.1))
  row_copied pool (tile element dims) h =
      copied-knowing
      (λ l.
      let f : TileCopied s q mid out' r = known tag_tile (e ∙ lies-first tag_tile _ l) in
      copied-then (varint-copied x pool tag_tile) (f.each pool element dims))
  row_copied pool (tensor_view flags element shape strides attribute) h =
      copied-knowing
      (λ l.
      let f : TensorViewCopied c s q mid out' r = known tag_tensor_view (e ∙ lies-first tag_tensor_view _ l) in
      copied-then (varint-copied x pool tag_tensor_view) (f.each pool flags element shape strides attribute h.1.1))
  row_copied pool (partition_view flags shape view dims padding) h =
      copied-knowing
      (λ l.
      let f : PartitionViewCopied c s q mid out' r = known tag_partition_view (e ∙ lies-first tag_partition_view _ l) in
      copied-then (varint-copied x pool tag_partition_view) (f.each pool flags shape view dims padding h.0 h.4))
  row_copied pool (gather_scatter_view flags shape view sparse padding) h =
      copied-knowing
      (λ l.
      let f : GatherScatterViewCopied s q mid out' r = known tag_gather_scatter_view (e ∙ lies-first tag_gather_scatter_view _ l) in
      copied-then (varint-copied x pool tag_gather_scatter_view) (f.each pool flags shape view sparse padding h.1.1))
  row_copied pool (strided_view flags shape strides view dims padding) h =
      copied-knowing
      (λ l.
      let f : StridedViewCopied s q mid out' r = known tag_strided_view (e ∙ lies-first tag_strided_view _ l) in
      copied-then (varint-copied x pool tag_strided_view) (f.each pool flags shape strides view dims padding h.3.1))
  row_copied pool (function inputs results) h =
      copied-knowing
      (λ l.
      let f : FunctionCopied s q mid out' r = known tag_func (e ∙ lies-first tag_func _ l) in
      copied-then (varint-copied x pool tag_func) (f.each pool inputs results))

-- The count, which is the sheet's alone, and the entry.
pub type-copied : (c : VersionClass) {s : List ℕ} {o p q : Pen} (r : Pen) {out mid : List ℕ} (out' : List ℕ) {tag : ℕ} →
    WordsSkipped 1 o p → tag ≡ get_or (words_in s) p.word 0 → NumberCopied Varint s p out mid q →
    FieldsCopied c (kind_of tag) s q mid out' r → TypeCopied c s o out out' r
unfolding type_words
type-copied c r out' w e x y =
    record {
      each = λ pool row h. copied-then (skipped-one w _ pool _ (length (field_words row))) (row_copied c r out' e x y pool row h);
    }

-- The laws by which the check proves what goes by the kind of a type.
pub ruleset types = (type-copied, partition-old, partition-new, kind-plain)
