-- A type's row is read exactly as its words say. Assumes nothing.
use mathlib.Core.Path.{◌≡◌, refl}
use Prim.Native.Nat.{ℕ}
use native.Mathlib.Decide.{ℕ_discrete}
use mathlib.Core.Bool.{true}
use mathlib.Core.List.{List}
use lib.ListN.{length}
use Rattle.exact.specs.Exact.{Lang, Exact}
use Rattle.exact.specs.Basic.{One, one, Is, is, Never}
use Rattle.exact.specs.Sequence.{bind, Then, then, Of, of}
use Rattle.exact.specs.Choice.{If, so, else, Such, such_of}
use Rattle.exact.proofs.LawsExact.{same-exact}
use Rattle.exact.proofs.LawsBasic.{byte-exact, pure-exact, fail-exact}
use Rattle.exact.proofs.LawsSequence.{bind-exact, map-exact}
use Rattle.exact.proofs.LawsChoice.{choose-exact, such-exact}
use Rattle.enums.specs.declared.VersionClass.{VersionClass}
use Rattle.enums.specs.Refusals as refusals
use Rattle.enums.specs.Types.{tag_pointer, tag_tile, tag_tensor_view, tag_partition_view, tag_func, tag_gather_scatter_view, tag_strided_view}
use Rattle.format.specs.Tables.{
  TypeRow,
  plain,
  pointer,
  tile,
  tensor_view,
  partition_view,
  gather_scatter_view,
  strided_view,
  function,
}
use Rattle.format.specs.Sheet.{counted_words, field_words, type_words}
use Rattle.format.specs.Types.{plain_tags, among}
use Rattle.format.specs.Sound.{SoundType}
use Rattle.format.specs.Tests.{both?, plain?, type?}
use Rattle.format.specs.Judge.{
  pointer_at,
  tile_at,
  tensor_view_at,
  partition_view_at,
  gather_scatter_view_at,
  strided_view_at,
  function_type_at,
  kind_at,
  type_at,
  word,
}
use Rattle.format.proofs.LawsFlat.{Flat, flat, Any, list-exact}

-- A list inside a row.
abbrev Numbers : Lang (List ℕ)
Numbers = Flat counted_words Any

abbrev PointerLang : Lang TypeRow
PointerLang = Then One (λ flags. Then One (λ element. Of (pointer flags element) One))

abbrev TileLang : Lang TypeRow
TileLang = Then One (λ element. Of (tile element) Numbers)

abbrev TensorViewLang : Lang TypeRow
TensorViewLang =
    Then One (λ flags. Then One (λ element. Then Numbers (λ shape. Then Numbers (λ strides.
    Of (tensor_view flags element shape strides) One))))

abbrev PartitionViewLang : Lang TypeRow
PartitionViewLang =
    Then One (λ flags. Then Numbers (λ shape. Then One (λ view. Then Numbers (λ dims.
    Of (partition_view flags shape view dims) One))))

abbrev GatherScatterViewLang : Lang TypeRow
GatherScatterViewLang =
    Then One (λ flags. Then Numbers (λ shape. Then One (λ view. Then One (λ sparse.
    Of (gather_scatter_view flags shape view sparse) One))))

abbrev StridedViewLang : Lang TypeRow
StridedViewLang =
    Then One (λ flags. Then Numbers (λ shape. Then Numbers (λ strides. Then One (λ view. Then Numbers (λ dims.
    Of (strided_view flags shape strides view dims) One)))))

abbrev FunctionLang : Lang TypeRow
FunctionLang = Then Numbers (λ inputs. Of (function inputs) Numbers)

-- What stands behind a tag.
abbrev KindLang : ℕ → Lang TypeRow
KindLang tag =
    If (among tag plain_tags ≡ true) (Is (plain tag))
    (If (tag ≡ tag_pointer) PointerLang
    (If (tag ≡ tag_tile) TileLang
    (If (tag ≡ tag_tensor_view) TensorViewLang
    (If (tag ≡ tag_partition_view) PartitionViewLang
    (If (tag ≡ tag_gather_scatter_view) GatherScatterViewLang
    (If (tag ≡ tag_strided_view) StridedViewLang (If (tag ≡ tag_func) FunctionLang Never)))))))

kind-exact : (tag : ℕ) → Exact (kind_at tag) (KindLang tag)
unfolding kind_at pointer_at tile_at tensor_view_at partition_view_at gather_scatter_view_at strided_view_at function_type_at
kind-exact tag =
    choose-exact (plain? tag) (pure-exact (plain tag))
    (choose-exact (ℕ_discrete tag tag_pointer)
    (bind-exact byte-exact (λ f. bind-exact byte-exact (λ e. map-exact (pointer f e) byte-exact)))
    (choose-exact (ℕ_discrete tag tag_tile) (bind-exact byte-exact (λ e. map-exact (tile e) list-exact))
    (choose-exact (ℕ_discrete tag tag_tensor_view)
    (bind-exact byte-exact (λ f. bind-exact byte-exact (λ e. bind-exact list-exact (λ s. bind-exact list-exact (λ t.
    map-exact (tensor_view f e s t) byte-exact)))))
    (choose-exact (ℕ_discrete tag tag_partition_view)
    (bind-exact byte-exact (λ f. bind-exact list-exact (λ s. bind-exact byte-exact (λ v. bind-exact list-exact (λ m.
    map-exact (partition_view f s v m) byte-exact)))))
    (choose-exact (ℕ_discrete tag tag_gather_scatter_view)
    (bind-exact byte-exact (λ f. bind-exact list-exact (λ s. bind-exact byte-exact (λ v. bind-exact byte-exact (λ p.
    map-exact (gather_scatter_view f s v p) byte-exact)))))
    (choose-exact (ℕ_discrete tag tag_strided_view)
    (bind-exact byte-exact (λ f. bind-exact list-exact (λ s. bind-exact list-exact (λ t. bind-exact byte-exact (λ v.
    bind-exact list-exact (λ m. map-exact (strided_view f s t v m) byte-exact))))))
    (choose-exact (ℕ_discrete tag tag_func) (bind-exact list-exact (λ s. map-exact (function s) list-exact))
    (fail-exact refusals.unsound))))))))

-- The tag of a row without fields is one of theirs.
abbrev pub Known : TypeRow → Type 0
Known (plain tag) = among tag plain_tags ≡ true
Known (pointer flags element attribute) = Unit
Known (tile element dims) = Unit
Known (tensor_view flags element shape strides attribute) = Unit
Known (partition_view flags shape view dims padding) = Unit
Known (gather_scatter_view flags shape view sparse padding) = Unit
Known (strided_view flags shape strides view dims padding) = Unit
Known (function inputs results) = Unit

abbrev FieldsLang : Lang TypeRow
FieldsLang = Then One KindLang

fields-to : (i : ℕ) (ws : List ℕ) (r : TypeRow) → FieldsLang i ws r → Flat field_words Known i ws r
unfolding field_words
fields-to i ws r (then one (so h is)) = flat h
fields-to i ws r (then one (else n (so e (then one (then one (of one)))))) = rw e (flat tt)
fields-to i ws r (then one (else n (else n₁ (so e (then one (of (flat u))))))) = rw e (flat tt)
fields-to i ws r (then one (else n (else n₁ (else n₂ (so e (then one (then one (then (flat u) (then (flat w) (of one)))))))))) =
    rw e (flat tt)
fields-to i ws r (then one (else n (else n₁ (else n₂ (else n₃ (so e (then one (then (flat u) (then one (then (flat w) (of one))))))))))) =
    rw e (flat tt)
fields-to i ws r (then one (else n (else n₁ (else n₂ (else n₃ (else n₄ (so e (then one (then (flat u) (then one (then one (of one)))))))))))) =
    rw e (flat tt)
fields-to i ws r (then one (else n (else n₁ (else n₂ (else n₃ (else n₄ (else n₅ (so e (then one (then (flat u) (then (flat w) (then one (then (flat x) (of one)))))))))))))) =
    rw e (flat tt)
fields-to i ws r (then one (else n (else n₁ (else n₂ (else n₃ (else n₄ (else n₅ (else n₆ (so e (then (flat u) (of (flat w)))))))))))) =
    rw e (flat tt)
fields-to i _ r (then {cs = cs} (one {b = b}) (else n (else n₁ (else n₂ (else n₃ (else n₄ (else n₅ (else n₆ (else _ never))))))))) =
    elim never [ ]

-- A question whose test says no does not hold.
abbrev SaysNo : {P : Type 0} → Dec P → Type 0
SaysNo (yes p) = ⊥
SaysNo (no n) = Unit

said-no : {P : Type 0} (d : Dec P) → SaysNo d → ¬ P
said-no (yes p) u = absurd u
said-no (no n) u = n

-- The tag of a row with fields is no plain one ..
not_plain : (tag : ℕ) → SaysNo (plain? tag) → ¬ (among tag plain_tags ≡ true)
not_plain tag = said-no (plain? tag)

-- .. and no other's.
apart : (a b : ℕ) → SaysNo (ℕ_discrete a b) → ¬ (a ≡ b)
apart a b = said-no (ℕ_discrete a b)

fields-from : (i : ℕ) (r : TypeRow) → Known r → FieldsLang i (field_words r) r
unfolding field_words plain? ℕ_discrete
fields-from i (plain tag) k = then one (so k is)
fields-from i (pointer f e a) k = then one (else (not_plain tag_pointer tt) (so refl (then one (then one (of one)))))
fields-from i (tile e ds) k =
    then one (else (not_plain tag_tile tt) (else (apart tag_tile tag_pointer tt) (so refl (then one (of (flat tt))))))
fields-from i (tensor_view f e ss ts a) k =
    then one (else (not_plain tag_tensor_view tt) (else (apart tag_tensor_view tag_pointer tt) (else (apart tag_tensor_view tag_tile tt)
    (so refl (then one (then one (then (flat tt) (then (flat tt) (of one)))))))))
fields-from i (partition_view f ss v m p) k =
    then one (else (not_plain tag_partition_view tt) (else (apart tag_partition_view tag_pointer tt) (else (apart tag_partition_view tag_tile tt)
    (else (apart tag_partition_view tag_tensor_view tt)
    (so refl (then one (then (flat tt) (then one (then (flat tt) (of one))))))))))
fields-from i (gather_scatter_view f ss v s p) k =
    let g = tag_gather_scatter_view in
    then one (else (not_plain g tt) (else (apart g tag_pointer tt) (else (apart g tag_tile tt) (else (apart g tag_tensor_view tt)
    (else (apart g tag_partition_view tt)
    (so refl (then one (then (flat tt) (then one (then one (of one)))))))))))
fields-from i (strided_view f ss ts v m p) k =
    let g = tag_strided_view in
    then one (else (not_plain g tt) (else (apart g tag_pointer tt) (else (apart g tag_tile tt) (else (apart g tag_tensor_view tt)
    (else (apart g tag_partition_view tt) (else (apart g tag_gather_scatter_view tt)
    (so refl (then one (then (flat tt) (then (flat tt) (then one (then (flat tt) (of one)))))))))))))
fields-from i (function xs ys) k =
    let g = tag_func in
    then one (else (not_plain g tt) (else (apart g tag_pointer tt) (else (apart g tag_tile tt) (else (apart g tag_tensor_view tt)
    (else (apart g tag_partition_view tt) (else (apart g tag_gather_scatter_view tt) (else (apart g tag_strided_view tt)
    (so refl (then (flat tt) (of (flat tt)))))))))))

flat-fields : (i : ℕ) (ws : List ℕ) (r : TypeRow) → Flat field_words Known i ws r → FieldsLang i ws r
flat-fields i ws r (flat k) = fields-from i r k

-- Tag and fields are read exactly.
pub fields-exact : Exact (bind word kind_at) (Flat field_words Known)
fields-exact = same-exact (bind-exact byte-exact kind-exact) (λ i ws r. (fields-to i ws r, flat-fields i ws r))

known : (c : VersionClass) (r : TypeRow) → SoundType c r → Known r
known c (plain tag) s = s
known c (pointer f e a) s = tt
known c (tile e ds) s = tt
known c (tensor_view f e ss ts a) s = tt
known c (partition_view f ss v m p) s = tt
known c (gather_scatter_view f ss v s p) h = tt
known c (strided_view f ss ts v m p) s = tt
known c (function xs ys) s = tt

abbrev RowLang : VersionClass → Lang TypeRow
RowLang c = Then One (λ n. Such (λ r. (length (field_words r) ≡ n) × SoundType c r) (Flat field_words Known))

row-to : (c : VersionClass) (i : ℕ) (ws : List ℕ) (r : TypeRow) → RowLang c i ws r → Flat type_words (SoundType c) i ws r
unfolding type_words
row-to c i ws r (then one (such_of h (flat k))) = rw (← h.0) (flat h.1)

row_from : (c : VersionClass) (i : ℕ) (ws : List ℕ) (r : TypeRow) → Flat type_words (SoundType c) i ws r → RowLang c i ws r
unfolding type_words
row_from c i ws r (flat s) = then one (such_of (refl, s) (flat (known c r s)))

-- A type's row is read exactly.
pub type-exact : (c : VersionClass) → Exact (type_at c) (Flat type_words (SoundType c))
unfolding type_at
type-exact c =
    same-exact
    (bind-exact byte-exact (λ n.
    such-exact refusals.unsound (λ r. both? (ℕ_discrete (length (field_words r)) n) (type? c r)) fields-exact))
    (λ i ws r. (row-to c i ws r, row_from c i ws r))
