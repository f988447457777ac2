-- What stands before the names, these, and what stands behind them are the text of a row, whatever its kind. Assumes
-- nothing.
use mathlib.Core.Path.{◌≡◌, refl, sym, ap, ap₂, ◌∙◌, subst}
use Prim.Native.String.{String}
use Prim.Native.Nat.{ℕ, ◌+◌, ◌%◌, ◌^◌, ◌≤◌, ◌<◌}
use native.Mathlib.Omega.{arith}
use mathlib.Core.Bool.{false, false≢true}
use mathlib.Core.List.{List, [], ◌∷◌, ◌++◌, map, append-nil, append_assoc}
use lib.Dec.{eqb}
use borrow.Author.Tests.{eqb-false}
use lib.ListN.{length, take, drop, get_or}
use Rattle.enums.specs.declared.VersionClass.{VersionClass}
use Rattle.enums.specs.Types.{tag_pointer, tag_tile, tag_tensor_view, tag_partition_view, tag_func, tag_gather_scatter_view, tag_strided_view}
use Rattle.format.specs.Tables.{TypeRow, plain, pointer, tile, tensor_view, partition_view, gather_scatter_view, strided_view, function}
use Rattle.format.specs.Types.{plain_tags, among}
use Rattle.format.specs.Kinds.{kind_of}
use Rattle.format.specs.Sheet.{counted_words, field_words}
use Rattle.format.specs.Sound.{All, Fits, SoundType}
use Rattle.format.specs.Names.{ascii, decimal, joined, dimension, i32, if_bit0, tile_dims, named, listed, type_text, names_of, scalar_names, name_of_tag}
use Rattle.format.proofs.LawsKinds.{plain-kind}
use Rattle.sheet.specs.Store.{words_in}
use Rattle.sheet.specs.Lies.{Lies}
use Rattle.sheet.proofs.LawsLies.{lies-front, lies-back, lies-first, lies-inside, lies-taken}
use Rattle.text.specs.Counted.{counted, after_list}
use Rattle.text.specs.Numbers.{low32}
use Rattle.text.proofs.LawsCounted.{word-lies, counted-lies, after-lies}
use Rattle.text.proofs.LawsNumbers.{low32-fits}
use Rattle.kinds.specs.declared.Indices.{Indices}
use Rattle.kinds.specs.Indices.{from, counted_from, indices}
use Rattle.kinds.specs.Parts.{closed, opening, ending}
use Rattle.names.specs.Names.{types_in, list_at}

-- The names of the rows before this one.
abbrev pub earlier : List ℕ → ℕ → List (List ℕ)
earlier s row = take row (names_of (types_in s))

-- The indices that the text of a row names first, and the words behind them.
abbrev pub indices_of : TypeRow → List ℕ
indices_of (plain k) = []
indices_of (pointer flags element attribute) = element ∷ []
indices_of (tile element dims) = element ∷ []
indices_of (tensor_view flags element shape strides attribute) = element ∷ []
indices_of (partition_view flags shape view dims padding) = view ∷ []
indices_of (gather_scatter_view flags shape view sparse padding) = view ∷ []
indices_of (strided_view flags shape strides view dims padding) = view ∷ []
indices_of (function inputs results) = inputs

abbrev pub rest_of : TypeRow → List ℕ
rest_of (plain k) = k ∷ []
rest_of (pointer flags element attribute) = attribute ∷ []
rest_of (tile element dims) = counted_words dims
rest_of (tensor_view flags element shape strides attribute) = counted_words shape ++ (counted_words strides ++ (attribute ∷ []))
rest_of (partition_view flags shape view dims padding) = counted_words dims ++ (padding ∷ [])
rest_of (gather_scatter_view flags shape view sparse padding) = sparse ∷ padding ∷ []
rest_of (strided_view flags shape strides view dims padding) = counted_words dims ++ (padding ∷ [])
rest_of (function inputs results) = counted_words results

-- These indices stand where they are said to, and these words behind them.
pub record Found (s is rest : List ℕ) (x : Indices) : Type 0 where
  pub lies : Lies (words_in s) x.word (is ++ rest)
  pub counted : x.count ≡ length is

-- Indices that were found are inside the sheet, they are those that are listed, and what stands behind them stands
-- behind their words.
module _ (s : List ℕ) {x : Indices} (is rest : List ℕ) (f : Found s is rest x) where
  pub found_inside : x.word + x.count ≤ length (words_in s)
  found_inside = let c = f.counted in omega (arith, lies-inside is (lies-front is rest f.lies))

  pub found-listed : (row : ℕ) → list_at s row x.word x.count ≡ listed (earlier s row) is
  found-listed row =
      ap (listed (earlier s row))
      (ap (λ n. take n (drop x.word (words_in s))) f.counted ∙ lies-taken is (lies-front is rest f.lies))

  pub found-behind : (behind : ℕ) → behind ≡ x.word + x.count → Lies (words_in s) behind rest
  found-behind behind e =
      subst (λ n. Lies (words_in s) n rest) (ap (λ n. x.word + n) (sym f.counted) ∙ sym e) (lies-back is rest f.lies)

-- A row of which only the tag is known to be a function type's is one.
pub record Function (y : TypeRow) : Type 0 where
  pub inputs : List ℕ
  pub results : List ℕ
  pub same : y ≡ function inputs results

-- Three parts of a text by other names.
three : {a a' b b' c c' : List ℕ} → a ≡ a' → b ≡ b' → c ≡ c' → a ++ (b ++ c) ≡ a' ++ (b' ++ c')
three e f g = ap₂ (λ (x : List ℕ) (y : List ℕ). x ++ y) e (ap₂ (λ (x : List ℕ) (y : List ℕ). x ++ y) f g)

-- The parts before a name, and what follows.
apart : (a b c d : List ℕ) → (a ++ (b ++ c)) ++ d ≡ a ++ (b ++ (c ++ d))
apart a b c d = append_assoc a (b ++ c) d ∙ ap (λ t. a ++ t) (append_assoc b c d)

view-apart : (a b c d : List ℕ) → ((a ++ b) ++ c) ++ d ≡ a ++ (b ++ (c ++ d))
view-apart a b c d = append_assoc (a ++ b) c d ∙ append_assoc a b (c ++ d)

strided-apart : (a b c d f g : List ℕ) → ((a ++ b) ++ (c ++ (d ++ f))) ++ g ≡ a ++ (b ++ (c ++ (d ++ (f ++ g))))
strided-apart a b c d f g =
    append_assoc (a ++ b) (c ++ (d ++ f)) g ∙ append_assoc a b ((c ++ (d ++ f)) ++ g) ∙ ap (λ t. a ++ (b ++ t)) (apart c d f g)

module _ (s : List ℕ) (fit : length (words_in s) < 2 ^ 64) where
  abbrev ws : List ℕ
  ws = words_in s

  -- Indices from a place on where they lie.
  found_from : (i : ℕ) (is rest : List ℕ) {x : Indices} → x ≡ from i (length is) → Lies ws i (is ++ rest) → Found s is rest x
  found_from i is rest {x} e h =
      let j = lies-inside (is ++ rest) h in
      let k : i ≡ i % 2 ^ 64 = omega arith in
      record { lies = subst (λ n. Lies ws n (is ++ rest)) (k ∙ sym (ap (λ z. z.word) e)) h; counted = ap (λ z. z.count) e }

  found-counted : (i : ℕ) (is rest : List ℕ) {x : Indices} → x ≡ counted_from ws i → Lies ws i (counted_words is ++ rest) → Found s is rest x
  unfolding counted_from
  found-counted i is rest e h =
      found_from (i + 1) is rest (e ∙ ap (from (i + 1)) (word-lies ws fit (length is) (is ++ rest) h)) (lies-back (length is ∷ []) (is ++ rest) h)

  -- The results of a function type are found behind its inputs.
  pub results-found : (behind : ℕ) (y : TypeRow) (f : Function y) {z : Indices} → Lies ws behind (rest_of y) → z ≡ counted_from ws behind →
      Found s f.results [] z
  results-found behind y f h e =
      let k = subst (λ w. Lies ws behind (rest_of w)) f.same h in
      found-counted behind f.results [] e (subst (Lies ws behind) (sym (append-nil (counted_words f.results))) k)

  module _ (at tag : ℕ) (e : tag ≡ get_or ws at 0) where
    -- Another kind's tag.
    other : (k : ℕ) (vs : List ℕ) → Lies ws at (k ∷ vs) → tag ≡ tag_func → eqb k tag_func ≡ false → ⊥
    other k vs h m f = eqb-false k tag_func f (sym (lies-first k vs h) ∙ sym e ∙ m)

    pub tagged-function : (c : VersionClass) (y : TypeRow) → SoundType c y → Lies ws at (field_words y) → tag ≡ tag_func → Function y
    unfolding field_words
    tagged-function c (plain k) g h m =
        absurd (false≢true (ap (λ b. among b plain_tags) (sym m ∙ e ∙ lies-first k [] h) ∙ g))
    tagged-function c (pointer flags element attribute) g h m = absurd (other tag_pointer _ h m refl)
    tagged-function c (tile element dims) g h m = absurd (other tag_tile _ h m refl)
    tagged-function c (tensor_view flags element shape strides attribute) g h m = absurd (other tag_tensor_view _ h m refl)
    tagged-function c (partition_view flags shape view dims padding) g h m = absurd (other tag_partition_view _ h m refl)
    tagged-function c (gather_scatter_view flags shape view sparse padding) g h m = absurd (other tag_gather_scatter_view _ h m refl)
    tagged-function c (strided_view flags shape strides view dims padding) g h m = absurd (other tag_strided_view _ h m refl)
    tagged-function c (function inputs results) g h m = record { inputs = inputs; results = results; same = refl }

    -- The indices by the kind of a row, and then those of a row are found, whatever its kind.
    of-kind : (k : ℕ) (vs : List ℕ) {x : Indices} → x ≡ indices (kind_of tag) ws at → Lies ws at (k ∷ vs) → x ≡ indices (kind_of k) ws at
    of-kind k vs n h = n ∙ ap (λ j. indices (kind_of j) ws at) (e ∙ lies-first k vs h)

    pub row-found : (x : Indices) → x ≡ indices (kind_of tag) ws at → (c : VersionClass) (y : TypeRow) → SoundType c y →
        Lies ws at (field_words y) → Found s (indices_of y) (rest_of y) x
    unfolding field_words indices kind_of
    row-found x n c (plain k) g h =
        found_from at [] (k ∷ []) (n ∙ ap (λ a. indices a ws at) (ap kind_of (e ∙ lies-first k [] h) ∙ plain-kind k g)) h
    row-found x n c (pointer flags element attribute) g h =
        found_from (at + 2) (element ∷ []) (attribute ∷ []) (of-kind _ _ n h)
        (lies-back (tag_pointer ∷ flags ∷ []) _ h)
    row-found x n c (tile element dims) g h =
        found_from (at + 1) (element ∷ []) (counted_words dims) (of-kind _ _ n h)
        (lies-back (tag_tile ∷ []) _ h)
    row-found x n c (tensor_view flags element shape strides attribute) g h =
        found_from (at + 2) (element ∷ []) _ (of-kind _ _ n h)
        (lies-back (tag_tensor_view ∷ flags ∷ []) _ h)
    row-found x n c (partition_view flags shape view dims padding) g h =
        found_from (after_list ws (at + 2)) (view ∷ []) _ (of-kind _ _ n h)
        (after-lies ws fit shape _ (lies-back (tag_partition_view ∷ flags ∷ []) _ h))
    row-found x n c (gather_scatter_view flags shape view sparse padding) g h =
        found_from (after_list ws (at + 2)) (view ∷ []) _ (of-kind _ _ n h)
        (after-lies ws fit shape _ (lies-back (tag_gather_scatter_view ∷ flags ∷ []) _ h))
    row-found x n c (strided_view flags shape strides view dims padding) g h =
        found_from (after_list ws (after_list ws (at + 2))) (view ∷ []) _ (of-kind _ _ n h)
        (after-lies ws fit strides _ (after-lies ws fit shape _ (lies-back (tag_strided_view ∷ flags ∷ []) _ h)))
    row-found x n c (function inputs results) g h =
        found-counted (at + 1) inputs (counted_words results) (of-kind _ _ n h)
        (lies-back (tag_func ∷ []) _ h)

    -- The text of a row over its words is that of the row: what stands before its names, these, and what stands
    -- behind them.
    module _ (names : List (List ℕ)) (behind : ℕ) where
      opened : (k : ℕ) → tag ≡ k → opening (kind_of tag) tag ws at ≡ opening (kind_of k) k ws at
      opened k i = ap (λ j. opening (kind_of j) j ws at) i

      ended : (k : ℕ) → tag ≡ k → ending (kind_of tag) ws at behind ≡ ending (kind_of k) ws at behind
      ended k i = ap (λ j. ending (kind_of j) ws at behind) i

      -- One name.
      one : (i : ℕ) → listed names (i ∷ []) ≡ named names i
      one i = append-nil (named names i)

      -- What is optional, and the end.
      closed-lies : (name : String) (flags value place : ℕ) (vs us : List ℕ) → Lies ws (at + 1) (flags ∷ vs) → Lies ws place (value ∷ us) →
          closed ws at (ascii name) place ≡ if_bit0 flags (ascii name ++ decimal value) ++ ascii ">"
      unfolding closed
      closed-lies name flags value place vs us h k =
          ap₂ (λ a b. if_bit0 a (ascii name ++ decimal b) ++ ascii ">") (word-lies ws fit flags vs h) (word-lies ws fit value us k)

      -- A list of numbers of 32 bits, and one of those that may be dynamic.
      low_lies : (sep : String) (place : ℕ) (vs : List ℕ) → All (Fits 32) vs → Lies ws place (counted_words vs) →
          joined sep (map low32 (counted ws place)) ≡ joined sep (map i32 vs)
      low_lies sep place vs f h = ap (λ us. joined sep (map low32 us)) (counted-lies ws fit vs h) ∙ ap (joined sep) (low32-fits vs f)

      dimensions-lie : (sep : String) (place : ℕ) (vs : List ℕ) → Lies ws place (counted_words vs) →
          joined sep (map dimension (counted ws place)) ≡ joined sep (map dimension vs)
      dimensions-lie sep place vs h = ap (λ us. joined sep (map dimension us)) (counted-lies ws fit vs h)

      pub row-text : (c : VersionClass) (y : TypeRow) → SoundType c y → Lies ws at (field_words y) → Lies ws behind (rest_of y) → ¬ (tag ≡ tag_func) →
          opening (kind_of tag) tag ws at ++ (listed names (indices_of y) ++ ending (kind_of tag) ws at behind) ≡ type_text names y
      unfolding field_words type_text opening ending kind_of
      row-text c (plain k) g h r z =
          let i : tag ≡ k = e ∙ lies-first k [] h in
          let j = ap kind_of i ∙ plain-kind k g in
          three {b = []} (ap (λ a. opening a tag ws at) j ∙ ap (name_of_tag scalar_names) i) refl (ap (λ a. ending a ws at behind) j) ∙ append-nil _
      row-text c (pointer flags element attribute) g h r z =
          let i = e ∙ lies-first _ _ h in
          three (opened tag_pointer i) (one element)
          (ended tag_pointer i ∙ closed-lies ", ptr_attr=" flags attribute behind _ _ (lies-back (tag_pointer ∷ []) _ h) r)
      row-text c (tile element dims) g h r z =
          let i = e ∙ lies-first _ _ h in
          three (opened tag_tile i ∙ ap (λ ds. ascii "tile<" ++ tile_dims ds) (counted-lies ws fit dims (lies-back (tag_tile ∷ element ∷ []) _ h))) (one element)
          (ended tag_tile i) ∙
          append_assoc (ascii "tile<") (tile_dims dims) _
      row-text c (tensor_view flags element shape strides attribute) g h r z =
          let i = e ∙ lies-first _ _ h in
          let v = lies-front (counted_words shape) _ (lies-back (tag_tensor_view ∷ flags ∷ element ∷ []) _ h) in
          let a = after-lies ws fit shape _ r in
          let b = after-lies ws fit strides _ a in
          three (opened tag_tensor_view i ∙ ap (λ t. ascii "tensor_view<" ++ (t ++ ascii "x")) (dimensions-lie "x" (at + 3) shape v)) (one element)
          (ended tag_tensor_view i ∙
          ap₂ (λ t u. ascii ", strides=[" ++ (t ++ (ascii "]" ++ u))) (dimensions-lie "," (after_list ws behind) strides (lies-front (counted_words strides) _ a))
          (closed-lies ", ptr_attr=" flags attribute (after_list ws (after_list ws behind)) _ _ (lies-back (tag_tensor_view ∷ []) _ h) b)) ∙
          apart (ascii "tensor_view<") (joined "x" (map dimension shape)) (ascii "x") _
      row-text c (partition_view flags shape view dims padding) g h r z =
          let i = e ∙ lies-first _ _ h in
          let v = lies-front (counted_words shape) _ (lies-back (tag_partition_view ∷ flags ∷ []) _ h) in
          three (opened tag_partition_view i ∙ ap (λ t. (ascii "partition_view<tile=(" ++ t) ++ ascii "), tv=") (low_lies "x" (at + 2) shape g.1 v)) (one view)
          (ended tag_partition_view i ∙
          closed-lies ", padding=" flags padding (after_list ws behind) _ _ (lies-back (tag_partition_view ∷ []) _ h) (after-lies ws fit dims _ r)) ∙
          view-apart (ascii "partition_view<tile=(") (joined "x" (map i32 shape)) (ascii "), tv=") _
      row-text c (gather_scatter_view flags shape view sparse padding) g h r z =
          let i = e ∙ lies-first _ _ h in
          let v = lies-front (counted_words shape) _ (lies-back (tag_gather_scatter_view ∷ flags ∷ []) _ h) in
          three (opened tag_gather_scatter_view i ∙ ap (λ t. (ascii "gather_scatter_view<tile=(" ++ t) ++ ascii "), tv=") (low_lies "x" (at + 2) shape g.0 v))
          (one view)
          (ended tag_gather_scatter_view i ∙
          ap₂ (λ n u. ascii ", sparse_dim=" ++ (decimal n ++ u)) (word-lies ws fit sparse _ r)
          (closed-lies ", padding=" flags padding (behind + 1) _ _ (lies-back (tag_gather_scatter_view ∷ []) _ h) (lies-back (sparse ∷ []) _ r))) ∙
          view-apart (ascii "gather_scatter_view<tile=(") (joined "x" (map i32 shape)) (ascii "), tv=") _
      row-text c (strided_view flags shape strides view dims padding) g h r z =
          let i = e ∙ lies-first _ _ h in
          let v = lies-back (tag_strided_view ∷ flags ∷ []) _ h in
          let a = after-lies ws fit shape _ v in
          three (opened tag_strided_view i ∙
          ap₂ (λ t u. (ascii "strided_view<tile=(" ++ t) ++ (ascii "), traversal_strides=[" ++ (u ++ ascii "], tv=")))
          (low_lies "x" (at + 2) shape g.0 (lies-front (counted_words shape) _ v))
          (low_lies "," (after_list ws (at + 2)) strides g.1 (lies-front (counted_words strides) _ a))) (one view)
          (ended tag_strided_view i ∙
          ap₂ (λ t u. ascii ", dim_map=[" ++ (t ++ (ascii "]" ++ u))) (low_lies "," behind dims g.2 (lies-front (counted_words dims) _ r))
          (closed-lies ", padding=" flags padding (after_list ws behind) _ _ (lies-back (tag_strided_view ∷ []) _ h) (after-lies ws fit dims _ r))) ∙
          strided-apart (ascii "strided_view<tile=(") (joined "x" (map i32 shape)) (ascii "), traversal_strides=[") (joined "," (map i32 strides)) (ascii "], tv=") _
      row-text c (function inputs results) g h r z = absurd (z (e ∙ lies-first _ _ h))

      -- Of a function type, whose results stand behind its inputs.
      pub function-text : (y : TypeRow) (f : Function y) → tag ≡ tag_func →
          opening (kind_of tag) tag ws at ++ (listed names f.inputs ++ (ending (kind_of tag) ws at behind ++ (listed names f.results ++ ascii ")"))) ≡
          type_text names y
      unfolding type_text opening ending kind_of
      function-text y f m =
          three {b = listed names f.inputs} (opened tag_func m) refl (ap (λ t. t ++ (listed names f.results ++ ascii ")")) (ended tag_func m)) ∙ ap (type_text names) (sym f.same)
