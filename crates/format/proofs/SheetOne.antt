-- Tables with equal sheet and pool are equal. Assumes nothing.
use mathlib.Core.Path.{◌≡◌, refl, sym, ap, ap₂, ◌∙◌}
use Prim.Native.Nat.{ℕ}
use native.Mathlib.Decide.{ℕ_discrete}
use native.Mathlib.Omega.{arith}
use mathlib.Core.List.{List, [], ◌∷◌, ◌++◌, map, append-nil, append_assoc}
use lib.ListN.{length, drop, get_or}
use Rattle.exact.specs.Got.{Got, got, stop}
use Rattle.exact.specs.Sequence.{bind}
use Rattle.exact.specs.Choice.{choose}
use Rattle.exact.specs.Tiling.{join}
use Rattle.exact.proofs.LawsChoice.{choose_no}
use Rattle.format.specs.Tables.{
  TypeRow,
  plain,
  pointer,
  tile,
  tensor_view,
  partition_view,
  gather_scatter_view,
  strided_view,
  function,
  Tables,
}
use Rattle.format.specs.Sheet.{
  Frame,
  frame_of,
  counted_words,
  length_words,
  field_words,
  type_words,
  global_words,
  function_words,
  attribute_fields,
  attribute_words,
  list_words,
  bodies,
  contents,
  words_of,
  sheet_of,
  pool_of,
}
use Rattle.format.specs.Judge.{kind_at, producer_of, word}
use Rattle.format.proofs.LawsFlat.{flat}
use Rattle.format.proofs.LawsTypeRow.{Known, fields-exact}
use Rattle.format.proofs.LawsSheetRows.{word-producer}
use Rattle.format.proofs.LawsPool.{cutting-of}

-- The words of a row tell the row, and where it ends.
abbrev Tells : {A : Type 0} → (A → List ℕ) → Type 0
Tells {A} f = (v w : A) (x y : List ℕ) → f v ++ x ≡ f w ++ y → (v ≡ w) × (x ≡ y)

split : (a b x y : List ℕ) → length a ≡ length b → a ++ x ≡ b ++ y → (a ≡ b) × (x ≡ y)
split [] [] x y l e = (refl, e)
split [] (c ∷ b) x y l e = absurd (omega arith)
split (c ∷ a) [] x y l e = absurd (omega arith)
split (c ∷ a) (d ∷ b) x y l e =
    let t : a ++ x ≡ b ++ y = cc in
    let h = split a b x y (omega arith) t in
    (cc, h.1)

counted-tells : Tells counted_words
counted-tells v w x y e =
    let l : length v ≡ length w = cc in
    let t : v ++ x ≡ w ++ y = cc in
    split v w x y l t

length-tells : Tells length_words
length-tells v w x y e = (cc, cc)

global-tells : Tells global_words
unfolding global_words
global-tells v w x y e = (
  λ i.
      record {
        name = get_or (e i) 0 0;
        type = get_or (e i) 1 0;
        constant = get_or (e i) 2 0;
        alignment = get_or (e i) 3 0;
        visibility = get_or (e i) 4 0;
        constant_flag = get_or (e i) 5 0;
      },
  ap (drop 6) e,
)

function-tells : Tells function_words
unfolding function_words
function-tells v w x y e = (
  λ i.
      record {
        name = get_or (e i) 0 0;
        signature = get_or (e i) 1 0;
        flags = get_or (e i) 2 0;
        location = get_or (e i) 3 0;
        body_length = get_or (e i) 4 0;
      },
  ap (drop 5) e,
)

attribute-tells : Tells attribute_words
unfolding attribute_words attribute_fields
attribute-tells v w x y e = (
  λ i.
      record {
        tag = get_or (e i) 0 0;
        field1 = get_or (e i) 1 0;
        field2 = get_or (e i) 2 0;
        field3 = get_or (e i) 3 0;
        field4 = get_or (e i) 4 0;
        field5 = get_or (e i) 5 0;
        field6 = get_or (e i) 6 0;
      },
  ap (drop 7) e,
)

-- A table is told by its rows.
rows_tell : {A : Type 0} (f : A → List ℕ) → Tells f → (vs ws : List A) (x y : List ℕ) → length (map f vs) ≡ length (map f ws) →
    join (map f vs) ++ x ≡ join (map f ws) ++ y → (vs ≡ ws) × (x ≡ y)
rows_tell f t [] [] x y l e = (refl, e)
rows_tell f t [] (w ∷ ws) x y l e = absurd (omega arith)
rows_tell f t (v ∷ vs) [] x y l e = absurd (omega arith)
rows_tell f t (v ∷ vs) (w ∷ ws) x y l e =
    let q : f v ++ (join (map f vs) ++ x) ≡ f w ++ (join (map f ws) ++ y) = sym (append_assoc (f v) (join (map f vs)) x) ∙ e ∙ append_assoc (f w) (join (map f ws)) y in
    let h = t v w (join (map f vs) ++ x) (join (map f ws) ++ y) q in
    let k = rows_tell f t vs ws x y (omega arith) h.1 in
    (ap₂ (λ a b. a ∷ b) h.0 k.0, k.1)

-- Back from tag and fields to the row: a single word is a tag without fields.
abbrev answer : Got TypeRow → TypeRow
answer (got r j) = r
answer (stop c k) = plain 0

abbrev back : List ℕ → TypeRow
back ws = choose (ℕ_discrete (length ws) 1) (plain (get_or ws 0 0)) (answer (bind word kind_at ws 0))

back-known : (r : TypeRow) → Known r → ¬ (length (field_words r) ≡ 1) → back (field_words r) ≡ r
back-known r k n =
    choose_no (ℕ_discrete (length (field_words r)) 1) _ _ n
    ∙ ap answer (fields-exact.complete (field_words r) 0 (field_words r) [] r (flat k) (sym (append-nil (field_words r))))

back_is : (r : TypeRow) → back (field_words r) ≡ r
unfolding field_words choose ℕ_discrete
back_is (plain tag) = refl
back_is (pointer f e a) = back-known (pointer f e a) tt (omega arith)
back_is (tile e ds) = back-known (tile e ds) tt (omega arith)
back_is (tensor_view f e ss ts a) = back-known (tensor_view f e ss ts a) tt (omega arith)
back_is (partition_view f ss v m p) = back-known (partition_view f ss v m p) tt (omega arith)
back_is (gather_scatter_view f ss v s p) = back-known (gather_scatter_view f ss v s p) tt (omega arith)
back_is (strided_view f ss ts v m p) = back-known (strided_view f ss ts v m p) tt (omega arith)
back_is (function xs ys) = back-known (function xs ys) tt (omega arith)

type-tells : Tells type_words
unfolding type_words
type-tells v w x y e =
    let h = counted-tells (field_words v) (field_words w) x y e in
    (sym (back_is v) ∙ ap back h.0 ∙ back_is w, h.1)

words-one : (r s : Frame) → words_of r ≡ words_of s → r ≡ s
unfolding words_of contents bodies
words-one r s e =
    let v : r.version ≡ s.version = λ i. record { major = get_or (e i) 0 0; minor = get_or (e i) 1 0; tag = get_or (e i) 2 0 } in
    let p : r.producer ≡ s.producer = sym (word-producer r.producer) ∙ ap (λ ws. producer_of (get_or ws 3 0)) e ∙ word-producer s.producer in
    let n : (k : ℕ) → get_or (words_of r) k 0 ≡ get_or (words_of s) k 0 = λ k. ap (λ l. get_or l k 0) e in
    let (a₀, t₀) = rows_tell length_words length-tells r.strings s.strings _ _ (n 6) (ap (drop 19) e) in
    let (a₁, t₁) = rows_tell type_words type-tells r.types s.types _ _ (n 8) t₀ in
    let (a₂, t₂) = rows_tell length_words length-tells r.constants s.constants _ _ (n 10) t₁ in
    let (a₃, t₃) = rows_tell global_words global-tells r.globals s.globals _ _ (n 12) t₂ in
    let (a₄, t₄) = rows_tell function_words function-tells r.functions s.functions _ _ (n 14) t₃ in
    let (a₅, t₅) = rows_tell attribute_words attribute-tells r.attributes s.attributes _ _ (n 16) t₄ in
    let (a₆, t₆) = rows_tell list_words counted-tells r.lists s.lists _ _ (n 18) t₅ in
    λ i.
    record {
      version = v i;
      producer = p i;
      strings = a₀ i;
      types = a₁ i;
      constants = a₂ i;
      globals = a₃ i;
      functions = a₄ i;
      attributes = a₅ i;
      lists = a₆ i;
    }

-- Tables with equal sheet and pool are equal.
pub sheet-one : (t u : Tables) → sheet_of t ≡ sheet_of u → pool_of t ≡ pool_of u → t ≡ u
unfolding sheet_of
sheet-one t u s p = sym (cutting-of t) ∙ rw (words-one (frame_of t) (frame_of u) s, p) (cutting-of u)
