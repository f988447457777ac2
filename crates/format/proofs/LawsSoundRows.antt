-- Rows of a file's bytes are well-formed, and have at most eight words a byte. Assumes nothing.
use mathlib.Core.Path.{◌≡◌, refl, ap, ◌∙◌, subst}
use Prim.Native.Nat.{ℕ, zero, suc, ◌+◌, ◌*◌, ◌^◌, ◌≤◌, ◌<◌}
use native.Mathlib.Omega.{arith}
use mathlib.Core.List.{List, [], ◌∷◌, ◌++◌, map}
use lib.ListN.{length, drop, get_or, length-append, get_or-eq_default}
use Rattle.exact.specs.Exact.{Lang}
use Rattle.exact.specs.Repeat.{Many, nil, cons, Counted, counted_of}
use Rattle.exact.specs.Tiling.{join, sums}
use Rattle.exact.specs.Upto.{Upto, upto_of}
use Rattle.exact.specs.Entries.{Each, none_left, entry_of, Rows, Entries}
use Rattle.exact.proofs.LawsRepeat.{many-length}
use Rattle.exact.proofs.LawsTiling.{length-sums}
use Rattle.enums.specs.declared.VersionClass.{VersionClass}
use Rattle.enums.specs.Container.{P}
use Rattle.enums.specs.Debug.{field_counts}
use Rattle.encoding.proofs.LawsVarint.{spells-below}
use Rattle.format.specs.Tables.{Global, Function, Attribute}
use Rattle.format.specs.Items.{Number}
use Rattle.format.specs.Strings.{OffsetTable, empty, filled}
use Rattle.format.specs.Globals.{GlobalRow, global}
use Rattle.format.specs.Functions.{Located, apart, FunctionRow, function}
use Rattle.format.specs.Debug.{AttributeEntry, attribute}
use Rattle.format.specs.Sheet.{function_row_of, global_words, function_words, attribute_fields, attribute_words}
use Rattle.format.specs.Sound.{All, Fits}
use Rattle.format.proofs.LawsFrame.{part}
use Rattle.format.proofs.LawsImageRows.{GoodGlobal, GoodFunction, GoodAttribute}
use Rattle.format.proofs.LawsSoundItems.{
  Bytes,
  bytes-front,
  bytes_back,
  numbers-length,
  spells-some,
  varints-below,
  field-only,
  byte-below,
  truth-field,
}

-- These rows are each as Q says, and their words by f are at most eight for each of n bytes.
pub record Sized {A : Type 0} (f : A → List ℕ) (Q : A → Type 0) (n : ℕ) (vs : List A) : Type 0 where
  pub each : All Q vs
  pub size : length (join (map f vs)) ≤ 8 * n
  pub count : length vs ≤ n

-- A row of n bytes.
pub record RowSized {A : Type 0} (f : A → List ℕ) (Q : A → Type 0) (n : ℕ) (v : A) : Type 0 where
  pub good : Q v
  pub size : length (f v) ≤ 8 * n
  pub some : 1 ≤ n

module _ {A : Type 0} (f : A → List ℕ) (Q : A → Type 0) where
  -- No rows.
  pub none-sized : (n : ℕ) → Sized f Q n []
  none-sized n = record { each = tt; size = omega arith; count = omega arith }

  one_more : (n m : ℕ) (v : A) (vs : List A) → RowSized f Q n v → Sized f Q m vs → Sized f Q (n + m) (v ∷ vs)
  one_more n m v vs r s =
      record {
        each = (r.good, s.each);
        size = rw length-append (omega (arith, r.size, s.size));
        count = omega (arith, r.some, s.count);
      }

  -- Rows, one after the other.
  pub many-sized : (R : Lang A) → ((i : ℕ) (bs : List ℕ) (v : A) → R i bs v → Bytes bs → RowSized f Q (length bs) v) →
      (n i : ℕ) (bs : List ℕ) (vs : List A) → Many R n i bs vs → Bytes bs → Sized f Q (length bs) vs
  many-sized R h n i bs vs nil b = none-sized 0
  many-sized R h n i bs vs (cons {n = m} {i = k} {bs = x} {cs = y} {v = v} {vs = us} r t) b =
      rw length-append (one_more (length x) (length y) v us (h k x v r (bytes-front x y b)) (many-sized R h m _ y us t (bytes_back x y b)))

  -- Entries, each by itself.
  pub each-sized : (R : Lang A) → ((bs : List ℕ) (v : A) → R 0 bs v → Bytes bs → RowSized f Q (length bs) v) →
      (es : List (List ℕ)) (vs : List A) → Each R es vs → Bytes (join es) → Sized f Q (length (join es)) vs
  each-sized R h es vs none_left b = none-sized 0
  each-sized R h es vs (entry_of {e = x} {es = ys} {v = v} {vs = us} r t) b =
      rw length-append
      (one_more (length x) (length (join ys)) v us (h x v r (bytes-front x (join ys) b)) (each-sized R h ys us t (bytes_back x (join ys) b)))

  -- Fewer bytes than n.
  pub sized-below : (m n : ℕ) (vs : List A) → m ≤ n → Sized f Q m vs → Sized f Q n vs
  sized-below m n vs l s =
      record { each = s.each; size = omega (arith, s.size); count = omega (arith, s.count) }

  -- A count, the rows, and any bytes after the last.
  pub counted-sized : (R : Lang A) → ((i : ℕ) (bs : List ℕ) (v : A) → R i bs v → Bytes bs → RowSized f Q (length bs) v) →
      (i : ℕ) (bs : List ℕ) (vs : List A) → Upto (Counted Number R) i bs vs → Bytes bs → Sized f Q (length bs) vs
  counted-sized R h i bs vs (upto_of left (counted_of {c = c} {bs = x} s m)) b =
      sized-below (length x) _ vs (simp length-append (omega arith))
      (many-sized R h (length vs) _ x vs m (bytes_back c x (bytes-front (c ++ x) left b)))

-- A global.
pub global-sized : (c : VersionClass) (i : ℕ) (bs : List ℕ) (g : Global) → GlobalRow c i bs g → Bytes bs →
    RowSized global_words (GoodGlobal c) (length bs) g
unfolding global_words
global-sized c i bs g
    (global {name_bytes = x} {type_bytes = y} {constant_bytes = z} {alignment_bytes = u} {visibility_bytes = p} {flag_bytes = q}
    {name = n} {type = t} {constant = k} {alignment = a} {visibility = v} {constant_flag = d} h₁ h₂ h₃ h₄ h₅ h₆) b =
    let b₁ = bytes_back u (p ++ q) (bytes_back z (u ++ (p ++ q)) (bytes_back y (z ++ (u ++ (p ++ q))) (bytes_back x (y ++ (z ++ (u ++ (p ++ q)))) b))) in
    let e : Fits 8 v = byte-below p v h₅ (bytes-front p q b₁) in
    let l : d < 2 = truth-field q d h₆ in
    let w₅ : Fits 64 v = omega arith in
    let w₆ : Fits 64 d = omega arith in
    let s : 4 ≤ length (x ++ (y ++ (z ++ (u ++ (p ++ q))))) =
    simp length-append (omega (arith, spells-some x n h₁, spells-some y t h₂, spells-some z k h₃, spells-some u a h₄)) in
    record {
      good =
          record {
            words = (spells-below x n h₁, (spells-below y t h₂, (spells-below z k h₃, (spells-below u a h₄, (w₅, (w₆, tt))))));
            sound =
                record {
                  visibility_byte = e;
                  visibility_since = field-only p v h₅;
                  flag_bit = l;
                  flag_since = field-only q d h₆;
                };
          };
      size = omega arith;
      some = omega arith;
    }

-- A function, its body apart.
pub function-sized : (o i : ℕ) (bs : List ℕ) (x : Located Function) → FunctionRow o i bs x → Bytes bs →
    RowSized (λ x. function_words (function_row_of x.value)) (λ x. GoodFunction x.value) (length bs) x ×
    RowSized (λ x. x.value.body) (λ x. Bytes x.value.body) (length bs) x
unfolding function_words function_row_of
function-sized o i bs x
    (function {name_bytes = p} {signature_bytes = q} {location_bytes = r} {length_bytes = u} {body = y} {name = n} {signature = s}
    {flags = f} {location = l} h₁ h₂ h₃ h₄ h₅) b =
    let b₁ = bytes_back q (f ∷ (r ++ (u ++ y))) (bytes_back p (q ++ (f ∷ (r ++ (u ++ y)))) b) in
    let b₂ = bytes_back u y (bytes_back r (u ++ y) b₁.1) in
    let e : f < 2 ^ 8 = b₁.0 in
    let w : Fits 64 f = omega arith in
    let z : 5 + length y ≤ length (p ++ (q ++ (f ∷ (r ++ (u ++ y))))) =
    simp length-append (omega (arith, spells-some p n h₁, spells-some q s h₂, spells-some r l h₄, spells-some u (length y) h₅)) in (
      record {
        good =
            record {
              words = (spells-below p n h₁, (spells-below q s h₂, (w, (spells-below r l h₄, (spells-below u (length y) h₅, tt)))));
              sound = record { flags_byte = e; no_hints = h₃ };
            };
        size = omega arith;
        some = omega arith;
      },
      record { good = b₂; size = omega arith; some = omega arith },
    )

-- Rows with places are the same rows without.
pub sized-apart : {A : Type 0} (f : A → List ℕ) (Q : A → Type 0) (n : ℕ) (xs : List (Located A)) →
    Sized (λ x. f x.value) (λ x. Q x.value) n xs → Sized f Q n (apart xs).values
sized-apart {A} f Q n xs s = record { each = all xs s.each; size = rw (← words xs) s.size; count = rw counts s.count }
  where
    all : (xs : List (Located A)) → All (λ x. Q x.value) xs → All Q (apart xs).values
    all [] h = tt
    all (x ∷ xs) h = (h.0, all xs h.1)

    words : (xs : List (Located A)) → join (map (λ x. f x.value) xs) ≡ join (map f (apart xs).values)
    words [] = refl
    words (x ∷ xs) = ap (λ y. f x.value ++ y) (words xs)

    counts : (xs : List (Located A)) → length (apart xs).values ≡ length xs
    counts [] = refl
    counts (x ∷ xs) = ap suc (counts xs)

-- An element of a list, and 0 past its end.
fits-at : (vs : List ℕ) (k : ℕ) → All (Fits 64) vs → Fits 64 (get_or vs k 0)
fits-at [] k h = omega arith
fits-at (v ∷ vs) zero h = h.0
fits-at (v ∷ vs) (suc k) h = fits-at vs k h.1

-- Past the end of a list are zeros.
zeros-behind : (m k d : ℕ) (vs : List ℕ) → length vs ≤ k + d → All (λ v. v ≡ 0) (drop d (part m k vs))
zeros-behind zero k zero vs h = tt
zeros-behind zero k (suc d) vs h = tt
zeros-behind (suc m) k zero vs h =
    let l : length vs ≤ k = omega arith in
    (get_or-eq_default vs 0 l, zeros-behind m (suc k) zero vs (omega arith))
zeros-behind (suc m) k (suc d) vs h = zeros-behind m (suc k) d vs (omega arith)

-- An attribute.
pub attribute-sized : (i : ℕ) (bs : List ℕ) (a : Attribute) → AttributeEntry i bs a → Bytes bs →
    RowSized attribute_words GoodAttribute (length bs) a
unfolding attribute_words attribute_fields
attribute-sized i bs a (attribute {t = t} {bs = x} {vs = vs} left h m) b =
    let n = get_or field_counts t 0 in
    let w = varints-below n (i + 1) x vs m in
    let e : n ≡ length vs = many-length n (i + 1) x vs m in
    let z : All (λ v. v ≡ 0) (drop n (part 6 0 vs)) = zeros-behind 6 0 n vs (omega arith) in
    let f : Fits 64 t = omega arith in
    record {
      good =
          record {
            words = (f, (fits-at vs 0 w, (fits-at vs 1 w, (fits-at vs 2 w, (fits-at vs 3 w, (fits-at vs 4 w, (fits-at vs 5 w, tt)))))));
            sound = record { tag_known = h; absent = z };
          };
      size = omega arith;
      some = omega arith;
    }

-- The entries of an offset table, and how many bytes they and their starts take.
pub record Parted {A : Type 0} (R : Lang A) (n : ℕ) (vs : List A) : Type 0 where
  pub parts : List (List ℕ)
  pub read : Each R parts vs
  pub bytes : Bytes (join parts)
  pub small : length (join parts) ≤ n
  pub count : length parts ≤ n

module _ {A : Type 0} {R : Lang A} where
  pub entries-parted : (w a o i : ℕ) (bs : List ℕ) (v : Rows A) → Entries Number P (suc w) a o R i bs v → Bytes bs →
      Parted R (length bs) v.values
  entries-parted w a o i bs v e b =
      let t = e.table in
      let c = subst Bytes t.whole b in
      let d = bytes_back t.starts _ (bytes_back t.pads _ (bytes_back t.count _ c)) in
      let n = numbers-length (suc w) (length e.parts) _ t.starts (sums (length t.before) e.parts) t.started in
      let l = length-sums (length t.before) e.parts in
      let k : length bs ≡ length t.count + (length t.pads + (length t.starts + (length t.before + length (join e.parts)))) =
      ap length t.whole ∙ simp length-append in
      record {
        parts = e.parts;
        read = e.read;
        bytes = bytes_back t.before (join e.parts) d;
        small = omega arith;
        count = omega arith;
      }

  pub table-parted : (w a o i : ℕ) (bs : List ℕ) (v : Rows A) → OffsetTable (suc w) a o R i bs v → Bytes bs → Parted R (length bs) v.values
  table-parted w a o i bs v (empty left s) b =
      record { parts = []; read = none_left; bytes = tt; small = omega arith; count = omega arith }
  table-parted w a o i bs v (filled e l) b = entries-parted w a o i bs v e b
