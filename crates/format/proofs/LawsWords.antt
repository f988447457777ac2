-- What it says of each count and row that the words of a sheet are u64. Assumes nothing.
use Prim.Native.Nat.{ℕ, zero, suc, ◌<◌}
use native.Mathlib.Nat.{le_of_suc-le-suc, not-suc-le-zero}
use native.Mathlib.Omega.{arith}
use mathlib.Core.List.{List, [], ◌∷◌, map}
use lib.ListN.{length, drop, get_or, length-map}
use Rattle.exact.specs.Tiling.{join}
use Rattle.format.specs.Sheet.{
  Frame,
  length_words,
  type_words,
  global_words,
  function_words,
  attribute_words,
  list_words,
  bodies,
  contents,
  producer_word,
  words_of,
}
use Rattle.format.specs.Sound.{All, Fits}
use Rattle.format.proofs.LawsImageItems.{all-front, all_back}

module _ {A : Type 0} (Q : A → Type 0) where
  -- What holds of all holds of number k ..
  pub all-at : (l : List A) (k : ℕ) (d : A) → All Q l → k < length l → Q (get_or l k d)
  all-at [] k d h n = absurd (not-suc-le-zero n)
  all-at (x ∷ l) zero d h n = h.0
  all-at (x ∷ l) (suc k) d h n = all-at l k d h.1 (le_of_suc-le-suc n)

  -- .. and of all behind it.
  pub all_drop : (k : ℕ) (l : List A) → All Q l → All Q (drop k l)
  all_drop zero l h = h
  all_drop (suc k) [] h = tt
  all_drop (suc k) (x ∷ l) h = all_drop k l h.1

-- The rows of a table have such words if the table has.
rows_all : {A : Type 0} (f : A → List ℕ) (vs : List A) → All (Fits 64) (join (map f vs)) → All (λ v. All (Fits 64) (f v)) vs
rows_all f [] h = tt
rows_all f (v ∷ vs) h = (all-front (Fits 64) (f v) (join (map f vs)) h, rows_all f vs (all_back (Fits 64) (f v) (join (map f vs)) h))

-- Each count is a u64, and each word of each row.
pub record FrameFits (r : Frame) : Type 0 where
  pub producer : Fits 64 (producer_word r.producer)
  pub strings : Fits 64 (length r.strings)
  pub types : Fits 64 (length r.types)
  pub constants : Fits 64 (length r.constants)
  pub globals : Fits 64 (length r.globals)
  pub functions : Fits 64 (length r.functions)
  pub attributes : Fits 64 (length r.attributes)
  pub lists : Fits 64 (length r.lists)
  pub type_rows_fit : All (λ v. All (Fits 64) (type_words v)) r.types
  pub global_rows_fit : All (λ v. All (Fits 64) (global_words v)) r.globals
  pub function_rows_fit : All (λ v. All (Fits 64) (function_words v)) r.functions
  pub attribute_rows_fit : All (λ v. All (Fits 64) (attribute_words v)) r.attributes
  pub list_rows_fit : All (λ v. All (Fits 64) (list_words v)) r.lists

module _ (r : Frame) (h : All (Fits 64) (words_of r)) where
  counts : (k : ℕ) → k < 19 → Fits 64 (get_or (words_of r) k 0)
  unfolding words_of bodies contents
  counts k n = all-at (Fits 64) (words_of r) k 0 h (omega arith)

  -- The words of a sheet that are u64 make each count and row so.
  pub frame-fits : FrameFits r
  unfolding words_of bodies contents
  frame-fits =
      let t₀ = all_drop (Fits 64) 19 (words_of r) h in
      let t₁ = all_back (Fits 64) (join (map length_words r.strings)) _ t₀ in
      let t₂ = all_back (Fits 64) (join (map type_words r.types)) _ t₁ in
      let t₃ = all_back (Fits 64) (join (map length_words r.constants)) _ t₂ in
      let t₄ = all_back (Fits 64) (join (map global_words r.globals)) _ t₃ in
      let t₅ = all_back (Fits 64) (join (map function_words r.functions)) _ t₄ in
      let t₆ = all_back (Fits 64) (join (map attribute_words r.attributes)) _ t₅ in
      record {
        producer = counts 3 (omega arith);
        strings = rw (← length-map r.strings length_words) (counts 6 (omega arith));
        types = rw (← length-map r.types type_words) (counts 8 (omega arith));
        constants = rw (← length-map r.constants length_words) (counts 10 (omega arith));
        globals = rw (← length-map r.globals global_words) (counts 12 (omega arith));
        functions = rw (← length-map r.functions function_words) (counts 14 (omega arith));
        attributes = rw (← length-map r.attributes attribute_words) (counts 16 (omega arith));
        lists = rw (← length-map r.lists list_words) (counts 18 (omega arith));
        type_rows_fit = rows_all type_words r.types (all-front (Fits 64) (join (map type_words r.types)) _ t₁);
        global_rows_fit = rows_all global_words r.globals (all-front (Fits 64) (join (map global_words r.globals)) _ t₃);
        function_rows_fit = rows_all function_words r.functions (all-front (Fits 64) (join (map function_words r.functions)) _ t₄);
        attribute_rows_fit = rows_all attribute_words r.attributes (all-front (Fits 64) (join (map attribute_words r.attributes)) _ t₅);
        list_rows_fit = rows_all list_words r.lists (all-front (Fits 64) (join (map list_words r.lists)) _ t₆);
      }
