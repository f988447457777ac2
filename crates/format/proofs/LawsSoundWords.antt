-- Rows that are not too many make a sheet of u64 words. Assumes nothing.
use mathlib.Core.Path.{◌≡◌, refl, ap}
use Prim.Native.Nat.{ℕ, suc, ◌+◌, ◌*◌, ◌^◌, ◌≤◌, ◌<◌}
use native.Mathlib.Omega.{arith}
use mathlib.Core.List.{List, [], ◌∷◌, map}
use lib.ListN.{length, length-append, length-map}
use Rattle.exact.specs.Tiling.{join}
use Rattle.format.specs.Decode.{most_bytes}
use Rattle.format.specs.Sheet.{
  Frame,
  counted_words,
  length_words,
  type_words,
  global_words,
  function_words,
  attribute_words,
  list_words,
  bodies,
  contents,
  producer_word,
  pool_length,
  words_of,
  attribute_fields,
}
use Rattle.format.specs.Sound.{All, Fits, SoundVersion}
use Rattle.format.proofs.LawsImageItems.{all_both}
use Rattle.format.specs.Tables.{Attribute}

-- The words of rows, row by row, are the words of the table.
rows_join : {A : Type 0} (f : A → List ℕ) (vs : List A) → All (λ v. All (Fits 64) (f v)) vs → All (Fits 64) (join (map f vs))
rows_join f [] h = tt
rows_join f (v ∷ vs) h = all_both (Fits 64) (f v) (join (map f vs)) h.0 (rows_join f vs h.1)

-- A count before words that are not too many is a u64 too.
pub counted-fit : {A : Type 0} (g : A → List ℕ) (vs : List A) → All (λ v. All (Fits 64) (g v)) vs →
    length (join (map (λ v. counted_words (g v)) vs)) ≤ 8 * most_bytes → All (λ v. All (Fits 64) (counted_words (g v))) vs
counted-fit g [] h l = tt
counted-fit g (v ∷ vs) h l =
    let k = length-append (g v) (join (map (λ v. counted_words (g v)) vs)) in
    let n : Fits 64 (length (g v)) = omega arith in
    ((n, h.0), counted-fit g vs h.1 (omega arith))

-- The rows of a table have u64 words, and are not too many.
pub record Fitted {A : Type 0} (f : A → List ℕ) (vs : List A) : Type 0 where
  pub each : All (λ v. All (Fits 64) (f v)) vs
  pub count : length vs ≤ most_bytes
  pub size : length (join (map f vs)) ≤ 8 * most_bytes

lengths-each : (es : List (List ℕ)) → length (join es) ≤ most_bytes → All (λ n. All (Fits 64) (length_words n)) (map length es)
lengths-each [] l = tt
lengths-each (e ∷ es) l =
    let k = length-append e (join es) in
    let n : Fits 64 (length e) = omega arith in
    ((n, tt), lengths-each es (omega arith))

-- A length has one word.
pub ones-length : (ns : List ℕ) → length (join (map length_words ns)) ≡ length ns
ones-length [] = refl
ones-length (n ∷ ns) = ap suc (ones-length ns)

-- An attribute has seven.
pub attributes-words : (vs : List Attribute) → length (join (map attribute_words vs)) ≡ 7 * length vs
unfolding attribute_words attribute_fields
attributes-words [] = refl
attributes-words (v ∷ vs) = omega (arith, attributes-words vs)

-- Lengths of runs that are not too long.
pub lengths-fitted : (es : List (List ℕ)) → length (join es) ≤ most_bytes → length es ≤ most_bytes → Fitted length_words (map length es)
lengths-fitted es l m =
    let k = length-map es length in
    let j = ones-length (map length es) in
    record { each = lengths-each es l; count = omega arith; size = omega arith }

-- A frame whose tables are so.
pub record Moderate (r : Frame) : Type 0 where
  pub version : SoundVersion r.version
  pub producer : Fits 64 (producer_word r.producer)
  pub pool : Fits 64 (pool_length r)
  pub strings : Fitted length_words r.strings
  pub types : Fitted type_words r.types
  pub constants : Fitted length_words r.constants
  pub globals : Fitted global_words r.globals
  pub functions : Fitted function_words r.functions
  pub attributes : Fitted attribute_words r.attributes
  pub lists : Fitted list_words r.lists

-- Start words and row counts that are u64.
places-fit : (k n : ℕ) (ts : List (List (List ℕ))) → n + length ts * (8 * most_bytes) ≤ k → k < 2 ^ 64 →
    All (λ rows. (length rows ≤ most_bytes) × (length (join rows) ≤ 8 * most_bytes)) ts → All (Fits 64) (contents n ts)
unfolding contents
places-fit k n [] h l a = tt
places-fit k n (rows ∷ ts) h l a =
    let c : Fits 64 (length rows) = omega (arith, a.0.0) in
    let f : Fits 64 n = omega arith in
    (f, (c, places-fit k (n + length (join rows)) ts (omega (arith, a.0.1)) l a.1))

fitted-place : {A : Type 0} (f : A → List ℕ) (vs : List A) → Fitted f vs →
    (length (map f vs) ≤ most_bytes) × (length (join (map f vs)) ≤ 8 * most_bytes)
fitted-place f vs h = (rw length-map h.count, h.size)

-- The sheet of such a frame has u64 words.
pub words_fit : (r : Frame) → Moderate r → All (Fits 64) (words_of r)
unfolding words_of bodies
words_fit r h =
    let v = h.version in
    let a : r.version.major < 2 ^ 8 = v.major_byte in
    let b : r.version.minor < 2 ^ 8 = v.minor_byte in
    let c : r.version.tag < 2 ^ 16 = v.tag_half in
    let a₁ : Fits 64 r.version.major = omega arith in
    let b₁ : Fits 64 r.version.minor = omega arith in
    let c₁ : Fits 64 r.version.tag = omega arith in
    let p = places-fit (2 ^ 40) 19 (bodies r) (omega arith) (omega arith) (
      fitted-place length_words r.strings h.strings,
      (
        fitted-place type_words r.types h.types,
        (
          fitted-place length_words r.constants h.constants,
          (
            fitted-place global_words r.globals h.globals,
            (
              fitted-place function_words r.functions h.functions,
              (
                fitted-place attribute_words r.attributes h.attributes,
                (fitted-place list_words r.lists h.lists, tt),
              ),
            ),
          ),
        ),
      ),
    ) in
    let q = all_both (Fits 64) (join (map length_words r.strings)) _ (rows_join length_words r.strings h.strings.each)
    (all_both (Fits 64) (join (map type_words r.types)) _ (rows_join type_words r.types h.types.each)
    (all_both (Fits 64) (join (map length_words r.constants)) _ (rows_join length_words r.constants h.constants.each)
    (all_both (Fits 64) (join (map global_words r.globals)) _ (rows_join global_words r.globals h.globals.each)
    (all_both (Fits 64) (join (map function_words r.functions)) _ (rows_join function_words r.functions h.functions.each)
    (all_both (Fits 64) (join (map attribute_words r.attributes)) _ (rows_join attribute_words r.attributes h.attributes.each)
    (all_both (Fits 64) (join (map list_words r.lists)) [] (rows_join list_words r.lists h.lists.each) tt)))))) in
    (a₁, (b₁, (c₁, (h.producer, (h.pool, all_both (Fits 64) (contents 19 (bodies r)) (join (map join (bodies r))) p q)))))

-- And it has at most 2^36 of them.
pub words-most : (r : Frame) → Moderate r → length (words_of r) ≤ 2 ^ 36
unfolding words_of bodies contents
words-most r h =
    simp length-append
    (omega (arith, h.strings.size, h.types.size, h.constants.size, h.globals.size, h.functions.size, h.attributes.size, h.lists.size))
