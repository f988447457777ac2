-- Where an image fits, so does each of its u32 starts. Assumes nothing.
use mathlib.Core.Path.{◌≡◌, refl}
use mathlib.Core.Bool.{Bool, true, false, ◌||◌}
use Prim.Native.Nat.{ℕ, ◌+◌, ◌^◌, ◌≤◌, ◌<◌}
use native.Mathlib.Omega.{arith}
use mathlib.Core.List.{List, [], ◌∷◌, map}
use lib.ListN.{length, length-map}
use Rattle.exact.specs.Tiling.{join, sums}
use Rattle.format.specs.Tables.{Attribute, Tables}
use Rattle.format.specs.Explains.{class}
use Rattle.format.specs.Decode.{most_bytes}
use Rattle.format.specs.Sound.{All, Fits}
use Rattle.format.specs.Image.{
  type_bytes,
  attribute_bytes,
  offset_table,
  debug_bytes,
  has_rows,
  string_part,
  type_part,
  debug_part,
  parts_of,
  parts_from,
  header_bytes,
  image,
  Starts32,
}
use Rattle.format.proofs.LawsImageSizes.{parts-small, sums-below, table-le, debug-le, back-le}
use Rattle.format.proofs.LawsImageParts.{Small}

-- Starts into what is at most as long as an image.
short-starts : {A : Type 0} (es : List (List A)) → length (join es) ≤ most_bytes → All (Fits 32) (sums 0 es)
short-starts es l =
    let k : 0 + length (join es) < 2 ^ 32 = omega arith in
    sums-below (2 ^ 32) 0 es k

-- The starts of an offset table that is written only if it has rows.
table-starts : {A : Type 0} (vs : List A) (es : List (List ℕ)) → length es ≡ length vs →
    (has_rows vs ≡ true → length (offset_table 4 4 0 es) ≤ most_bytes) → All (Fits 32) (sums 0 es)
unfolding has_rows
table-starts [] [] e h = tt
table-starts [] (x ∷ es) e h = absurd (omega arith)
table-starts (v ∷ vs) es e h = let l = h refl in short-starts es (omega (arith, table-le 4 4 0 es))

-- The same of Debug, which is written if either table has rows.
list-starts : (ls : List (List ℕ)) (xs : List Attribute) →
    ((has_rows ls || has_rows xs) ≡ true → length (debug_bytes ls (map attribute_bytes xs)) ≤ most_bytes) → All (Fits 32) (sums 0 ls)
unfolding has_rows
list-starts [] xs h = tt
list-starts (l ∷ ls) xs h =
    let m = h refl in short-starts (l ∷ ls) (omega (arith, (debug-le (l ∷ ls) (map attribute_bytes xs)).0))

or-true : (b : Bool) → (b || true) ≡ true
or-true true = refl
or-true false = refl

attribute-starts : (ls : List (List ℕ)) (xs : List Attribute) →
    ((has_rows ls || has_rows xs) ≡ true → length (debug_bytes ls (map attribute_bytes xs)) ≤ most_bytes) →
    All (Fits 32) (sums 0 (map attribute_bytes xs))
unfolding has_rows
attribute-starts ls [] h = tt
attribute-starts ls (x ∷ xs) h =
    let m = h (or-true (has_rows ls)) in
    short-starts (map attribute_bytes (x ∷ xs)) (omega (arith, (debug-le ls (map attribute_bytes (x ∷ xs))).1))

-- Where the image fits, no u32 start is too large.
pub starts_fit : (t : Tables) → length (image t) ≤ most_bytes → Starts32 t
unfolding image parts_of string_part type_part debug_part
starts_fit t l =
    let h : All Small (parts_of t) =
    parts-small most_bytes 12 (parts_of t) (omega (arith, back-le (header_bytes t.version) (parts_from 12 (parts_of t)))) in
    let d = h.1.1.1.1.1.1.0 in
    record {
      strings = table-starts t.strings t.strings refl h.0;
      types = table-starts t.types (map (type_bytes (class t.version)) t.types) (length-map t.types _) h.1.1.0;
      lists = list-starts t.lists t.attributes d;
      attributes = attribute-starts t.lists t.attributes d;
    }
