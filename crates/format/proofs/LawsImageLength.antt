-- How long an image is, and where its starts are, does not depend on the bytes of the pool. Assumes nothing.
use mathlib.Core.Path.{◌≡◌, refl, sym, ap, ◌∙◌, subst}
use mathlib.Core.Bool.{Bool, true, false, cond}
use Prim.Native.Nat.{ℕ, ◌+◌}
use native.Mathlib.Omega.{arith}
use mathlib.Core.List.{List, [], ◌∷◌, ◌++◌, map}
use mathlib.Core.Option.{Option, some}
use lib.ListN.{length, length-append, length-map}
use Rattle.exact.specs.Fixed.{bytes_of}
use Rattle.exact.specs.Tiling.{join, sums}
use Rattle.encoding.specs.Varint.{spelling}
use Rattle.format.specs.Tables.{Version, Function, Tables}
use Rattle.format.specs.Explains.{class}
use Rattle.format.specs.Sheet.{FunctionRow, Frame, function_row_of, frame_of, total}
use Rattle.format.specs.Sound.{All, Fits}
use Rattle.format.specs.Image.{
  type_bytes,
  function_bytes,
  attribute_bytes,
  padded_numbers,
  offset_table,
  Part,
  alignment_bytes,
  part_bytes,
  parts_from,
  has_rows,
  string_part,
  producer_part,
  type_part,
  constant_part,
  global_part,
  function_part,
  debug_part,
  parts_of,
  header_bytes,
  image,
  Starts32,
}
use Rattle.format.proofs.LawsPool.{total-join}

-- What of a part decides how long it is.
record Outline : Type 0 where
  present : Bool
  alignment : Option ℕ
  size : ℕ

abbrev outline : Part → Outline
outline s = record { present = s.present; alignment = s.alignment; size = length s.payload }

abbrev part_size : ℕ → Outline → ℕ
part_size i s =
    1 + (length (spelling s.size) + (length (alignment_bytes s.alignment (i + 1 + length (spelling s.size))) + s.size))

abbrev size_from : ℕ → List Outline → ℕ
size_from i [] = 1
size_from i (s ∷ ss) = cond s.present (part_size i s + size_from (i + part_size i s) ss) (size_from i ss)

part-size : (i : ℕ) (s : Part) → length (part_bytes i s) ≡ part_size i (outline s)
unfolding part_bytes
part-size i s = simp length-append (omega arith)

parts-size : (i : ℕ) (ps : List Part) → length (parts_from i ps) ≡ size_from i (map outline ps)
unfolding parts_from
parts-size i [] = refl
parts-size i (s ∷ ps) = go (λ j. parts-size j ps) s.present
  where
    go : ((j : ℕ) → length (parts_from j ps) ≡ size_from j (map outline ps)) → (w : Bool) →
        length (cond w (part_bytes i s ++ parts_from (i + length (part_bytes i s)) ps) (parts_from i ps)) ≡
        cond w (part_size i (outline s) + size_from (i + part_size i (outline s)) (map outline ps)) (size_from i (map outline ps))
    go next true = rw (length-append, part-size i s) (ap (λ k. part_size i (outline s) + k) (next (i + part_size i (outline s))))
    go next false = next i

-- Running sums of lengths.
abbrev starts : ℕ → List ℕ → List ℕ
starts n [] = []
starts n (k ∷ ks) = n ∷ starts (n + k) ks

pub sums-starts : {A : Type 0} (n : ℕ) (es : List (List A)) → sums n es ≡ starts n (map length es)
sums-starts n [] = refl
sums-starts n (e ∷ es) = ap (λ x. n ∷ x) (sums-starts (n + length e) es)

rows-map : {A B : Type 0} (f : A → B) (xs : List A) → has_rows xs ≡ has_rows (map f xs)
unfolding has_rows
rows-map f [] = refl
rows-map f (x ∷ xs) = refl

-- An offset table of runs, by their lengths.
abbrev table_outline : ℕ → ℕ → List ℕ → Outline
table_outline w a ns = record { present = has_rows ns; alignment = some a; size = length (padded_numbers w a 0 (starts 0 ns)) + total ns }

table-outline : (w a : ℕ) (es : List (List ℕ)) → length (offset_table w a 0 es) ≡ length (padded_numbers w a 0 (starts 0 (map length es))) + total (map length es)
unfolding offset_table
table-outline w a es = rw (length-append, ← total-join es, sums-starts 0 es)

-- A function, by its row.
abbrev function_size : FunctionRow → ℕ
function_size f =
    length (spelling f.name) + (length (spelling f.signature) + (1 + (length (spelling f.location) +
    (length (spelling f.body_length) + f.body_length))))

functions-size : (fs : List Function) → length (join (map function_bytes fs)) ≡ total (map function_size (map function_row_of fs))
unfolding function_bytes function_row_of total
functions-size [] = refl
functions-size (f ∷ fs) = rw (length-append, functions-size fs) (ap (λ k. k + total (map function_size (map function_row_of fs))) (simp length-append (omega arith)))

-- The outlines of a frame's parts.
abbrev outlines : Frame → List Outline
outlines r =
    table_outline 4 4 r.strings ∷ outline (producer_part r.producer) ∷ outline (type_part (class r.version) r.types) ∷
    table_outline 8 8 r.constants ∷ outline (global_part (class r.version) r.globals) ∷
    record {
      present = has_rows r.functions;
      alignment = (function_part []).alignment;
      size = length (spelling (length r.functions)) + total (map function_size r.functions);
    } ∷ outline (debug_part r.lists r.attributes) ∷ []

parts-outlines : (t : Tables) → map outline (parts_of t) ≡ outlines (frame_of t)
unfolding parts_of frame_of string_part constant_part function_part
parts-outlines t =
    let a = table-outline 4 4 t.strings in
    let b = table-outline 8 8 t.constants in
    let c : length (spelling (length t.functions) ++ join (map function_bytes t.functions)) ≡
    length (spelling (length (map function_row_of t.functions))) + total (map function_size (map function_row_of t.functions)) =
    rw (length-append, functions-size, length-map) in
    λ i.
    record { present = rows-map length t.strings i; alignment = some 4; size = a i } ∷ outline (producer_part t.producer) ∷
    outline (type_part (class t.version) t.types) ∷
    record { present = rows-map length t.constants i; alignment = some 8; size = b i } ∷
    outline (global_part (class t.version) t.globals) ∷
    record { present = rows-map function_row_of t.functions i; alignment = (function_part []).alignment; size = c i } ∷
    outline (debug_part t.lists t.attributes) ∷ []

pub header-size : (v : Version) → length (header_bytes v) ≡ 12
unfolding header_bytes bytes_of
header-size v = refl

image-size : (t : Tables) → length (image t) ≡ 12 + size_from 12 (outlines (frame_of t))
unfolding image
image-size t = rw (length-append, header-size, parts-size, parts-outlines)

-- Tables with the same frame have images of the same length ..
pub image-length : (t u : Tables) → frame_of t ≡ frame_of u → length (image t) ≡ length (image u)
image-length t u e = image-size t ∙ ap (λ r. 12 + size_from 12 (outlines r)) e ∙ sym (image-size u)

-- .. and the same starts.
pub starts-same : (t u : Tables) → frame_of t ≡ frame_of u → Starts32 t → Starts32 u
unfolding frame_of
starts-same t u e s =
    let a : sums 0 t.strings ≡ sums 0 u.strings =
    sums-starts 0 t.strings ∙ ap (λ r. starts 0 r.strings) e ∙ sym (sums-starts 0 u.strings) in
    record {
      strings = subst (All (Fits 32)) a s.strings;
      types = subst (λ r. All (Fits 32) (sums 0 (map (type_bytes (class r.version)) r.types))) e s.types;
      lists = subst (λ r. All (Fits 32) (sums 0 r.lists)) e s.lists;
      attributes = subst (λ r. All (Fits 32) (sums 0 (map attribute_bytes r.attributes))) e s.attributes;
    }
