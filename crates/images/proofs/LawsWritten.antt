-- How long an image is: at most ten bytes for each word of its sheet, and its pool; and at least a third of the pool.
-- Assumes nothing.
use Rattle.std.proofs.Common.{◌≡◌, ℕ, ◌+◌, ◌*◌, ◌^◌, ◌<◌, ◌≤◌, true, List, [], ◌∷◌, ◌++◌, map, length, refl, ap, inl, inr, arith, length-append}
use mathlib.Core.Option.{Option, none, some}
use lib.ListN.{length-map}
use Rattle.exact.specs.Fixed.{bytes_of}
use Rattle.exact.specs.Tiling.{join, sums}
use Rattle.exact.proofs.LawsTiling.{length-sums}
use Rattle.encoding.specs.Varint.{spelling}
use Rattle.encoding.proofs.LawsVarint.{spelling-ten}
use Rattle.encoding.proofs.LawsArray.{length-flat}
use Rattle.format.specs.Tables.{Function, Tables}
use Rattle.format.specs.Explains.{class}
use Rattle.format.specs.Sheet.{total, sheet_of, pool_of}
use Rattle.format.specs.Sound.{All}
use Rattle.format.specs.Image.{
  type_bytes,
  global_bytes,
  function_bytes,
  attribute_bytes,
  padded_numbers,
  offset_table,
  debug_bytes,
  producer_bytes,
  string_part,
  producer_part,
  type_part,
  constant_part,
  global_part,
  function_part,
  debug_part,
  has_rows,
  parts_from,
  parts_of,
  header_bytes,
  image,
}
use Rattle.format.proofs.LawsImageSizes.{back-le, table-le}
use Rattle.format.proofs.LawsImageSizes as image-sizes
use Rattle.images.specs.Rows.{row_words, row_run, row_bytes}
use Rattle.images.specs.declared.rows.Row.TheVariants as row
use Rattle.images.proofs.LawsSheet.{words-parts, strings-run, same_bytes, pool-parts, types-run, globals-run, attributes-run, lists-run}
use Rattle.images.proofs.LawsDebug.{list-ids}
use Rattle.images.proofs.LawsSizes.{rows-size, numbers-size, table-size, Plain, parts-size}

producer-size : (o : Option ℕ) → length (producer_bytes o) ≤ 10
unfolding producer_bytes
producer-size none = omega arith
producer-size (some i) = spelling-ten i

module _ (t : Tables) where
  strings-size : length (offset_table 4 4 0 t.strings) ≤ 18 + 10 * length (join (map (row_words row.Run) t.strings)) + length (join t.strings)
  strings-size =
      let r = rows-size (class t.version) row.Run t.strings in
      let b = ap (λ l. length (join l)) (same_bytes (class t.version) t.strings) in
      let s = strings-run t.strings in
      omega (arith, table-size 4 0 t.strings (inl refl))

  types-size : length (offset_table 4 4 0 (map (type_bytes (class t.version)) t.types)) ≤ 18 + 10 * length (join (map (row_words row.Type) t.types))
  unfolding row_bytes
  types-size =
      let r = rows-size (class t.version) row.Type t.types in
      let s = ap length (types-run t.types) in
      let l = length-map t.types (type_bytes (class t.version)) in
      omega (arith, table-size 4 0 (map (type_bytes (class t.version)) t.types) (inl refl))

  constants-size : length (offset_table 8 8 0 t.constants) ≤ 18 + 10 * length (join (map (row_words row.Run) t.constants)) + length (join t.constants)
  constants-size =
      let r = rows-size (class t.version) row.Run t.constants in
      let b = ap (λ l. length (join l)) (same_bytes (class t.version) t.constants) in
      let s = strings-run t.constants in
      omega (arith, table-size 8 0 t.constants (inr refl))

  globals-size : length (spelling (length t.globals) ++ join (map (global_bytes (class t.version)) t.globals)) ≤
      10 + 10 * length (join (map (row_words row.Global) t.globals))
  unfolding row_bytes
  globals-size =
      let r = rows-size (class t.version) row.Global t.globals in
      let s = ap length (globals-run t.globals) in
      rw length-append (omega (arith, spelling-ten (length t.globals)))

  functions-size : length (spelling (length t.functions) ++ join (map function_bytes t.functions)) ≤
      10 + 10 * length (join (map (row_words row.Function) t.functions)) + length (join (map (row_run row.Function) t.functions))
  unfolding row_bytes
  functions-size =
      let r = rows-size (class t.version) row.Function t.functions in
      rw length-append (omega (arith, spelling-ten (length t.functions)))

  debug-size : length (debug_bytes t.lists (map attribute_bytes t.attributes)) ≤
      54 + (10 * length (join (map (row_words row.Attribute) t.attributes)) + 10 * length (join (map (row_words row.List) t.lists)))
  unfolding debug_bytes row_bytes
  debug-size =
      let es = map attribute_bytes t.attributes in
      let starts = padded_numbers 4 4 0 (sums 0 t.lists) in
      let ids = padded_numbers 8 8 (length starts) (join t.lists) in
      let table = offset_table 4 4 (length starts + length ids) es in
      let p = rows-size (class t.version) row.Attribute t.attributes in
      let q = rows-size (class t.version) row.List t.lists in
      let ra = ap length (attributes-run t.attributes) in
      let rl = ap length (lists-run t.lists) in
      let li = ap length (list-ids (class t.version) t.lists) in
      let lf = length-flat 8 (join t.lists) in
      let la = length-map t.attributes attribute_bytes in
      let ls = length-sums 0 t.lists in
      let s1 = numbers-size 4 0 (sums 0 t.lists) (inl refl) in
      let s2 = numbers-size 8 (length starts) (join t.lists) (inr refl) in
      let s3 = table-size 4 (length starts + length ids) es (inl refl) in
      let a1 = length-append starts (ids ++ table) in
      let a2 = length-append ids table in
      omega arith

  parts-plain : All Plain (parts_of t)
  unfolding parts_of string_part producer_part type_part constant_part global_part function_part debug_part
  parts-plain =
      (inr (inl refl), (inl refl, (inr (inl refl), (inr (inr refl), (inl refl, (inl refl, (inr (inr refl), tt)))))))

  -- The image of a sheet and a pool.
  pub image-size : length (image t) ≤ 200 + 10 * length (sheet_of t) + length (pool_of t)
  unfolding image header_bytes bytes_of parts_of total string_part producer_part type_part constant_part global_part function_part debug_part
  image-size =
      let a = length-append (header_bytes t.version) (parts_from 12 (parts_of t)) in
      let p = parts-size 12 (parts_of t) parts-plain in
      let s0 = strings-size in
      let s1 = producer-size t.producer in
      let s2 = types-size in
      let s3 = constants-size in
      let s4 = globals-size in
      let s5 = functions-size in
      let s6 = debug-size in
      let w = words-parts t in
      let r = pool-parts t in
      omega arith

-- Of a lent sheet, which has fewer than 2^63 bytes, and a pool that is not too long, it is below 2^64 bytes.
pub image-fits : (t : Tables) → length (sheet_of t) < 2 ^ 60 → length (pool_of t) ≤ 2 ^ 32 → length (image t) < 2 ^ 64
image-fits t w p = let s = image-size t in omega arith

by_rows : {A X : Type 0} (xs : List A) → (has_rows xs ≡ true → X) → (xs ≡ [] → X) → X
unfolding has_rows
by_rows [] f g = g refl
by_rows (x ∷ xs) f g = f refl

bodies-le : (fs : List Function) → length (join (map (row_run row.Function) fs)) ≤ length (join (map function_bytes fs))
unfolding row_run function_bytes
bodies-le [] = omega arith
bodies-le (f ∷ fs) = simp length-append (omega (arith, bodies-le fs))

-- The pool is at most three times as long as the image, of which each kind of run is a part.
pub pool-le : (t : Tables) → length (pool_of t) ≤ 3 * length (image t)
unfolding image parts_of string_part constant_part function_part
pool-le t =
    let k = back-le (header_bytes t.version) (parts_from 12 (parts_of t)) in
    let p = image-sizes.parts-small (length (image t)) 12 (parts_of t) k in
    let a : length (join t.strings) ≤ length (image t) =
    by_rows t.strings (λ h. let q = p.0 h in omega (arith, table-le 4 4 0 t.strings))
    (λ e. let l = ap (λ (xs : List (List ℕ)). length (join xs)) e in omega arith) in
    let b : length (join t.constants) ≤ length (image t) =
    by_rows t.constants (λ h. let q = p.1.1.1.0 h in omega (arith, table-le 8 8 0 t.constants))
    (λ e. let l = ap (λ (xs : List (List ℕ)). length (join xs)) e in omega arith) in
    let c : length (join (map (row_run row.Function) t.functions)) ≤ length (image t) =
    by_rows t.functions
    (λ h.
    let q = p.1.1.1.1.1.0 h in
    let r = back-le (spelling (length t.functions)) (join (map function_bytes t.functions)) in
    omega (arith, bodies-le t.functions))
    (λ e. let l = ap (λ fs. length (join (map (row_run row.Function) fs))) e in omega arith) in
    let s = pool-parts t in
    omega arith
