-- How long rows, tables and sections can be, by the words of their rows. Assumes nothing.
use Rattle.std.proofs.Common.{◌≡◌, ℕ, ◌+◌, ◌*◌, ◌≤◌, Bool, true, false, cond, ◌⊎◌, List, [], ◌∷◌, ◌++◌, map, length, get_or, take, inl, inr, arith, length-append, length-take}
use mathlib.Core.Option.{Option, none, some}
use native.Mathlib.Decide.{ℕ_discrete}
use lib.ListN.{length-replicate}
use Rattle.exact.specs.Choice.{choose}
use Rattle.exact.specs.Tiling.{join, sums}
use Rattle.exact.proofs.LawsTiling.{length-sums}
use Rattle.exact.proofs.LawsPadding.{gap-less}
use Rattle.enums.specs.declared.VersionClass.{VersionClass}
use Rattle.enums.specs.Debug.{field_counts}
use Rattle.encoding.specs.Varint.{spelling}
use Rattle.encoding.proofs.LawsVarint.{spelling-ten}
use Rattle.encoding.proofs.LawsArray.{length-flat}
use Rattle.format.specs.Tables.{TypeRow, plain, pointer, tile, tensor_view, partition_view, gather_scatter_view, strided_view, function}
use Rattle.format.specs.Sheet.{total, field_words, type_words, global_words, function_row_of, function_words, attribute_fields, attribute_words}
use Rattle.format.specs.Sound.{All}
use Rattle.format.specs.Tests.{bit0?, since3?, since4?}
use Rattle.format.specs.Image.{
  varints,
  counted_varints,
  only_where,
  optional_byte,
  partition_bytes,
  type_bytes,
  global_bytes,
  function_bytes,
  attribute_bytes,
  padded_numbers,
  offset_table,
  Part,
  alignment_bytes,
  part_bytes,
  parts_from,
}
use Rattle.images.specs.Rows.{RowOf, row_words, row_run, row_bytes, Placed}
use Rattle.images.specs.declared.rows.Row.{Row}
use Rattle.images.specs.declared.rows.Row.TheVariants as row
use Rattle.sheet.proofs.LawsLies.{lies-inside}

where-le : {Q : Type 0} (d : Dec Q) (bs : List ℕ) → length (only_where d bs) ≤ length bs
unfolding only_where choose
where-le (yes h) bs = omega arith
where-le (no h) bs = omega arith

either-le : {Q : Type 0} (d : Dec Q) (n : ℕ) (a b : List ℕ) → length a ≤ n → length b ≤ n → length (choose d a b) ≤ n
unfolding choose
either-le (yes h) n a b p q = p
either-le (no h) n a b p q = q

optional-le : (flags b : ℕ) → length (optional_byte flags b) ≤ 1
unfolding optional_byte
optional-le flags b = where-le (bit0? flags) (b ∷ [])

varints-le : (vs : List ℕ) → length (varints vs) ≤ 10 * length vs
unfolding varints
varints-le [] = omega arith
varints-le (v ∷ vs) = rw length-append (omega (arith, spelling-ten v, varints-le vs))

partition-size : (c : VersionClass) (flags : ℕ) (shape : List ℕ) (view : ℕ) (dims : List ℕ) (padding : ℕ) →
    length (partition_bytes c flags shape view dims padding) ≤ 41 + 10 * length shape + 10 * length dims
unfolding partition_bytes
partition-size c flags shape view dims padding =
    either-le (since3? c) (41 + 10 * length shape + 10 * length dims) _ _
    (simp length-append
    (omega (
      arith,
      spelling-ten flags,
      spelling-ten (length shape),
      length-flat 4 shape,
      spelling-ten view,
      spelling-ten (length dims),
      length-flat 4 dims,
      optional-le flags padding,
    )))
    (simp length-append
    (omega (
      arith,
      spelling-ten (length shape),
      length-flat 4 shape,
      spelling-ten view,
      spelling-ten (length dims),
      length-flat 4 dims,
      where-le (ℕ_discrete flags 1) (spelling padding),
      spelling-ten padding,
    )))

-- A type's entry has at most ten bytes for each word of its row but the first.
type-size : (c : VersionClass) (r : TypeRow) → length (type_bytes c r) + 10 ≤ 10 * length (type_words r)
unfolding type_bytes type_words field_words counted_varints
type-size c (plain tag) = omega (arith, spelling-ten tag)
type-size c (pointer flags element attribute) =
    simp length-append
    (omega (arith, spelling-ten 12, where-le (since4? c) (spelling flags), spelling-ten flags, spelling-ten element, optional-le flags attribute))
type-size c (tile element dims) =
    simp length-append (omega (arith, spelling-ten 13, spelling-ten element, spelling-ten (length dims), length-flat 8 dims))
type-size c (tensor_view flags element shape strides attribute) =
    simp length-append
    (omega (
      arith,
      spelling-ten 14,
      where-le (since4? c) (spelling flags),
      spelling-ten flags,
      spelling-ten element,
      spelling-ten (length shape),
      length-flat 8 shape,
      spelling-ten (length strides),
      length-flat 8 strides,
      optional-le flags attribute,
    ))
type-size c (partition_view flags shape view dims padding) =
    simp length-append (omega (arith, spelling-ten 15, partition-size c flags shape view dims padding))
type-size c (gather_scatter_view flags shape view sparse padding) =
    simp length-append
    (omega (
      arith,
      spelling-ten 20,
      spelling-ten flags,
      spelling-ten (length shape),
      length-flat 4 shape,
      spelling-ten view,
      spelling-ten sparse,
      optional-le flags padding,
    ))
type-size c (strided_view flags shape strides view dims padding) =
    simp length-append
    (omega (
      arith,
      spelling-ten 21,
      spelling-ten flags,
      spelling-ten (length shape),
      length-flat 4 shape,
      spelling-ten (length strides),
      length-flat 4 strides,
      spelling-ten view,
      spelling-ten (length dims),
      length-flat 4 dims,
      optional-le flags padding,
    ))
type-size c (function inputs results) =
    simp length-append
    (omega
    (arith, spelling-ten 16, spelling-ten (length inputs), varints-le inputs, spelling-ten (length results), varints-le results))

take-le : (n : ℕ) (vs : List ℕ) → length (take n vs) ≤ length vs
take-le n vs = rw length-take (omega arith)

-- A row and a start of eight bytes have at most ten bytes for each of the row's words, and its run.
row-size : (c : VersionClass) (k : Row) (x : RowOf k) → length (row_bytes c k x) + 8 ≤ 10 * length (row_words k x) + length (row_run k x)
unfolding row_bytes row_words row_run global_bytes global_words function_bytes function_words function_row_of attribute_bytes attribute_words attribute_fields
row-size c row.Run x = omega arith
row-size c row.Type x = omega (arith, type-size c x)
row-size c row.Global g =
    simp length-append
    (omega (
      arith,
      spelling-ten g.name,
      spelling-ten g.type,
      spelling-ten g.constant,
      spelling-ten g.alignment,
      where-le (since3? c) (g.visibility ∷ []),
      where-le (since3? c) (spelling g.constant_flag),
      spelling-ten g.constant_flag,
    ))
row-size c row.Function f =
    simp length-append
    (omega (arith, spelling-ten f.name, spelling-ten f.signature, spelling-ten f.location, spelling-ten (length f.body)))
row-size c row.Attribute a =
    let n = get_or field_counts a.tag 0 in
    omega (arith, varints-le (take n (attribute_fields a)), take-le n (attribute_fields a))
row-size c row.List ids = omega (arith, length-flat 8 ids)

pub rows-size : (c : VersionClass) (k : Row) (xs : List (RowOf k)) →
    length (join (map (row_bytes c k) xs)) + 8 * length xs ≤ 10 * length (join (map (row_words k) xs)) + length (join (map (row_run k) xs))
rows-size c k [] = omega arith
rows-size c k (x ∷ xs) =
    let r = rows-size c k xs in
    let lb = length-append (row_bytes c k x) (join (map (row_bytes c k) xs)) in
    let lw = length-append (row_words k x) (join (map (row_words k) xs)) in
    let lr = length-append (row_run k x) (join (map (row_run k) xs)) in
    omega (arith, row-size c k x)

-- A count, padding and starts.
pub numbers-size : (w i : ℕ) (vs : List ℕ) → (w ≡ 4) ⊎ (w ≡ 8) → length (padded_numbers w w i vs) ≤ 18 + 8 * length vs
unfolding padded_numbers
numbers-size w i vs (inl e) =
    let g = gap-less 4 (i + length (spelling (length vs))) (omega arith) in
    rw e
    (simp (length-append, length-replicate)
    (omega (arith, spelling-ten (length vs), length-flat 4 vs)))
numbers-size w i vs (inr e) =
    let g = gap-less 8 (i + length (spelling (length vs))) (omega arith) in
    rw e
    (simp (length-append, length-replicate)
    (omega (arith, spelling-ten (length vs), length-flat 8 vs)))

pub table-size : (w i : ℕ) (es : List (List ℕ)) → (w ≡ 4) ⊎ (w ≡ 8) → length (offset_table w w i es) ≤ 18 + 8 * length es + length (join es)
unfolding offset_table
table-size w i es h =
    rw length-append (omega (arith, numbers-size w i (sums 0 es) h, length-sums 0 es))

alignment-size : (o : Option ℕ) (i : ℕ) → (o ≡ none) ⊎ ((o ≡ some 4) ⊎ (o ≡ some 8)) → length (alignment_bytes o i) ≤ 18
unfolding alignment_bytes
alignment-size o i (inl e) = rw e (omega arith)
alignment-size o i (inr (inl e)) =
    let g = gap-less 4 (i + length (spelling 4)) (omega arith) in
    rw e (simp (length-append, length-replicate) (omega (arith, spelling-ten 4)))
alignment-size o i (inr (inr e)) =
    let g = gap-less 8 (i + length (spelling 8)) (omega arith) in
    rw e (simp (length-append, length-replicate) (omega (arith, spelling-ten 8)))

-- Sections as they are written: with no alignment, 4 or 8.
abbrev pub Plain : Part → Type 0
Plain p = (p.alignment ≡ none) ⊎ ((p.alignment ≡ some 4) ⊎ (p.alignment ≡ some 8))

part-size : (i : ℕ) (p : Part) → Plain p → length (part_bytes i p) ≤ 29 + length p.payload
unfolding part_bytes
part-size i p h =
    simp length-append
    (omega (arith, spelling-ten (length p.payload), alignment-size p.alignment (i + 1 + length (spelling (length p.payload))) h))

pub parts-size : (i : ℕ) (ps : List Part) → All Plain ps → length (parts_from i ps) ≤ 1 + total (map (λ p. 29 + length p.payload) ps)
unfolding parts_from total
parts-size i [] h = omega arith
parts-size i (p ∷ ps) h = go p.present (λ j. parts-size j ps h.1)
  where
    go : (b : Bool) → ((j : ℕ) → length (parts_from j ps) ≤ 1 + total (map (λ p. 29 + length p.payload) ps)) →
        length (cond b (part_bytes i p ++ parts_from (i + length (part_bytes i p)) ps) (parts_from i ps)) ≤
        1 + (29 + length p.payload + total (map (λ p. 29 + length p.payload) ps))
    go true r = rw length-append (omega (arith, part-size i p h.0, r (i + length (part_bytes i p))))
    go false r = omega (arith, r i)

-- A table's rows have no more words than the sheet, and at most ten bytes for each.
pub table-small : {c : VersionClass} {k : Row} {ws : List ℕ} {word count : ℕ} (xs : List (RowOf k)) → Placed c k xs ws word count →
    length (join (map (row_bytes c k) xs)) ≤ 10 * length ws + length (join (map (row_run k) xs))
table-small {c} {k} xs p =
    let r = rows-size c k xs in
    let l = lies-inside (join (map (row_words k) xs)) p.lies in
    omega arith
