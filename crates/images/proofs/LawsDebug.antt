-- The lists' starts and ids, and the attributes behind them, are the payload of Debug. Assumes nothing.
use Rattle.images.proofs.LawsSections.{table_is, producer-named, producer-unnamed, strings-payload, types-payload, constants-payload, globals-payload, functions-payload}
use Rattle.std.proofs.Common.{◌≡◌, ℕ, ◌+◌, List, [], ◌∷◌, ◌++◌, map, length, get_or, sym, refl, ap, ◌∙◌, subst, ap₂, append_assoc, add-zero, zero-add, arith, length-append}
use Rattle.exact.specs.Fixed.{bytes_of}
use Rattle.exact.specs.Tiling.{join, sums}
use Rattle.exact.proofs.LawsTiling.{length-sums}
use Rattle.enums.specs.declared.VersionClass.{VersionClass}
use Rattle.encoding.specs.Out.{flat}
use Rattle.format.specs.Tables.{Tables}
use Rattle.format.specs.Image.{attribute_bytes, padded_numbers, offset_table, debug_bytes, debug_part}
use Rattle.sheet.specs.Store.{words_in}
use Rattle.images.specs.Put.{Wrote}
use Rattle.images.specs.Fields.{Copied}
use Rattle.images.specs.Rows.{row_bytes, RowsPut}
use Rattle.images.specs.Tables.{count_and_padding, CountPut, ids, Starting, ListStartsPut, TablePut}
use Rattle.images.specs.Sections.{Holds, lists_bytes, ListsPut, part_in, runs_in, PayloadPut}
use Rattle.images.specs.declared.fields.Pen.{Pen}
use Rattle.images.specs.declared.rows.Row.TheVariants as row
use Rattle.images.specs.declared.rows.Table.{Table}
use Rattle.enums.specs.declared.Section.TheVariants as section
use Rattle.images.proofs.LawsPut.{wrote_as}
use Rattle.images.proofs.LawsFields.{ready-front, copied-then, copied-put, copied-ready, copied-as, copied_runs}
use Rattle.images.proofs.LawsTables.{padded-as}
use Rattle.images.proofs.LawsSheet.{attributes-placed, lists-placed, attributes-run, lists-run}
use Rattle.images.proofs.LawsSections.{placed-in, fit-in}

flat_append : (w : ℕ) (a b : List ℕ) → flat w (a ++ b) ≡ flat w a ++ flat w b
flat_append w [] b = refl
flat_append w (v ∷ a) b = ap (λ l. bytes_of w v ++ l) (flat_append w a b) ∙ sym (append_assoc (bytes_of w v) (flat w a) (flat w b))

pub list-ids : (c : VersionClass) (lists : List (List ℕ)) → join (map (row_bytes c row.List) lists) ≡ flat 8 (join lists)
unfolding row_bytes
list-ids c [] = refl
list-ids c (l ∷ lists) = ap (λ r. flat 8 l ++ r) (list-ids c lists) ∙ sym (flat_append 8 l (join lists))

pub same-ids : (lists : List (List ℕ)) → map ids lists ≡ lists
same-ids [] = refl
same-ids (l ∷ lists) = ap (λ r. l ∷ r) (same-ids lists)

-- Starts, a count of ids, and the ids.
starts-as : (lists : List (List ℕ)) (n w : ℕ) → length lists ≡ n →
    count_and_padding n w 0 ++ flat w (sums 0 lists) ≡ padded_numbers w w 0 (sums 0 lists)
starts-as lists n w e = padded-as w w 0 n (sums 0 lists) (length-sums 0 lists ∙ e)

numbers_as : (c : VersionClass) (lists : List (List ℕ)) (i : ℕ) →
    count_and_padding (length (join lists)) 8 i ++ join (map (row_bytes c row.List) lists) ≡ padded_numbers 8 8 i (join lists)
numbers_as c lists i =
    ap (λ l. count_and_padding (length (join lists)) 8 i ++ l) (list-ids c lists) ∙
    padded-as 8 8 i (length (join lists)) (join lists) refl

-- The table of the lists.
abbrev list_table : List ℕ → Table
list_table s = record { row = row.List; word = get_or (words_in s) 17 0; count = get_or (words_in s) 18 0; width = 4 }

module _ {c : VersionClass} {s pool : List ℕ} {n1 n2 n3 last : ℕ} {p q : Pen} {out m1 m2 m3 out' : List ℕ}
    (x : CountPut (list_table s).count 4 p.at p.at out m1 n1)
    (y : ListStartsPut 4 (list_table s).count s (list_table s).word 0 n1 m1 m2 last n2) (i : CountPut last 8 p.at n2 m2 m3 n3)
    (j : RowsPut c (list_table s) (λ xs. join (map (row_bytes c row.List) xs)) s pool (record { word = p.word; run = p.run; at = n3 }) m3 out' q) where
  lists-each : (t : Tables) → Holds c t s → Copied [] [] (lists_bytes t.lists) s pool p out out' q
  lists-each t h =
      let lists = t.lists in
      let pl = placed-in h 17 18 (lists-placed t) in
      let fw = fit-in h in
      let b1 = count_and_padding (list_table s).count 4 0 in
      let b2 = flat 4 (sums 0 lists) in
      let b3 = count_and_padding (length (join lists)) 8 (length (b1 ++ b2)) in
      let b4 = join (map (row_bytes c row.List) lists) in
      let a = starts-as lists (list_table s).count 4 pl.number in
      let b = numbers_as c lists (length (b1 ++ b2)) ∙ ap (λ l. padded_numbers 8 8 (length l) (join lists)) a in
      copied-as (ap₂ (λ l r. l ++ r) a b)
      (copied-ready
      (λ r.
      let fb = r.bytes_fit in
      let l1 = length-append b1 b2 in
      let l2 = length-append (b1 ++ b2) (b3 ++ b4) in
      let l3 = length-append b3 b4 in
      let lr = ap length (lists-run lists) in
      let start : Starting c row.List lists (list_table s).count s (list_table s).word 0 =
      record { placed = pl; words = fw; runs = omega arith; bytes = omega arith } in
      let w1 = x.each 0 (add-zero p.at) in
      let w2 : Wrote b2 n1 m1 m2 n2 = wrote_as (ap (λ l. flat 4 (sums 0 l)) (same-ids lists)) ((y.puts c).each lists start) in
      let g1 = (w1.puts (omega arith)).place in
      let g2 = (w2.puts (omega arith)).place in
      let e : p.at + length (b1 ++ b2) ≡ n2 = omega arith in
      let u : last ≡ length (join lists) = y.ends c lists start ∙ zero-add (length (join lists)) in
      let w3 : Wrote b3 n2 m2 m3 n3 = wrote_as (ap (λ n. count_and_padding n 8 (length (b1 ++ b2))) u) (i.each (length (b1 ++ b2)) e) in
      copied-then (copied-then (copied-put w1) (copied-put w2))
      (copied-then (copied-put w3) (copied_runs (lists-run lists) (j.each lists pl fw)))))

-- The lists were put.
pub lists-put : {c : VersionClass} {s pool : List ℕ} {n1 n2 n3 last : ℕ} {p q : Pen} {out m1 m2 m3 out' : List ℕ} {t : Table} →
    t ≡ list_table s → CountPut t.count t.width p.at p.at out m1 n1 →
    ListStartsPut t.width t.count s t.word 0 n1 m1 m2 last n2 → CountPut last 8 p.at n2 m2 m3 n3 →
    RowsPut c t (λ xs. join (map (row_bytes c t.row) xs)) s pool (record { word = p.word; run = p.run; at = n3 }) m3 out' q →
    ListsPut c s pool p out out' q
lists-put {c} {s} {pool} {n1} {n2} {n3} {last} {p} {q} {out} {m1} {m2} {m3} {out'} k x y i j =
    record {
      each =
          lists-each (subst (λ t. CountPut t.count t.width p.at p.at out m1 n1) k x)
          (subst (λ t. ListStartsPut t.width t.count s t.word 0 n1 m1 m2 last n2) k y) i
          (subst (λ t. RowsPut c t (λ xs. join (map (row_bytes c t.row) xs)) s pool (record { word = p.word; run = p.run; at = n3 }) m3 out' q) k j);
    }

pub debug-payload : {c : VersionClass} {s pool : List ℕ} {p z q : Pen} {out mid out' : List ℕ} {attributes : Table} →
    ListsPut c s pool p out mid z →
    attributes ≡ record { row = row.Attribute; word = get_or (words_in s) 15 0; count = get_or (words_in s) 16 0; width = 4 } →
    TablePut c attributes p.at s pool z mid out' q → PayloadPut section.Debug c s pool p out out' q
unfolding part_in runs_in debug_part debug_bytes row_bytes
debug-payload {c} {s} {pool} {p} {z} {q} {out} {mid} {out'} x e y =
    record {
      each =
          λ t h.
          let starts = padded_numbers 4 4 0 (sums 0 t.lists) in
          let ids = padded_numbers 8 8 (length starts) (join t.lists) in
          let es = map attribute_bytes t.attributes in
          let table = offset_table 4 4 (length (starts ++ ids)) es in
          let b : (starts ++ ids) ++ table ≡ starts ++ (ids ++ offset_table 4 4 (length starts + length ids) es) =
          append_assoc starts ids table ∙ ap (λ n. starts ++ (ids ++ offset_table 4 4 n es)) (length-append starts ids) in
          copied-as b
          (copied-ready
          (λ r.
          let v = (x.each t h).moved (ready-front [] [] (starts ++ ids) [] [] table r) in
          let g : p.at + length (starts ++ ids) ≡ z.at = sym v.puts.place in
          copied-then (x.each t h)
          (copied_runs (attributes-run t.attributes)
          (((subst (λ k. TablePut c k p.at s pool z mid out' q) e y).each (length (starts ++ ids)) g).each t.attributes
          (placed-in h 15 16 (attributes-placed t h.sound)) (fit-in h)))));
    }

-- The laws by which the check proves what puts payloads.
pub ruleset sections = (table_is, lists-put, debug-payload, producer-named, producer-unnamed, strings-payload, types-payload, constants-payload, globals-payload, functions-payload)
