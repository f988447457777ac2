-- The writers of payloads put what the tables that the sheet stands for have there. Assumes nothing.
use Rattle.std.proofs.Common.{◌≡◌, ℕ, ◌-◌, ◌^◌, ◌<◌, ◌≤◌, List, [], ◌++◌, map, length, get_or, sym, ap, ◌∙◌, subst, ap₂, add-zero, arith}
use mathlib.Core.Option.{Option, none, some}
use Rattle.exact.specs.Tiling.{join}
use Rattle.enums.specs.declared.VersionClass.{VersionClass}
use Rattle.encoding.specs.Varint.{spelling}
use Rattle.format.specs.Tables.{Tables}
use Rattle.format.specs.Explains.{class}
use Rattle.format.specs.Sheet.{producer_word, sheet_of}
use Rattle.format.specs.Image.{type_bytes, global_bytes, function_bytes, offset_table, producer_bytes, string_part, producer_part, type_part, constant_part, global_part, function_part}
use Rattle.sheet.specs.Store.{words_in}
use Rattle.images.specs.Put.{Wrote}
use Rattle.images.specs.Fields.{Copied}
use Rattle.images.specs.Rows.{RowOf, row_bytes, Placed, RowsPut}
use Rattle.images.specs.Tables.{TablePut}
use Rattle.images.specs.Sections.{Holds, part_in, runs_in, PayloadPut}
use Rattle.images.specs.declared.fields.Pen.{Pen}
use Rattle.images.specs.declared.rows.Row.{Row}
use Rattle.images.specs.declared.rows.Row.TheVariants as row
use Rattle.images.specs.declared.rows.Table.{Table}
use Rattle.enums.specs.declared.Section.TheVariants as section
use Rattle.images.proofs.LawsFields.{copied-then, copied-nil, copied-put, copied-as, copied_runs}
use Rattle.images.proofs.LawsSheet.{
  strings-placed,
  types-placed,
  constants-placed,
  globals-placed,
  functions-placed,
  producer-word,
  same_runs,
  same_bytes,
  body-runs,
  types-run,
  globals-run,
}

pub table_is : (k : Row) (width : ℕ) {w x n y : ℕ} → w ≡ x → n ≡ y →
    ◌≡◌ {A = Table} (record { row = k; word = w; count = n; width = width }) (record { row = k; word = x; count = y; width = width })
table_is k width e f = ap₂ (λ (a b : ℕ). record { row = k; word = a; count = b; width = width }) e f

-- What is so of the tables' sheet is so of the words of this one.
module _ {c : VersionClass} {t : Tables} {s : List ℕ} (h : Holds c t s) where
  pub placed-in : {k : Row} {xs : List (RowOf k)} (i j : ℕ) →
      Placed (class t.version) k xs (sheet_of t) (get_or (sheet_of t) i 0) (get_or (sheet_of t) j 0) →
      Placed c k xs (words_in s) (get_or (words_in s) i 0) (get_or (words_in s) j 0)
  placed-in {k} {xs} i j p =
      subst (λ d. Placed d k xs (words_in s) (get_or (words_in s) i 0) (get_or (words_in s) j 0)) (sym h.version)
      (subst (λ ws. Placed (class t.version) k xs ws (get_or ws i 0) (get_or ws j 0)) (sym h.words) p)

  pub fit-in : length (words_in s) < 2 ^ 64
  fit-in = let e = ap length h.words in let f = h.fits in omega arith

-- A count and rows.
pub counted-put : {c : VersionClass} {t : Table} {s pool : List ℕ} {first : ℕ} {p q : Pen} {out mid out' : List ℕ} →
    Wrote (spelling t.count) p.at out mid first →
    RowsPut c t (λ xs. join (map (row_bytes c t.row) xs)) s pool (record { word = p.word; run = p.run; at = first }) mid out' q →
    RowsPut c t (λ xs. spelling t.count ++ join (map (row_bytes c t.row) xs)) s pool p out out' q
counted-put x y = record { each = λ xs pl fw. copied-then (copied-put x) (y.each xs pl fw) }

module _ {c : VersionClass} {s pool : List ℕ} {p q : Pen} {out out' : List ℕ} {table : Table} where
  pub strings-payload : table ≡ record { row = row.Run; word = get_or (words_in s) 5 0; count = get_or (words_in s) 6 0; width = 4 } →
      TablePut c table p.at s pool p out out' q → PayloadPut section.String c s pool p out out' q
  unfolding part_in runs_in string_part
  strings-payload e x =
      record {
        each =
            λ t h.
            copied_runs (ap join (same_runs t.strings))
            (copied-as (ap (offset_table 4 4 0) (same_bytes c t.strings))
            (((subst (λ k. TablePut c k p.at s pool p out out' q) e x).each 0 (add-zero p.at)).each t.strings
            (placed-in h 5 6 (strings-placed t)) (fit-in h)));
      }

  pub types-payload : table ≡ record { row = row.Type; word = get_or (words_in s) 7 0; count = get_or (words_in s) 8 0; width = 4 } →
      TablePut c table p.at s pool p out out' q → PayloadPut section.Type c s pool p out out' q
  unfolding part_in runs_in type_part row_bytes
  types-payload e x =
      record {
        each =
            λ t h.
            copied_runs (types-run t.types)
            (copied-as (ap (λ d. offset_table 4 4 0 (map (type_bytes d) t.types)) h.version)
            (((subst (λ k. TablePut c k p.at s pool p out out' q) e x).each 0 (add-zero p.at)).each t.types
            (placed-in h 7 8 (types-placed t h.sound)) (fit-in h)));
      }

  pub constants-payload : table ≡ record { row = row.Run; word = get_or (words_in s) 9 0; count = get_or (words_in s) 10 0; width = 8 } →
      TablePut c table p.at s pool p out out' q → PayloadPut section.Constant c s pool p out out' q
  unfolding part_in runs_in constant_part
  constants-payload e x =
      record {
        each =
            λ t h.
            copied_runs (ap join (same_runs t.constants))
            (copied-as (ap (offset_table 8 8 0) (same_bytes c t.constants))
            (((subst (λ k. TablePut c k p.at s pool p out out' q) e x).each 0 (add-zero p.at)).each t.constants
            (placed-in h 9 10 (constants-placed t)) (fit-in h)));
      }

  pub globals-payload : table ≡ record { row = row.Global; word = get_or (words_in s) 11 0; count = get_or (words_in s) 12 0; width = 0 } →
      RowsPut c table (λ xs. spelling table.count ++ join (map (row_bytes c table.row) xs)) s pool p out out' q →
      PayloadPut section.Global c s pool p out out' q
  unfolding part_in runs_in global_part row_bytes
  globals-payload e x =
      record {
        each =
            λ t h.
            let pl = placed-in h 11 12 (globals-placed t h.sound) in
            copied_runs (globals-run t.globals)
            (copied-as (ap₂ (λ n d. spelling n ++ join (map (global_bytes d) t.globals)) (sym pl.number) h.version)
            ((subst (λ k. RowsPut c k (λ xs. spelling k.count ++ join (map (row_bytes c k.row) xs)) s pool p out out' q) e x).each
            t.globals pl (fit-in h)));
      }

  pub functions-payload : table ≡ record { row = row.Function; word = get_or (words_in s) 13 0; count = get_or (words_in s) 14 0; width = 0 } →
      RowsPut c table (λ xs. spelling table.count ++ join (map (row_bytes c table.row) xs)) s pool p out out' q →
      PayloadPut section.Func c s pool p out out' q
  unfolding part_in runs_in function_part row_bytes
  functions-payload e x =
      record {
        each =
            λ t h.
            let pl = placed-in h 13 14 (functions-placed t h.sound) in
            copied_runs (ap join (body-runs t.functions))
            (copied-as (ap (λ n. spelling n ++ join (map function_bytes t.functions)) (sym pl.number))
            ((subst (λ k. RowsPut c k (λ xs. spelling k.count ++ join (map (row_bytes c k.row) xs)) s pool p out out' q) e x).each
            t.functions pl (fit-in h)));
      }

-- The producer's index, one less than its word.
module _ {s pool : List ℕ} {p : Pen} {v : ℕ} where
  named : {n next : ℕ} {out out' : List ℕ} → 1 ≤ v → n ≡ v - 1 → Wrote (spelling n) p.at out out' next → (o : Option ℕ) → v ≡ producer_word o →
      Copied [] [] (producer_bytes o) s pool p out out' (record { word = p.word; run = p.run; at = next })
  unfolding producer_word producer_bytes
  named h m x none e = absurd (omega arith)
  named {n} h m x (some i) e = let k : n ≡ i = omega arith in copied-as (ap spelling k) (copied-put x)

  unnamed : (out : List ℕ) → ¬ (1 ≤ v) → (o : Option ℕ) → v ≡ producer_word o → Copied [] [] (producer_bytes o) s pool p out out p
  unfolding producer_word producer_bytes
  unnamed out h none e = copied-nil p out
  unnamed out h (some i) e = absurd (h (omega arith))

pub producer-named : {c : VersionClass} {s pool : List ℕ} {p : Pen} {next v n : ℕ} {out out' : List ℕ} → v ≡ get_or (words_in s) 3 0 → 1 ≤ v →
    n ≡ v - 1 → Wrote (spelling n) p.at out out' next →
    PayloadPut section.Producer c s pool p out out' (record { word = p.word; run = p.run; at = next })
unfolding part_in runs_in producer_part
producer-named e z m x =
    record { each = λ t h. named z m x t.producer (e ∙ ap (λ ws. get_or ws 3 0) h.words ∙ producer-word t) }

pub producer-unnamed : {c : VersionClass} {s pool : List ℕ} {p : Pen} {v : ℕ} (out : List ℕ) → v ≡ get_or (words_in s) 3 0 → ¬ (1 ≤ v) →
    PayloadPut section.Producer c s pool p out out p
unfolding part_in runs_in producer_part
producer-unnamed out e z =
    record { each = λ t h. unnamed out z t.producer (e ∙ ap (λ ws. get_or ws 3 0) h.words ∙ producer-word t) }
