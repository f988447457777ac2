-- Starts are told to fit one by one, and so are those of all tables. Assumes nothing.
use Rattle.images.proofs.LawsTables.{ids-le}
use Rattle.std.proofs.Math.Nat.{sub-zero}
use Rattle.std.proofs.Common.{sym, ◌∙◌, true≢false, ◌≡◌, ℕ, suc, ◌^◌, ◌<◌, ◌≤◌, Bool, true, false, List, [], ◌∷◌, map, length, get_or, refl, ap, subst, arith}
use Rattle.exact.specs.Tiling.{join, sums}
use Rattle.enums.specs.declared.VersionClass.{VersionClass}
use Rattle.encoding.specs.Out.{Tells}
use Rattle.encoding.proofs.LawsTells.{tells-yes, tells-no}
use Rattle.format.specs.Tables.{Tables}
use Rattle.format.specs.Explains.{class}
use Rattle.format.specs.Sound.{All, Fits}
use Rattle.format.specs.Image.{type_bytes, attribute_bytes}
use Rattle.sheet.specs.Store.{words_in}
use Rattle.images.specs.Rows.{RowOf, row_run, row_bytes, Placed}
use Rattle.images.specs.Tables.{ids, NextEntry, Starting}
use Rattle.images.specs.Sections.{Holds}
use Rattle.images.specs.Starts.{StartsTold, FitTold}
use Rattle.images.specs.declared.rows.Row.{Row}
use Rattle.images.specs.declared.rows.Row.TheVariants as row
use Rattle.images.specs.declared.rows.Table.{Table}
use Rattle.images.proofs.LawsTables.{starting-next}
use Rattle.images.proofs.LawsSheet.{strings-placed, types-placed, attributes-placed, lists-placed, strings-run, pool-parts, pool-fits, same_bytes, types-run, attributes-run, lists-run}
use Rattle.images.proofs.LawsSections.{placed-in, fit-in}
use Rattle.images.proofs.LawsDebug.{same-ids}
use Rattle.images.proofs.LawsSizes.{table-small}

module _ (c : VersionClass) (k : Row) (unit : RowOf k → List ℕ) (s : List ℕ) where
  abbrev Answer : ℕ → Bool → List (RowOf k) → Type 0
  Answer start r xs = Tells (All (Fits 32) (sums start (map unit xs))) r

  none_each : (n word start : ℕ) → n ≤ 0 → (xs : List (RowOf k)) → Starting c k xs n s word start → Answer start true xs
  none_each n word start z [] h = tells-yes tt
  none_each n word start z (x ∷ xs) h = let m = h.placed.number in absurd (omega arith)

  large-each : (n word start : ℕ) → 0 < n → 0xFFFFFFFF < start → (xs : List (RowOf k)) → Starting c k xs n s word start →
      Answer start false xs
  large-each n word start z g [] h = let m = h.placed.number in absurd (omega arith)
  large-each n word start z g (x ∷ xs) h = tells-no (λ a. let b = a.0 in omega (arith, b, g))

  more-each : {n m : ℕ} (start : ℕ) → n ≡ suc m → start ≤ 0xFFFFFFFF → {word word' start' : ℕ} {r : Bool} →
      ((x : RowOf k) → length (unit x) ≤ length (row_bytes c k x)) → NextEntry c k unit s word start word' start' →
      StartsTold c k unit m s word' start' r → (xs : List (RowOf k)) → Starting c k xs n s word start → Answer start r xs
  more-each start z g le y t [] h = let m = h.placed.number in absurd (omega arith)
  more-each start z g {r = r} le y t (x ∷ xs) h =
      let q = starting-next x xs z (le x) y h in
      let t' = subst (λ j. Answer j r xs) q.moved (t.each xs q.rest) in
      let fits : Fits 32 start = omega arith in
      record { holds = λ e. (fits, t'.holds e); fails = λ e w. t'.fails e w.1 }

-- No start, one that is too large, or one and then the others.
pub told_none : (c : VersionClass) (k : Row) (unit : RowOf k → List ℕ) (n : ℕ) (s : List ℕ) (word start : ℕ) → n ≤ 0 →
    StartsTold c k unit n s word start true
told_none c k unit n s word start z = record { each = none_each c k unit s n word start z }

pub told-large : (c : VersionClass) (k : Row) (unit : RowOf k → List ℕ) (n : ℕ) (s : List ℕ) (word start : ℕ) → 0 < n →
    0xFFFFFFFF < start → StartsTold c k unit n s word start false
told-large c k unit n s word start z g = record { each = large-each c k unit s n word start z g }

pub told_more : {c : VersionClass} {k : Row} {unit : RowOf k → List ℕ} {s : List ℕ} {n m : ℕ} (start : ℕ) → n ≡ suc m → start ≤ 0xFFFFFFFF →
    {word word' start' : ℕ} {r : Bool} → ((x : RowOf k) → length (unit x) ≤ length (row_bytes c k x)) →
    NextEntry c k unit s word start word' start' → StartsTold c k unit m s word' start' r →
    StartsTold c k unit n s word start r
told_more {c} {k} {unit} {s} start z g le y t = record { each = more-each c k unit s start z g le y t }

-- What is told of the table whose start and count are two words of the contents.
pub record TableTold (c : VersionClass) (s : List ℕ) (k : Row) (unit : RowOf k → List ℕ) (i j : ℕ) (r : Bool) : Type 0 where
  pub told : StartsTold c k unit (get_or (words_in s) j 0) s (get_or (words_in s) i 0) 0 r

pub entries-told : {c : VersionClass} {s : List ℕ} {r : Bool} (k : Row) (i j w : ℕ) {table : Table} →
    table ≡ record { row = k; word = get_or (words_in s) i 0; count = get_or (words_in s) j 0; width = w } →
    StartsTold c table.row (row_bytes c table.row) table.count s table.word 0 r → TableTold c s k (row_bytes c k) i j r
entries-told {c} {s} {r} k i j w e x =
    record { told = subst (λ t. StartsTold c t.row (row_bytes c t.row) t.count s t.word 0 r) e x }

pub lists-told : {c : VersionClass} {s : List ℕ} {r : Bool} {table : Table} →
    table ≡ record { row = row.List; word = get_or (words_in s) 17 0; count = get_or (words_in s) 18 0; width = 4 } →
    ((d : VersionClass) → StartsTold d row.List ids table.count s table.word 0 r) → TableTold c s row.List ids 17 18 r
lists-told {c} {s} {r} e x = record { told = subst (λ t. StartsTold c row.List ids t.count s t.word 0 r) e (x c) }

module _ {c : VersionClass} {s : List ℕ} (t : Tables) (h : Holds c t s) where
  -- What is told of rows that stand there.
  told-placed : {k : Row} {unit : RowOf k → List ℕ} {i j : ℕ} {r : Bool} (xs : List (RowOf k)) (ss : List ℕ) → TableTold c s k unit i j r →
      Placed c k xs (words_in s) (get_or (words_in s) i 0) (get_or (words_in s) j 0) → length (join (map (row_run k) xs)) < 2 ^ 64 →
      length (join (map (row_bytes c k) xs)) < 2 ^ 64 → sums 0 (map unit xs) ≡ ss → Tells (All (Fits 32) ss) r
  told-placed {r = r} xs ss x p fr fb e =
      subst (λ l. Tells (All (Fits 32) l) r) e
      (x.told.each xs (record { placed = p; words = fit-in h; runs = fr; bytes = omega arith }))

  strings-fit : {r : Bool} → TableTold c s row.Run (row_bytes c row.Run) 5 6 r → Tells (All (Fits 32) (sums 0 t.strings)) r
  strings-fit x =
      let lr = strings-run t.strings in
      let lb = ap (λ l. length (join l)) (same_bytes c t.strings) in
      let lp = pool-parts t in
      let fp = pool-fits t h.sound in
      told-placed t.strings (sums 0 t.strings) x (placed-in h 5 6 (strings-placed t)) (omega arith) (omega arith)
      (ap (sums 0) (same_bytes c t.strings))

  types-fit : {r : Bool} → TableTold c s row.Type (row_bytes c row.Type) 7 8 r →
      Tells (All (Fits 32) (sums 0 (map (type_bytes (class t.version)) t.types))) r
  unfolding row_bytes
  types-fit x =
      let lr = ap length (types-run t.types) in
      let e = ap (λ d. map (type_bytes d) t.types) h.version in
      let lb = ap (λ l. length (join l)) e in
      let ls = table-small t.types (types-placed t h.sound) in
      let ff = h.fits in
      told-placed t.types (sums 0 (map (type_bytes (class t.version)) t.types)) x
      (placed-in h 7 8 (types-placed t h.sound)) (omega arith) (omega arith) (ap (sums 0) e)

  attributes-fit : {r : Bool} → TableTold c s row.Attribute (row_bytes c row.Attribute) 15 16 r →
      Tells (All (Fits 32) (sums 0 (map attribute_bytes t.attributes))) r
  unfolding row_bytes
  attributes-fit x =
      let lr = ap length (attributes-run t.attributes) in
      let ls = table-small t.attributes (attributes-placed t h.sound) in
      let ff = h.fits in
      told-placed t.attributes (sums 0 (map attribute_bytes t.attributes)) x
      (placed-in h 15 16 (attributes-placed t h.sound)) (omega arith) (omega arith) refl

  lists-fit : {r : Bool} → TableTold c s row.List ids 17 18 r → Tells (All (Fits 32) (sums 0 t.lists)) r
  unfolding row_bytes
  lists-fit x =
      let lr = ap length (lists-run t.lists) in
      let ls = table-small t.lists (lists-placed t) in
      let ff = h.fits in
      told-placed t.lists (sums 0 t.lists) x (placed-in h 17 18 (lists-placed t)) (omega arith) (omega arith)
      (ap (sums 0) (same-ids t.lists))

-- What is told of some of the starts of whatever tables the sheet stands for.
pub record PartTold (c : VersionClass) (s : List ℕ) (P : Tables → Type 0) (r : Bool) : Type 0 where
  pub each : (t : Tables) → Holds c t s → Tells (P t) r

abbrev pub StringsFit : Tables → Type 0
StringsFit t = All (Fits 32) (sums 0 t.strings)

abbrev pub TypesFit : Tables → Type 0
TypesFit t = All (Fits 32) (sums 0 (map (type_bytes (class t.version)) t.types))

abbrev pub ListsFit : Tables → Type 0
ListsFit t = All (Fits 32) (sums 0 t.lists)

abbrev pub AttributesFit : Tables → Type 0
AttributesFit t = All (Fits 32) (sums 0 (map attribute_bytes t.attributes))

module _ {c : VersionClass} {s : List ℕ} where
  pub strings-told : {r : Bool} → TableTold c s row.Run (row_bytes c row.Run) 5 6 r → PartTold c s StringsFit r
  strings-told x = record { each = λ t h. strings-fit t h x }

  pub types-told : {r : Bool} → TableTold c s row.Type (row_bytes c row.Type) 7 8 r → PartTold c s TypesFit r
  types-told x = record { each = λ t h. types-fit t h x }

  pub ids-told : {r : Bool} → TableTold c s row.List ids 17 18 r → PartTold c s ListsFit r
  ids-told x = record { each = λ t h. lists-fit t h x }

  pub attributes-told : {r : Bool} → TableTold c s row.Attribute (row_bytes c row.Attribute) 15 16 r → PartTold c s AttributesFit r
  attributes-told x = record { each = λ t h. attributes-fit t h x }

  -- Where the first part fits, the second decides; where it does not, both do not.
  pub both-told : {P Q : Tables → Type 0} {a b r : Bool} → PartTold c s P a → a ≡ true → PartTold c s Q b → r ≡ b →
      PartTold c s (λ t. P t × Q t) r
  both-told x e y i =
      record {
        each =
            λ t h.
            record {
              holds = λ k. ((x.each t h).holds e, (y.each t h).holds (sym i ∙ k));
              fails = λ k w. (y.each t h).fails (sym i ∙ k) w.1;
            };
      }

  pub both-not : {P Q : Tables → Type 0} {a r : Bool} → PartTold c s P a → a ≡ false → r ≡ a → PartTold c s (λ t. P t × Q t) r
  both-not x e i =
      record {
        each =
            λ t h. record { holds = λ k. absurd (true≢false (sym k ∙ i ∙ e)); fails = λ k w. (x.each t h).fails e w.0 };
      }

  -- All starts are those of the four tables.
  pub all_told : {r : Bool} → PartTold c s (λ t. ((StringsFit t × TypesFit t) × ListsFit t) × AttributesFit t) r → FitTold c s r
  all_told x =
      record {
        each =
            λ t h.
            let q = x.each t h in
            record {
              holds =
                  λ e.
                  let w = q.holds e in
                  record { strings = w.0.0.0; types = w.0.0.1; lists = w.0.1; attributes = w.1 };
              fails = λ e f. q.fails e (((f.strings, f.types), f.lists), f.attributes);
            };
      }

-- The laws by which the check proves what asks of the starts of a table.
pub ruleset told = (sub-zero, ids-le, told_none, told-large, told_more)
