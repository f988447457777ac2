-- Steps that copy the words of a row and its run put the row, and rows one after the other put a table's.
-- Assumes nothing.
use Rattle.std.proofs.Math.Nat.{sub-zero}
use Rattle.std.proofs.Common.{◌≡◌, ℕ, suc, ◌+◌, ◌-◌, ◌%◌, ◌^◌, ◌<◌, ◌≤◌, List, [], ◌∷◌, ◌++◌, map, length, get_or, take, drop, sym, refl, ap, ◌∙◌, subst, append-nil, add-zero, mod-eq_of_lt, arith, length-drop, take-append-drop, length-take-le}
use Rattle.exact.specs.Tiling.{join}
use Rattle.enums.specs.declared.VersionClass.{VersionClass}
use Rattle.enums.specs.Debug.{field_counts}
use Rattle.enums.proofs.LawsDebug.{counts-few}
use Rattle.format.specs.Tables.{Attribute}
use Rattle.format.specs.Sheet.{attribute_fields, attribute_words}
use Rattle.format.specs.Sound.{All, SoundAttribute}
use Rattle.format.specs.Image.{varints, attribute_bytes}
use Rattle.sheet.specs.Store.{words_in}
use Rattle.images.specs.Put.{RunPut}
use Rattle.images.specs.Fields.{bytes_as, many_as, Copied, NumberCopied, NumbersCopied, WordsSkipped}
use Rattle.images.specs.Rows.{RunTaken, RowOf, GoodRow, row_words, row_run, row_bytes, RowCopied, Placed, RowsPut}
use Rattle.images.specs.declared.fields.Number.{Number}
use Rattle.images.specs.declared.fields.Number.TheVariants.{Varint, Byte}
use Rattle.images.specs.declared.fields.Pen.{Pen}
use Rattle.images.specs.declared.rows.Row.{Row}
use Rattle.images.specs.declared.rows.Table.{Table}
use Rattle.sheet.proofs.LawsLies.{lies-first, lies-inside}
use Rattle.images.proofs.LawsFields.{copied-then, copied-nil, copied-knowing, copied-as, skipped-one}
use Rattle.images.proofs.LawsTypes.{byte-as, many-varints}

-- A run of the pool was put, and the pen moved behind it.
pub run-taken : (n : ℕ) (pool : List ℕ) (p : Pen) (out out' : List ℕ) (next r : ℕ) → RunPut pool p.run n p.at out out' next →
    r ≡ (p.run + n) % 2 ^ 64 → RunTaken n pool p out out' (record { word = p.word; run = r; at = next })
run-taken n pool p out out' next r x e =
    record {
      each =
          λ s run l.
          record {
            moved =
                λ h.
                let k : p.run + n < 2 ^ 64 = let f = h.run_fits in omega arith in
                record {
                  word = sym (add-zero p.word);
                  run_end = e ∙ mod-eq_of_lt k ∙ ap (λ m. p.run + m) (sym l);
                  puts = (x.each run l h.lent).puts h.bytes_fit;
                };
          };
    }

-- A count that is known where it is read, and as many bytes of the pool.
pub taken-by : {n : ℕ} {s pool : List ℕ} {p q r : Pen} {out mid out' : List ℕ} {k : Number} → n ≡ get_or (words_in s) p.word 0 →
    NumberCopied k s p out mid q → RunTaken n pool q mid out' r → (run : List ℕ) →
    Copied (length run ∷ []) run (bytes_as k (length run) ++ run) s pool p out out' r
taken-by {s = s} {pool = pool} e x y run =
    copied-knowing (λ l. copied-then (x.each pool (length run)) (y.each s run (sym (e ∙ lies-first (length run) [] l))))

-- The same, of a count that is the sheet's alone.
pub taken-behind : {n : ℕ} {s pool : List ℕ} {p q r : Pen} {out out' : List ℕ} → n ≡ get_or (words_in s) p.word 0 →
    WordsSkipped 1 p q → RunTaken n pool q out out' r → (run : List ℕ) → Copied (length run ∷ []) run run s pool p out out' r
taken-behind {s = s} {pool = pool} {out = out} e x y run =
    copied-knowing
    (λ l. copied-then (skipped-one x s pool out (length run)) (y.each s run (sym (e ∙ lies-first (length run) [] l))))

-- A byte, and one that is there from 13.3 on.
pub byte-copied : {s : List ℕ} {p q : Pen} {out out' : List ℕ} → NumberCopied Byte s p out out' q → (pool : List ℕ) (v : ℕ) →
    v < 256 → Copied (v ∷ []) [] (v ∷ []) s pool p out out' q
byte-copied x pool v h = copied-as (byte-as v h) (x.each pool v)

pub words-as : {ws ws' run bs s pool : List ℕ} {p q : Pen} {out out' : List ℕ} → ws ≡ ws' →
    Copied ws run bs s pool p out out' q → Copied ws' run bs s pool p out out' q
words-as {run = run} {bs = bs} {s = s} {pool = pool} {p = p} {q = q} {out = out} {out' = out'} e f =
    subst (λ l. Copied l run bs s pool p out out' q) e f

-- The first n of six fields are put, and the others are not.
pub fields_copied : {s : List ℕ} {p q r : Pen} {out out' : List ℕ} (n : ℕ) → n ≤ 6 → NumbersCopied Varint n s p out out' q →
    WordsSkipped (6 - n) q r → (pool vs : List ℕ) → length vs ≡ 6 →
    Copied vs [] (varints (take n vs)) s pool p out out' r
fields_copied n h x y pool vs l =
    let a : length (take n vs) ≡ n = length-take-le n vs (omega arith) in
    let b : length (drop n vs) ≡ 6 - n = length-drop n vs ∙ ap (λ m. m - n) l in
    words-as (take-append-drop n vs)
    (copied-as (append-nil (many_as Varint (take n vs)) ∙ many-varints (take n vs))
    (copied-then (x.each pool (take n vs) a) (y.each _ pool (drop n vs) _ b)))

-- Whatever n rows of this kind the sheet has next, they were copied.
pub record RowsCopied (c : VersionClass) (k : Row) (n : ℕ) (s pool : List ℕ) (p : Pen) (out out' : List ℕ) (q : Pen) : Type 0 where
  pub each : (xs : List (RowOf k)) → length xs ≡ n → All (GoodRow c k) xs →
      Copied (join (map (row_words k) xs)) (join (map (row_run k) xs)) (join (map (row_bytes c k) xs)) s pool p out out' q

-- No rows, or one and then the others.
module _ (c : VersionClass) (k : Row) {s pool : List ℕ} where
  none_each : (p : Pen) (out : List ℕ) (xs : List (RowOf k)) → length xs ≡ 0 →
      Copied (join (map (row_words k) xs)) (join (map (row_run k) xs)) (join (map (row_bytes c k) xs)) s pool p out out p
  none_each p out [] e = copied-nil p out
  none_each p out (x ∷ xs) e = absurd (omega arith)

  more-each : {p q r : Pen} {out mid out' : List ℕ} {n m : ℕ} → n ≡ suc m → RowCopied c k s pool p out mid q →
      RowsCopied c k m s pool q mid out' r → (xs : List (RowOf k)) → length xs ≡ n → All (GoodRow c k) xs →
      Copied (join (map (row_words k) xs)) (join (map (row_run k) xs)) (join (map (row_bytes c k) xs)) s pool p out out' r
  more-each z f g [] e h = absurd (omega arith)
  more-each {m = m} z f g (x ∷ xs) e h =
      let l : length xs ≡ m = omega arith in
      copied-then (f.each x h.0) (g.each xs l h.1)

pub rows_none : (c : VersionClass) (k : Row) (n : ℕ) (s pool : List ℕ) (p : Pen) (out : List ℕ) → n ≤ 0 →
    RowsCopied c k n s pool p out out p
rows_none c k n s pool p out z =
    record { each = λ xs e h. let l : length xs ≡ 0 = omega arith in none_each c k p out xs l }

pub rows_more : {c : VersionClass} {k : Row} {s pool : List ℕ} {p q r : Pen} {out mid out' : List ℕ} {n m : ℕ} → n ≡ suc m →
    RowCopied c k s pool p out mid q → RowsCopied c k m s pool q mid out' r → RowsCopied c k n s pool p out out' r
rows_more {c} {k} z f g = record { each = more-each c k z f g }

-- Rows that stand there are inside.
pub placed-fits : {c : VersionClass} {k : Row} {ws : List ℕ} {word count : ℕ} (xs : List (RowOf k)) → Placed c k xs ws word count →
    length ws < 2 ^ 64 → word + length (join (map (row_words k) xs)) < 2 ^ 64
placed-fits {k = k} xs p h = omega (arith, lies-inside (join (map (row_words k) xs)) p.lies)

-- The rows of a table were put: they stand where it says.
pub rows-put : {c : VersionClass} {t : Table} {s pool : List ℕ} {p q : Pen} {out out' : List ℕ} →
    RowsCopied c t.row t.count s pool (record { word = t.word; run = p.run; at = p.at }) out out' q →
    RowsPut c t (λ xs. join (map (row_bytes c t.row) xs)) s pool p out out' (record { word = p.word; run = q.run; at = q.at })
rows-put {p = p} x =
    record {
      each =
          λ xs pl fw.
          record {
            moved =
                λ h.
                let v =
                (x.each xs pl.number pl.good).moved
                (record {
                  words = pl.lies;
                  lent = h.lent;
                  words_fit = placed-fits xs pl fw;
                  run_fits = h.run_fits;
                  bytes_fit = h.bytes_fit;
                }) in
                record { word = sym (add-zero p.word); run_end = v.run_end; puts = v.puts };
          };
    }

-- A tag, its fields, and the fields that it does not have.
pub attribute-copied : {s pool : List ℕ} {p q r v : Pen} {out mid out' : List ℕ} {tag n : ℕ} (a : Attribute) → SoundAttribute a →
    tag ≡ get_or (words_in s) p.word 0 → n ≡ get_or field_counts tag 0 → NumberCopied Byte s p out mid q →
    NumbersCopied Varint n s q mid out' r → WordsSkipped (6 - n) r v →
    Copied (attribute_words a) [] (attribute_bytes a) s pool p out out' v
unfolding attribute_words attribute_bytes attribute_fields
attribute-copied {pool = pool} {tag = tag} {n = n} a h e m x y z =
    let b : n ≤ 6 = omega (arith, m, counts-few tag) in
    let t : a.tag < 256 = let k = h.tag_known in omega arith in
    copied-knowing
    (λ l.
    let i : n ≡ get_or field_counts a.tag 0 = m ∙ ap (λ t. get_or field_counts t 0) (e ∙ lies-first _ _ l) in
    copied-then (byte-copied x pool a.tag t)
    (copied-as (ap (λ k. varints (take k (attribute_fields a))) i) (fields_copied n b y z pool (attribute_fields a) refl)))

-- The laws by which the check proves what puts rows.
pub ruleset rows = (sub-zero, run-taken, taken-behind, attribute-copied, counts-few, rows_none, rows_more, rows-put)
