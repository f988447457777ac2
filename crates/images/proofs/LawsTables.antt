-- A count, padding, starts and rows, one after the other, are an offset table. Assumes nothing.
use Rattle.std.proofs.Math.Nat.{sub-zero}
use Rattle.std.proofs.Common.{refl, ◌≡◌, ℕ, suc, ◌+◌, ◌-◌, ◌*◌, ◌%◌, ◌^◌, ◌<◌, ◌≤◌, List, [], ◌∷◌, ◌++◌, map, length, get_or, replicate, sym, ap, ◌∙◌, subst, inr, append_assoc, mod-eq_of_lt, zero-add, arith, length-append}
use lib.ListN.{length-map}
use Rattle.exact.specs.Fixed.{bytes_of}
use Rattle.exact.specs.Padding.{gap}
use Rattle.exact.specs.Tiling.{join, sums}
use Rattle.exact.proofs.LawsTiling.{length-sums}
use Rattle.enums.specs.Container.{P}
use Rattle.enums.specs.declared.VersionClass.{VersionClass}
use Rattle.encoding.specs.Varint.{spelling}
use Rattle.encoding.specs.Out.{flat}
use Rattle.encoding.proofs.LawsArray.{length-flat}
use Rattle.format.specs.Image.{padded_numbers, offset_table}
use Rattle.sheet.specs.Store.{words_in}
use Rattle.sheet.specs.Lies.{Lies}
use Rattle.images.specs.Put.{Wrote}
use Rattle.images.specs.Rows.{RowOf, row_words, row_run, row_bytes, RowCopied, RowsPut}
use Rattle.images.specs.Tables.{count_and_padding, CountPut, ids, NextEntry, Starting, StartsPut, ListStartsPut, TablePut}
use Rattle.images.specs.declared.fields.Pen.{Pen}
use Rattle.images.specs.declared.rows.Row.{Row}
use Rattle.images.specs.declared.rows.Row.TheVariants as row
use Rattle.images.specs.declared.rows.Table.{Table}
use Rattle.sheet.proofs.LawsLies.{lies-front, lies-back, lies-first}
use Rattle.images.proofs.LawsPut.{puts_then, wrote_then, wrote-nil, wrote-nowhere}
use Rattle.images.proofs.LawsFields.{copied-then, copied-put, copied-ready, copied-as}
use Rattle.images.proofs.LawsRows.{placed-fits}

-- A count, and padding from the place behind it.
pub count-put : {n a base at : ℕ} {out mid out' : List ℕ} {next place r : ℕ} → Wrote (spelling n) at out mid next →
    place ≡ next - base → Wrote (replicate (gap a place) P) next mid out' r → CountPut n a base at out out' r
count-put {n} {a} {base} {at} {mid = mid} {out' = out'} {next = next} {place = place} {r = r} x m y =
    record {
      each =
          λ i e.
          record {
            puts =
                λ h.
                let g = replicate (gap a (i + length (spelling n))) P in
                let l = length-append (spelling n) g in
                let p = x.puts (omega arith) in
                let d = p.place in
                let k : place ≡ i + length (spelling n) = omega arith in
                let z = subst (λ j. Wrote (replicate (gap a j) P) next mid out' r) k y in
                let f : next + length g < 2 ^ 64 = omega arith in
                puts_then p (z.puts f);
          };
    }

-- An entry that was put into an output of no bytes is that long.
pub entry_next : {c : VersionClass} {k : Row} {s pool : List ℕ} {word start start' : ℕ} {z : Pen} {l : List ℕ} →
    RowCopied c k s pool (record { word = word; run = 0; at = 0 }) [] l z → start' ≡ (start + z.at) % 2 ^ 64 →
    NextEntry c k (row_bytes c k) s word start z.word start'
entry_next {c} {k} {start = start} {z = z} x e =
    record {
      each =
          λ y g i fw fr fb.
          let v =
          (x.each y g).moved
          (record { words = i; lent = inr refl; words_fit = fw; run_fits = omega arith; bytes_fit = omega arith }) in
          let a : z.at ≡ length (row_bytes c k y) = v.puts.place ∙ zero-add (length (row_bytes c k y)) in
          let b : start + z.at < 2 ^ 64 = omega arith in
          (v.word, e ∙ mod-eq_of_lt b ∙ ap (λ n. start + n) a);
    }

-- A list says how many ids it has.
pub list-next : {c : VersionClass} {s : List ℕ} {word start count first word' start' : ℕ} → count ≡ get_or (words_in s) word 0 →
    first ≡ (word + 1) % 2 ^ 64 → word' ≡ (first + count) % 2 ^ 64 → start' ≡ (start + count) % 2 ^ 64 →
    NextEntry c row.List ids s word start word' start'
unfolding row_words row_run row_bytes
list-next {word = word} {start} {count} {first} ec ef ew es =
    record {
      each =
          λ l g i fw fr fb.
          let a : count ≡ length l = ec ∙ lies-first (length l) l i in
          let n = length-flat 8 l in
          let b : first ≡ word + 1 = ef ∙ mod-eq_of_lt (omega arith) in
          let d : first + count < 2 ^ 64 = omega arith in
          let f : start + count < 2 ^ 64 = omega arith in
          let w = ew ∙ mod-eq_of_lt d in
          let u = es ∙ mod-eq_of_lt f in
          (omega arith, omega arith);
    }

-- A list has fewer ids than bytes.
pub ids-le : (c : VersionClass) (l : List ℕ) → length (ids l) ≤ length (row_bytes c row.List l)
unfolding row_bytes
ids-le c l = let n = length-flat 8 l in omega arith

-- What is so of the other rows once the next is known.
pub record Stepped (c : VersionClass) (k : Row) (unit : RowOf k → List ℕ) (x : RowOf k) (xs : List (RowOf k)) (n : ℕ) (s : List ℕ) (start word' start' : ℕ) : Type 0 where
  pub moved : start' ≡ start + length (unit x)
  pub rest : Starting c k xs n s word' start'

pub starting-next : {c : VersionClass} {k : Row} {unit : RowOf k → List ℕ} {s : List ℕ} {n word start word' start' : ℕ} (x : RowOf k)
    (xs : List (RowOf k)) {m : ℕ} → n ≡ suc m → length (unit x) ≤ length (row_bytes c k x) → NextEntry c k unit s word start word' start' →
    Starting c k (x ∷ xs) n s word start → Stepped c k unit x xs m s start word' start'
starting-next {c} {k} {s = s} {word = word} {word' = word'} x xs z le y h =
    let lw = length-append (row_words k x) (join (map (row_words k) xs)) in
    let lr = length-append (row_run k x) (join (map (row_run k) xs)) in
    let lb = length-append (row_bytes c k x) (join (map (row_bytes c k) xs)) in
    let fw = placed-fits (x ∷ xs) h.placed h.words in
    let fr = h.runs in
    let fb = h.bytes in
    let i = h.placed.lies in
    let v = y.each x h.placed.good.0 (lies-front (row_words k x) (join (map (row_words k) xs)) i) (omega arith) (omega arith) (omega arith) in
    let ew = v.0 in
    let es = v.1 in
    let m = h.placed.number in
    record {
      moved = es;
      rest =
          record {
            placed =
                record {
                  lies =
                      subst (λ j. Lies (words_in s) j (join (map (row_words k) xs))) (sym ew)
                      (lies-back (row_words k x) (join (map (row_words k) xs)) i);
                  number = omega arith;
                  good = h.placed.good.1;
                };
            words = h.words;
            runs = omega arith;
            bytes = omega arith;
          };
    }

module _ (c : VersionClass) (k : Row) (unit : RowOf k → List ℕ) (w : ℕ) (s : List ℕ) where
  none_each : (n word start at : ℕ) (out : List ℕ) → n ≤ 0 → (xs : List (RowOf k)) → Starting c k xs n s word start →
      Wrote (flat w (sums start (map unit xs))) at out out at
  none_each n word start at out z [] h = wrote-nil at out
  none_each n word start at out z (x ∷ xs) h = let m = h.placed.number in absurd (omega arith)

  more-each : {n m : ℕ} (start : ℕ) → n ≡ suc m → {word at next r word' start' : ℕ} {out mid out' : List ℕ} →
      ((x : RowOf k) → length (unit x) ≤ length (row_bytes c k x)) → Wrote (bytes_of w start) at out mid next →
      NextEntry c k unit s word start word' start' → StartsPut c k unit w m s word' start' next mid out' r →
      (xs : List (RowOf k)) → Starting c k xs n s word start → Wrote (flat w (sums start (map unit xs))) at out out' r
  more-each start z le x y g [] h = let m = h.placed.number in absurd (omega arith)
  more-each start z {next = next} {r} {mid = mid} {out'} le x y g (v ∷ vs) h =
      let q = starting-next v vs z (le v) y h in
      wrote_then x (subst (λ j. Wrote (flat w (sums j (map unit vs))) next mid out' r) q.moved (g.each vs q.rest))

-- No starts, or one and then the others.
pub starts_none : (c : VersionClass) (k : Row) (unit : RowOf k → List ℕ) (w n : ℕ) (s : List ℕ) (word start at : ℕ) (out : List ℕ) → n ≤ 0 →
    StartsPut c k unit w n s word start at out out at
starts_none c k unit w n s word start at out z = record { each = none_each c k unit w s n word start at out z }

pub starts_more : {c : VersionClass} {k : Row} {unit : RowOf k → List ℕ} {w : ℕ} {s : List ℕ} {n m : ℕ} → n ≡ suc m →
    {word start at next r word' start' : ℕ} {out mid out' : List ℕ} →
    ((x : RowOf k) → length (unit x) ≤ length (row_bytes c k x)) → Wrote (bytes_of w start) at out mid next →
    NextEntry c k unit s word start word' start' →
    StartsPut c k unit w m s word' start' next mid out' r → StartsPut c k unit w n s word start at out out' r
starts_more {c} {k} {unit} {w} {s} z {start = start} le x y g = record { each = more-each c k unit w s start z le x y g }

-- Into an output of no bytes no start is put, and each takes the place its width further.
pub starts-skipped : (c : VersionClass) (k : Row) (unit : RowOf k → List ℕ) (w n : ℕ) (s : List ℕ) (word start at r : ℕ) (out : List ℕ) →
    length out ≡ 0 → r ≡ (at + (n * w) % 2 ^ 64) % 2 ^ 64 → StartsPut c k unit w n s word start at out out r
starts-skipped c k unit w n s word start at r out e p =
    record {
      each =
          λ xs h.
          let es = map unit xs in
          let m : length (sums start es) ≡ n = length-sums start es ∙ length-map xs unit ∙ h.placed.number in
          let d = length-flat w (sums start es) ∙ ap (λ (j : ℕ). j * w) m in
          wrote-nowhere (flat w (sums start es)) (n * w) at r out d e (p ∙ omega arith);
    }

-- Where the last of the lists ends.
pub record ListsEnd (n : ℕ) (s : List ℕ) (word start end : ℕ) : Type 0 where
  pub each : (c : VersionClass) (xs : List (List ℕ)) → Starting c row.List xs n s word start → end ≡ start + length (join xs)

end-each : (n : ℕ) (s : List ℕ) (word start : ℕ) → n ≤ 0 → (c : VersionClass) (xs : List (List ℕ)) →
    Starting c row.List xs n s word start → start ≡ start + length (join xs)
end-each n s word start z c [] h = omega arith
end-each n s word start z c (x ∷ xs) h = let m = h.placed.number in absurd (omega arith)

pub lists-end : (n : ℕ) (s : List ℕ) (word start : ℕ) → n ≤ 0 → ListsEnd n s word start start
lists-end n s word start z = record { each = end-each n s word start z }

on-each : {n m : ℕ} → n ≡ suc m → {s : List ℕ} {word start word' start' end : ℕ} →
    ((c : VersionClass) → NextEntry c row.List ids s word start word' start') → ListsEnd m s word' start' end →
    (c : VersionClass) (xs : List (List ℕ)) → Starting c row.List xs n s word start → end ≡ start + length (join xs)
on-each z y g c [] h = let m = h.placed.number in absurd (omega arith)
on-each z y g c (x ∷ xs) h =
    let q = starting-next x xs z (ids-le c x) (y c) h in
    let e = q.moved in
    let f = g.each c xs q.rest in
    let l = length-append x (join xs) in
    omega arith

pub lists-on : {n m : ℕ} → n ≡ suc m → {s : List ℕ} {word start word' start' end : ℕ} →
    ((c : VersionClass) → NextEntry c row.List ids s word start word' start') → ListsEnd m s word' start' end →
    ListsEnd n s word start end
lists-on z y g = record { each = on-each z y g }

pub list-starts : {w n : ℕ} {s : List ℕ} {word start at end next : ℕ} {out out' : List ℕ} →
    ((c : VersionClass) → StartsPut c row.List ids w n s word start at out out' next) → ListsEnd n s word start end →
    ListStartsPut w n s word start at out out' end next
list-starts x y = record { puts = x; ends = y.each }

-- A count, padding and numbers are so however they are put.
pub padded-as : (w a i n : ℕ) (vs : List ℕ) → length vs ≡ n → count_and_padding n a i ++ flat w vs ≡ padded_numbers w a i vs
unfolding padded_numbers
padded-as w a i n vs e =
    rw e (append_assoc (spelling n) (replicate (gap a (i + length (spelling n))) P) (flat w vs))

table-bytes : (n w i : ℕ) (es : List (List ℕ)) → length es ≡ n →
    count_and_padding n w i ++ (flat w (sums 0 es) ++ join es) ≡ offset_table w w i es
unfolding offset_table
table-bytes n w i es e =
    sym (append_assoc (count_and_padding n w i) (flat w (sums 0 es)) (join es)) ∙
    ap (λ l. l ++ join es) (padded-as w w i n (sums 0 es) (length-sums 0 es ∙ e))

-- An offset table was put.
pub table-put : {c : VersionClass} {t : Table} {s pool : List ℕ} {base n1 n2 : ℕ} {p : Pen} {out m1 m2 out' : List ℕ} {q : Pen} →
    CountPut t.count t.width base p.at out m1 n1 →
    StartsPut c t.row (row_bytes c t.row) t.width t.count s t.word 0 n1 m1 m2 n2 →
    RowsPut c t (λ xs. join (map (row_bytes c t.row) xs)) s pool (record { word = p.word; run = p.run; at = n2 }) m2 out' q →
    TablePut c t base s pool p out out' q
table-put {c} {t} x y z =
    record {
      each =
          λ i e.
          record {
            each =
                λ xs pl fw.
                let es = map (row_bytes c t.row) xs in
                let b = table-bytes t.count t.width i es (length-map xs (row_bytes c t.row) ∙ pl.number) in
                let a1 = length-append (count_and_padding t.count t.width i) (flat t.width (sums 0 es) ++ join es) in
                let a2 = length-append (flat t.width (sums 0 es)) (join es) in
                copied-as b
                (copied-ready
                (λ h.
                let fr = h.run_fits in
                let fb = h.bytes_fit in
                let start : Starting c t.row xs t.count _ t.word 0 =
                record { placed = pl; words = fw; runs = omega arith; bytes = omega arith } in
                copied-then (copied-put (x.each i e)) (copied-then (copied-put (y.each xs start)) (z.each xs pl fw))));
          };
    }

-- The laws by which the check proves what puts offset tables, and goes from entry to entry.
pub ruleset tables = (count-put, table-put, entry_next, list-next, sub-zero, ids-le, starts_none, starts_more, starts-skipped, lists-end, lists-on, list-starts)
