-- What is read of a payload has at most eight words and one byte of pool for each of its bytes, and a refusal names a
-- place of the payload or its end; so it is at a section's place in the file. Assumes nothing.
use mathlib.Core.Path.{◌≡◌, refl, sym, ap, subst}
use Prim.Native.Nat.{ℕ, ◌+◌, ◌*◌, ◌≤◌}
use native.Mathlib.Omega.{arith}
use native.Mathlib.Decide.{dec_le}
use mathlib.Core.Bool.{true, Bool-discrete}
use mathlib.Core.List.{List, map, map-map}
use lib.ListN.{length, take, drop, length-append, length-drop, length-map, take-append-drop}
use lib.Seq.{length-take-le}
use Rattle.exact.specs.Got.{Got, got, stop, follow}
use Rattle.exact.specs.Sequence.{of}
use Rattle.exact.specs.Choice.{choose}
use Rattle.exact.specs.Repeat.{Many, nil, cons, counted_of}
use Rattle.exact.specs.Tiling.{join}
use Rattle.exact.specs.Upto.{upto_of}
use Rattle.exact.specs.Entries as table
use Rattle.exact.proofs.LawsExact.{stop-not-got, got-value, stop-place}
use Rattle.exact.proofs.LawsSequence.{follow-inv}
use Rattle.exact.proofs.LawsEntries.{raised-inv}
use Rattle.enums.specs.declared.VersionClass.{VersionClass}
use Rattle.format.specs.Tables.{Function}
use Rattle.format.specs.Functions.{Located, apart, FunctionRow, function, Functions}
use Rattle.format.specs.Debug.{DebugTables, no_debug}
use Rattle.format.specs.Sound.{All, Fits}
use Rattle.format.specs.DecodeTables.{strings_at, constants_at}
use Rattle.format.specs.DecodeTypes.{types_at}
use Rattle.format.specs.DecodeRows.{globals_at, functions_at}
use Rattle.format.specs.DecodeDebug.{debug_at}
use Rattle.format.proofs.LawsTables.{strings-ends, constants-ends, types-ends}
use Rattle.format.proofs.LawsRows.{globals-ends, functions-ends}
use Rattle.format.proofs.LawsDebug.{debug-ends}
use Rattle.format.proofs.LawsSoundItems.{bytes-front, bytes_back}
use Rattle.format.proofs.LawsSoundTables.{Runs, runs-of-table, types-sized, globals-sized, functions-sized, debug-sized}
use Rattle.format.proofs.LawsBelow.{strings-below, constants-below, types-below, globals-below, functions-below}
use Rattle.format.proofs.LawsSoundWords.{ones-length}
use Rattle.container.specs.declared.sections.SectionPlace.{SectionPlace}
use Rattle.payloads.specs.Fill.{Rows}
use Rattle.payloads.specs.Tables.{run_rows, filling}
use Rattle.format.specs.Sheet.{function_row_of, function_words}
use Rattle.payloads.specs.Rows.{global_rows, bodied, function_rows}
use Rattle.payloads.specs.TypeRows.{type_rows}
use Rattle.payloads.specs.DebugRows.{debug_words}
use Rattle.payloads.specs.declared.pass.Table.{Table}
use Rattle.payloads.specs.declared.pass.Table.TheVariants.{Strings, Types, Constants, Globals, Functions as Funcs}
use Rattle.payloads.specs.Pass.{no_rows, table_in, payload_in, in_place, attribute_table, list_table}

-- Rows made of what was read are refused where that is.
rows-below : {A : Type 0} (f : A → Rows) (n : ℕ) (g : Got A) → ((c k : ℕ) → g ≡ stop c k → k ≤ n) → (c k : ℕ) →
    follow g (λ v j. got (f v) j) ≡ stop c k → k ≤ n
unfolding follow
rows-below f n (got v j) h c k e = absurd (stop-not-got (sym e))
rows-below f n (stop d m) h c k e = omega (arith, h d m refl, stop-place e)

-- A refusal of a table's payload names one of its places or its end.
pub table_below : (t : Table) (c : VersionClass) (l : List ℕ) (n k : ℕ) → table_in t c l ≡ stop n k → k ≤ length l
unfolding table_in filling type_rows global_rows function_rows
table_below Strings c l = rows-below _ (length l) (strings_at 0 l 0) (strings-below 0 l)
table_below Types c l = rows-below _ (length l) (types_at c 0 l 0) (types-below c 0 l)
table_below Constants c l = rows-below _ (length l) (constants_at 0 l 0) (constants-below 0 l)
table_below Globals c l = rows-below _ (length l) (globals_at c 0 l 0) (globals-below c 0 l)
table_below Funcs c l = rows-below _ (length l) (functions_at 0 l 0) (functions-below 0 l)

-- Rows of n bytes: at most eight words and one byte of pool for each.
abbrev pub SmallRows : ℕ → Rows → Type 0
SmallRows n v = (length v.words ≤ 8 * n) × (length (join v.runs) ≤ n)

-- Rows made of what was read are small if they are so where that was read.
rows-small : {A : Type 0} (f : A → Rows) (n : ℕ) (g : Got A) → ((w : A) (i : ℕ) → g ≡ got w i → SmallRows n (f w)) → (v : Rows) (j : ℕ) →
    follow g (λ v j. got (f v) j) ≡ got v j → SmallRows n v
rows-small f n g h v j e =
    let (w, i, a, b) = follow-inv g (λ v j. got (f v) j) v j e in subst (SmallRows n) (got-value b) (h w i a)

runs-small : (n : ℕ) (vs : List (List ℕ)) → Runs n vs → SmallRows n (run_rows vs)
runs-small n vs r = (omega (arith, r.count, ones-length (map length vs), length-map vs length), r.size)

-- A body is a part of its function's bytes, ..
body-within : (o i : ℕ) (bs : List ℕ) (x : Located Function) → FunctionRow o i bs x → length x.value.body ≤ length bs
body-within o i bs x (function {name_bytes = p} {signature_bytes = q} {location_bytes = r} {length_bytes = u} {body = y} _ _ _ _ _) =
    simp length-append (omega arith)

-- .. and so are the bodies of several ..
bodies-within : (o n i : ℕ) (bs : List ℕ) (xs : List (Located Function)) → Many (FunctionRow o) n i bs xs →
    length (join (map (λ f. f.body) (apart xs).values)) ≤ length bs
bodies-within o n i bs xs nil = omega arith
bodies-within o n i bs xs (cons {n = m} {i = k} {bs = y} {cs = z} {v = x} {vs = us} r t) =
    rw (length-append, length-append) (omega (arith, body-within o k y x r, bodies-within o m _ z us t))

-- .. of a payload.
functions-within : (o i : ℕ) (bs : List ℕ) (v : table.Rows Function) → Functions o i bs v →
    length (join (map (λ f. f.body) v.values)) ≤ length bs
functions-within o i bs v (of {v = xs} (upto_of left (counted_of {c = c} {bs = y} s m))) =
    simp length-append (omega (arith, bodies-within o (length xs) _ y xs m))

-- What is read of a table's payload is small.
pub table-small : (t : Table) (c : VersionClass) (l : List ℕ) (v : Rows) (j : ℕ) → table_in t c l ≡ got v j → All (Fits 8) l →
    SmallRows (length l) v
unfolding table_in filling type_rows global_rows function_rows
table-small Strings c l v j e b =
    rows-small _ (length l) (strings_at 0 l 0)
    (λ w i g. runs-small (length l) w.values (runs-of-table 3 4 0 (length l) l w ((strings-ends 0).sound l 0 w i g).0 b (omega arith))) v j e
table-small Types c l v j e b =
    rows-small _ (length l) (types_at c 0 l 0)
    (λ w i g. ((types-sized c 0 (length l) l w ((types-ends c 0).sound l 0 w i g).0 b (omega arith)).size, omega arith)) v j e
table-small Constants c l v j e b =
    rows-small _ (length l) (constants_at 0 l 0)
    (λ w i g. runs-small (length l) w.values (runs-of-table 7 8 0 (length l) l w ((constants-ends 0).sound l 0 w i g).0 b (omega arith))) v j e
table-small Globals c l v j e b =
    rows-small _ (length l) (globals_at c 0 l 0)
    (λ w i g. ((globals-sized c 0 (length l) l w ((globals-ends c 0).sound l 0 w i g).0 b (omega arith)).size, omega arith)) v j e
table-small Funcs c l v j e b =
    rows-small (λ w. bodied w.values) (length l) (functions_at 0 l 0)
    (λ w i g.
    let r : Functions 0 0 l w = ((functions-ends 0).sound l 0 w i g).0 in
    let s = (functions-sized 0 (length l) l w r b (omega arith)).0.size in
    (rw (map-map function_words function_row_of w.values) s, functions-within 0 0 l w r)) v j e

-- What is read of Debug's payload: both its tables are small, ..
pub debug-small : (l : List ℕ) (t : DebugTables) (j : ℕ) → debug_at l 0 ≡ got t j → All (Fits 8) l →
    SmallRows (length l) (attribute_table t) × SmallRows (length l) (list_table t)
debug-small l t j e b =
    let s = debug-sized (length l) l t (debug-ends.sound l 0 t j e).0 b (omega arith) in
    ((s.0.size, omega arith), (s.1.size, omega arith))

-- .. and so are their words together.
pub debug-words-small : (l : List ℕ) (t : DebugTables) (j : ℕ) → debug_at l 0 ≡ got t j → All (Fits 8) l →
    length (debug_words t) ≤ 16 * length l
unfolding debug_words
debug-words-small l t j e b =
    let s = debug-small l t j e b in rw length-append (omega (arith, s.0.0, s.1.0))

-- A payload is no longer than its place says, nor than the file, and has its bytes.
take_short : (n : ℕ) (l : List ℕ) → length (take n l) ≤ n
take_short n l =
    elim (dec_le n (length l)) [
      | yes h ↦ rw (length-take-le n l h) (omega arith)
      | no h ↦ omega (arith, ap length (take-append-drop n l), length-append (take n l) (drop n l))
    ]

pub payload-short : (file : List ℕ) (p : SectionPlace) → (length (payload_in file p) ≤ p.len) × (length (payload_in file p) ≤ length file)
payload-short file p =
    let s = drop p.start file in (
      take_short p.len s,
      omega (arith, ap length (take-append-drop p.len s), length-append (take p.len s) (drop p.len s), length-drop p.start file),
    )

pub payload-bytes : (file : List ℕ) (p : SectionPlace) → All (Fits 8) file → All (Fits 8) (payload_in file p)
payload-bytes file p b =
    let s = drop p.start file in
    let d : All (Fits 8) s = bytes_back (take p.start file) s (subst (All (Fits 8)) (sym (take-append-drop p.start file)) b) in
    bytes-front (payload_in file p) (drop p.len s) (subst (All (Fits 8)) (sym (take-append-drop p.len s)) d)

module _ {A : Type 0} (file : List ℕ) (p : SectionPlace) (f : List ℕ → Got A) (e : A) where
  -- What is read at a place is what is read of its payload, or e.
  pub in-place-got : (v : A) (j : ℕ) → in_place file p f e ≡ got v j → (Q : A → Type 0) → Q e →
      ((i : ℕ) → f (payload_in file p) ≡ got v i → Q v) → Q v
  unfolding in_place choose
  in-place-got v j h Q absent present = go (Bool-discrete p.presence true) h
    where
      go : (d : Dec (p.presence ≡ true)) →
          choose d (table.raised p.start (f (payload_in file p))) (got e 0) ≡ got v j → Q v
      go (yes d) h = let (i, g) = raised-inv p.start (f (payload_in file p)) v j h in present i g
      go (no d) h = subst Q (got-value h) absent

  raised-place : (n : ℕ) (g : Got A) (c k : ℕ) → table.raised n g ≡ stop c k → (m : ℕ) × (g ≡ stop c m) × (k ≡ n + m)
  unfolding table.raised
  raised-place n (got v j) c k h = absurd (stop-not-got (sym h))
  raised-place n (stop d m) c k h = (m, cc, sym (stop-place h))

  -- A refusal at a place names a place of its payload or its end.
  pub in-place-below : ((c k : ℕ) → f (payload_in file p) ≡ stop c k → k ≤ length (payload_in file p)) → (c k : ℕ) →
      in_place file p f e ≡ stop c k → (p.start ≤ k) × (k ≤ p.start + p.len)
  unfolding in_place choose
  in-place-below x c k h = go (Bool-discrete p.presence true) h
    where
      go : (d : Dec (p.presence ≡ true)) →
          choose d (table.raised p.start (f (payload_in file p))) (got e 0) ≡ stop c k → (p.start ≤ k) × (k ≤ p.start + p.len)
      go (yes d) h =
          let (m, g, n) = raised-place p.start (f (payload_in file p)) c k h in
          (omega arith, omega (arith, x c m g, (payload-short file p).0))
      go (no d) h = absurd (stop-not-got (sym h))

small-more : (m n : ℕ) (v : Rows) → m ≤ n → SmallRows m v → SmallRows n v
small-more m n v h s = (omega (arith, s.0), omega (arith, s.1))

-- A table that is read at a place of the file is small.
pub in-place-small : (t : Table) (c : VersionClass) (file : List ℕ) (p : SectionPlace) (v : Rows) (j : ℕ) →
    in_place file p (table_in t c) no_rows ≡ got v j → All (Fits 8) file → SmallRows (length file) v
in-place-small t c file p v j e b =
    in-place-got file p (table_in t c) no_rows v j e (SmallRows (length file)) (omega arith, omega arith)
    (λ i g. small-more _ (length file) v (payload-short file p).1 (table-small t c (payload_in file p) v i g (payload-bytes file p b)))

-- So are the two tables of Debug.
pub in-place-debug-small : (file : List ℕ) (p : SectionPlace) (t : DebugTables) (j : ℕ) →
    in_place file p (λ l. debug_at l 0) no_debug ≡ got t j → All (Fits 8) file →
    SmallRows (length file) (attribute_table t) × SmallRows (length file) (list_table t)
in-place-debug-small file p t j e b =
    in-place-got file p (λ l. debug_at l 0) no_debug t j e
    (λ t. SmallRows (length file) (attribute_table t) × SmallRows (length file) (list_table t))
    ((omega arith, omega arith), (omega arith, omega arith))
    (λ i g.
    let s = debug-small (payload_in file p) t i g (payload-bytes file p b) in
    let h = (payload-short file p).1 in
    (small-more _ (length file) (attribute_table t) h s.0, small-more _ (length file) (list_table t) h s.1))
