-- How the search for a row goes on, past entries and past functions: the whole table is judged, and the place of the row is
-- kept. Assumes nothing.
use Rattle.std.specs.Prelude as std
use Rattle.std.specs.Prelude.{Result, Ok, Err}
use Rattle.reading.specs.Shown.{stop_of}
use Rattle.entries.specs.declared.places.Place.{Place}
use mathlib.Core.Path.{◌≡◌, refl, sym, ap, ◌∙◌}
use Prim.Native.Nat.{ℕ, zero, suc, ◌+◌, ◌-◌, ◌≤◌, ◌<◌}
use native.Mathlib.Decide.{dec_lt}
use native.Mathlib.Nat.{add_assoc}
use native.Mathlib.Omega.{arith}
use mathlib.Core.Option.{Option, none, some}
use mathlib.Core.List.{List, [], ◌∷◌}
use lib.ListN.{length, take, drop}
use Rattle.exact.specs.Got.{Got, got, stop, follow}
use Rattle.exact.specs.Basic.{pure}
use Rattle.exact.specs.Sequence as sequence
use Rattle.exact.specs.Choice.{choose}
use Rattle.exact.specs.Repeat.{times, counted}
use Rattle.exact.specs.Upto.{upto, whole}
use Rattle.exact.specs.Entries.{Rows, raised, entries_of, from, rows}
use Rattle.exact.proofs.LawsChoice.{choose_yes, choose_no}
use Rattle.enums.specs.Refusals as refusals
use Rattle.reading.specs.Numbers.{varint_at}
use Rattle.reading.specs.declared.Refused.{Refused}
use Rattle.format.specs.Tables.{Function}
use Rattle.format.specs.Functions.{Located, apart}
use Rattle.format.specs.DecodeRows.{function_at, functions_at}
use Rattle.format.specs.Views.{Span}
use Rattle.entries.specs.Starts.{starts_at, got_starts, Lies, number_or, end_at}
use Rattle.entries.specs.Rows.{bytes_in, located_in}
use Rattle.entries.specs.Places.{span_in, row_in, got_place, Finds, bodies_of, bodies_at, bodies_from, entries_in, table_at}
use Rattle.entries.specs.declared.starts.Starts.{Starts}
use Rattle.entries.specs.declared.rows.FuncRow.{FuncRow}
use Rattle.entries.proofs.LawsEntries.{offset-stop, offset-got, run_of, ahead, Before, run-first, entries_left, left-bad, left-good}

-- No rows, and one row before others.
abbrev no_rows : Rows (List ℕ)
no_rows = record { at = []; values = [] }

abbrev before : ℕ → List ℕ → Rows (List ℕ) → Rows (List ℕ)
before a x v = record { at = a ∷ v.at; values = x ∷ v.values }

-- The place of a row, and its length.
abbrev span : ℕ → ℕ → Span
span a n = record { offset = a; size = n }

span_none : (n : ℕ) → span_in no_rows n ≡ none
unfolding span_in
span_none n = choose_no (dec_lt n 0) _ _ (omega arith)

span-here : (a : ℕ) (x : List ℕ) (v : Rows (List ℕ)) → span_in (before a x v) 0 ≡ some (span a (length x))
unfolding span_in
span-here a x v = choose_yes (dec_lt 0 (length (x ∷ v.values))) _ _ (omega arith)

span-later : (a : ℕ) (x : List ℕ) (v : Rows (List ℕ)) (n : ℕ) → span_in (before a x v) (suc n) ≡ span_in v n
unfolding span_in
span-later a x v n =
    elim (dec_lt n (length v.values)) [
      | yes h ↦
          choose_yes (dec_lt (suc n) (length (x ∷ v.values))) _ _ (omega arith) ∙ sym (choose_yes (dec_lt n (length v.values)) _ _ h)
      | no h ↦ choose_no (dec_lt (suc n) (length (x ∷ v.values))) _ _ (omega arith) ∙ sym (choose_no (dec_lt n (length v.values)) _ _ h)
    ]

-- What is answered of row n where the rows from i on are still to be read, g: the place that was kept, if row n was passed.
unfoldable pub later : Option Span → ℕ → ℕ → Got (Rows (List ℕ)) → Got (Option Span)
later kept n i g = follow g (λ v j. got (choose (dec_lt n i) kept (span_in v (n - i))) j)

-- The search stands before row i. The place of row n is kept once it is passed.
pub record Seeking (l : List ℕ) (n i : ℕ) (rest all : ℕ → Got (Rows (List ℕ))) (found : Result (std.Option Place) Refused) : Type 0 where
  pub kept : ℕ → Option Span
  pub shown : (o : ℕ) → got_place o l found ≡ got (kept o) (length l)
  pub fresh : (o : ℕ) → i ≤ n → kept o ≡ none
  pub goes : (o : ℕ) → row_in n (all o) ≡ later (kept o) n i (rest o)

module _ (l : List ℕ) (n : ℕ) (all : ℕ → Got (Rows (List ℕ))) where
  -- It begins before the first row ..
  pub seek-none : (rest : ℕ → Got (Rows (List ℕ))) → ((o : ℕ) → all o ≡ rest o) → Seeking l n 0 rest all (Ok std.None)
  unfolding row_in later follow
  seek-none rest e =
      record { kept = λ o. none; shown = λ o. refl; fresh = λ o h. refl; goes = λ o. first (all o) ∙ ap (later none n 0) (e o) }
    where
      first : (g : Got (Rows (List ℕ))) → row_in n g ≡ later none n 0 g
      first (got v j) =
          let e : n - 0 ≡ n = omega arith in
          let h : ¬ (n < 0) = omega arith in
          ap (λ s. got s j) (sym (choose_no (dec_lt n 0) none _ h ∙ ap (span_in v) e))
      first (stop c k) = refl

  module _ (i : ℕ) (rest : ℕ → Got (Rows (List ℕ))) (found : Result (std.Option Place) Refused) (s : Seeking l n i rest all found) where
    -- .. a row is refused, and so is the table ..
    pub seek_stop : (x : Refused) → ((o : ℕ) → rest o ≡ stop_of x) → Finds all l n (Err x)
    unfolding later follow
    seek_stop x e = record { found = λ o. sym (s.goes o ∙ rw (e o)) }

    -- .. none are left ..
    pub seek-end : ((o : ℕ) → rest o ≡ got no_rows (length l)) → Finds all l n found
    unfolding later follow
    seek-end e = record { found = λ o. s.shown o ∙ sym (s.goes o ∙ rw (e o) (ap (λ z. got z (length l)) (last o))) }
      where
        last : (o : ℕ) → choose (dec_lt n i) (s.kept o) (span_in no_rows (n - i)) ≡ s.kept o
        last o =
            elim (dec_lt n i) [
              | yes h ↦ choose_yes (dec_lt n i) _ _ h
              | no h ↦ choose_no (dec_lt n i) _ _ h ∙ span_none (n - i) ∙ sym (s.fresh o (omega arith))
            ]

    module _ (rest' : ℕ → Got (Rows (List ℕ))) (a : ℕ) (x : List ℕ)
        (e : (o : ℕ) → rest o ≡ follow (rest' o) (λ v j. got (before (o + a) x v) j)) where
      -- .. this is the row ..
      pub seek-here : n ≡ i → (size : ℕ) → size ≡ length x → (found' : Result (std.Option Place) Refused) → found' ≡ Ok (std.Some record { start = a; len = size }) →
          Seeking l n (i + 1) rest' all found'
      unfolding later follow
      seek-here h size m found' t =
          record {
            kept = λ o. some (span (o + a) size);
            shown = λ o. ap (got_place o l) t;
            fresh = λ o k. let z : ⊥ = omega arith in absurd z;
            goes = λ o. s.goes o ∙ ap (later (s.kept o) n i) (e o) ∙ here o (rest' o);
          }
        where
          here : (o : ℕ) (g : Got (Rows (List ℕ))) →
              later (s.kept o) n i (follow g (λ v j. got (before (o + a) x v) j)) ≡ later (some (span (o + a) size)) n (i + 1) g
          here o (got v j) =
              let p : ¬ (n < i) = omega arith in
              let q : n < i + 1 = omega arith in
              let z : n - i ≡ 0 = omega arith in
              ap (λ t. got t j)
              (choose_no (dec_lt n i) _ _ p ∙ ap (span_in (before (o + a) x v)) z ∙ span-here (o + a) x v ∙
              ap (λ k. some (span (o + a) k)) (sym m) ∙ sym (choose_yes (dec_lt n (i + 1)) _ _ q))
          here o (stop c k) = refl

      -- .. or another one.
      pub seek-past : ¬ (n ≡ i) → (found' : Result (std.Option Place) Refused) → found' ≡ found → Seeking l n (i + 1) rest' all found'
      unfolding later follow
      seek-past h found' t =
          record {
            kept = s.kept;
            shown = λ o. ap (got_place o l) t ∙ s.shown o;
            fresh = λ o k. s.fresh o (omega arith);
            goes = λ o. s.goes o ∙ ap (later (s.kept o) n i) (e o) ∙ past o (rest' o);
          }
        where
          past : (o : ℕ) (g : Got (Rows (List ℕ))) →
              later (s.kept o) n i (follow g (λ v j. got (before (o + a) x v) j)) ≡ later (s.kept o) n (i + 1) g
          past o (got v j) =
              elim (dec_lt n i) [
                | yes p ↦
                    let q : n < i + 1 = omega arith in
                    ap (λ t. got t j) (choose_yes (dec_lt n i) _ _ p ∙ sym (choose_yes (dec_lt n (i + 1)) _ _ q))
                | no p ↦
                    let q : ¬ (n < i + 1) = omega arith in
                    let z : n - i ≡ suc (n - (i + 1)) = omega arith in
                    ap (λ t. got t j)
                    (choose_no (dec_lt n i) _ _ p ∙ ap (span_in (before (o + a) x v)) z ∙ span-later (o + a) x v (n - (i + 1)) ∙
                    sym (choose_no (dec_lt n (i + 1)) _ _ q))
              ]
          past o (stop c k) = refl

-- A table that is refused is the answer ..
pub finds-stop : (l : List ℕ) (n : ℕ) (x : Refused) (g : ℕ → Got (Rows (List ℕ))) → ((o : ℕ) → g o ≡ stop_of x) →
    Finds g l n (Err x)
unfolding row_in follow
finds-stop l n x g e = record { found = λ o. sym (ap (row_in n) (e o)) }

-- .. and so is what is found in the same rows.
pub finds-as : (l : List ℕ) (n : ℕ) (r : Result (std.Option Place) Refused) (g h : ℕ → Got (Rows (List ℕ))) → ((o : ℕ) → g o ≡ h o) → Finds h l n r →
    Finds g l n r
finds-as l n r g h e f = record { found = λ o. f.found o ∙ ap (row_in n) (sym (e o)) }

-- The last k entries of a table: those that a cursor at s and i stands before.
module _ (w : ℕ) (l run : List ℕ) (b : ℕ) where
  abbrev pub rows_left : ℕ → ℕ → ℕ → ℕ → Got (Rows (List ℕ))
  rows_left k s i o = rows o refusals.bounds 0 whole (ahead w run k s i) l b

  pub rows_none : (k s i : ℕ) → k ≤ 0 → (o : ℕ) → rows_left k s i o ≡ got no_rows (length l)
  unfolding rows entries_of follow
  rows_none zero s i h o = refl
  rows_none (suc k) s i h o = let z : ⊥ = omega arith in absurd z

  module _ (some_bytes : 0 < w) (size : ℕ) (long : size ≡ length (drop b l)) (k r s i : ℕ) (more : k ≡ suc r) (cursor : Before w size run k s i) where
    pub rows-bad : (c x : ℕ) → end_at w 0 size s run i ≡ stop c x → (o : ℕ) → rows_left k s i o ≡ stop c x
    unfolding rows follow
    rows-bad c x e o = rw (left-bad w 0 whole run b (length l) (drop b l) some_bytes size long k r s i more cursor c x e)

    pub rows-good : (e j : ℕ) → end_at w 0 size s run i ≡ got e j → (o : ℕ) →
        rows_left k s i o ≡ follow (rows_left r e j o) (λ v h. got (before (o + (b + s)) (drop s (take e (drop b l))) v) h)
    unfolding rows follow raised whole
    rows-good e j q o =
        let (x, y, z, f, g) = left-good w 0 whole run b (length l) (drop b l) some_bytes size long k r s i more cursor e j q in
        rw (f, g) (go (entries_left w 0 whole run b (length l) (drop b l) r e j))
      where
        go : (g : Got (List (List ℕ))) →
            follow (follow g (λ vs h. got (drop s (take e (drop b l)) ∷ vs) h))
            (λ vs h. got (record { at = from (o + b) (s ∷ ahead w run r e j); values = vs }) h) ≡
            follow (follow g (λ vs h. got (record { at = from (o + b) (ahead w run r e j); values = vs }) h))
            (λ v h. got (before (o + (b + s)) (drop s (take e (drop b l))) v) h)
        go (got vs h) = rw add_assoc
        go (stop c h) = refl

-- The search begins before all entries that starts in the payload cut.
pub seek-entries : (w size : ℕ) (l : List ℕ) (n : ℕ) (t : Starts) → 0 < w → Lies w l t → (s j k : ℕ) →
    got s j ≡ number_or w size (run_of l t) 0 → t.count ≡ k →
    Before w size (run_of l t) k s j × Seeking l n 0 (rows_left w l (run_of l t) t.data k s j) (λ o. entries_in o w l t) (Ok std.None)
unfolding entries_in
seek-entries w size l n t bytes lies s j k e h =
    let (b, a) = run-first w size l t bytes lies s j e in
    rw (← h) (b, seek-none l n _ _ (λ o. ap (λ ss. rows o refusals.bounds 0 whole ss l t.data) a))

-- The starts of a table were refused, or cut its entries.
module _ (w : ℕ) (l : List ℕ) where
  pub table-stop : (c k : ℕ) → starts_at w w l 0 ≡ stop c k → (o : ℕ) → table_at o w l ≡ stop c k
  table-stop c k e o = offset-stop whole w w o l 0 c k e

  pub table_got : (t : Starts) → starts_at w w l 0 ≡ got_starts w l (Ok t) → (o : ℕ) → table_at o w l ≡ entries_in o w l t
  unfolding entries_in
  table_got t e o = offset-got whole w w o l 0 _ _ _ e

-- The bodies of m functions.
module _ (l : List ℕ) (i : ℕ) where
  pub bodies-none : (m : ℕ) → m ≤ 0 → (o : ℕ) → bodies_from o m l i ≡ got no_rows (length l)
  unfolding bodies_from times pure follow
  bodies-none zero h o = refl
  bodies-none (suc m) h o = let z : ⊥ = omega arith in absurd z

  pub bodies-stop : (m r c k : ℕ) → m ≡ suc r → ((o : ℕ) → function_at o l i ≡ stop c k) → (o : ℕ) → bodies_from o m l i ≡ stop c k
  unfolding bodies_from times sequence.bind follow
  bodies-stop m r c k h e o = rw (h, e o)

  pub bodies-more : (m r : ℕ) (f : FuncRow) (k : ℕ) → m ≡ suc r → ((o : ℕ) → function_at o l i ≡ got (located_in o l f k) k) → (o : ℕ) →
      bodies_from o m l i ≡ follow (bodies_from o r l k) (λ v j. got (before (o + f.body) (bytes_in l f k) v) j)
  unfolding bodies_from times sequence.bind sequence.mapped pure follow
  bodies-more m r f k h e o = rw (h, e o) (go (times r (function_at o) l k))
    where
      go : (g : Got (List (Located Function))) →
          follow (follow g (λ vs j. got (located_in o l f k ∷ vs) j)) (λ vs j. got (bodies_of (apart vs)) (length l)) ≡
          follow (follow g (λ vs j. got (bodies_of (apart vs)) (length l))) (λ v j. got (before (o + f.body) (bytes_in l f k) v) j)
      go (got vs j) = refl
      go (stop c j) = refl

-- The section: its count is refused, or its functions follow.
pub bodies-refused : (l : List ℕ) (c k : ℕ) → varint_at l 0 ≡ stop c k → (o : ℕ) → bodies_at o l 0 ≡ stop c k
unfolding bodies_at functions_at upto counted sequence.bind sequence.mapped follow
bodies-refused l c k e o = rw e

pub bodies-counted : (l : List ℕ) (m i : ℕ) → varint_at l 0 ≡ got m i → (o : ℕ) → bodies_at o l 0 ≡ bodies_from o m l i
unfolding bodies_at bodies_from functions_at upto counted sequence.bind sequence.mapped pure follow
bodies-counted l m i e o = rw e (go (times m (function_at o) l i))
  where
    go : (g : Got (List (Located Function))) →
        follow (follow (follow g (λ v j. got v (length l))) (λ v j. got (apart v) j)) (λ v j. got (bodies_of v) j) ≡
        follow g (λ vs j. got (bodies_of (apart vs)) (length l))
    go (got vs j) = refl
    go (stop c k) = refl
