-- How the steps of a pass follow the model. Assumes nothing.
use mathlib.Core.Path.{◌≡◌, refl, sym, ap, ap₂, ◌∙◌, subst}
use Prim.Native.Nat.{ℕ, ◌+◌, ◌*◌, ◌^◌, ◌≤◌}
use native.Mathlib.Nat.{add-zero}
use native.Mathlib.Omega.{arith}
use mathlib.Core.Bool.{true, false, Bool-discrete, true≢false}
use mathlib.Core.List.{List, [], ◌∷◌, ◌++◌}
use lib.ListN.{length, length-append}
use Rattle.std.specs.Prelude.{Result, Ok, Err}
use Rattle.exact.specs.Got.{Got, got, stop, follow}
use Rattle.exact.specs.Tiling.{join}
use Rattle.exact.specs.Entries.{raised}
use Rattle.exact.proofs.LawsExact.{stop-not-got, got-value}
use Rattle.exact.proofs.LawsChoice.{choose_yes, choose_no}
use Rattle.enums.specs.Numbered.{stage_number}
use Rattle.enums.specs.declared.Stage.{Stage}
use Rattle.enums.specs.declared.VersionClass.{VersionClass}
use Rattle.format.specs.Tables.{TypeRow}
use Rattle.format.specs.Read.{Read, accepted, refused, at_stage, map_read}
use Rattle.format.specs.Views.{and_then}
use Rattle.format.specs.Decode.{most_bytes}
use Rattle.format.specs.Sound.{All, Fits}
use Rattle.format.proofs.Decoded.{accepted-value, refused-not-accepted}
use Rattle.container.specs.Shown.{refused_of, stopped_at}
use Rattle.container.specs.declared.sections.SectionPlace.{SectionPlace}
use Rattle.container.specs.declared.sections.Stopped.{Stopped}
use Rattle.reading.specs.Shown.{stop_of}
use Rattle.reading.specs.declared.Refused.{Refused}
use Rattle.sheet.specs.Store.{put_words, put_runs}
use Rattle.sheet.proofs.LawsStore.{put_runs-append}
use Rattle.payloads.specs.Answers.{raised_answer}
use Rattle.payloads.specs.Fill.{Rows, counted, behind, Fills}
use Rattle.payloads.specs.Fill as fill
use Rattle.payloads.specs.TypeRows.{type_rows}
use Rattle.payloads.specs.declared.answers.Filled.{Filled}
use Rattle.payloads.proofs.LawsFill.{fills-got, fills-err, fills-read, fills-stopped}
use Rattle.payloads.proofs.LawsFilling.{join-append}
use Rattle.payloads.specs.Pass.{
  no_rows,
  table_in,
  number_of,
  payload_in,
  in_place,
  all_words,
  all_runs,
  filled_sheet,
  Begun,
  Pass,
  filled_of,
  pass_of,
  Small,
  Progress,
  Goes,
  with_table,
}
use Rattle.payloads.specs.declared.pass.Table.{Table}
use Rattle.payloads.specs.declared.pass.Table.TheVariants.{Strings, Types, Constants, Globals, Functions}
use Rattle.payloads.proofs.LawsSizes.{in-place-small}
use Rattle.payloads.proofs.LawsFilled.{words_more, runs-more, filled_more}

-- A table without runs leaves any pool as it is.
pub types_fill : (at : Filled) (g : Got (List TypeRow)) {s s' : List ℕ} {r : Result (ℕ × Filled) Refused} (p : List ℕ) →
    Fills at (type_rows g) s s' [] [] r → Fills at (type_rows g) s s' p p r
unfolding type_rows follow put_runs
types_fill at (got vs k) p f =
    record {
      answer = f.answer;
      words = f.words;
      runs = λ v j e. ap (λ x. put_runs p at.bytes x.runs) (got-value e);
    }
types_fill at (stop c k) p f = record { answer = f.answer; words = f.words; runs = λ v j e. absurd (stop-not-got e) }

module _ {A : Type 0} (file : List ℕ) (p : SectionPlace) (f : List ℕ → Got A) (e : A) where
  -- An absent section ..
  pub in-absent : p.presence ≡ false → in_place file p f e ≡ got e 0
  unfolding in_place
  in-absent h = choose_no (Bool-discrete p.presence true) _ _ (λ t. true≢false (sym t ∙ h))

  -- .. and one that is there.
  pub in-present : p.presence ≡ true → in_place file p f e ≡ raised p.start (f (payload_in file p))
  unfolding in_place
  in-present h = choose_yes (Bool-discrete p.presence true) _ _ h

module _ (at : Filled) (file : List ℕ) (p : SectionPlace) (f : List ℕ → Got Rows) where
  -- No rows of an absent section.
  pub absent-fills : {s q : List ℕ} → p.presence ≡ false → Fills at (in_place file p f no_rows) s s q q (Ok (0, at))
  unfolding put_words put_runs
  absent-fills h = fills-got at no_rows 0 (in-absent file p f no_rows h) (rw (add-zero, add-zero) refl) refl refl

  -- Of another what its payload gives, in the places of the file.
  pub present-fills : {s s' q q' : List ℕ} (l : List ℕ) (n : ℕ) (r : Result (ℕ × Filled) Refused) → p.presence ≡ true → n ≡ p.start →
      l ≡ payload_in file p → Fills at (f l) s s' q q' r → Fills at (in_place file p f no_rows) s s' q q' (raised_answer n r)
  unfolding raised
  present-fills {s} {s'} {q} {q'} l n r here begins same k = go r k
    where
      there : in_place file p f no_rows ≡ raised n (f l)
      there = in-present file p f no_rows here ∙ ap₂ (λ n z. raised n (f z)) (sym begins) (sym same)

      go : (r : Result (ℕ × Filled) Refused) → Fills at (f l) s s' q q' r → Fills at (in_place file p f no_rows) s s' q q' (raised_answer n r)
      go (Ok (m, next)) k =
          let (v, j, g, a) = fills-read at _ k in
          fills-got at v (n + j) (there ∙ ap (raised n) g) a (k.words v j g) (k.runs v j g)
      go (Err x) k = fills-err at _ (there ∙ ap (raised n) (fills-stopped at _ x k))

-- After a refusal nothing is said of the stores.
halted : (n : ℕ) (x : Stopped) (s s' p p' : List ℕ) → Progress n (refused_of x) s s' p p' (Err x)
unfolding map_read
halted n x s s' p p' =
    record {
      answer = refl;
      small = λ y e. absurd (refused-not-accepted e);
      sheet = λ y e. absurd (refused-not-accepted e);
      pool = λ y e. absurd (refused-not-accepted e);
    }

pub stopped-as : (b : Read Begun) (x : Stopped) → refused_of x ≡ pass_of b → b ≡ refused_of x
unfolding map_read
stopped-as (accepted y) x e = absurd (refused-not-accepted e)
stopped-as (refused c n i) x e = cc e

pub got-as : (b : Read Begun) (at : Filled) (v : ℕ) → accepted (at, v) ≡ pass_of b →
    (x : Begun) × (b ≡ accepted x) × (at ≡ filled_of x.tables) × (v ≡ x.value)
unfolding map_read
got-as (accepted y) at v e = let q = accepted-value e in (y, refl, ap (λ z. z.0) q, ap (λ z. z.1) q)
got-as (refused c n i) at v e = absurd (refused-not-accepted (sym e))

-- The step k reads z behind y, from the stores s and p to s' and p'.
pub record Steps (m : ℕ) (k : Begun → Read Begun) (s s' p p' : List ℕ) (y z : Begun) (r : Pass) : Type 0 where
  pub reads : k y ≡ accepted z
  pub answer : r ≡ Ok (filled_of z.tables, z.value)
  pub small : Small m z.tables
  pub sheet : (s₀ : List ℕ) → s ≡ filled_sheet s₀ y.tables → s' ≡ filled_sheet s₀ z.tables
  pub pool : (p₀ : List ℕ) → p ≡ put_runs p₀ 0 (all_runs y.tables) → p' ≡ put_runs p₀ 0 (all_runs z.tables)

module _ (n m : ℕ) (k : Begun → Read Begun) {s s' p p' : List ℕ} where
  -- A refusal is handed through.
  pub goes-stop : (x : Stopped) → Goes n m k (Err x) s s' p p' (Err x)
  unfolding and_then
  goes-stop x =
      record {
        on = λ b s₀ p₀ h.
            subst (λ z. Progress m (and_then z k) s₀ s' p₀ p' (Err x)) (sym (stopped-as b x h.answer)) (halted m x s₀ s' p₀ p');
      }

  module _ (at : Filled) (v : ℕ) where
    -- The step is refused ..
    pub goes-refused : (x : Stopped) → ((y : Begun) → v ≡ y.value → k y ≡ refused_of x) → Goes n m k (Ok (at, v)) s s' p p' (Err x)
    unfolding and_then
    goes-refused x f =
        record {
          on = λ b s₀ p₀ h.
              let (y, q, a, e) = got-as b at v h.answer in
              subst (λ z. Progress m (and_then z k) s₀ s' p₀ p' (Err x)) (sym q)
              (subst (λ z. Progress m z s₀ s' p₀ p' (Err x)) (sym (f y e)) (halted m x s₀ s' p₀ p'));
        }

    -- .. or goes on.
    pub goes_on : (r : Pass) (f : Begun → Begun) →
        ((y : Begun) → at ≡ filled_of y.tables → v ≡ y.value → Small n y.tables → Steps m k s s' p p' y (f y) r) → Goes n m k (Ok (at, v)) s s' p p' r
    unfolding and_then map_read
    goes_on r f g =
        record {
          on = λ b s₀ p₀ h.
              let (y, q, a, e) = got-as b at v h.answer in
              let w = g y a e (h.small y q) in
              let done : Progress m (accepted (f y)) s₀ s' p₀ p' (Ok (filled_of (f y).tables, (f y).value)) =
              record {
                answer = refl;
                small = λ u o. subst (λ z. Small m z.tables) (accepted-as o) w.small;
                sheet = λ u o. subst (λ z. s' ≡ filled_sheet s₀ z.tables) (accepted-as o) (w.sheet s₀ (h.sheet y q));
                pool = λ u o. subst (λ z. p' ≡ put_runs p₀ 0 (all_runs z.tables)) (accepted-as o) (w.pool p₀ (h.pool y q));
              } in
              subst (λ z. Progress m (and_then z k) s₀ s' p₀ p' r) (sym q)
              (subst (λ z. Progress m z s₀ s' p₀ p' r) (sym w.reads) (subst (Progress m (accepted (f y)) s₀ s' p₀ p') (sym w.answer) done));
        }
      where
        accepted-as : {u z : Begun} → accepted z ≡ accepted u → z ≡ u
        accepted-as o = cc

-- One table more, which fits.
pub table-goes : (num stage : ℕ) (g : Got Rows) (at : Filled) (val : ℕ) {s s₁ s' p p' : List ℕ} (rows : ℕ) (next : Filled) {w : ℕ} →
    5 + 2 * num + 2 ≤ 19 → Fills at g s s₁ p p' (Ok (rows, next)) →
    ((v : Rows) (j : ℕ) → g ≡ got v j → (length v.words ≤ 2 ^ 33) × (length (join v.runs) ≤ 2 ^ 33)) →
    w ≡ 5 + 2 * num → s' ≡ put_words s₁ w (at.words ∷ rows ∷ []) →
    Goes num (num + 1) (with_table stage g) (Ok (at, val)) s s' p p' (Ok (next, rows))
unfolding with_table at_stage
table-goes num stage g at val {s} {s₁} {s'} {p} {p'} rows next room f bound here put =
    let (v, j, got-g, counts) = fills-read at g f in
    let (few, small) = bound v j got-g in
    let a : rows ≡ v.rows = cc counts in
    let b : next.words ≡ at.words + length v.words = cc counts in
    let c : next.bytes ≡ at.bytes + length (join v.runs) = cc counts in
    goes_on num (num + 1) (with_table stage g) at val (Ok (next, rows)) (λ y. record { tables = y.tables ++ (v ∷ []); value = v.rows })
    (λ y t o y-small.
    let ts = y.tables in
    let at_words : at.words ≡ 19 + length (all_words ts) = ap (λ z. z.words) t in
    let at-bytes : at.bytes ≡ length (join (all_runs ts)) = ap (λ z. z.bytes) t in
    let more-words : length (all_words (ts ++ (v ∷ []))) ≡ length (all_words ts) + length v.words =
    ap length (words_more ts v) ∙ length-append (all_words ts) v.words in
    let more_bytes : length (join (all_runs (ts ++ (v ∷ [])))) ≡ length (join (all_runs ts)) + length (join v.runs) =
    ap (λ z. length (join z)) (runs-more ts v) ∙ ap length (join-append (all_runs ts) v.runs) ∙ length-append (join (all_runs ts)) (join v.runs) in
    record {
      reads = ap (λ z. with_table stage z y) got-g;
      answer =
          ap₂ (λ n m. Ok (n, m))
          (ap₂ (λ m n. record { words = m; bytes = n })
          (b ∙ (let z : at.words + length v.words ≡ 19 + length (all_words (ts ++ (v ∷ []))) = omega arith in z))
          (c ∙ (let z : at.bytes + length (join v.runs) ≡ length (join (all_runs (ts ++ (v ∷ [])))) = omega arith in z)))
          a;
      small =
          record {
            count = length-append ts (v ∷ []) ∙ ap (λ n. n + 1) y-small.count;
            words = omega (arith, y-small.words);
            bytes = omega (arith, y-small.bytes);
          };
      sheet = λ s₀ h.
          put ∙ ap (λ z. put_words s₁ z (at.words ∷ rows ∷ [])) here ∙
          ap₂ (λ z w. put_words z (5 + 2 * num) w) (f.words v j got-g ∙ ap₂ (λ z w. put_words z w v.words) h at_words)
          (ap₂ (λ n m. n ∷ m ∷ []) at_words a) ∙
          ap
          (λ n. put_words (put_words (filled_sheet s₀ ts) (19 + length (all_words ts)) v.words) (5 + 2 * n)
          ((19 + length (all_words ts)) ∷ v.rows ∷ []))
          (sym y-small.count) ∙
          filled_more s₀ ts v (rw y-small.count room);
      pool = λ p₀ h.
          f.runs v j got-g ∙ ap₂ (λ z w. put_runs z w v.runs) h (let z : at.bytes ≡ 0 + length (join (all_runs ts)) = omega arith in z) ∙ sym (put_runs-append (all_runs ts) v.runs p₀ 0) ∙
          ap (λ z. put_runs p₀ 0 z) (sym (runs-more ts v));
    })

-- A table that is refused.
pub table-refused : (n m : ℕ) (stage k : Stage) (g : Got Rows) (at : Filled) (v : ℕ) {s s' p p' : List ℕ} (x : Refused) → g ≡ stop_of x → k ≡ stage →
    Goes n m (with_table (stage_number stage) g) (Ok (at, v)) s s' p p' (Err (stopped_at x k))
unfolding with_table at_stage
table-refused n m stage k g at v x e same =
    goes-refused n m (with_table (stage_number stage) g) at v (stopped_at x k)
    (λ y t. ap (λ z. with_table (stage_number stage) z y) e ∙ ap (λ k. refused_of (stopped_at x k)) (sym same))

-- There is room for a payload where there is room for the file.
pub part-fits : (at : Filled) (file l : List ℕ) → length l ≤ length file → fill.Fits at file → fill.Fits at l
part-fits at file l h f = record { words = omega (arith, f.words); bytes = omega (arith, f.bytes) }

-- Five tables have sections of their own.
pub number_small : (t : Table) → 5 + 2 * number_of t + 2 ≤ 19
unfolding number_of
number_small Strings = omega arith
number_small Types = omega arith
number_small Constants = omega arith
number_small Globals = omega arith
number_small Functions = omega arith

-- A table of the file has not too many words and bytes.
pub in-place-bound : (t : Table) (c : VersionClass) (file : List ℕ) (p : SectionPlace) → All (Fits 8) file → length file ≤ most_bytes →
    (v : Rows) (j : ℕ) → in_place file p (table_in t c) no_rows ≡ got v j → (length v.words ≤ 2 ^ 33) × (length (join v.runs) ≤ 2 ^ 33)
in-place-bound t c file p b l v j e =
    let s = in-place-small t c file p v j e b in
    (omega (arith, s.0), omega (arith, s.1))
