-- The step of a pass that reads Debug. Assumes nothing.
use mathlib.Core.Path.{◌≡◌, refl, sym, ap, ap₂, ◌∙◌}
use Prim.Native.Nat.{ℕ, ◌+◌, ◌*◌, ◌^◌, ◌≤◌}
use native.Mathlib.Nat.{add-zero}
use native.Mathlib.Omega.{arith}
use mathlib.Core.Bool.{true, false}
use mathlib.Core.List.{List, [], ◌∷◌, ◌++◌, append_assoc, append-nil}
use lib.ListN.{length, length-append}
use Rattle.std.specs.Prelude.{Result, Ok, Err}
use Rattle.exact.specs.Got.{Got, got, stop}
use Rattle.exact.specs.Tiling.{join}
use Rattle.exact.specs.Entries.{raised}
use Rattle.exact.proofs.LawsExact.{stop-not-got, got-value}
use Rattle.enums.specs.declared.Stage.TheVariants as stage
use Rattle.format.specs.Debug.{DebugTables, no_debug}
use Rattle.format.specs.Read.{at_stage}
use Rattle.format.specs.Decode.{most_bytes}
use Rattle.format.specs.DecodeDebug.{debug_at}
use Rattle.format.specs.Sound.{All, Fits}
use Rattle.container.specs.Shown.{stopped_at}
use Rattle.container.specs.declared.sections.SectionPlace.{SectionPlace}
use Rattle.reading.specs.Shown.{stop_of}
use Rattle.reading.specs.declared.Refused.{Refused}
use Rattle.format.proofs.LawsSoundWords.{attributes-words}
use Rattle.sheet.specs.Store.{put_words, put_runs}
use Rattle.sheet.proofs.LawsStore.{put_words-append, put_words-swap}
use Rattle.payloads.specs.Answers.{raised_answer}
use Rattle.payloads.specs.Fill.{Rows}
use Rattle.payloads.specs.DebugRows.{debug_words, counted, debug_behind, DebugFills}
use Rattle.payloads.specs.declared.answers.Filled.{Filled}
use Rattle.payloads.specs.declared.debug.DebugFilled.{DebugFilled}
use Rattle.payloads.specs.Pass.{
  payload_in,
  in_place,
  all_words,
  all_runs,
  filled_sheet,
  Goes,
  attribute_table,
  list_table,
  with_debug,
}
use Rattle.payloads.proofs.LawsFilled.{words_more, runs-more, filled_more}
use Rattle.payloads.proofs.LawsSizes.{in-place-debug-small}
use Rattle.payloads.proofs.LawsPass.{in-absent, in-present, goes-refused, goes_on}

module _ (at : Filled) {s s' : List ℕ} where
  -- What the answer says of the model: a refusal ..
  pub debug-stopped : (g : Got DebugTables) (x : Refused) → DebugFills at g s s' (Err x) → g ≡ stop_of x
  debug-stopped (got t j) x f = absurd (let z : ◌≡◌ {A = ℕ} 0 1 = cc f.answer in omega arith)
  debug-stopped (stop c k) x f = cc f.answer

  -- .. or tables.
  pub debug-read : (g : Got DebugTables) (d : DebugFilled) → DebugFills at g s s' (Ok d) →
      (t : DebugTables) × (j : ℕ) × (g ≡ got t j) ×
      (counted d.attributes d.lists d.filled.words d.filled.bytes ≡ debug_behind at (got t j))
  debug-read (got t j) d f = (t, j, refl, f.answer)
  debug-read (stop c k) d f = absurd (let z : ◌≡◌ {A = ℕ} 0 1 = cc f.answer in omega arith)

  -- How to say so of tables ..
  pub debug-got : (g : Got DebugTables) (d : DebugFilled) (t : DebugTables) (j : ℕ) → g ≡ got t j →
      counted d.attributes d.lists d.filled.words d.filled.bytes ≡ debug_behind at (got t j) → s' ≡ put_words s at.words (debug_words t) →
      DebugFills at g s s' (Ok d)
  debug-got g d t j e a w =
      record {
        answer = a ∙ ap (debug_behind at) (sym e);
        words = λ u k f. w ∙ ap (λ z. put_words s at.words (debug_words z)) (got-value (sym e ∙ f));
      }

  -- .. and of a refusal.
  pub debug-not : (g : Got DebugTables) (x : Refused) → g ≡ stop_of x → DebugFills at g s s' (Err x)
  debug-not g x e =
      record { answer = ap (debug_behind at) (sym e); words = λ u k f. absurd (stop-not-got (sym e ∙ f)) }

module _ (at : Filled) (file : List ℕ) (p : SectionPlace) (f : List ℕ → Got DebugTables) where
  -- No tables of an absent section.
  pub absent-debug : {s : List ℕ} → p.presence ≡ false →
      DebugFills at (in_place file p f no_debug) s s (Ok record { attributes = 0; lists = 0; filled = at })
  unfolding put_words debug_words
  absent-debug h = debug-got at _ _ no_debug 0 (in-absent file p f no_debug h) (rw add-zero) refl

  -- Of another what its payload gives, in the places of the file.
  pub present-debug : {s s' : List ℕ} (l : List ℕ) (n : ℕ) (r : Result DebugFilled Refused) → p.presence ≡ true → n ≡ p.start →
      l ≡ payload_in file p → DebugFills at (f l) s s' r → DebugFills at (in_place file p f no_debug) s s' (raised_answer n r)
  unfolding raised
  present-debug {s} {s'} l n r here begins same k = go r k
    where
      there : in_place file p f no_debug ≡ raised n (f l)
      there = in-present file p f no_debug here ∙ ap₂ (λ n z. raised n (f z)) (sym begins) (sym same)

      go : (r : Result DebugFilled Refused) → DebugFills at (f l) s s' r → DebugFills at (in_place file p f no_debug) s s' (raised_answer n r)
      go (Ok d) k =
          let (t, j, g, a) = debug-read at (f l) d k in
          debug-got at _ d t (n + j) (there ∙ ap (raised n) g) a (k.words t j g)
      go (Err x) k = debug-not at _ _ (there ∙ ap (raised n) (debug-stopped at (f l) x k))

-- A section that is refused.
pub debug-refused : (n m : ℕ) (g : Got DebugTables) (at : Filled) (v : ℕ) {s s' p p' : List ℕ} (x : Refused) → g ≡ stop_of x →
    Goes n m (with_debug g) (Ok (at, v)) s s' p p' (Err (stopped_at x stage.Debug))
unfolding with_debug at_stage
debug-refused n m g at v x e =
    goes-refused n m (with_debug g) at v (stopped_at x stage.Debug) (λ y t. ap (λ z. with_debug z y) e)

-- Two tables more in the sheet: their rows, and then their start words and row counts.
two-more : (s : List ℕ) (ts : List Rows) (t : DebugTables) → length ts ≡ 5 →
    put_words
    (put_words (put_words (filled_sheet s ts) (19 + length (all_words ts)) (debug_words t)) 15
    ((19 + length (all_words ts)) ∷ length t.attributes ∷ []))
    17 ((19 + length (all_words ts) + length t.attributes * 7) ∷ length t.lists ∷ []) ≡
    filled_sheet s (ts ++ (attribute_table t ∷ list_table t ∷ []))
unfolding debug_words
two-more s ts t five =
    let n : ℕ = 19 + length (all_words ts) in
    let a : Rows = attribute_table t in
    let b : Rows = list_table t in
    let long : length a.words ≡ 7 * length t.attributes = attributes-words t.attributes in
    let more : length (all_words (ts ++ (a ∷ []))) ≡ length (all_words ts) + length a.words =
    ap length (words_more ts a) ∙ length-append (all_words ts) a.words in
    let six : length (ts ++ (a ∷ [])) ≡ 6 = length-append ts (a ∷ []) ∙ ap (λ k. k + 1) five in
    let start : n + length t.attributes * 7 ≡ 19 + length (all_words (ts ++ (a ∷ []))) = omega arith in
    let behind : n + length a.words ≡ 19 + length (all_words (ts ++ (a ∷ []))) = omega arith in
    let apart : 15 + 2 ≤ n + length a.words = omega arith in
    let head : List ℕ = n ∷ length t.attributes ∷ [] in
    let one : put_words (put_words (filled_sheet s ts) n a.words) 15 head ≡ filled_sheet s (ts ++ (a ∷ [])) =
    ap (λ k. put_words (put_words (filled_sheet s ts) n a.words) (5 + 2 * k) head) (sym five) ∙
    filled_more s ts a (let z : 5 + 2 * length ts + 2 ≤ 19 = omega arith in z) in
    let two : put_words (put_words (put_words (filled_sheet s ts) n (debug_words t)) 15 head) 17
    ((n + length t.attributes * 7) ∷ length t.lists ∷ []) ≡
    put_words
    (put_words (put_words (put_words (filled_sheet s ts) n a.words) 15 head) (n + length a.words) b.words) 17
    ((n + length t.attributes * 7) ∷ length t.lists ∷ []) =
    ap (λ z. put_words z 17 ((n + length t.attributes * 7) ∷ length t.lists ∷ []))
    (ap (λ z. put_words z 15 head) (put_words-append a.words b.words (filled_sheet s ts) n) ∙
    sym (put_words-swap head b.words (put_words (filled_sheet s ts) n a.words) 15 (n + length a.words) apart)) in
    two ∙
    ap₂ (λ z k. put_words (put_words z k b.words) 17 ((n + length t.attributes * 7) ∷ length t.lists ∷ [])) one behind ∙
    ap₂
    (λ k m. put_words (put_words (filled_sheet s (ts ++ (a ∷ []))) (19 + length (all_words (ts ++ (a ∷ [])))) b.words) (5 + 2 * m)
    (k ∷ length t.lists ∷ []))
    start (sym six) ∙
    filled_more s (ts ++ (a ∷ [])) b (let z : 5 + 2 * length (ts ++ (a ∷ [])) + 2 ≤ 19 = omega arith in z) ∙
    ap (filled_sheet s) (append_assoc ts (a ∷ []) (b ∷ []))

-- The words and runs of both.
words-two : (ts : List Rows) (t : DebugTables) → all_words (ts ++ (attribute_table t ∷ list_table t ∷ [])) ≡ all_words ts ++ debug_words t
unfolding debug_words
words-two ts t =
    ap all_words (sym (append_assoc ts (attribute_table t ∷ []) (list_table t ∷ []))) ∙
    words_more (ts ++ (attribute_table t ∷ [])) (list_table t) ∙
    ap (λ z. z ++ (list_table t).words) (words_more ts (attribute_table t)) ∙
    append_assoc (all_words ts) (attribute_table t).words (list_table t).words

runs-two : (ts : List Rows) (t : DebugTables) → all_runs (ts ++ (attribute_table t ∷ list_table t ∷ [])) ≡ all_runs ts
runs-two ts t =
    ap all_runs (sym (append_assoc ts (attribute_table t ∷ []) (list_table t ∷ []))) ∙
    runs-more (ts ++ (attribute_table t ∷ [])) (list_table t) ∙ append-nil (all_runs (ts ++ (attribute_table t ∷ []))) ∙
    runs-more ts (attribute_table t) ∙ append-nil (all_runs ts)

-- The tables of the file's section have not too many words ..
pub debug-bound : (file : List ℕ) (p : SectionPlace) → All (Fits 8) file → length file ≤ most_bytes → (t : DebugTables) (j : ℕ) →
    in_place file p (λ l. debug_at l 0) no_debug ≡ got t j → length (debug_words t) ≤ 2 ^ 34
unfolding debug_words
debug-bound file p b l t j e =
    let (a, c) = in-place-debug-small file p t j e b in
    omega (arith, length-append (attribute_table t).words (list_table t).words, a.0, c.0)

-- .. and so not too many attributes.
pub attributes-few : (at : Filled) (g : Got DebugTables) (d : DebugFilled) {s s' : List ℕ} → DebugFills at g s s' (Ok d) →
    ((t : DebugTables) (j : ℕ) → g ≡ got t j → length (debug_words t) ≤ 2 ^ 34) → d.attributes * 7 ≤ 2 ^ 34
unfolding debug_words
attributes-few at g d f bound =
    let (t, j, q, a) = debug-read at g d f in
    let m : d.attributes ≡ length t.attributes = cc a in
    omega (arith, bound t j q, attributes-words t.attributes, length-append (attribute_table t).words (list_table t).words)

-- Two tables more, which fit.
pub debug-goes : (g : Got DebugTables) (at : Filled) (val : ℕ) {s s₁ s₂ s' p : List ℕ} (d : DebugFilled) → DebugFills at g s s₁ (Ok d) →
    ((t : DebugTables) (j : ℕ) → g ≡ got t j → length (debug_words t) ≤ 2 ^ 34) →
    s₂ ≡ put_words s₁ 15 (at.words ∷ d.attributes ∷ []) → s' ≡ put_words s₂ 17 ((at.words + d.attributes * 7) ∷ d.lists ∷ []) →
    Goes 5 7 (with_debug g) (Ok (at, val)) s s' p p (Ok (d.filled, 0))
unfolding with_debug at_stage
debug-goes g at val {s} {s₁} {s₂} {s'} {p} d f bound put₁ put₂ =
    let (t, j, got-g, counts) = debug-read at g d f in
    let few = bound t j got-g in
    let a : d.attributes ≡ length t.attributes = cc counts in
    let b : d.lists ≡ length t.lists = cc counts in
    let c : d.filled.words ≡ at.words + length (debug_words t) = cc counts in
    let e : d.filled.bytes ≡ at.bytes = cc counts in
    goes_on 5 7 (with_debug g) at val (Ok (d.filled, 0))
    (λ y. record { tables = y.tables ++ (attribute_table t ∷ list_table t ∷ []); value = 0 })
    (λ y q o y-small.
    let ts = y.tables in
    let at_words : at.words ≡ 19 + length (all_words ts) = ap (λ z. z.words) q in
    let at-bytes : at.bytes ≡ length (join (all_runs ts)) = ap (λ z. z.bytes) q in
    let both = ts ++ (attribute_table t ∷ list_table t ∷ []) in
    let more-words : length (all_words both) ≡ length (all_words ts) + length (debug_words t) =
    ap length (words-two ts t) ∙ length-append (all_words ts) (debug_words t) in
    let more_bytes : length (join (all_runs both)) ≡ length (join (all_runs ts)) = ap (λ z. length (join z)) (runs-two ts t) in
    record {
      reads = ap (λ z. with_debug z y) got-g;
      answer =
          ap (λ z. Ok (z, 0))
          (ap₂ (λ i k. record { words = i; bytes = k })
          (c ∙ (let z : at.words + length (debug_words t) ≡ 19 + length (all_words both) = omega arith in z))
          (e ∙ at-bytes ∙ sym more_bytes));
      small =
          record {
            count = length-append ts _ ∙ ap (λ k. k + 2) y-small.count;
            words = omega (arith, y-small.words);
            bytes = omega (arith, y-small.bytes);
          };
      sheet = λ s₀ h.
          put₂ ∙
          ap₂ (λ z w. put_words z 17 w)
          (put₁ ∙
          ap₂ (λ z w. put_words z 15 w) (f.words t j got-g ∙ ap₂ (λ z w. put_words z w (debug_words t)) h at_words)
          (ap₂ (λ i k. i ∷ k ∷ []) at_words a))
          (ap₂ (λ i k. i ∷ k ∷ []) (ap₂ (λ i k. i + k * 7) at_words a) b) ∙
          two-more s₀ ts t y-small.count;
      pool = λ p₀ h. h ∙ ap (λ z. put_runs p₀ 0 z) (sym (runs-two ts t));
    })
