-- The rows that have a fixed number of words, and rows one after the other. Assumes nothing.
use mathlib.Core.Path.{◌≡◌, refl, sym, ap, ◌∙◌}
use Prim.Native.Nat.{ℕ, zero, suc, ◌+◌, ◌-◌, ◌/◌, ◌%◌, ◌≤◌, ◌<◌}
use native.Mathlib.Decide.{dec_lt, dec_le}
use native.Mathlib.Nat.{add-zero, not-suc-le-zero, le_of_suc-le-suc}
use native.Mathlib.Omega.{arith}
use mathlib.Core.Bool.{true, false, ◌||◌}
use mathlib.Core.List.{List, [], ◌∷◌}
use lib.Dec.{eqb, ltb, leb}
use lib.ListN.{length, take, drop, get_or, length-drop}
use lib.Seq.{get_or-take, get_or-drop, drop-drop, length-take-le, take-nil}
use borrow.Author.Tests.{lt-ltb, le-ltb}
use Rattle.exact.specs.Exact.{Parser}
use Rattle.exact.specs.Repeat.{times}
use Rattle.exact.specs.Fixed.{raw}
use Rattle.enums.specs.declared.VersionClass.{VersionClass}
use Rattle.enums.specs.Version.{since13_3}
use Rattle.enums.specs.Debug.{field_counts}
use Rattle.enums.proofs.LawsDebug.{counts-few}
use Rattle.format.specs.Tables.{Global, Attribute}
use Rattle.format.specs.Sheet.{FunctionRow, attribute_fields}
use Rattle.format.specs.Tests.{global?, function?, attribute?}
use Rattle.format.specs.Judge.{word, global_at, function_at, attribute_at}
use Rattle.format.proofs.LawsFrame.{part-all}
use Rattle.std.specs.Prelude.{Option, Some, None}
use Rattle.judge.specs.declared.steps.Place.{Place}
use Rattle.judge.specs.Steps.{◌>>=◌, thru, only, holds, place, kept, spent, value_at, between, all_up_to}
use Rattle.judge.proofs.LawsThru.{thru-bind, thru-map, thru-such, thru-pure, only-and, then-only, kept_at, only_none}
use Rattle.judge.proofs.LawsTests.{holds_same, holds-both, holds-only, holds-since3, holds_fits, holds-lt, holds-eq, holds-zeros}
use Rattle.judge.proofs.LawsSteps.{word_at, word_end, words-at, words-end, times-raw, only-true, only-false}

-- A row of these words.
abbrev pub global_from : List ℕ → Global
global_from ws =
    record { name = get_or ws 0 0; type = get_or ws 1 0; constant = get_or ws 2 0; alignment = get_or ws 3 0; visibility = get_or ws 4 0; constant_flag = get_or ws 5 0 }

abbrev pub function_from : List ℕ → FunctionRow
function_from ws = record { name = get_or ws 0 0; signature = get_or ws 1 0; flags = get_or ws 2 0; location = get_or ws 3 0; body_length = get_or ws 4 0 }

abbrev pub attribute_from : List ℕ → Attribute
attribute_from ws =
    record { tag = get_or ws 0 0; field1 = get_or ws 1 0; field2 = get_or ws 2 0; field3 = get_or ws 3 0; field4 = get_or ws 4 0; field5 = get_or ws 5 0; field6 = get_or ws 6 0 }

-- Such a row is read at once.
module _ {X : Type 0} (z : X) (l : List ℕ) (i : ℕ) where
  pub global-read : (c : VersionClass) (k : Global → ℕ → X) →
      thru z (global_at c l i) k ≡ thru z (raw 6 l i) (λ ws j. only z (holds (global? c (global_from ws))) (k (global_from ws) j))
  unfolding global_at times
  global-read c k =
      simp (thru-such, thru-bind, thru-map) (sym (sym (times-raw z 6 l i _) ∙ simp (thru-bind, thru-map, thru-pure)))

  pub function-read : (k : FunctionRow → ℕ → X) →
      thru z (function_at l i) k ≡ thru z (raw 5 l i) (λ ws j. only z (holds (function? (function_from ws))) (k (function_from ws) j))
  unfolding function_at times
  function-read k =
      simp (thru-such, thru-bind, thru-map) (sym (sym (times-raw z 5 l i _) ∙ simp (thru-bind, thru-map, thru-pure)))

  pub attribute-read : (k : Attribute → ℕ → X) →
      thru z (attribute_at l i) k ≡ thru z (raw 7 l i) (λ ws j. only z (holds (attribute? (attribute_from ws))) (k (attribute_from ws) j))
  unfolding attribute_at times
  attribute-read k =
      simp (thru-such, thru-bind, thru-map) (sym (sym (times-raw z 7 l i _) ∙ simp (thru-bind, thru-map, thru-pure)))

-- Word k of a row.
pub field : (n : ℕ) (l : List ℕ) (i k : ℕ) → k < n → get_or (take n (drop i l)) k 0 ≡ get_or l (i + k) 0
field n l i k h = rw (get_or-take, get_or-drop)

-- Words that were passed are words of the sheet.
pub passed-words : (n : ℕ) (l : List ℕ) (at end : Place) → Some end ≡ kept (raw n) l at → at.word + n ≡ end.word
unfolding kept
passed-words n l at end e =
    elim (dec_le n (length l - at.word)) [
      | yes h ↦ let k : Some end ≡ Some (place (at.word + n) at.left) = e ∙ words-at None n l at.word _ h in cc
      | no h ↦ let k : Some end ≡ None = e ∙ words-end None n l at.word _ (omega arith) in cc
    ]

module _ (c : VersionClass) (l : List ℕ) (at : Place) where
  abbrev global_tests : ℕ → ℕ → Place → Option Place
  global_tests v f end =
      only None (ltb v 256) (Some end) >>= (λ a. only None (since13_3 c || eqb v 0) (Some a)) >>= (λ b. only None (ltb f 2) (Some b)) >>=
      (λ d. only None (since13_3 c || eqb f 0) (Some d))

  global-tests : (ws : List ℕ) (end : Place) → only None (holds (global? c (global_from ws))) (Some end) ≡ global_tests (get_or ws 4 0) (get_or ws 5 0) end
  unfolding global?
  global-tests ws end = simp (holds_same, holds-both, holds-only, holds-since3, holds_fits, holds-lt, only-and, then-only)

  -- A global's row.
  pub judge_global : kept (global_at c) l at ≡ kept (raw 6) l at >>= global_tests (get_or l (at.word + 4) 0) (get_or l (at.word + 5) 0)
  judge_global =
      elim (dec_le 6 (length l - at.word)) [
        | yes h ↦
            simp (kept_at, global-read, words-at)
            (global-tests (take 6 (drop at.word l)) (place (at.word + 6) at.left) ∙ rw (field 6 l at.word 4 (omega arith), field 6 l at.word 5 (omega arith)))
        | no h ↦
            let m : length l - at.word < 6 = omega arith in
            simp (kept_at, global-read, words-end)
      ]

module _ (l : List ℕ) where
  pub spent-at : {A : Type 0} (p : Parser A) (f : A → ℕ) (at : Place) →
      spent p f l at ≡ thru None (p l at.word) (λ v j. only None (leb (f v) at.left) (Some (place j (at.left - f v))))
  unfolding spent
  spent-at p f at = refl

  function-tests : {A : Type 0} (ws : List ℕ) (o : Option A) →
      only None (holds (function? (function_from ws))) o ≡ only None (ltb (get_or ws 2 0) 256) (only None (eqb (get_or ws 2 0 / 4 % 2) 0) o)
  unfolding function?
  function-tests ws o = simp (holds_same, holds-both, holds_fits, holds-eq, only-and)

  -- A function's row.
  pub judge_function : (at : Place) →
      spent function_at (λ f. f.body_length) l at ≡
      kept (raw 4) l at >>= (λ body. only None (ltb (get_or l (at.word + 2) 0) 256) (Some body)) >>=
      (λ body. only None (eqb (get_or l (at.word + 2) 0 / 4 % 2) 0) (Some body)) >>= spent word (λ n. n) l
  judge_function at =
      elim (dec_le 5 (length l - at.word)) [
        | yes h ↦
            let m : 4 ≤ length l - at.word = omega arith in
            let w : at.word + 4 < length l = omega arith in
            let e : at.word + 4 + 1 ≡ at.word + 5 = omega arith in
            simp (kept_at, function-read, words-at, spent-at, word_at, then-only)
            (function-tests (take 5 (drop at.word l)) _ ∙ rw (field 5 l at.word 2 (omega arith), field 5 l at.word 4 (omega arith), e))
        | no h ↦ elim (dec_le 4 (length l - at.word)) [
          | yes k ↦
              let m : length l - at.word < 5 = omega arith in
              let w : length l ≤ at.word + 4 = omega arith in
              simp (kept_at, function-read, words-at, words-end, spent-at, word_end, then-only, only_none)
          | no k ↦
              let m : length l - at.word < 5 = omega arith in
              let w : length l - at.word < 4 = omega arith in
              simp (kept_at, function-read, words-end, spent-at)
        ]
      ]

-- The fields of an attribute, from the n-th on, are the words up to the row's end.
drop-taken : (n m : ℕ) (l : List ℕ) → n ≤ m → drop n (take m l) ≡ take (m - n) (drop n l)
drop-taken zero m l h = let e : m - 0 ≡ m = omega arith in rw e
drop-taken (suc n) zero l h = absurd (not-suc-le-zero h)
drop-taken (suc n) (suc m) [] h = sym (take-nil (suc m - suc n))
drop-taken (suc n) (suc m) (x ∷ l) h =
    let e : suc m - suc n ≡ m - n = omega arith in
    rw e (drop-taken n m l (le_of_suc-le-suc h))

fields-are : (ws : List ℕ) → length ws ≡ 7 → attribute_fields (attribute_from ws) ≡ drop 1 ws
unfolding attribute_fields
fields-are ws e = sym (part-all 6 1 ws e)

module _ (l : List ℕ) (i n : ℕ) (h : 7 ≤ length l - i) (m : n ≤ 6) where
  absent-words : drop n (attribute_fields (attribute_from (take 7 (drop i l)))) ≡ take (i + 7 - (i + (1 + n))) (drop (i + (1 + n)) l)
  absent-words =
      let q : length (take 7 (drop i l)) ≡ 7 = length-take-le 7 (drop i l) (rw length-drop h) in
      let d : i + 7 - (i + (1 + n)) ≡ 7 - (1 + n) = omega arith in
      rw (fields-are (take 7 (drop i l)) q, drop-drop, d, drop-taken (1 + n) 7 (drop i l) (omega arith), drop-drop)

attribute-tests : {A : Type 0} (ws : List ℕ) (o : Option A) →
    only None (holds (attribute? (attribute_from ws))) o ≡
    only None (ltb (get_or ws 0 0) 7) (only None (all_up_to 0 (drop (get_or field_counts (get_or ws 0 0) 0) (attribute_fields (attribute_from ws)))) o)
unfolding attribute?
attribute-tests ws o = simp (holds_same, holds-both, holds-lt, holds-zeros, only-and)

module _ (l : List ℕ) (at : Place) where
  tag_is : get_or (take 7 (drop at.word l)) 0 0 ≡ get_or l at.word 0
  tag_is = field 7 l at.word 0 (omega arith) ∙ rw add-zero

  abbrev absent_end : Option Place
  absent_end =
      kept (raw (1 + get_or field_counts (value_at l at) 0)) l at >>= (λ absent. kept (raw 7) l at >>=
      (λ end. only None (all_up_to 0 (between l absent end)) (Some end)))

  known : value_at l at < 7 → kept attribute_at l at ≡ absent_end
  unfolding thru kept
  known h =
      elim (dec_le 7 (length l - at.word)) [
        | yes m ↦
            let w = tag_is in
            let few : get_or field_counts (value_at l at) 0 ≤ 6 = omega (arith, counts-few (value_at l at)) in
            let k : 1 + get_or field_counts (value_at l at) 0 ≤ length l - at.word = omega arith in
            let t : ltb (get_or (take 7 (drop at.word l)) 0 0) 7 ≡ true = lt-ltb (get_or (take 7 (drop at.word l)) 0 0) 7 (omega arith) in
            let f = attribute_fields (attribute_from (take 7 (drop at.word l))) in
            let d = ap (λ t. drop (get_or field_counts t 0) f) w ∙ absent-words l at.word (get_or field_counts (value_at l at) 0) m few in
            simp (kept_at, attribute-read, words-at)
            (attribute-tests (take 7 (drop at.word l)) _ ∙ sym (only-true _ t) ∙ ap (λ ws. only None (all_up_to 0 ws) (Some (place (at.word + 7) at.left))) d)
        | no m ↦
            let k : length l - at.word < 7 = omega arith in
            simp (kept_at, attribute-read, words-end) (no_end (kept (raw (1 + get_or field_counts (value_at l at) 0)) l at))
      ]
    where
      no_end : (o : Option Place) → ◌≡◌ {A = Option Place} None (o >>= (λ absent. None))
      no_end None = refl
      no_end (Some absent) = refl

  unknown : ¬ (value_at l at < 7) → kept attribute_at l at ≡ None
  unknown h =
      elim (dec_le 7 (length l - at.word)) [
        | yes m ↦
            let w = tag_is in
            let q : ltb (get_or (take 7 (drop at.word l)) 0 0) 7 ≡ false = le-ltb (get_or (take 7 (drop at.word l)) 0 0) 7 (omega arith) in
            simp (kept_at, attribute-read, words-at) (attribute-tests (take 7 (drop at.word l)) _ ∙ sym (only-false _ q))
        | no m ↦ let k : length l - at.word < 7 = omega arith in simp (kept_at, attribute-read, words-end)
      ]

  -- An attribute's row.
  pub judge_attribute : kept attribute_at l at ≡ only None (ltb (value_at l at) 7) absent_end
  judge_attribute =
      elim (dec_lt (value_at l at) 7) [
        | yes h ↦ known h ∙ only-true _ (lt-ltb (value_at l at) 7 h)
        | no h ↦ unknown h ∙ only-false _ (le-ltb (value_at l at) 7 (omega arith))
      ]
