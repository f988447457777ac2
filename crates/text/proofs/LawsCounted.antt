-- Words by their places, which are counted modulo 2^64, and the lists that stand there. Assumes nothing.
use Rattle.std.proofs.Common.{◌≡◌, ℕ, zero, suc, ◌+◌, ◌%◌, ◌^◌, ◌<◌, List, [], ◌∷◌, ◌++◌, length, get_or, sym, refl, ap, ◌∙◌, subst, ap₂, arith}
use Rattle.format.specs.Sheet.{counted_words}
use Rattle.sheet.specs.Lies.{Lies}
use Rattle.sheet.proofs.LawsLies.{lies-back, lies-first, lies-inside}
use Rattle.text.specs.Counted.{word, words_from, counted, after_list}

-- One place by two numbers: the same words stand there ..
pub same-words : (ws : List ℕ) (i j n : ℕ) → i % 2 ^ 64 ≡ j % 2 ^ 64 → words_from ws i n ≡ words_from ws j n
unfolding word words_from
same-words ws i j zero e = refl
same-words ws i j (suc n) e =
    let k : (i + 1) % 2 ^ 64 ≡ (j + 1) % 2 ^ 64 = omega arith in
    ap₂ (λ (w : ℕ) (vs : List ℕ). w ∷ vs) (ap (λ a. get_or ws a 0) e) (same-words ws (i + 1) (j + 1) n k)

-- .. the same list, and the same place behind it.
module _ (ws : List ℕ) (j i : ℕ) (e : j ≡ i % 2 ^ 64) where
  pub word_next : get_or ws j 0 ≡ word ws i
  unfolding word
  word_next = ap (λ a. get_or ws a 0) e

  pub same_word : word ws j ≡ word ws i
  unfolding word
  same_word =
      let f : j % 2 ^ 64 ≡ i % 2 ^ 64 = omega arith in
      ap (λ a. get_or ws a 0) f

  pub same-counted : counted ws j ≡ counted ws i
  unfolding counted
  same-counted =
      let k : (j + 1) % 2 ^ 64 ≡ (i + 1) % 2 ^ 64 = omega arith in
      same-words ws (j + 1) (i + 1) (word ws j) k ∙ ap (words_from ws (i + 1)) same_word

  pub same_after : after_list ws j % 2 ^ 64 ≡ after_list ws i % 2 ^ 64
  unfolding after_list
  same_after =
      let w = same_word in
      omega arith

-- A place that is below 2^64 is itself.
pub word-here : (ws : List ℕ) (i : ℕ) → i < 2 ^ 64 → get_or ws i 0 ≡ word ws i
word-here ws i h = word_next ws i i (let e : i ≡ i % 2 ^ 64 = omega arith in e)

-- A list has as many numbers as its count says.
length-words : (ws : List ℕ) (i n : ℕ) → length (words_from ws i n) ≡ n
unfolding words_from
length-words ws i zero = refl
length-words ws i (suc n) = ap suc (length-words ws (i + 1) n)

pub length-counted : (ws : List ℕ) (i : ℕ) → length (counted ws i) ≡ word ws i
unfolding counted
length-counted ws i = length-words ws (i + 1) (word ws i)

-- What lies in the words of a sheet stands there: a word ..
module _ (ws : List ℕ) (fit : length ws < 2 ^ 64) where
  pub word-lies : {i : ℕ} (v : ℕ) (vs : List ℕ) → Lies ws i (v ∷ vs) → word ws i ≡ v
  word-lies {i} v vs h =
      let j = lies-inside (v ∷ vs) h in
      sym (word-here ws i (omega arith)) ∙ lies-first v vs h

  words-lie : {i : ℕ} (vs : List ℕ) → Lies ws i vs → words_from ws i (length vs) ≡ vs
  unfolding words_from
  words-lie [] h = refl
  words-lie {i = i} (v ∷ vs) h =
      ap₂ (λ (w : ℕ) (us : List ℕ). w ∷ us) (word-lies v vs h) (words-lie {i = i + 1} vs (lies-back (v ∷ []) vs h))

  -- .. a list ..
  pub counted-lies : {i : ℕ} (vs : List ℕ) → Lies ws i (counted_words vs) → counted ws i ≡ vs
  unfolding counted
  counted-lies {i} vs h =
      ap (words_from ws (i + 1)) (word-lies (length vs) vs h) ∙ words-lie vs (lies-back (length vs ∷ []) vs h)

  -- .. and what stands behind it.
  pub after-lies : {i : ℕ} (vs rest : List ℕ) → Lies ws i (counted_words vs ++ rest) → Lies ws (after_list ws i) rest
  unfolding after_list
  after-lies {i} vs rest h =
      let w = word-lies (length vs) (vs ++ rest) h in
      let e : i + suc (length vs) ≡ after_list ws i = omega arith in
      subst (λ n. Lies ws n rest) e (lies-back (counted_words vs) rest h)
