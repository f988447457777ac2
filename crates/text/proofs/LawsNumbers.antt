-- Numbers that were put as text: signed ones, those of a list, and lists of them. Assumes nothing.
use Rattle.std.proofs.Common.{◌≡◌, ℕ, suc, ◌+◌, ◌-◌, ◌*◌, ◌%◌, ◌^◌, ◌<◌, ◌≤◌, List, [], ◌∷◌, ◌++◌, map, get_or, sym, refl, ap, ◌∙◌, ap₂, arith}
use Prim.Native.String.{String}
use native.Mathlib.Decide.{dec_lt}
use Rattle.exact.specs.Tiling.{join}
use Rattle.exact.proofs.LawsChoice.{choose_yes, choose_no}
use Rattle.format.specs.Sound.{All, Fits}
use Rattle.format.specs.Names.{ascii, decimal, signed, dimension, joined, i32, i64}
use Rattle.sheet.specs.Store.{words_in}
use Rattle.text.specs.Text.{Put}
use Rattle.text.specs.Counted.{word, words_from, counted}
use Rattle.text.specs.Numbers.{low32, number_text, separated, between}
use Rattle.text.specs.declared.Pen.{Pen}
use Rattle.text.specs.declared.Pen.TheVariants.{Full}
use Rattle.text.specs.declared.numbers.Number.{Number}
use Rattle.text.specs.declared.numbers.Number.TheVariants.{I32, I64, Dynamic}
use Rattle.text.proofs.LawsText.{put_then, put_as, put-nothing, put-stopped}
use Rattle.text.proofs.LawsCounted.{same-words, word-here, word_next}

-- A number below half of the bit patterns is put as it is ..
pub signed-put : (h v : ℕ) {p q : Pen} {out out' : List ℕ} → v < h → Put (decimal v) p out out' q → Put (signed h v) p out out' q
unfolding signed
signed-put h v k x = put_as (sym (choose_yes (dec_lt v h) _ _ k)) x

-- .. and another one with its sign.
pub minus-put : (h v : ℕ) {p q r : Pen} {out mid out' : List ℕ} → h ≤ v → v < 2 * h → Put (ascii "-") p out mid q →
    Put (decimal (h - (v - h))) q mid out' r → Put (signed h v) p out out' r
unfolding signed
minus-put h v k l x y =
    let i : h - (v - h) ≡ 2 * h - v = omega arith in
    put_as (sym (choose_no (dec_lt v h) _ _ (omega arith))) (put_then x (put_as (ap decimal i) y))

-- So many numbers from a word on were put, each behind a separator.
abbrev pub MorePut : Number → ℕ → ℕ → List ℕ → ℕ → Pen → List ℕ → List ℕ → Pen → Type 0
MorePut k b n s i p out out' q = Put (separated k b (words_from (words_in s) i n)) p out out' q

module _ (k : Number) (b : ℕ) (s : List ℕ) where
  -- No more numbers ..
  pub more-none : (n i : ℕ) {p : Pen} {out : List ℕ} → n ≤ 0 → MorePut k b n s i p out out p
  unfolding separated words_from
  more-none n i h =
      let e : n ≡ 0 = omega arith in
      put_as (ap (λ m. separated k b (words_from (words_in s) i m)) (sym e)) put-nothing

  -- .. none for which there is room ..
  pub more-stopped : (n i : ℕ) {p : Pen} {out : List ℕ} → p ≡ Full → MorePut k b n s i p out out Full
  more-stopped n i e = put-stopped (separated k b (words_from (words_in s) i n)) e

  -- .. or the next one behind its separator, and the rest.
  pub more-next : (n i v next : ℕ) {p q r t : Pen} {out mid out1 out' : List ℕ} → i < 2 ^ 64 → 0 < n → Put (b ∷ []) p out mid q →
      v ≡ get_or (words_in s) i 0 → Put (number_text k v) q mid out1 r → next ≡ (i + 1) % 2 ^ 64 → MorePut k b (n - 1) s next r out1 out' t →
      MorePut k b n s i p out out' t
  unfolding separated words_from
  more-next n i v next fit h x e y m z =
      let d : n ≡ suc (n - 1) = omega arith in
      let a : next % 2 ^ 64 ≡ (i + 1) % 2 ^ 64 = omega arith in
      let w : v ≡ word (words_in s) i = e ∙ word-here (words_in s) i fit in
      put_as (ap (λ n. separated k b (words_from (words_in s) i n)) (sym d))
      (put_as (ap₂ (λ u us. (b ∷ number_text k u) ++ separated k b us) w (same-words (words_in s) next (i + 1) (n - 1) a)) (put_then (put_then x y) z))

  -- A list of no numbers ..
  pub list-none : (i count : ℕ) {p : Pen} {out : List ℕ} → i < 2 ^ 64 → count ≡ get_or (words_in s) i 0 → count ≡ 0 →
      Put (between k b (counted (words_in s) i)) p out out p
  unfolding between counted words_from
  list-none i count fit e z =
      let w : word (words_in s) i ≡ 0 = sym (word-here (words_in s) i fit) ∙ sym e ∙ z in
      put_as (ap (λ n. between k b (words_from (words_in s) (i + 1) n)) (sym w)) put-nothing

  -- .. and one of some.
  pub list-some : (i count first second v : ℕ) {p q r : Pen} {out mid out' : List ℕ} → i < 2 ^ 64 → count ≡ get_or (words_in s) i 0 →
      ¬ (count ≡ 0) → first ≡ (i + 1) % 2 ^ 64 → v ≡ get_or (words_in s) first 0 → Put (number_text k v) p out mid q →
      second ≡ (i + 2) % 2 ^ 64 → MorePut k b (count - 1) s second q mid out' r → Put (between k b (counted (words_in s) i)) p out out' r
  unfolding between counted words_from
  list-some i count first second v fit e h m d x n y =
      let w : word (words_in s) i ≡ suc (count - 1) = sym (word-here (words_in s) i fit) ∙ sym e ∙ (let z : count ≡ suc (count - 1) = omega arith in z) in
      let a : second % 2 ^ 64 ≡ (i + 1 + 1) % 2 ^ 64 = omega arith in
      let u : v ≡ word (words_in s) (i + 1) = d ∙ word_next (words_in s) first (i + 1) m in
      put_as (ap (λ n. between k b (words_from (words_in s) (i + 1) n)) (sym w))
      (put_as (ap₂ (λ u us. number_text k u ++ separated k b us) u (same-words (words_in s) second (i + 1 + 1) (count - 1) a)) (put_then x y))

-- With a separator between them: the numbers of a list as joined texts.
between-joined : (k : Number) (b : ℕ) (sep : String) → ascii sep ≡ b ∷ [] → (vs : List ℕ) → between k b vs ≡ joined sep (map (number_text k) vs)
unfolding between separated
between-joined k b sep e [] = refl
between-joined k b sep e (v ∷ vs) = ap (λ t. number_text k v ++ t) (each vs)
  where
    each : (vs : List ℕ) → join (map (λ v. b ∷ number_text k v) vs) ≡ join (map (λ u. ascii sep ++ u) (map (number_text k) vs))
    each [] = refl
    each (v ∷ vs) = ap₂ (λ s t. (s ++ number_text k v) ++ t) (sym e) (each vs)

-- A list that was put is its numbers, joined: i32 numbers, i64 numbers, or those that may be dynamic.
module _ (b : ℕ) (sep : String) (a : ascii sep ≡ b ∷ []) (vs : List ℕ) {p q : Pen} {out out' : List ℕ} where
  pub i32s-joined : Put (between I32 b vs) p out out' q → Put (joined sep (map low32 vs)) p out out' q
  unfolding number_text
  i32s-joined x = put_as (between-joined I32 b sep a vs) x

  pub i64s-joined : Put (between I64 b vs) p out out' q → Put (joined sep (map i64 vs)) p out out' q
  unfolding number_text
  i64s-joined x = put_as (between-joined I64 b sep a vs) x

  pub dimensions-joined : Put (between Dynamic b vs) p out out' q → Put (joined sep (map dimension vs)) p out out' q
  unfolding number_text
  dimensions-joined x = put_as (between-joined Dynamic b sep a vs) x

-- Numbers of 32 bits are all of their words.
pub low32-fits : (vs : List ℕ) → All (Fits 32) vs → map low32 vs ≡ map i32 vs
low32-fits [] f = refl
low32-fits (v ∷ vs) f =
    let h : v < 2 ^ 32 = f.0 in
    let e : v % 2 ^ 32 ≡ v = omega arith in
    ap₂ (λ (t : List ℕ) (ts : List (List ℕ)). t ∷ ts) (ap i32 e) (low32-fits vs f.1)
