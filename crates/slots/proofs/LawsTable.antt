-- What words put into an owner table leave there: the row that was put, and every other row as it was. Assumes nothing.
use mathlib.Core.Path.{◌≡◌, refl, sym, ap, ◌∙◌}
use mathlib.Core.Logic.{◌⊎◌, inl, inr}
use Prim.Native.Nat.{ℕ, zero, suc, ◌+◌, ◌-◌, ◌*◌, ◌/◌, ◌^◌, ◌≤◌, ◌<◌}
use native.Mathlib.Nat.{add-zero}
use native.Mathlib.Omega.{arith}
use native.Mathlib.Decide.{dec_lt}
use mathlib.Core.List.{List, [], ◌∷◌, ◌++◌}
use lib.ListN.{length, take, drop, get_or, length-take, length-drop, take-append-drop}
use lib.Seq.{length-take-le, get_or-take, get_or-drop, drop-drop, drop-append-le, take-append-le, ext_get_or}
use Rattle.exact.specs.Fixed.{bytes_of, little}
use Rattle.exact.proofs.LawsSteps.{nums_at}
use Rattle.exact.proofs.LawsFixed.{length-bytes_of, little-bytes_of}
use Rattle.encoding.specs.Out.{put}
use Rattle.encoding.proofs.LawsOut.{put_same, put_other, length-put}
use Rattle.sheet.specs.Store.{words_in, put_word, put_words}
use Rattle.sheet.proofs.LawsStore.{length-put_words}
use Rattle.sheet.proofs.LawsWords.{no_word}
use Rattle.slots.specs.Lent.{mark_at, instance_at, length_at}

-- Bytes beside those that were put are as they were.
pub put-beside : (out : List ℕ) (at : ℕ) (bs : List ℕ) (j m : ℕ) → (j + m ≤ at) ⊎ (at + length bs ≤ j) →
    take m (drop j (put out at bs)) ≡ take m (drop j out)
put-beside out at bs j m o = ext_get_or 0 _ _ (simp (length-take, length-drop, length-put)) each
  where
    beside : (i : ℕ) → i < m → (j + m ≤ at) ⊎ (at + length bs ≤ j) → (j + i < at) ⊎ (at + length bs ≤ j + i)
    beside i h (inl k) = inl (omega arith)
    beside i h (inr k) = inr (omega arith)

    each : (i : ℕ) → i < length (take m (drop j (put out at bs))) →
        get_or (take m (drop j (put out at bs))) i 0 ≡ get_or (take m (drop j out)) i 0
    each i h =
        let n : i < m = omega (arith, length-take m (drop j (put out at bs))) in
        get_or-take m (drop j (put out at bs)) i 0 n ∙ get_or-drop j (put out at bs) i 0 ∙ put_other out at bs (j + i) (beside i n o) ∙
        sym (get_or-take m (drop j out) i 0 n ∙ get_or-drop j out i 0)

-- A word of a store is the number of its eight bytes.
word_bytes : (s : List ℕ) (j : ℕ) → j < length s / 8 → get_or (words_in s) j 0 ≡ little (take 8 (drop (j * 8) s))
unfolding words_in
word_bytes s j h = nums_at (length s / 8) 8 s j h

-- The word that was put is there ..
pub word-put : (s : List ℕ) (i w : ℕ) → i < length s / 8 → w < 2 ^ 64 → get_or (words_in (put_word s i w)) i 0 ≡ w
unfolding put_word
word-put s i w h b =
    let n = length-bytes_of 8 w in
    let k : i < length (put s (i * 8) (bytes_of 8 w)) / 8 = rw length-put h in
    let e : take 8 (drop (i * 8) (put s (i * 8) (bytes_of 8 w))) ≡ bytes_of 8 w =
    rw length-bytes_of at (put_same s (i * 8) (bytes_of 8 w) (omega arith)) in
    word_bytes (put s (i * 8) (bytes_of 8 w)) i k ∙ ap little e ∙ little-bytes_of 8 w b

-- .. and every other is as it was.
pub word_kept : (s : List ℕ) (i w j : ℕ) → ¬ (j ≡ i) → get_or (words_in (put_word s i w)) j 0 ≡ get_or (words_in s) j 0
unfolding put_word
word_kept s i w j h = go (dec_lt j (length s / 8))
  where
    s' : List ℕ
    s' = put s (i * 8) (bytes_of 8 w)

    apart : Dec (j < i) → (j * 8 + 8 ≤ i * 8) ⊎ (i * 8 + length (bytes_of 8 w) ≤ j * 8)
    apart (yes l) = inl (omega arith)
    apart (no l) = inr (omega (arith, length-bytes_of 8 w))

    go : Dec (j < length s / 8) → get_or (words_in s') j 0 ≡ get_or (words_in s) j 0
    go (yes k) =
        word_bytes s' j (rw length-put k) ∙ ap little (put-beside s (i * 8) (bytes_of 8 w) (j * 8) 8 (apart (dec_lt j i))) ∙
        sym (word_bytes s j k)
    go (no k) = no_word s' j (rw length-put (omega arith)) ∙ sym (no_word s j (omega arith))

-- Of several words that were put, those beside them are as they were ..
pub words-kept : (ws s : List ℕ) (i j : ℕ) → ((k : ℕ) → k < length ws → ¬ (j ≡ i + k)) →
    get_or (words_in (put_words s i ws)) j 0 ≡ get_or (words_in s) j 0
unfolding put_words
words-kept [] s i j h = refl
words-kept (w ∷ ws) s i j h =
    words-kept ws (put_word s i w) (i + 1) j (λ k b e. h (suc k) (omega arith) (omega arith)) ∙
    word_kept s i w j (λ e. h 0 (omega arith) (omega arith))

-- .. and each is there.
pub words-put : (ws s : List ℕ) (i k : ℕ) → k < length ws → i + length ws ≤ length s / 8 → get_or ws k 0 < 2 ^ 64 →
    get_or (words_in (put_words s i ws)) (i + k) 0 ≡ get_or ws k 0
unfolding put_words
words-put [] s i k h r b = absurd (omega arith)
words-put (w ∷ ws) s i zero h r b =
    rw add-zero (words-kept ws (put_word s i w) (i + 1) i (λ k b e. omega arith) ∙ word-put s i w (omega arith) b)
words-put (w ∷ ws) s i (suc k) h r b =
    let e : i + suc k ≡ i + 1 + k = omega arith in
    let l : length (put_word s i w) ≡ length s = length-put_words (w ∷ []) s i in
    rw e (words-put ws (put_word s i w) (i + 1) k (omega arith) (omega arith) b)

-- Row k has these words.
pub record RowIs (owners : List ℕ) (k mark instance size : ℕ) : Type 0 where
  pub at_mark : mark_at owners k ≡ mark
  pub at_instance : instance_at owners k ≡ instance
  pub at_size : length_at owners k ≡ size

-- The row that was put ..
pub row_put : (n k m i z : ℕ) (owners : List ℕ) → k < n → length owners ≡ n * 24 → m < 2 ^ 64 → i < 2 ^ 64 → z < 2 ^ 64 →
    RowIs (put_words owners (3 * k) (m ∷ i ∷ z ∷ [])) k m i z
row_put n k m i z owners h e a b c =
    let r : 3 * k + 3 ≤ length owners / 8 = omega arith in
    let ws = m ∷ i ∷ z ∷ [] in
    record {
      at_mark = rw add-zero at (words-put ws owners (3 * k) 0 (omega arith) r a);
      at_instance = words-put ws owners (3 * k) 1 (omega arith) r b;
      at_size = words-put ws owners (3 * k) 2 (omega arith) r c;
    }

-- .. and any other.
pub row_kept : (k l : ℕ) (ws owners : List ℕ) → length ws ≡ 3 → ¬ (l ≡ k) →
    RowIs (put_words owners (3 * k) ws) l (mark_at owners l) (instance_at owners l) (length_at owners l)
row_kept k l ws owners e h =
    record {
      at_mark = other _ (omega arith) (omega arith);
      at_instance = other _ (omega arith) (omega arith);
      at_size = other _ (omega arith) (omega arith);
    }
  where
    other : (j : ℕ) → 3 * l ≤ j → j < 3 * l + 3 → get_or (words_in (put_words owners (3 * k) ws)) j 0 ≡ get_or (words_in owners) j 0
    other j a b = words-kept ws owners (3 * k) j (λ d c p. omega arith)

-- A part of what some bytes begin with is a part of them.
pub part_bytes : (l f r : List ℕ) (at size : ℕ) → l ≡ f ++ r → at + size ≤ length f → take size (drop at l) ≡ take size (drop at f)
part_bytes l f r at size e h =
    let a : at ≤ length f = omega arith in
    let b : size ≤ length (drop at f) = omega (arith, length-drop at f) in
    rw (e, drop-append-le at f r a, take-append-le size (drop at f) r b)

-- The words of a row that is lent by itself are the table's.
pub row_word : (owners : List ℕ) (k j : ℕ) → k * 24 + 24 ≤ length owners → j < 3 →
    get_or (words_in (take (k * 24 + 24 - k * 24) (drop (k * 24) owners))) j 0 ≡ get_or (words_in owners) (3 * k + j) 0
row_word owners k j h i =
    let rest : List ℕ = drop (k * 24) owners in
    let e : k * 24 + 24 - k * 24 ≡ 24 = omega arith in
    let d : length rest ≡ length owners - k * 24 = length-drop (k * 24) owners in
    let m : length (take 24 rest) ≡ 24 = length-take-le 24 rest (omega arith) in
    let q : k * 24 + j * 8 ≡ (3 * k + j) * 8 = omega arith in
    ap (λ n. get_or (words_in (take n rest)) j 0) e ∙
    word_bytes (take 24 rest) j (omega arith) ∙
    ap little
    (sym (part_bytes rest (take 24 rest) (drop 24 rest) (j * 8) 8 (sym (take-append-drop 24 rest)) (omega arith)) ∙
    ap (take 8) (drop-drop (j * 8) (k * 24) owners ∙ ap (λ a. drop a owners) q)) ∙
    sym (word_bytes owners (3 * k + j) (omega arith))
