-- The words of a store: how many they are, where each stands, and that each is a u64. Assumes nothing.
use mathlib.Core.Path.{◌≡◌, sym, ap, ◌∙◌}
use Prim.Native.Nat.{ℕ, zero, suc, ◌+◌, ◌*◌, ◌/◌, ◌^◌, ◌≤◌, ◌<◌}
use native.Mathlib.Nat.{pow-suc}
use native.Mathlib.Omega.{arith}
use mathlib.Core.List.{List, [], ◌∷◌}
use lib.ListN.{length, take, drop, get_or, length-drop, get_or-eq_default}
use lib.Seq.{length-take-le, get_or-drop}
use Rattle.exact.specs.Got.{got}
use Rattle.exact.specs.Fixed.{little, fixed}
use Rattle.exact.proofs.LawsSteps.{fixed-at, nums_at}
use Rattle.exact.proofs.LawsFixed.{length-nums}
use Rattle.sheet.specs.Store.{words_in}

-- A store has a word for each eight of its bytes.
pub length-words_in : (s : List ℕ) → length (words_in s) ≡ length s / 8
unfolding words_in
length-words_in s = length-nums (length s / 8) 8 s

-- Past the words of a store there is 0 ..
pub no_word : (s : List ℕ) (i : ℕ) → length s / 8 ≤ i → get_or (words_in s) i 0 ≡ 0
no_word s i h = get_or-eq_default (words_in s) 0 (rw length-words_in h)

-- .. and word i is the number of the eight bytes from 8 i on.
pub word_read : (s : List ℕ) (i : ℕ) → i < length s / 8 → fixed 8 s (i * 8) ≡ got (get_or (words_in s) i 0) (i * 8 + 8)
unfolding words_in
word_read s i h = fixed-at 8 s (i * 8) (omega arith) ∙ ap (λ v. got v (i * 8 + 8)) (sym (nums_at (length s / 8) 8 s i h))

little-below : (bs : List ℕ) → ((k : ℕ) → get_or bs k 0 < 256) → little bs < 256 ^ length bs
unfolding little
little-below [] h = omega arith
little-below (b ∷ bs) h =
    let n = little-below bs (λ k. h (suc k)) in
    rw pow-suc (omega (arith, h 0))

take_below : (w : ℕ) (s : List ℕ) → ((k : ℕ) → get_or s k 0 < 256) → (k : ℕ) → get_or (take w s) k 0 < 256
take_below zero s h k = omega arith
take_below (suc w) [] h k = omega arith
take_below (suc w) (x ∷ s) h zero = h 0
take_below (suc w) (x ∷ s) h (suc k) = take_below w s (λ k. h (suc k)) k

-- A word is a u64.
pub word_below : (s : List ℕ) → ((k : ℕ) → get_or s k 0 < 256) → (i : ℕ) → i < length s / 8 → get_or (words_in s) i 0 < 2 ^ 64
unfolding words_in
word_below s h i n =
    let d = drop (i * 8) s in
    let l : length (take 8 d) ≡ 8 = length-take-le 8 d (rw length-drop (omega arith)) in
    let b = little-below (take 8 d) (take_below 8 d (λ k. rw get_or-drop (h (i * 8 + k)))) in
    rw (nums_at (length s / 8) 8 s i n) (rw l at b)
