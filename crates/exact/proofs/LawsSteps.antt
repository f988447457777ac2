-- The equations by which code follows the parsers: what each answers where the next bytes are known. Assumes nothing.
use mathlib.Core.Path.{◌≡◌, ◌∙◌}
use Prim.Native.Nat.{ℕ, zero, suc, ◌+◌, ◌*◌, ◌-◌, ◌≤◌, ◌<◌}
use native.Mathlib.Nat.{zero-mul, add-zero, not-suc-le-zero, le_of_suc-le-suc}
use native.Mathlib.Numerals.{add-one}
use native.Mathlib.Omega.{arith}
use native.Mathlib.Decide.{dec_le}
use mathlib.Core.List.{List}
use lib.ListN.{length, take, drop, get_or, length-drop, drop_of_length-le}
use lib.Seq.{drop-cons, drop-drop}
use Rattle.exact.specs.Got.{got, stop, ended, follow}
use Rattle.exact.specs.Basic.{byte, byte_of, pure}
use Rattle.exact.specs.Sequence.{bind, mapped}
use Rattle.exact.specs.Repeat.{times}
use Rattle.exact.specs.Fixed.{raw, little, fixed, nums}
use Rattle.exact.proofs.LawsChoice.{choose_yes, choose_no}

-- A byte that is there ..
pub byte_at : (l : List ℕ) (i : ℕ) → i < length l → byte l i ≡ got (get_or l i 0) (i + 1)
unfolding byte byte_of
byte_at l i h = rw (drop-cons l i 0, add-one)

-- .. and one that is not.
pub byte-end : (l : List ℕ) (i : ℕ) → length l ≤ i → byte l i ≡ stop ended i
unfolding byte byte_of
byte-end l i h = rw (drop_of_length-le l)

-- A run that is there ..
pub raw_at : (n : ℕ) (l : List ℕ) (i : ℕ) → n ≤ length l - i → raw n l i ≡ got (take n (drop i l)) (i + n)
unfolding raw
raw_at n l i h = choose_yes (dec_le n (length (drop i l))) _ _ (omega (arith, length-drop i l))

-- .. and one that is not.
pub raw-end : (n : ℕ) (l : List ℕ) (i : ℕ) → length l - i < n → raw n l i ≡ stop ended i
unfolding raw
raw-end n l i h = choose_no (dec_le n (length (drop i l))) _ _ (omega (arith, length-drop i l))

-- A number of w bytes that is there ..
pub fixed-at : (w : ℕ) (l : List ℕ) (i : ℕ) → w ≤ length l - i → fixed w l i ≡ got (little (take w (drop i l))) (i + w)
unfolding fixed mapped bind follow pure
fixed-at w l i h = rw (raw_at w l i h)

-- .. and one that is not.
pub fixed-end : (w : ℕ) (l : List ℕ) (i : ℕ) → length l - i < w → fixed w l i ≡ stop ended i
unfolding fixed mapped bind follow
fixed-end w l i h = rw (raw-end w l i h)

-- Number k of them.
pub nums_at : (n w : ℕ) (s : List ℕ) (k : ℕ) → k < n → get_or (nums n w s) k 0 ≡ little (take w (drop (k * w) s))
unfolding nums
nums_at zero w s k h = absurd (not-suc-le-zero h)
nums_at (suc n) w s zero h = rw zero-mul
nums_at (suc n) w s (suc k) h =
    let e : w + k * w ≡ suc k * w = omega arith in
    nums_at n w (drop w s) k (le_of_suc-le-suc h) ∙ rw (drop-drop, e)

-- n numbers that are there ..
pub times-at : (n w : ℕ) (l : List ℕ) (i : ℕ) → n * w ≤ length l - i → times n (fixed w) l i ≡ got (nums n w (drop i l)) (i + n * w)
unfolding times nums pure bind follow mapped
times-at zero w l i h = rw (zero-mul, add-zero)
times-at (suc n) w l i h =
    let m : w ≤ length l - i = omega arith in
    let q : n * w ≤ length l - (i + w) = omega arith in
    let e : i + w + n * w ≡ i + suc n * w = omega arith in
    rw (fixed-at w l i m, times-at n w l (i + w) q, e, drop-drop)

-- .. and where only k of them are, the next one breaks where it begins.
pub times-end : (n w : ℕ) (l : List ℕ) (i k : ℕ) → k < n → k * w ≤ length l - i → length l - i < suc k * w →
    times n (fixed w) l i ≡ stop ended (i + k * w)
unfolding times bind follow mapped
times-end zero w l i k h a b = absurd (not-suc-le-zero h)
times-end (suc n) w l i zero h a b =
    let m : length l - i < w = omega arith in
    rw (fixed-end w l i m, zero-mul, add-zero)
times-end (suc n) w l i (suc k) h a b =
    let m : w ≤ length l - i = omega arith in
    let e : i + w + k * w ≡ i + suc k * w = omega arith in
    rw (fixed-at w l i m, times-end n w l (i + w) k (le_of_suc-le-suc h) (omega arith) (omega arith), e)
