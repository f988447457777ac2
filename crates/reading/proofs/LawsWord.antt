-- Little-endian numbers at a place, once over the width: one byte, and two numbers side by side. Assumes nothing.
use mathlib.Core.Path.{◌≡◌, sym, ap, ◌∙◌}
use Prim.Native.Nat.{ℕ, zero, suc, ◌+◌, ◌-◌, ◌*◌, ◌^◌, ◌≤◌, ◌<◌}
use native.Mathlib.Nat.{pow-suc, mul-le-mul_left, mul_assoc, mul-one, pow-zero, add-zero, add-suc}
use native.Mathlib.Omega.{arith}
use native.Mathlib.Decide.{dec_lt}
use mathlib.Core.List.{List, [], ◌∷◌, ◌++◌}
use lib.ListN.{length, take, drop, get_or, length-drop}
use lib.Seq.{take-length, take-add, drop-drop, drop-cons, length-take-le}
use mir.Syntax.{Width}
use Rattle.std.specs.Prelude.{slice_index}
use Rattle.std.specs.Int.{from_le_bytes, byte_worth, byte_len, sum_through}
use Rattle.exact.specs.Basic.{byte}
use Rattle.exact.specs.Fixed.{little, fixed}
use Rattle.exact.proofs.LawsSteps.{byte_at, byte-end, fixed-at, fixed-end}
use Rattle.reading.specs.Numbers.{Word}

-- A list's number is that of its first part and, above it, that of the rest.
pub little-append : (xs ys : List ℕ) → little (xs ++ ys) ≡ little xs + 256 ^ length xs * little ys
unfolding little
little-append [] ys = omega arith
little-append (x ∷ xs) ys = rw (little-append xs ys, pow-suc) (omega arith)

-- A byte is the number of one byte.
pub byte_word : (l : List ℕ) (i : ℕ) → i < length l → little (take 1 (drop i l)) ≡ get_or l i 0
unfolding little
byte_word l i h = rw (drop-cons l i 0) (omega arith)

pub word_byte : (l : List ℕ) (i b : ℕ) → i < length l → Word 1 l i b → b ≡ get_or l i 0
word_byte l i b h w = w.value ∙ byte_word l i h

pub word-of : (l : List ℕ) (i : ℕ) {b : ℕ} → i < length l → b ≡ get_or l i 0 → b < 256 → Word 1 l i b
word-of l i h e f = record { value = e ∙ sym (byte_word l i h); fits = f }

pow-add : (n a b : ℕ) → n ^ (a + b) ≡ n ^ a * n ^ b
pow-add n a zero = rw (add-zero, pow-zero, mul-one)
pow-add n a (suc b) = rw (add-suc, pow-suc, pow-suc, pow-add n a b, mul_assoc)

-- .. and is read like one.
pub fixed-one : (l : List ℕ) (i : ℕ) → byte l i ≡ fixed 1 l i
fixed-one l i =
    elim (dec_lt i (length l)) [
      | yes h ↦ byte_at l i h ∙ sym (rw (← byte_word l i h) (fixed-at 1 l i (omega arith)))
      | no h ↦ byte-end l i (omega arith) ∙ sym (fixed-end 1 l i (omega arith))
    ]

-- A number of a bytes with one of b bytes right behind it is one of a + b bytes.
pub word-join : (a b : ℕ) (l : List ℕ) (i x y : ℕ) → i + a ≤ length l → Word a l i x → Word b l (i + a) y →
    Word (a + b) l i (x + 256 ^ a * y)
word-join a b l i x y h u v =
    let n : length (take a (drop i l)) ≡ a = length-take-le a (drop i l) (omega (arith, length-drop i l)) in
    let m : 256 ^ a * suc y ≤ 256 ^ a * 256 ^ b = mul-le-mul_left (256 ^ a) v.fits in
    record {
      value = rw (take-add, little-append, n, drop-drop, ← u.value, ← v.value);
      fits = rw pow-add (omega (arith, u.fits));
    }

-- The library's number of little-endian bytes is that of the list: of its first k + 1 bytes ..
through : (bs : List ℕ) (k : ℕ) → k < length bs →
    sum_through (λ i. byte_worth i (slice_index bs i)) k ≡ little (take (suc k) bs)
through bs zero h = sym (byte_word bs 0 h)
through bs (suc k) h =
    let n : length (take (suc k) bs) ≡ suc k = length-take-le (suc k) bs (omega arith) in
    let m : suc k + 1 ≡ suc (suc k) = omega arith in
    let e : take (suc (suc k)) bs ≡ take (suc k) bs ++ take 1 (drop (suc k) bs) = sym (ap (λ j. take j bs) m) ∙ take-add (suc k) 1 bs in
    rw (e, little-append, n, byte_word bs (suc k) h, through bs k (omega arith)) (omega arith)

-- .. and of all of them.
pub from_le-little : (w : Width) (bs : List ℕ) → 0 < byte_len w → length bs ≡ byte_len w → from_le_bytes w bs ≡ little bs
from_le-little w bs some e =
    let m : suc (byte_len w - 1) ≡ length bs = omega arith in
    through bs (byte_len w - 1) (omega arith) ∙ ap (λ k. little (take k bs)) m ∙ ap little (take-length bs)
