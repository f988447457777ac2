-- Numbers of one width that stand one behind the other: as they are put, word by word, and as a parser reads them.
-- Assumes nothing.
use Rattle.std.specs.Prelude.{Result, Ok, Err}
use Rattle.reading.specs.declared.Refused.{Refused}
use mathlib.Core.Path.{◌≡◌, refl, sym, ap, ◌∙◌, subst}
use Prim.Native.Nat.{ℕ, zero, suc, ◌+◌, ◌-◌, ◌*◌, ◌/◌, ◌^◌, ◌≤◌, ◌<◌}
use native.Mathlib.Nat.{sub-zero, zero-mul, pow-zero, pow-succ', pow-le-pow_right, mul-le-mul_left, lt-div-mul-add}
use native.Mathlib.Numerals.{add-one}
use native.Mathlib.Omega.{arith}
use mathlib.Core.List.{List}
use lib.ListN.{length, take, drop, get_or, length-drop, drop_of_length-le}
use lib.Seq.{drop-cons, drop-drop, take_all}
use Rattle.exact.specs.Got.{Got, got, stop, ended, follow}
use Rattle.exact.specs.Exact.{Parser}
use Rattle.exact.specs.Basic.{pure}
use Rattle.exact.specs.Sequence.{bind, mapped}
use Rattle.exact.specs.Repeat.{times}
use Rattle.exact.specs.Fixed.{little, fixed, nums}
use Rattle.exact.proofs.LawsFixed.{length-nums}
use Rattle.exact.proofs.LawsSteps.{nums_at, times-at, times-end}
use Rattle.sheet.specs.Store.{put_word, put_words}
use Rattle.payloads.specs.declared.fields.Number.{Number}
use Rattle.payloads.specs.declared.fields.Spot.{Spot}
use Rattle.entries.proofs.LawsStarts.{starts-room, starts_fit}
use Rattle.enums.specs.declared.Refusal.TheVariants.{Short}
use Rattle.payloads.specs.Fields.{number_at, numbers, several, Put, Step}
use Rattle.payloads.proofs.LawsFields.{map-got, map-stop, put-stop, step-same}

-- All bytes from a place on.
pub rest_all : (l : List ℕ) (i : ℕ) → take (length l - i) (drop i l) ≡ drop i l
rest_all l i = let n = length-drop i l in take_all (length l - i) (drop i l) (omega (arith, n))

-- A number's lowest byte, and the bytes behind it.
pub little-next : (l : List ℕ) (i : ℕ) → i < length l → little (drop i l) ≡ get_or l i 0 + 256 * little (drop (i + 1) l)
unfolding little
little-next l i h = rw (drop-cons l i 0 h, add-one)

-- v is the number that the bytes from place i on are.
pub record Tail (l : List ℕ) (i v : ℕ) : Type 0 where
  pub value : v ≡ little (drop i l)
  pub low : i ≤ length l
  pub fits : v < 256 ^ (length l - i)

-- Behind the last byte stands 0 ..
pub tail-end : (l : List ℕ) → Tail l (length l) 0
unfolding little
tail-end l =
    let e : length l - length l ≡ 0 = omega arith in
    record {
      value = rw (drop_of_length-le l {i = length l} (omega arith));
      low = omega arith;
      fits = rw (e, pow-zero) (omega arith);
    }

module _ (l : List ℕ) (i v : ℕ) (t : Tail l i v) where
  -- .. each byte before it is a digit more ..
  pub tail-next : 0 < i → get_or l (i - 1) 0 < 256 → Tail l (i - 1) (256 * v + get_or l (i - 1) 0)
  tail-next h f =
      let n : i - 1 < length l = omega (arith, t.low) in
      let e : i - 1 + 1 ≡ i = omega arith in
      let d : length l - (i - 1) ≡ suc (length l - i) = omega (arith, t.low) in
      let m = t.fits in
      let q : little (drop (i - 1 + 1) l) ≡ v = ap (λ k. little (drop k l)) e ∙ sym t.value in
      record {
        value = omega (arith, little-next l (i - 1) n, q);
        low = omega (arith, t.low);
        fits = rw (d, pow-succ' 256 (length l - i)) (omega (arith, m));
      }

  -- .. up to eight of them fit a word, and before one more there is room for it ..
  pub tail-fits : length l ≤ 8 → v < 2 ^ 64
  tail-fits h =
      let n : length l - i ≤ 8 = omega arith in
      let p : 256 ^ (length l - i) ≤ 256 ^ 8 = pow-le-pow_right (omega arith) n in
      omega (arith, p, t.fits)

  pub tail-room : length l ≤ 8 → 0 < i → 256 * v < 2 ^ 64
  tail-room h f =
      let n : length l - i ≤ 7 = omega arith in
      let p : 256 ^ (length l - i) ≤ 256 ^ 7 = pow-le-pow_right (omega arith) n in
      omega (arith, p, t.fits)

  -- .. and all of them are the number.
  pub tail_all : i ≤ 0 → v ≡ little l
  tail_all h = let e : i ≡ 0 = omega arith in t.value ∙ ap (λ k. little (drop k l)) e

-- Behind the first a of e numbers stand the others.
pub nums-from : (a e k : ℕ) (l : List ℕ) → a ≤ e → drop a (nums e k l) ≡ nums (e - a) k (drop (a * k) l)
unfolding nums
nums-from zero e k l h = rw (sub-zero, zero-mul)
nums-from (suc a) zero k l h = let z : ⊥ = omega arith in absurd z
nums-from (suc a) (suc e) k l h =
    let m : suc e - suc a ≡ e - a = omega arith in
    let n : k + a * k ≡ suc a * k = omega arith in
    nums-from a e k (drop k l) (omega arith) ∙ rw (drop-drop, n, m)

-- Numbers are put one by one: none is left ..
module _ (e k : ℕ) (l : List ℕ) (i w : ℕ) where
  pub nums-done : (s : List ℕ) → e ≤ i → put_words s w (drop i (nums e k l)) ≡ s
  unfolding put_words
  nums-done s h = let n : length (nums e k l) ≤ i = omega (arith, length-nums e k l) in rw (drop_of_length-le (nums e k l) n)

  -- .. or one more.
  pub nums-more : (s t : List ℕ) (v u : ℕ) → u ≡ w + 1 → i < e → v ≡ little (take k (drop (i * k) l)) → t ≡ put_word s w v →
      put_words s w (drop i (nums e k l)) ≡ put_words t u (drop (i + 1) (nums e k l))
  unfolding put_words
  nums-more s t v u q h f g =
      let n : i < length (nums e k l) = omega (arith, length-nums e k l) in
      let a : get_or (nums e k l) i 0 ≡ v = nums_at e k l i h ∙ sym f in
      rw (drop-cons (nums e k l) i 0 n, a, add-one i, g, q)

-- All n numbers of k bytes are there ..
module _ (n k : ℕ) (l : List ℕ) (i w : ℕ) (s s' : List ℕ) where
  several-fit : n ≤ (length l - i) / k → n * k ≤ length l - i
  several-fit h = starts_fit k l i n (length l - i) refl h

  pub several-got : n ≤ (length l - i) / k → s' ≡ put_words s w (nums n k (drop i l)) →
      Put (several n n (fixed k) l i) w s s' (Ok record { pos = i + n * k; word = w + n; value = n })
  unfolding several Put
  several-got h e =
      let m : several n n (fixed k) l i ≡ got (n, nums n k (drop i l)) (i + n * k) =
      map-got (λ vs. (n, vs)) (times n (fixed k)) l i (nums n k (drop i l)) (i + n * k) (times-at n k l i (several-fit h)) in
      let q : w + length (nums n k (drop i l)) ≡ w + n = omega (arith, length-nums n k (drop i l)) in
      subst (λ g. Put g w s s' (Ok record { pos = i + n * k; word = w + n; value = n })) (sym m) (rw q refl, e)

  -- .. or only so many that the next one breaks where it begins.
  several-room : (length l - i) / k * k ≤ length l - i
  several-room = starts-room k l i n (length l - i) refl

  pub several-short : 0 < k → (length l - i) / k < n →
      Put (several n n (fixed k) l i) w s s' (Err record { refusal = Short; at = i + (length l - i) / k * k })
  unfolding several
  several-short some h =
      let q : ℕ = (length l - i) / k in
      let b : length l - i < suc q * k = omega (arith, lt-div-mul-add {a = length l - i} some) in
      put-stop _ w s s' _ (map-stop (λ vs. (n, vs)) (times n (fixed k)) l i ended (i + q * k) (times-end n k l i q h several-room b))

-- Inside an entry both are steps.
module _ (n k : ℕ) (l s s' : List ℕ) (t : Spot) (some : 0 < k) (low : t.pos ≤ length l) where
  pub several-step : n ≤ (length l - t.pos) / k → s' ≡ put_words s t.word (nums n k (drop t.pos l)) →
      Step 0 (several n n (fixed k)) l t s s' (Ok record { pos = t.pos + n * k; word = t.word + n; value = n })
  several-step h e =
      let f = several-fit n k l t.pos t.word s s' h in
      let m : n * 1 ≤ n * k = mul-le-mul_left n some in
      record { put = several-got n k l t.pos t.word s s' h e; within = (omega (arith, f), omega (arith, m)) }

  pub several-end : (length l - t.pos) / k < n →
      Step 0 (several n n (fixed k)) l t s s' (Err record { refusal = Short; at = t.pos + (length l - t.pos) / k * k })
  several-end h =
      let r = several-room n k l t.pos t.word s s' in
      record { put = several-short n k l t.pos t.word s s' some h; within = omega (arith, r) }

-- Parsers that answer the same do so n times.
module _ (p q : Parser ℕ) (l : List ℕ) (same : (j : ℕ) → p l j ≡ q l j) where
  times-next : (n i : ℕ) (g : Got ℕ) → q l i ≡ g → ((j : ℕ) → times n p l j ≡ times n q l j) → times (suc n) p l i ≡ times (suc n) q l i
  unfolding times mapped bind follow
  times-next n i (got v j) e h = rw (same i, e, h j)
  times-next n i (stop c k) e h = rw (same i, e)

  times-same : (n i : ℕ) → times n p l i ≡ times n q l i
  unfolding times
  times-same zero i = refl
  times-same (suc n) i = times-next n i (q l i) refl (times-same n)

-- Numbers of a width stand so.
pub numbers_as : {k : Number} (m : Number) (w n : ℕ) {l s s' : List ℕ} {t : Spot} {r : Result Spot Refused} → k ≡ m →
    ((j : ℕ) → number_at m l j ≡ fixed w l j) → Step 0 (several n n (fixed w)) l t s s' r → Step 0 (numbers n n k) l t s s' r
unfolding numbers several mapped bind
numbers_as {k} m w n {l} {s} {s'} {t} {r} e f x =
    let y : times n (fixed w) l t.pos ≡ times n (number_at m) l t.pos = sym (times-same (number_at m) (fixed w) l f n t.pos) in
    subst (λ k. Step 0 (numbers n n k) l t s s' r) (sym e)
    (step-same (several n n (fixed w)) (numbers n n m) {t = t} (ap (λ g. follow g (λ vs j. pure (n, vs) l j)) y) x)
