-- The whole code, from its sign and the nearest code, or NaN's: for up to 8 exponent and 23 mantissa bits, and for the
-- 8-bit formats. Assumes nothing.
use mathlib.Core.Path.{◌≡◌, sym, ap, subst, ◌∙◌}
use mathlib.Core.Logic.{inr}
use Prim.Native.Nat.{ℕ, ◌+◌, ◌-◌, ◌*◌, ◌/◌, ◌%◌, ◌^◌, ◌≤◌, ◌<◌}
use native.Mathlib.Nat.{le_trans, mul-one}
use native.Mathlib.Omega.{arith}
use lib.Pow.{pow_mono, pow-add, high_ones}
use Rattle.float8.specs.Magnitude.{bias, steps, place, magnitude_by, magnitude, magnitude64, infinity64}
use Rattle.float8.specs.Nearest.{Nearest}
use Rattle.float8.specs.Formats.{Converted}
use Rattle.float8.specs.Inner.{EightBits, Narrow}
use Rattle.float8.proofs.Neighbours.{grow, overflow}
use Rattle.float8.proofs.Steps.{value, wide, wide-grows}
use Rattle.float8.proofs.Narrowing.{zero-nearest}

module _ (e m : ℕ) (exponent : e ≤ 8) (mantissa : m ≤ 23) where
  bias-low : bias e ≤ 127
  bias-low = let h : 2 ^ (e - 1) ≤ 2 ^ 7 = pow_mono {i = e - 1} {j = 7} (omega arith) in omega arith

  pub narrow-widths : 0 < m → Narrow (bias e) m
  narrow-widths some = record { mantissa = some; few = mantissa; low = bias-low }

  -- every code has a magnitude below an f64's infinity: the first code after them all has
  after-all : wide m (place (bias e) m) (2 ^ (e + m)) ≡ 2 ^ (m + (2 ^ e - 1) + place (bias e) m)
  after-all =
      let t : (2 ^ e - 1) * 2 ^ m + 2 ^ m ≡ 2 ^ (e + m) =
      omega (arith, high_ones e m, pow_mono {i = m} {j = e + m} (omega arith)) in
      let v = value m (2 ^ e - 1) (2 ^ m) (inr (omega arith)) (omega arith) in
      ap (λ (z : ℕ). wide m (place (bias e) m) z) (sym t)
      ∙ ap (λ (z : ℕ). z * 2 ^ place (bias e) m) (v ∙ sym (pow-add 2 m (2 ^ e - 1)))
      ∙ sym (pow-add 2 (m + (2 ^ e - 1)) (place (bias e) m))

  pub below-infinity : (top : ℕ) → top < 2 ^ (e + m) → magnitude e m top ≤ magnitude64 infinity64
  below-infinity top h =
      let l = bias-low in
      let p : 2 ^ e ≤ 2 ^ 8 = pow_mono exponent in
      let g = subst (λ (z : ℕ). magnitude e m top ≤ z) after-all
      (grow (magnitude e m) (wide-grows m (place (bias e) m)) top (2 ^ (e + m)) (omega arith)) in
      let f : 2 ^ (m + (2 ^ e - 1) + place (bias e) m) ≤ 2 ^ 2098 =
      pow_mono {i = m + (2 ^ e - 1) + place (bias e) m} {j = 2098} (omega arith) in
      let i : magnitude64 infinity64 ≡ 2 ^ 2098 =
      mul-one (steps 52 infinity64) ∙ value 52 2046 (2 ^ 52) (inr (omega arith)) (omega arith) in
      subst (λ (z : ℕ). magnitude e m top ≤ z) (sym i) (le_trans g f)

  module _ (p top nan bits r : ℕ) (size : 2 ^ (e + m) ≡ p) (sign : r / p ≡ bits / 2 ^ 63) where
    pub of_nan : infinity64 < bits % 2 ^ 63 → r % p ≡ nan → Converted e m top nan bits r
    of_nan l is =
        record {
          sign = rw size sign;
          not_a_number = λ h. rw size is;
          infinite = λ h. absurd (omega arith);
          number = λ h. absurd (omega arith);
        }

    pub of_number : top < p → bits % 2 ^ 63 ≤ infinity64 → Nearest (magnitude e m) top (magnitude64 (bits % 2 ^ 63)) (r % p)
        → Converted e m top nan bits r
    of_number room l near =
        record {
          sign = rw size sign;
          not_a_number = λ h. absurd (omega arith);
          infinite = λ h.
              ap (λ (z : ℕ). r % z) size
              ∙ overflow (magnitude e m) (wide-grows m (place (bias e) m)) top (magnitude64 (bits % 2 ^ 63)) (r % p) near
              (rw h (below-infinity top (rw size room)));
          number = λ h. rw size near;
        }

-- the 8-bit formats
module _ {e m b o : ℕ} (eight : EightBits e m b o) where
  exponent : e ≤ 8
  exponent = let s = eight.seven in omega arith

  mantissa : m ≤ 23
  mantissa = let s = eight.seven in omega arith

  sized : 2 ^ (e + m) ≡ 128
  sized = ap (λ (z : ℕ). 2 ^ z) eight.seven

  pub narrow : Narrow b m
  narrow = rw eight.biased (narrow-widths e m exponent mantissa eight.mantissa)

  module _ (bits r : ℕ) (sign : r / 128 ≡ bits / 2 ^ 63) where
    pub eight-nan : infinity64 < bits % 2 ^ 63 → r % 128 ≡ o + 1 → Converted e m o (o + 1) bits r
    eight-nan l is = of_nan e m exponent mantissa 128 o (o + 1) bits r sized sign l is

    pub eight-number : {c : ℕ} → bits % 2 ^ 63 ≤ infinity64 → r % 128 ≡ c
        → Nearest (magnitude_by b m) o (magnitude64 (bits % 2 ^ 63)) c → Converted e m o (o + 1) bits r
    eight-number {c} l is near =
        let room = eight.room in
        of_number e m exponent mantissa 128 o (o + 1) bits r sized sign (omega arith) l (rw (is, ← eight.biased) near)

    pub eight-zero : bits % 2 ^ 63 ≡ 0 → r % 128 ≡ 0 → Converted e m o (o + 1) bits r
    eight-zero z is = eight-number (omega arith) is (rw z (zero-nearest b m o))
