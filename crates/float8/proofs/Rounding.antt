-- A quotient rounded to the nearest whole number, ties to even: by a sum and a division, without a whole even part, and
-- in another unit. Assumes nothing.
use mathlib.Core.Path.{◌≡◌, sym, ap, ◌∙◌}
use mathlib.Core.Logic.{◌⊎◌, inl, inr, ⊎_elim}
use Prim.Native.Nat.{ℕ, suc, ◌+◌, ◌-◌, ◌*◌, ◌/◌, ◌%◌, ◌^◌, ◌≤◌, ◌<◌}
use native.Mathlib.Nat.{add-mul, one-mul, mul-one, mul_assoc, suc-mul, pow-suc, mod-lt, mul-le-mul_left, mul-le-mul_right}
use native.Mathlib.Decide.{dec_lt}
use native.Mathlib.Omega.{arith}
use lib.Pow.{pow_pos, split, high}
use Rattle.float8.specs.Inner.{Rounded}

-- where two numbers stand to each other
pub side : (a b : ℕ) → (a < b) ⊎ (b ≤ a)
side a b = of-dec (dec_lt a b)
  where
    of-dec : Dec (a < b) → (a < b) ⊎ (b ≤ a)
    of-dec (yes p) = inl p
    of-dec (no p) = inr (omega arith)

-- half of 2 ^ s less one, and the quotient's last bit, are added before the low bits are dropped
module _ (n s h q r : ℕ) (half : 2 ^ s ≡ 2 * h) (parts : q * 2 ^ s + r ≡ n) (less : r < 2 ^ s) where
  down : r + q % 2 ≤ h → Rounded n (2 ^ s) ((n + (h - 1) + q % 2) / 2 ^ s)
  down l =
      let e : (n + (h - 1) + q % 2) / 2 ^ s ≡ q =
      ap (λ (z : ℕ). z / 2 ^ s) (omega arith) ∙ high q s {lo = r + (h - 1) + q % 2} (omega arith) in
      rw e (record { low = omega arith; high = omega arith })

  up : h < r + q % 2 → Rounded n (2 ^ s) ((n + (h - 1) + q % 2) / 2 ^ s)
  up l =
      let m : (q + 1) * 2 ^ s ≡ q * 2 ^ s + 2 ^ s = simp (add-mul, one-mul) in
      let e : (n + (h - 1) + q % 2) / 2 ^ s ≡ q + 1 =
      ap (λ (z : ℕ). z / 2 ^ s) (omega arith) ∙ high (q + 1) s {lo = r + q % 2 - h - 1} (omega arith) in
      rw e (record { low = omega arith; high = omega arith })

  by_parts : Rounded n (2 ^ s) ((n + (h - 1) + q % 2) / 2 ^ s)
  by_parts = ⊎_elim up down (side h (r + q % 2))

pub by-sum : (n s h : ℕ) → 0 < s → h ≡ 2 ^ (s - 1) → Rounded n (2 ^ s) ((n + (h - 1) + n / 2 ^ s % 2) / 2 ^ s)
by-sum n s h some is =
    let i : s ≡ suc (s - 1) = omega arith in
    let p : 2 ^ s ≡ 2 ^ (s - 1) * 2 = ap (λ (z : ℕ). 2 ^ z) i ∙ pow-suc 2 (s - 1) in
    by_parts n s h (n / 2 ^ s) (n % 2 ^ s) (omega arith) (split n s) (mod-lt n (pow_pos s))

-- an even number of whole steps stands before the rest, and before the rest's quotient
module _ (a n d q : ℕ) (some : 0 < d) (even : a % 2 ≡ 0) (whole : Rounded (a * d + n) d q) where
  pub at_least : a ≤ q
  at_least =
      ⊎_elim (λ l. let g = mul-le-mul_right d l in let w = whole.high in absurd (omega (arith, suc-mul q d))) (λ g. g)
      (side q a)

  pub rest : Rounded n d (q - a)
  rest =
      let l = at_least in
      let e : q * d ≡ a * d + (q - a) * d = ap (λ (z : ℕ). z * d) (omega arith) ∙ add-mul a (q - a) d in
      record { low = let w = whole.low in omega arith; high = let w = whole.high in omega arith }

-- both counted in a unit t times smaller
pub scaled : (n d q t : ℕ) → 0 < t → Rounded n d q → Rounded (n * t) (d * t) q
scaled n d q t some r =
    let f : 2 * (q * (d * t)) ≡ 2 * (q * d) * t = rw (← mul_assoc q d t, ← mul_assoc 2 (q * d) t) in
    let g : 2 * (n * t) ≡ 2 * n * t = sym (mul_assoc 2 n t) in
    let o = rw (mul-one (q % 2)) at (mul-le-mul_left (q % 2) some) in
    let l = rw (add-mul (2 * (q * d)) (q % 2) t, add-mul (2 * n) d t) at (mul-le-mul_right t r.low) in
    let h = rw (add-mul (2 * n) (q % 2) t, add-mul (2 * (q * d)) d t) at (mul-le-mul_right t r.high) in
    record { low = omega arith; high = omega arith }
