-- A code's magnitude by binade, and that it grows with the code, for any mantissa width. Assumes nothing.
use mathlib.Core.Path.{◌≡◌, refl, ap, ◌∙◌}
use mathlib.Core.Logic.{◌⊎◌, inl, inr, ⊎_elim}
use Prim.Native.Nat.{ℕ, zero, suc, ◌+◌, ◌-◌, ◌*◌, ◌/◌, ◌%◌, ◌^◌, ◌≤◌, ◌<◌}
use native.Mathlib.Nat.{
  add-zero,
  zero-add,
  zero-mul,
  mul-one,
  pow-zero,
  pow-suc,
  mul_assoc,
  mul_comm,
  suc-mul,
  div-eq_of_lt,
  mod-eq_of_lt,
  mod-lt,
  mul-lt-mul_of_pos_right,
}
use native.Mathlib.Omega.{arith}
use lib.Pow.{pow_pos, split, high, low}
use borrow.Author.Tests.{ne_eqb}
use Rattle.float8.specs.Magnitude.{steps}
use Rattle.float8.proofs.Rounding.{side}

module _ (m : ℕ) where
  subnormal : (f : ℕ) → f < 2 ^ m → steps m f ≡ f
  unfolding steps
  subnormal f h = simp (div-eq_of_lt h, mod-eq_of_lt h)

  normal : (e f : ℕ) → f < 2 ^ m → steps m (suc e * 2 ^ m + f) ≡ (2 ^ m + f) * 2 ^ e
  unfolding steps
  normal e f h =
      let o : suc e - 1 ≡ e = omega arith in
      simp (high (suc e) m h, low (suc e) m h, o, ne_eqb (suc e) 0 (λ z. omega arith))

  -- code e * 2 ^ m + j is j steps of 2 ^ e, up to the next binade's first
  pub value : (e j : ℕ) → (e ≡ 0) ⊎ (2 ^ m ≤ j) → j ≤ 2 * 2 ^ m → steps m (e * 2 ^ m + j) ≡ j * 2 ^ e
  value e j w h =
      ⊎_elim least (λ g. ⊎_elim (within g) (λ l. last (omega arith)) (side j (2 * 2 ^ m))) (side j (2 ^ m))
    where
      least : j < 2 ^ m → steps m (e * 2 ^ m + j) ≡ j * 2 ^ e
      least l =
          let z : e ≡ 0 = ⊎_elim (λ p. p) (λ p. absurd (omega arith)) w in
          rw (z, zero-mul (2 ^ m), zero-add j, pow-zero 2, mul-one j) (subnormal j l)

      within : 2 ^ m ≤ j → j < 2 * 2 ^ m → steps m (e * 2 ^ m + j) ≡ j * 2 ^ e
      within g l =
          let i : e * 2 ^ m + j ≡ suc e * 2 ^ m + (j - 2 ^ m) = omega (arith, suc-mul e (2 ^ m)) in
          let b : 2 ^ m + (j - 2 ^ m) ≡ j = omega arith in
          ap (steps m) i ∙ normal e (j - 2 ^ m) (omega arith) ∙ ap (λ (k : ℕ). k * 2 ^ e) b

      last : j ≡ 2 * 2 ^ m → steps m (e * 2 ^ m + j) ≡ j * 2 ^ e
      last t =
          let i : e * 2 ^ m + j ≡ suc (suc e) * 2 ^ m + 0 = omega (arith, suc-mul e (2 ^ m), suc-mul (suc e) (2 ^ m)) in
          ap (steps m) i ∙ normal (suc e) 0 (pow_pos m)
          ∙ rw (t, add-zero, pow-suc, ← mul_assoc (2 ^ m) (2 ^ e) 2, mul_comm (2 ^ m * 2 ^ e) 2, ← mul_assoc 2 (2 ^ m) (2 ^ e))

  more : (e j c : ℕ) → e * 2 ^ m + j ≡ c → (e ≡ 0) ⊎ (2 ^ m ≤ j) → j < 2 * 2 ^ m → steps m c < steps m (suc c)
  more e j c i w h =
      let s : suc c ≡ e * 2 ^ m + suc j = omega arith in
      rw (s, ← i, value e j w (omega arith), value e (suc j) (⊎_elim (λ p. inl p) (λ p. inr (omega arith)) w) h)
      (mul-lt-mul_of_pos_right {m = j} {n = suc j} (omega arith) (pow_pos e))

  by_field : (c e f : ℕ) → e * 2 ^ m + f ≡ c → f < 2 ^ m → steps m c < steps m (suc c)
  by_field c zero f i l = more 0 f c i (inl refl) (omega arith)
  by_field c (suc e) f i l = more e (2 ^ m + f) c (omega (arith, suc-mul e (2 ^ m))) (inr (omega arith)) (omega arith)

  pub grows : (c : ℕ) → steps m c < steps m (suc c)
  grows c = by_field c (c / 2 ^ m) (c % 2 ^ m) (split c m) (mod-lt c (pow_pos m))

-- magnitudes of m mantissa bits in a unit of which the least subnormal is 2 ^ k
abbrev pub wide : ℕ → ℕ → ℕ → ℕ
wide m k c = steps m c * 2 ^ k

pub wide-grows : (m k c : ℕ) → wide m k c < wide m k (suc c)
wide-grows m k c = mul-lt-mul_of_pos_right (grows m c) (pow_pos k)
