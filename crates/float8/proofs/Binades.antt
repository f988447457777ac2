-- A magnitude rounded to whole steps of its binade is the nearest code, for every mantissa width above 0 and every
-- place k of the least subnormal. Assumes nothing.
use mathlib.Core.Path.{◌≡◌, ap, subst, ◌∙◌}
use mathlib.Core.Logic.{◌⊎◌, inl, inr, ⊎_elim}
use Prim.Native.Nat.{ℕ, suc, ◌+◌, ◌-◌, ◌*◌, ◌%◌, ◌^◌, ◌≤◌, ◌<◌, min}
use native.Mathlib.Nat.{zero-mul, mul_assoc, mul_comm, suc-mul, add-mul, pow-suc, mul-le-mul_right}
use native.Mathlib.Omega.{arith}
use lib.Pow.{pow_pos}
use Rattle.float8.specs.Magnitude.{steps}
use Rattle.float8.specs.Nearest.{Nearest}
use Rattle.float8.specs.Inner.{Rounded}
use Rattle.float8.proofs.Rounding.{side}
use Rattle.float8.proofs.Neighbours.{Under, Over, saturated}
use Rattle.float8.proofs.Steps.{value, wide, wide-grows}

-- the first code of a binade is even
pub even-part : (m e : ℕ) → 0 < m → (e * 2 ^ m) % 2 ≡ 0
even-part m e some =
    let i : m ≡ suc (m - 1) = omega arith in
    let h : e * 2 ^ m ≡ e * 2 ^ (m - 1) * 2 = ap (λ (n : ℕ). e * 2 ^ n) i ∙ rw (pow-suc, ← mul_assoc e (2 ^ (m - 1)) 2) in
    omega arith

module _ (m k : ℕ) (some : 0 < m) where
  -- q whole steps of the binade e, each of u
  module _ (e u x q : ℕ) (unit : 2 ^ e * 2 ^ k ≡ u) (pos : 0 < u) (rnd : Rounded x u q) (most : q ≤ 2 * 2 ^ m)
      (kind : (e ≡ 0) ⊎ (2 ^ m * u ≤ x)) where
    at : (j : ℕ) → (e ≡ 0) ⊎ (2 ^ m ≤ j) → j ≤ 2 * 2 ^ m → wide m k (e * 2 ^ m + j) ≡ j * u
    at j w h = ap (λ (n : ℕ). n * 2 ^ k) (value m e j w h) ∙ mul_assoc j (2 ^ e) (2 ^ k) ∙ ap (λ (n : ℕ). j * n) unit

    enough : 2 ^ m * u ≤ x → 2 ^ m ≤ q
    enough h =
        ⊎_elim (λ l. let a = mul-le-mul_right u l in let r = rnd.high in absurd (omega (arith, suc-mul q u))) (λ g. g)
        (side q (2 ^ m))

    in-binade : (e ≡ 0) ⊎ (2 ^ m ≤ q)
    in-binade = ⊎_elim (λ z. inl z) (λ h. inr (enough h)) kind

    same-parity : (e * 2 ^ m + q) % 2 ≡ q % 2
    same-parity = omega (arith, even-part m e some)

    over : Over (wide m k) (wide-grows m k) x (e * 2 ^ m + q)
    over = ⊎_elim within (λ g. last (omega arith)) (side q (2 * 2 ^ m))
      where
        within : q < 2 * 2 ^ m → Over (wide m k) (wide-grows m k) x (e * 2 ^ m + q)
        within h =
            let a = at q in-binade most in
            let n = at (suc q) (⊎_elim (λ z. inl z) (λ p. inr (omega arith)) in-binade) h in
            let i : wide m k (suc (e * 2 ^ m + q)) ≡ wide m k (e * 2 ^ m + suc q) = ap (wide m k) (omega arith) in
            let r = rnd.high in
            omega (arith, suc-mul q u, same-parity)

        -- the code after the next binade's first is two steps on
        last : q ≡ 2 * 2 ^ m → Over (wide m k) (wide-grows m k) x (e * 2 ^ m + q)
        last h =
            let a = at q in-binade most in
            let p = pow_pos m in
            let v : steps m (suc e * 2 ^ m + suc (2 ^ m)) ≡ (q + 2) * 2 ^ e =
            value m (suc e) (suc (2 ^ m)) (inr (omega arith)) (omega arith) ∙ double in
            let i : suc (e * 2 ^ m + q) ≡ suc e * 2 ^ m + suc (2 ^ m) = omega (arith, suc-mul e (2 ^ m)) in
            let n : wide m k (suc (e * 2 ^ m + q)) ≡ (q + 2) * u =
            ap (wide m k) i ∙ ap (λ (z : ℕ). z * 2 ^ k) v ∙ mul_assoc (q + 2) (2 ^ e) (2 ^ k)
            ∙ ap (λ (z : ℕ). (q + 2) * z) unit in
            let r = rnd.high in
            omega (arith, add-mul q 2 u, same-parity)
          where
            double : suc (2 ^ m) * 2 ^ suc e ≡ (q + 2) * 2 ^ e
            double =
                let i : suc (2 ^ m) * 2 ≡ q + 2 = omega arith in
                rw (pow-suc, mul_comm (2 ^ e) 2, ← mul_assoc (suc (2 ^ m)) 2 (2 ^ e), i)

    under : Under (wide m k) (wide-grows m k) x (e * 2 ^ m + q)
    under h = ⊎_elim (λ z. same (inl z)) (λ w. ⊎_elim (λ l. edge l w) (λ g. same (inr g)) (side (q - 1) (2 ^ m))) kind
      where
        some-q : 0 < q
        some-q =
            ⊎_elim (λ z. let y : e * 2 ^ m ≡ 0 = ap (λ (n : ℕ). n * 2 ^ m) z ∙ zero-mul (2 ^ m) in omega arith)
            (λ g. let p = pow_pos m in omega arith) in-binade

        before : wide m k (e * 2 ^ m + q - 1) ≡ wide m k (e * 2 ^ m + (q - 1))
        before = let l = some-q in ap (wide m k) (omega arith)

        Goal : Type 0
        Goal = wide m k (e * 2 ^ m + q - 1) + wide m k (e * 2 ^ m + q) + (e * 2 ^ m + q) % 2 ≤ 2 * x

        same : (e ≡ 0) ⊎ (2 ^ m ≤ q - 1) → Goal
        same w =
            let l = some-q in
            let a = at q in-binade most in
            let n = at (q - 1) w (omega arith) in
            let c : q * u ≡ (q - 1) * u + u = ap (λ (z : ℕ). z * u) {x = q} {y = suc (q - 1)} (omega arith) ∙ suc-mul (q - 1) u in
            let r = rnd.low in
            omega (arith, before, same-parity)

        -- q is the binade's first, and x is not below it
        edge : q - 1 < 2 ^ m → 2 ^ m * u ≤ x → Goal
        edge l w =
            let a = at q in-binade most in
            let g = enough w in
            let c : q * u ≡ 2 ^ m * u = ap (λ (z : ℕ). z * u) (omega arith) in
            let j : suc (e * 2 ^ m + q - 1) ≡ e * 2 ^ m + q = omega arith in
            let t = subst (λ (z : ℕ). wide m k (e * 2 ^ m + q - 1) < wide m k z) j (wide-grows m k (e * 2 ^ m + q - 1)) in
            omega arith

    pub coded : (top : ℕ) → Nearest (wide m k) top x (min (e * 2 ^ m + q) top)
    coded top = saturated (wide m k) (wide-grows m k) top x (e * 2 ^ m + q) under over
