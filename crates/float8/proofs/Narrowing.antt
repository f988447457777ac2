-- An f64's bits, rounded as nearest_code does, give the nearest code, and without a shift or a sum out of reach: for up
-- to 23 mantissa bits and biases up to 127. Assumes nothing.
use mathlib.Core.Path.{◌≡◌, refl, sym, ap, subst, ◌∙◌}
use mathlib.Core.Logic.{◌⊎◌, inl, inr, ⊎_elim}
use Prim.Native.Nat.{ℕ, suc, ◌+◌, ◌-◌, ◌*◌, ◌/◌, ◌%◌, ◌^◌, ◌≤◌, ◌<◌, min, max, suc-le-suc}
use native.Mathlib.Nat.{zero-mul, mul-one, mul_assoc, suc-mul, mul-pos, le_trans, mul-le-mul_right}
use native.Mathlib.Omega.{arith}
use lib.Dec.{lit≤}
use lib.Pow.{pow_pos, pow-add, pow_mono}
use Rattle.float8.specs.Magnitude.{steps, place, magnitude_by, magnitude64}
use Rattle.float8.specs.Nearest.{Nearest}
use Rattle.float8.specs.Inner.{Narrow, Rounded}
use Rattle.float8.proofs.Rounding.{side, at_least, rest, scaled}
use Rattle.float8.proofs.Neighbours.{grow, vanishing}
use Rattle.float8.proofs.Steps.{value, grows, wide, wide-grows}
use Rattle.float8.proofs.Binades.{even-part, coded}

-- the significand: the mantissa field under the implied 1
abbrev sig : ℕ → ℕ
sig b = b % 2 ^ 52 + 2 ^ 52

-- The steps of the narrow format are 2 ^ s in the significand of b, and e binades of it lie between the least normal
-- and b.
module _ (m k top b up e s c : ℕ) (some : 0 < m) (field : b / 2 ^ 52 ≡ suc up) (fit : up + s ≡ k + e) (long : 52 ≤ m + s)
    (one-binade : (e ≡ 0) ⊎ (m + s ≡ 52)) (rnd : Rounded (e * 2 ^ 52 + sig b) (2 ^ s) c) where
  exact : steps 52 b ≡ sig b * 2 ^ up
  exact = ap (steps 52) (omega arith) ∙ value 52 up (sig b) (inr (omega arith)) (omega arith)

  unit : 2 ^ e * 2 ^ k ≡ 2 ^ s * 2 ^ up
  unit = let i : e + k ≡ s + up = omega arith in sym (pow-add 2 e k) ∙ ap (λ (n : ℕ). 2 ^ n) i ∙ pow-add 2 s up

  room : 2 ^ 52 ≤ 2 ^ m * 2 ^ s
  room = subst (λ (n : ℕ). 2 ^ 52 ≤ n) (pow-add 2 m s) (pow_mono long)

  full : m + s ≡ 52 → 2 ^ m * 2 ^ s ≡ 2 ^ 52
  full i = sym (pow-add 2 m s) ∙ ap (λ (n : ℕ). 2 ^ n) i

  binades : e * 2 ^ 52 ≡ e * 2 ^ m * 2 ^ s
  binades =
      ⊎_elim
      (λ z. let a : e * 2 ^ m ≡ 0 = ap (λ (n : ℕ). n * 2 ^ m) z ∙ zero-mul (2 ^ m) in
      let d : e * 2 ^ m * 2 ^ s ≡ 0 = ap (λ (n : ℕ). n * 2 ^ s) a ∙ zero-mul (2 ^ s) in omega arith)
      (λ i. ap (λ (n : ℕ). e * n) (sym (full i)) ∙ sym (mul_assoc e (2 ^ m) (2 ^ s))) one-binade

  in-steps : Rounded (e * 2 ^ m * 2 ^ s + sig b) (2 ^ s) c
  in-steps = subst (λ (n : ℕ). Rounded (n + sig b) (2 ^ s) c) binades rnd

  least : e * 2 ^ m ≤ c
  least = at_least (e * 2 ^ m) (sig b) (2 ^ s) c (pow_pos s) (even-part m e some) in-steps

  of-sig : Rounded (sig b) (2 ^ s) (c - e * 2 ^ m)
  of-sig = rest (e * 2 ^ m) (sig b) (2 ^ s) c (pow_pos s) (even-part m e some) in-steps

  most : c - e * 2 ^ m ≤ 2 * 2 ^ m
  most =
      ⊎_elim
      (λ l. let a = mul-le-mul_right (2 ^ s) l in let w = of-sig.low in let r = room in let p = pow_pos s in
      absurd (omega (arith, suc-mul (2 * 2 ^ m) (2 ^ s), mul_assoc 2 (2 ^ m) (2 ^ s))))
      (λ g. g) (side (2 * 2 ^ m) (c - e * 2 ^ m))

  kind : (e ≡ 0) ⊎ (2 ^ m * (2 ^ s * 2 ^ up) ≤ sig b * 2 ^ up)
  kind =
      ⊎_elim (λ z. inl z)
      (λ i. let f = full i in
      inr (subst (λ (n : ℕ). n ≤ sig b * 2 ^ up) (mul_assoc (2 ^ m) (2 ^ s) (2 ^ up)) (mul-le-mul_right (2 ^ up) (omega arith))))
      one-binade

  rounded : Nearest (wide m k) top (steps 52 b) (min c top)
  rounded =
      let l = least in
      let i : e * 2 ^ m + (c - e * 2 ^ m) ≡ c = omega arith in
      let n = coded m k some e (2 ^ s * 2 ^ up) (sig b * 2 ^ up) (c - e * 2 ^ m) unit (mul-pos (pow_pos s) (pow_pos up))
      (scaled (sig b) (2 ^ s) (c - e * 2 ^ m) (2 ^ up) (pow_pos up) of-sig) most kind top in
      rw exact (subst (λ (z : ℕ). Nearest (wide m k) top (sig b * 2 ^ up) (min z top)) i n)

-- at most a quarter of the least subnormal
tiny : (m k top d b : ℕ) → 0 < d → d + 53 ≡ k → b ≤ d * 2 ^ 52 → Nearest (wide m k) top (steps 52 b) 0
tiny m k top d b some i h =
    let g = grow (steps 52) (grows 52) b ((d - 1) * 2 ^ 52 + 2 ^ 52) (omega arith) in
    let v = value 52 (d - 1) (2 ^ 52) (inr (omega arith)) (omega arith) in
    let j : k ≡ 54 + (d - 1) = omega arith in
    let p : 2 ^ k ≡ 2 ^ 54 * 2 ^ (d - 1) = ap (λ (n : ℕ). 2 ^ n) j ∙ pow-add 2 54 (d - 1) in
    let w : wide m k 1 ≡ 2 ^ k = least in
    vanishing (wide m k) (wide-grows m k) top (steps 52 b) (omega arith)
  where
    least : wide m k 1 ≡ 2 ^ k
    least =
        let v : steps m 1 ≡ 1 * 2 ^ 0 = ap (steps m) (omega arith) ∙ value m 0 1 (inl refl) (omega (arith, pow_pos m)) in
        ap (λ (n : ℕ). n * 2 ^ k) v ∙ omega arith

held-shift : (m d f x : ℕ) → m ≤ 52 → f ≡ d → x ≡ d + m + 2 → 52 - m + (x - f) ≡ 54
held-shift m d f x l i j = omega arith

free-fit : (m k lo f x : ℕ) → m ≤ 52 → k + m ≡ lo + 51 → 0 < f → f ≤ x → lo ≤ x → f - 1 + (52 - m + (x - f)) ≡ k + (x - lo)
free-fit m k lo f x l at s i j = omega arith

free-long : (m y : ℕ) → m ≤ 52 → 52 ≤ m + (52 - m + y)
free-long m y l = omega arith

shift-few : (m y : ℕ) → m ≤ 52 → y ≤ m + 2 → 52 - m + y ≤ 54
shift-few m y l g = omega arith

-- nearest_code: the bits b are held to h, whose exponent field is at least d, and their exponent field to x, which is
-- at least that of the least normal, lo
module _ (m k lo d b h x : ℕ) (few : m ≤ 51) (at : k + m ≡ lo + 51) (under : d + m + 2 ≡ lo) (held : h ≡ max b (d * 2 ^ 52))
    (target : x ≡ max (h / 2 ^ 52) lo) where
  abbrev shift : ℕ
  shift = 52 - m + (x - h / 2 ^ 52)

  reached : shift ≤ 54
  reached = shift-few m (x - h / 2 ^ 52) (omega arith) (omega arith)

  below : b < 2 ^ 63 → lo ≤ 1024 → (x - lo) * 2 ^ 52 + sig h < 2 ^ 63
  below l g = omega arith

  module _ (top c : ℕ) (some : 0 < m) (far : 0 < d) (rnd : Rounded ((x - lo) * 2 ^ 52 + sig h) (2 ^ shift) c) where
    at_zero : b < d * 2 ^ 52 → Nearest (wide m k) top (steps 52 b) (min c top)
    at_zero l =
        let n : (x - lo) * 2 ^ 52 + sig h ≡ 2 ^ 52 = omega arith in
        let s : shift ≡ 54 = held-shift m d (h / 2 ^ 52) x (omega arith) (omega arith) (omega arith) in
        let v = (subst (λ (z : ℕ). Rounded (2 ^ 52) (2 ^ z) c) s (subst (λ (z : ℕ). Rounded z (2 ^ shift) c) n rnd)).low in
        let z : min c top ≡ 0 = omega arith in
        rw z (tiny m k top d b far (omega arith) (omega arith))

    as-it-is : d * 2 ^ 52 ≤ b → Nearest (wide m k) top (steps 52 b) (min c top)
    as-it-is g =
        let i : h ≡ b = omega arith in
        let r = subst (λ (z : ℕ). Rounded ((x - lo) * 2 ^ 52 + sig z) (2 ^ (52 - m + (x - z / 2 ^ 52))) c) i rnd in
        let fit = free-fit m k lo (b / 2 ^ 52) x (omega arith) at (omega arith) (omega arith) (omega arith) in
        rounded m k top b (b / 2 ^ 52 - 1) (x - lo) (52 - m + (x - b / 2 ^ 52)) c some (omega arith) fit
        (free-long m (x - b / 2 ^ 52) (omega arith)) one r
      where
        one : (x - lo ≡ 0) ⊎ (m + (52 - m + (x - b / 2 ^ 52)) ≡ 52)
        one = ⊎_elim (λ l. inl (omega arith)) (λ l. inr (omega arith)) (side (h / 2 ^ 52) lo)

    by-least : Nearest (wide m k) top (steps 52 b) (min c top)
    by-least = ⊎_elim at_zero as-it-is (side b (d * 2 ^ 52))

-- the exponent field that the format's least normal has in an f64, and the one that less is held to
abbrev normal : ℕ → ℕ
normal bias = 1024 - bias

abbrev lowest : ℕ → ℕ → ℕ
lowest bias m = normal bias - m - 2

-- the same by the format's bias
module _ {bias m : ℕ} (w : Narrow bias m) where
  few_bits : m ≤ 51
  few_bits = let f = w.few in omega arith

  placed : place bias m + m ≡ normal bias + 51
  placed = let f = w.few in let l = w.low in omega arith

  under-normal : lowest bias m + m + 2 ≡ normal bias
  under-normal = let f = w.few in let l = w.low in omega arith

  some_left : 0 < lowest bias m
  some_left = let f = w.few in let l = w.low in omega arith

  module _ (b : ℕ) {h x : ℕ} (held : h ≡ max b (lowest bias m * 2 ^ 52)) (target : x ≡ max (h / 2 ^ 52) (normal bias)) where
    abbrev by : ℕ
    by = 52 - m + (x - h / 2 ^ 52)

    pub within-reach : b < 2 ^ 63 → (0 < by) × (by < 63) × ((x - normal bias) * 2 ^ 52 + sig h < 2 ^ 63)
    within-reach l = (some (52 - m) (x - h / 2 ^ 52) (let f = w.few in omega arith), short, small)
      where
        some : (s y : ℕ) → 0 < s → 0 < s + y
        some s y l = omega arith

        short : by < 63
        short =
            let r = reached m (place bias m) (normal bias) (lowest bias m) b h x few_bits placed under-normal held target in
            le_trans (suc-le-suc r) (lit≤ tt)

        small : (x - normal bias) * 2 ^ 52 + sig h < 2 ^ 63
        small =
            below m (place bias m) (normal bias) (lowest bias m) b h x few_bits placed under-normal held target l (omega arith)

    pub nearest-code : (top : ℕ) {c : ℕ} → Rounded ((x - normal bias) * 2 ^ 52 + sig h) (2 ^ by) c
        → Nearest (magnitude_by bias m) top (magnitude64 b) (min c top)
    nearest-code top {c} r =
        rw (mul-one (steps 52 b))
        (by-least m (place bias m) (normal bias) (lowest bias m) b h x few_bits placed under-normal held target top c
        w.mantissa some_left r)

pub zero-nearest : (bias m top : ℕ) → Nearest (magnitude_by bias m) top (magnitude64 0) 0
zero-nearest bias m top =
    let z = value 52 0 0 (inl refl) (omega arith) in
    vanishing (magnitude_by bias m) (wide-grows m (place bias m)) top (magnitude64 0) (omega arith)
