-- Zigzag and bit patterns lose nothing, once over the width; and what the code's signed operations give. Assumes nothing.
use mathlib.Core.Path.{◌≡◌, refl, sym, ap, ◌∙◌}
use mathlib.Core.Logic.{◌↔◌}
use Prim.Native.Nat.{ℕ, zero, suc, ◌+◌, ◌-◌, ◌*◌, ◌/◌, ◌%◌, ◌^◌, ◌≤◌, ◌<◌}
use native.Mathlib.Nat.{pow-suc}
use native.Mathlib.Omega.{arith}
use native.Mathlib.Decide.{dec_lt, ℕ_discrete}
use lib.IntN.{ℤ, pos, negsuc}
use lib.Signed.{mag}
use borrow.Author.Tests.{lt-ltb, le-ltb}
use mir.Syntax.{Width, w8, w16, w32, w64, w128}
use mir.Val.{bits, hbits, of_z, to_z}
use Rattle.std.proofs.lemmas.Int.{of_z-to_z}
use Rattle.exact.proofs.LawsChoice.{choose_yes, choose_no}
use Rattle.encoding.specs.Signed.{zigzag, unzigzag, pattern, signed}

-- Zigzag is undone ..
pub unzigzag-zigzag : (z : ℤ) → unzigzag (zigzag z) ≡ z
unfolding unzigzag
unzigzag-zigzag (pos n) =
    let e : 2 * n / 2 ≡ n = omega arith in
    choose_yes (ℕ_discrete (2 * n % 2) 0) _ _ (omega arith) ∙ ap pos e
unzigzag-zigzag (negsuc n) =
    let e : (2 * n + 1) / 2 ≡ n = omega arith in
    choose_no (ℕ_discrete ((2 * n + 1) % 2) 0) _ _ (λ h. omega arith) ∙ ap negsuc e

-- .. either way round, so each number is the zigzag of one signed number ..
pub zigzag-unzigzag : (v : ℕ) → zigzag (unzigzag v) ≡ v
unfolding unzigzag
zigzag-unzigzag v =
    elim (ℕ_discrete (v % 2) 0) [
      | yes h ↦ ap zigzag (choose_yes (ℕ_discrete (v % 2) 0) _ _ h) ∙ even v h
      | no h ↦ ap zigzag (choose_no (ℕ_discrete (v % 2) 0) _ _ h) ∙ odd v h
    ]
  where
    even : (v : ℕ) → v % 2 ≡ 0 → 2 * (v / 2) ≡ v
    even v h = omega arith

    odd : (v : ℕ) → ¬ (v % 2 ≡ 0) → 2 * (v / 2) + 1 ≡ v
    odd v h = omega arith

-- .. and those of 64 bits are the ones below 2^64.
pub zigzag-fits : (z : ℤ) → (mag z < 2 ^ 63) ↔ (zigzag z < 2 ^ 64)
zigzag-fits (pos n) = (λ h. omega arith, λ h. omega arith)
zigzag-fits (negsuc n) = (λ h. omega arith, λ h. omega arith)

-- A width of at least one bit has as many patterns below its sign bit as from it on.
half : (w : ℕ) → 1 ≤ w → 2 ^ w ≡ 2 * 2 ^ (w - 1)
half zero h = let z : ⊥ = omega arith in absurd z
half (suc w) h =
    let e : suc w - 1 ≡ w = omega arith in
    rw (pow-suc, e) (omega arith)

module _ (w : ℕ) (one : 1 ≤ w) where
  -- The pattern of the number that has a pattern is that pattern ..
  pub pattern-signed : (v : ℕ) → v < 2 ^ w → pattern w (signed w v) ≡ v
  unfolding signed
  pattern-signed v h =
      elim (dec_lt v (2 ^ (w - 1))) [
        | yes k ↦ ap (pattern w) (choose_yes (dec_lt v (2 ^ (w - 1))) _ _ k)
        | no k ↦
            let e : 2 ^ w - 1 - (2 ^ w - 1 - v) ≡ v = omega arith in
            ap (pattern w) (choose_no (dec_lt v (2 ^ (w - 1))) _ _ k) ∙ e
      ]

  -- .. and a number that fits the width is the one that has its pattern.
  pub signed-pattern : (z : ℤ) → mag z < 2 ^ (w - 1) → signed w (pattern w z) ≡ z
  unfolding signed
  signed-pattern (pos n) h = choose_yes (dec_lt n (2 ^ (w - 1))) _ _ h
  signed-pattern (negsuc n) h =
      let d = half w one in
      let k : ¬ (2 ^ w - 1 - n < 2 ^ (w - 1)) = (λ j. omega arith) in
      let e : 2 ^ w - 1 - (2 ^ w - 1 - n) ≡ n = omega arith in
      choose_no (dec_lt (2 ^ w - 1 - n) (2 ^ (w - 1))) _ _ k ∙ ap negsuc e

  -- A pattern fits the width.
  pub pattern-fits : (z : ℤ) → mag z < 2 ^ (w - 1) → pattern w z < 2 ^ w
  pattern-fits (pos n) h = omega (arith, half w one)
  pattern-fits (negsuc n) h = omega (arith, half w one)

  -- What has a pattern of the width fits it.
  pub signed-fits : (v : ℕ) → v < 2 ^ w → mag (signed w v) < 2 ^ (w - 1)
  unfolding signed
  signed-fits v h =
      let d = half w one in
      elim (dec_lt v (2 ^ (w - 1))) [
        | yes k ↦ rw (choose_yes (dec_lt v (2 ^ (w - 1))) (pos v) (negsuc (2 ^ w - 1 - v)) k) k
        | no k ↦
            let l : 2 ^ w - 1 - v < 2 ^ (w - 1) = omega arith in
            rw (choose_no (dec_lt v (2 ^ (w - 1))) (pos v) (negsuc (2 ^ w - 1 - v)) k) l
      ]

-- The machine's widths: half of the patterns are below the sign bit ..
double : (w : Width) → 2 ^ bits w ≡ 2 * 2 ^ hbits w
double w8 = refl
double w16 = refl
double w32 = refl
double w64 = refl
double w128 = refl

-- .. and one bit is the sign.
less_one : (w : Width) → bits w - 1 ≡ hbits w
less_one w8 = refl
less_one w16 = refl
less_one w32 = refl
less_one w64 = refl
less_one w128 = refl

-- A pattern below the sign bit is a natural number ..
to_pos : (w : Width) (n : ℕ) → n < 2 ^ hbits w → to_z w n ≡ pos n
to_pos w n h = rw (lt-ltb n (2 ^ hbits w) h)

-- .. and another one lies below 0.
to_neg : (w : Width) (n : ℕ) → 2 ^ hbits w ≤ n → to_z w n ≡ negsuc (2 ^ bits w - 1 - n)
to_neg w n h =
    let e : 2 ^ bits w - suc n ≡ 2 ^ bits w - 1 - n = omega arith in
    rw (le-ltb n (2 ^ hbits w) h) (ap negsuc e)

-- The machine reads a pattern as the number that has it.
pub to_z-signed : (w : Width) (b : ℕ) → to_z w b ≡ signed (bits w) b
unfolding signed
to_z-signed w b =
    elim (dec_lt b (2 ^ hbits w)) [
      | yes h ↦ to_pos w b h ∙ sym (rw (less_one w) (choose_yes (dec_lt b (2 ^ hbits w)) _ _ h))
      | no h ↦ to_neg w b (omega arith) ∙ sym (rw (less_one w) (choose_no (dec_lt b (2 ^ hbits w)) _ _ h))
    ]

-- So it does where the number is handed on.
pub cast_back : (w : Width) (b : ℕ) (z : ℤ) → b < 2 ^ bits w → z ≡ to_z w b → to_z w (of_z w z) ≡ signed (bits w) b
cast_back w b z h e = rw (e, of_z-to_z w b h) (to_z-signed w b)
