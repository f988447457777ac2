-- The definition allows one code for each pattern of 64 bits, NaNs and infinities among them: for any widths, and so
-- for the two 8-bit formats. Assumes nothing.
use mathlib.Core.Path.{◌≡◌, sym, ap, ◌∙◌}
use mathlib.Core.Logic.{⊎_elim}
use Prim.Native.Nat.{ℕ, ◌+◌, ◌*◌, ◌/◌, ◌%◌, ◌^◌}
use native.Mathlib.Omega.{arith}
use lib.Pow.{split}
use Rattle.float8.specs.Magnitude.{bias, place, magnitude, magnitude64, infinity64}
use Rattle.float8.specs.Formats.{Converted, E4M3FN, E5M2}
use Rattle.float8.proofs.Rounding.{side}
use Rattle.float8.proofs.Neighbours.{one-nearest}
use Rattle.float8.proofs.Steps.{wide-grows}

module _ {e m top nan bits c d : ℕ} (one : Converted e m top nan bits c) (two : Converted e m top nan bits d) where
  same_rest : c % 2 ^ (e + m) ≡ d % 2 ^ (e + m)
  same_rest =
      ⊎_elim (λ l. one.not_a_number l ∙ sym (two.not_a_number l))
      (λ g. ⊎_elim
      (λ l. one-nearest (magnitude e m) (wide-grows m (place (bias e) m)) top (magnitude64 (bits % 2 ^ 63)) (c % 2 ^ (e + m))
      (d % 2 ^ (e + m)) (one.number l) (two.number l))
      (λ h. let i : bits % 2 ^ 63 ≡ infinity64 = omega arith in one.infinite i ∙ sym (two.infinite i))
      (side (bits % 2 ^ 63) infinity64)) (side infinity64 (bits % 2 ^ 63))

  pub converted-only : c ≡ d
  converted-only =
      sym (split c (e + m)) ∙ ap (λ (z : ℕ). z * 2 ^ (e + m) + c % 2 ^ (e + m)) (one.sign ∙ sym two.sign)
      ∙ ap (λ (z : ℕ). d / 2 ^ (e + m) * 2 ^ (e + m) + z) same_rest ∙ split d (e + m)

pub e4m3fn-only : {bits c d : ℕ} → E4M3FN bits c → E4M3FN bits d → c ≡ d
e4m3fn-only = converted-only

pub e5m2-only : {bits c d : ℕ} → E5M2 bits c → E5M2 bits d → c ≡ d
e5m2-only = converted-only
