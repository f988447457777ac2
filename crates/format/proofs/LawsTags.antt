-- The tags without fields, by one computed test over the tags below twenty. Assumes nothing.
use mathlib.Core.Path.{◌≡◌, refl}
use Prim.Native.Nat.{ℕ, zero, suc, ◌<◌}
use native.Mathlib.Nat.{not-suc-le-zero}
use native.Mathlib.Decide.{ℕ_discrete}
use native.Mathlib.Omega.{arith}
use mathlib.Core.Bool.{Bool, true, ◌&&◌, ◌||◌, and-eq-true_iff}
use lib.Dec.{eqb}
use borrow.Author.Tests.{ne_eqb}
use Rattle.format.specs.Types.{plain_tags, among}

-- What a test computes of every number below n.
abbrev up_to : ℕ → (ℕ → Bool) → Bool
up_to zero f = true
up_to (suc n) f = f n && up_to n f

up-to : (n : ℕ) (f : ℕ → Bool) → up_to n f ≡ true → (t : ℕ) → t < n → f t ≡ true
up-to zero f e t h = absurd (not-suc-le-zero h)
up-to (suc n) f e t h =
    let b = (and-eq-true_iff (f n) (up_to n f)).0 e in
    elim (ℕ_discrete t n) [ yes q ↦ rw q b.0 | no q ↦ up-to n f b.1 t (omega arith) ]

-- A low tag that is no tag with fields.
pub plain-low : (t : ℕ) → t < 20 → ¬ (t ≡ 12) → ¬ (t ≡ 13) → ¬ (t ≡ 14) → ¬ (t ≡ 15) → ¬ (t ≡ 16) → among t plain_tags ≡ true
plain-low t h a b c d e =
    let k = up-to 20 (λ t. eqb t 12 || (eqb t 13 || (eqb t 14 || (eqb t 15 || (eqb t 16 || among t plain_tags))))) refl t h in
    rw (ne_eqb t 12 a, ne_eqb t 13 b, ne_eqb t 14 c, ne_eqb t 15 d, ne_eqb t 16 e) at k
