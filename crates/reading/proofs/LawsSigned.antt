-- How the code's signed reads follow a function of what was read, and the two halves of zigzag by bit patterns.
-- Assumes nothing.
use mathlib.Core.Path.{◌≡◌, sym, ap, ◌∙◌}
use Prim.Native.Nat.{ℕ, suc, ◌-◌, ◌*◌, ◌/◌, ◌%◌, ◌^◌, ◌<◌}
use native.Mathlib.Nat.{pow-suc}
use native.Mathlib.Omega.{arith}
use native.Mathlib.Decide.{dec_lt, ℕ_discrete}
use mathlib.Core.List.{List}
use lib.IntN.{ℤ, pos, negsuc}
use lib.Signed.{mag}
use mir.Syntax.{Width}
use mir.Val.{hbits, of_z, to_z}
use mir.Facts.{to_z-of_z}
use Rattle.exact.specs.Got.{got, follow}
use Rattle.exact.specs.Exact.{Parser}
use Rattle.exact.specs.Basic.{pure}
use Rattle.exact.specs.Sequence.{bind, mapped}
use Rattle.exact.proofs.LawsChoice.{choose_yes, choose_no}
use Rattle.encoding.specs.Signed.{unzigzag, signed}
use Rattle.encoding.proofs.LawsSigned.{zigzag-unzigzag, zigzag-fits}

module _ {A B : Type 0} (f : A → B) (p : Parser A) (l : List ℕ) (i : ℕ) where
  -- A function of a value that was read ..
  pub map_at : (v : A) (j : ℕ) (w : B) → p l i ≡ got v j → w ≡ f v → got w j ≡ mapped f p l i
  unfolding mapped bind follow pure
  map_at v j w e h = rw (e, h)

-- An even number is the zigzag of its half ..
pub unzigzag-even : (v : ℕ) → v < 2 ^ 64 → v % 2 ≡ 0 → signed 64 (v / 2) ≡ unzigzag v
unfolding unzigzag signed
unzigzag-even v f h =
    choose_yes (dec_lt (v / 2) (2 ^ 63)) _ _ (omega arith) ∙ sym (choose_yes (ℕ_discrete (v % 2) 0) _ _ h)

-- .. and an odd one that of the number whose bits are the inverse of its half.
pub unzigzag-odd : (v : ℕ) → v < 2 ^ 64 → ¬ (v % 2 ≡ 0) → signed 64 (2 ^ 64 - 1 - v / 2) ≡ unzigzag v
unfolding unzigzag signed
unzigzag-odd v f h =
    let e : 2 ^ 64 - 1 - (2 ^ 64 - 1 - v / 2) ≡ v / 2 = omega arith in
    choose_no (dec_lt (2 ^ 64 - 1 - v / 2) (2 ^ 63)) _ _ (omega arith) ∙ ap negsuc e ∙
    sym (choose_no (ℕ_discrete (v % 2) 0) _ _ h)

-- A signed number that fits a width is the one that its bits there stand for.
pub settled : (w : Width) {z y : ℤ} → mag y < 2 ^ hbits w → z ≡ y → to_z w (of_z w z) ≡ y
settled w f e = ap (λ x. to_z w (of_z w x)) e ∙ to_z-of_z record { sfits = f }

-- A pattern of w bits stands for a number that fits w bits ..
pub signed-fits : (w v : ℕ) → v < 2 ^ suc w → mag (signed (suc w) v) < 2 ^ w
unfolding signed
signed-fits w v h =
    let z : suc w - 1 ≡ w = omega arith in
    let d : v < 2 ^ w * 2 = rw pow-suc at h in
    elim (dec_lt v (2 ^ (suc w - 1))) [
      | yes l ↦ rw (choose_yes (dec_lt v (2 ^ (suc w - 1))) (pos v) (negsuc (2 ^ suc w - 1 - v)) l) (rw z at l)
      | no l ↦
          let m : ¬ (v < 2 ^ w) = rw z at l in
          rw (choose_no (dec_lt v (2 ^ (suc w - 1))) (pos v) (negsuc (2 ^ suc w - 1 - v)) l, pow-suc) (omega arith)
    ]

-- .. and the zigzag of 64 bits that of a number that fits them.
pub unzigzag-fits : (v : ℕ) → v < 2 ^ 64 → mag (unzigzag v) < 2 ^ 63
unzigzag-fits v h = (zigzag-fits (unzigzag v)).1 (rw zigzag-unzigzag h)
