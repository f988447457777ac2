-- Eight bytes are MAGIC, or not: how the code follows their reader. Assumes nothing.
use mathlib.Core.Path.{◌≡◌, sym, ◌∙◌}
use Prim.Native.Nat.{ℕ, ◌+◌, ◌-◌, ◌≤◌}
use native.Mathlib.Omega.{arith}
use native.Mathlib.Decide.{dec_lt}
use mathlib.Core.Bool.{true, false, Bool-discrete}
use mathlib.Core.List.{List}
use lib.ListN.{length, take, drop}
use Rattle.enums.specs.Container.{magic}
use Rattle.enums.specs.Refusals as refusals
use Rattle.exact.specs.Got.{got, stop, follow}
use Rattle.exact.specs.Basic.{pure, fail}
use Rattle.exact.specs.Sequence.{bind}
use Rattle.exact.specs.Choice.{choose, such}
use Rattle.exact.specs.Fixed.{raw}
use Rattle.exact.specs.Padding.{broke, blamed}
use Rattle.exact.proofs.LawsExact.{stop-not-got}
use Rattle.exact.proofs.LawsSteps.{raw_at, raw-end}
use Rattle.reading.specs.Numbers.{placed}
use Rattle.reading.proofs.LawsPlaced.{placed-stop, run-got}
use Rattle.reading.proofs.LawsWord.{fixed-one}
use Rattle.format.specs.DecodeContainer.{same, magic_at}

-- A byte is read like a number of one byte.
pub ruleset one_byte = (fixed-one)

module _ (l : List ℕ) (i : ℕ) where
  -- Fewer than eight bytes are left.
  pub magic-short : (c k : ℕ) → stop c k ≡ placed (raw 8) l i → stop c k ≡ magic_at l i
  unfolding magic_at blamed such bind follow broke
  magic-short c k e =
      elim (dec_lt (length l - i) 8) [
        | yes h ↦ let f = raw-end 8 l i h in rw f (sym (placed-stop (raw 8) l i c k (sym e)) ∙ f)
        | no h ↦ absurd (stop-not-got (sym (placed-stop (raw 8) l i c k (sym e)) ∙ raw_at 8 l i (omega arith)))
      ]

  module _ (start : ℕ) (bs : List ℕ) (next : ℕ) (e : got (start, bs) next ≡ placed (raw 8) l i) where
    -- Eight bytes are there ..
    pub magic-in : start + 8 ≤ length l
    magic-in = let (a, j, h) = run-got 8 l i start bs next (sym e) in omega arith

    -- .. and are MAGIC, or not.
    magic-run : magic_at l i ≡
        broke
        (choose (Bool-discrete (same (take 8 (drop start l)) magic) true)
        (pure (take 8 (drop start l))) (fail refusals.not_magic) l next) start
    unfolding magic_at blamed such bind follow
    magic-run = let (a, j, h) = run-got 8 l i start bs next (sym e) in rw (raw_at 8 l i h, a, j)

    pub magic-not : false ≡ same (take 8 (drop start l)) magic → stop refusals.not_magic start ≡ magic_at l i
    unfolding broke fail choose
    magic-not f = sym (magic-run ∙ rw (← f))

    pub magic-yes : true ≡ same (take 8 (drop start l)) magic → got (take (next - i) (drop i l)) next ≡ magic_at l i
    unfolding broke pure choose
    magic-yes f =
        let (a, j, h) = run-got 8 l i start bs next (sym e) in
        let n : next - i ≡ 8 = omega (arith, a, j) in
        sym (magic-run ∙ rw (← f) (rw (n, a)))
