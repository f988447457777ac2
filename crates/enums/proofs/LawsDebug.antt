-- How many fields a debug tag asks for: never more than six, and none past the table. Assumes nothing.
use mathlib.Core.Path.{◌≡◌, sym}
use Prim.Native.Nat.{ℕ, zero, suc, ◌+◌, ◌-◌, ◌≤◌}
use native.Mathlib.Omega.{arith}
use mathlib.Core.List.{List, [], ◌∷◌}
use lib.ListN.{get_or, get_or-eq_default}
use Rattle.enums.specs.Debug.{field_counts}

-- No entry of a table is above the highest: one computed test gives the rule at each.
abbrev most : List ℕ → ℕ
most [] = 0
most (x ∷ xs) = x + (most xs - x)

most-at : (xs : List ℕ) (k : ℕ) → get_or xs k 0 ≤ most xs
most-at [] k = omega arith
most-at (x ∷ xs) zero = omega arith
most-at (x ∷ xs) (suc k) = omega (arith, most-at xs k)

pub counts-few : (tag : ℕ) → get_or field_counts tag 0 ≤ 6
counts-few tag = most-at field_counts tag

pub count_past : (tag : ℕ) → 7 ≤ tag → 0 ≡ get_or field_counts tag 0
count_past tag h = sym (get_or-eq_default field_counts 0 h)
