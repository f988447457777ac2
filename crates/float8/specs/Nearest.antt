-- The code nearest to a magnitude, the even one at a tie. Document 01, "Eight-bit floats": "rounded to the format's
-- step, ties to the even code".
use Rattle.std.specs.Prelude.{ℕ, ◌+◌, ◌-◌, ◌%◌, ◌≤◌, ◌≡◌}

-- how far apart two magnitudes are
abbrev pub apart : ℕ → ℕ → ℕ
apart a b = (a - b) + (b - a)

-- Of the codes up to top, c's magnitude is nearest to x, and c is even where another is as near. What is too large
-- gives top.
pub record Nearest (magnitude : ℕ → ℕ) (top x c : ℕ) : Type 0 where
  pub within : c ≤ top
  pub near : (d : ℕ) → d ≤ top → apart (magnitude c) x ≤ apart (magnitude d) x
  pub even : (d : ℕ) → d ≤ top → (d ≡ c → ⊥) → apart (magnitude c) x ≡ apart (magnitude d) x → c % 2 ≡ 0
