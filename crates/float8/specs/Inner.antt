-- What the private functions ask for and answer. No public contract cites these.
use Rattle.std.specs.Prelude.{ℕ, ◌+◌, ◌*◌, ◌%◌, ◌≤◌, ◌<◌, ◌≡◌}
use Rattle.float8.specs.Magnitude.{bias}

-- the widths of an 8-bit format, with the bias that they have, and room for NaN's code after the one that overflow gives
pub record EightBits (e m b overflow : ℕ) : Type 0 where
  pub exponent : 1 < e
  pub mantissa : 0 < m
  pub seven : e + m ≡ 7
  pub biased : b ≡ bias e
  pub room : overflow < 127

-- the widths that the rounding serves: up to 8 exponent and 23 mantissa bits, those of an F32
pub record Narrow (bias m : ℕ) : Type 0 where
  pub mantissa : 0 < m
  pub few : m ≤ 23
  pub low : bias ≤ 127

-- q is n / d rounded to the nearest whole number, ties to even: the error is at most half of d, and less where q is odd
pub record Rounded (n d q : ℕ) : Type 0 where
  pub low : 2 * (q * d) + q % 2 ≤ 2 * n + d
  pub high : 2 * n + q % 2 ≤ 2 * (q * d) + d
