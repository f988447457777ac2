-- What an f64 becomes in a narrower format, for every pattern of its 64 bits, and the two 8-bit formats. Document 01,
-- "Eight-bit floats".
use Rattle.std.specs.Prelude.{ℕ, ◌+◌, ◌/◌, ◌%◌, ◌^◌, ◌<◌, ◌≡◌}
use Rattle.float8.specs.Magnitude.{magnitude, magnitude64, infinity64}
use Rattle.float8.specs.Nearest.{Nearest}

-- code is the f64 bits in a format of e exponent and m mantissa bits. The sign is kept, also of a zero, of an underflow
-- and of a NaN. A NaN gives nan, infinity gives top, and a number gives the nearest of the codes up to top. Where top
-- is infinity's code, at the power of two after the largest number, what rounds past that number gives infinity; where
-- top is the largest number, all that is larger gives it.
pub record Converted (e m top nan bits code : ℕ) : Type 0 where
  pub sign : code / 2 ^ (e + m) ≡ bits / 2 ^ 63
  pub not_a_number : infinity64 < bits % 2 ^ 63 → code % 2 ^ (e + m) ≡ nan
  pub infinite : bits % 2 ^ 63 ≡ infinity64 → code % 2 ^ (e + m) ≡ top
  pub number : bits % 2 ^ 63 < infinity64 → Nearest (magnitude e m) top (magnitude64 (bits % 2 ^ 63)) (code % 2 ^ (e + m))

-- "NaN 7F with sign, infinities and overflow 7E with sign"
abbrev pub E4M3FN : ℕ → ℕ → Type 0
E4M3FN = Converted 4 3 0x7E 0x7F

-- "NaN 7D with sign, overflow and infinity 7C with sign"
abbrev pub E5M2 : ℕ → ℕ → Type 0
E5M2 = Converted 5 2 0x7C 0x7D
