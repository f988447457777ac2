-- The exact magnitude of a float of any exponent and mantissa widths. A code is a float's bits without its sign. All
-- formats' magnitudes are whole numbers in one unit, 2 ^ -1074, the least that an f64 has. Document 01, "Eight-bit
-- floats": "the exact f64 value".
use Rattle.std.specs.Prelude.{ℕ, ◌+◌, ◌-◌, ◌*◌, ◌/◌, ◌%◌, ◌^◌, cond, eqb}

-- the bias of e exponent bits: 7 for E4M3FN, 15 for E5M2, 1023 for an f64
abbrev pub bias : ℕ → ℕ
bias e = 2 ^ (e - 1) - 1

-- a code of m mantissa bits in units of its format's least subnormal: the mantissa field where the exponent field is 0,
-- else the mantissa field under the implied 1, doubled for each exponent above 1
unfoldable pub steps : ℕ → ℕ → ℕ
steps m c = cond (eqb (c / 2 ^ m) 0) (c % 2 ^ m) ((2 ^ m + c % 2 ^ m) * 2 ^ (c / 2 ^ m - 1))

-- the least subnormal is 2 ^ (1 - bias - m), so 2 to this power of the f64's
abbrev pub place : ℕ → ℕ → ℕ
place bias m = 1075 - bias - m

-- the magnitude of a code by its format's bias and mantissa bits
abbrev pub magnitude_by : ℕ → ℕ → ℕ → ℕ
magnitude_by bias m c = steps m c * 2 ^ place bias m

-- the magnitude of a code of e exponent and m mantissa bits
abbrev pub magnitude : ℕ → ℕ → ℕ → ℕ
magnitude e m = magnitude_by (bias e) m

-- infinity's code has all exponent bits and no mantissa bit. By its magnitude it stands at the power of two after the
-- largest number; the codes above it are NaNs.
abbrev pub infinity : ℕ → ℕ → ℕ
infinity e m = (2 ^ e - 1) * 2 ^ m

-- an f64 has 11 exponent and 52 mantissa bits
abbrev pub magnitude64 : ℕ → ℕ
magnitude64 = magnitude 11 52

abbrev pub infinity64 : ℕ
infinity64 = infinity 11 52
