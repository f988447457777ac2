-- Signed numbers (document 01, "Numbers on the wire" and "The sheet"): zigzag, and the bit pattern in a width.
use Rattle.std.specs.Prelude.{ℕ, ◌+◌, ◌-◌, ◌*◌, ◌/◌, ◌%◌, ◌^◌, ℤ, pos, negsuc}
use Rattle.std.proofs.Math.Decide.{dec_lt, ℕ_discrete}
use Rattle.exact.specs.Choice.{choose}

-- 0, -1, 1, -2, 2, .. become 0, 1, 2, 3, 4, .. (`negsuc n` is -1 - n).
abbrev pub zigzag : ℤ → ℕ
zigzag (pos n) = 2 * n
zigzag (negsuc n) = 2 * n + 1

-- And back.
unfoldable pub unzigzag : ℕ → ℤ
unzigzag v = choose (ℕ_discrete (v % 2) 0) (pos (v / 2)) (negsuc (v / 2))

-- The bit pattern of a signed number in a width of w bits: two's complement.
abbrev pub pattern : ℕ → ℤ → ℕ
pattern w (pos n) = n
pattern w (negsuc n) = 2 ^ w - 1 - n

-- The signed number that has the bit pattern v in a width of w bits.
unfoldable pub signed : ℕ → ℕ → ℤ
signed w v = choose (dec_lt v (2 ^ (w - 1))) (pos v) (negsuc (2 ^ w - 1 - v))
