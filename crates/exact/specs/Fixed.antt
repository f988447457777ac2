-- A run of n bytes, and numbers of a fixed width, the lowest byte first.
use Rattle.std.specs.Prelude.{◌≡◌, ℕ, zero, suc, ◌+◌, ◌*◌, ◌/◌, ◌%◌, List, [], ◌∷◌, length, take, drop}
use Rattle.std.proofs.Math.Decide.{dec_le}
use Rattle.exact.specs.Got.{got, stop, ended}
use Rattle.exact.specs.Exact.{Parser, Lang}
use Rattle.exact.specs.Sequence.{mapped, Of}
use Rattle.exact.specs.Choice.{choose}

-- n bytes as they stand. Where fewer are left, the run broke where it began.
unfoldable pub raw : ℕ → Parser (List ℕ)
raw n l i = choose (dec_le n (length (drop i l))) (got (take n (drop i l)) (i + n)) (stop ended i)

-- n bytes stand for themselves.
pub data Raw (n : ℕ) : ℕ → List ℕ → List ℕ → Type 0 where
  raw_of : {i : ℕ} {bs : List ℕ} → length bs ≡ n → Raw n i bs bs

-- The number whose digits to the base 256 are these bytes, the lowest first.
unfoldable pub little : List ℕ → ℕ
little [] = 0
little (b ∷ bs) = b + 256 * little bs

-- The w lowest bytes of a number, the lowest first.
unfoldable pub bytes_of : ℕ → ℕ → List ℕ
bytes_of zero n = []
bytes_of (suc w) n = n % 256 ∷ bytes_of w (n / 256)

-- A number of w bytes.
unfoldable pub fixed : ℕ → Parser ℕ
fixed w = mapped little (raw w)

-- w bytes stand for the number that they are.
abbrev pub Fixed : ℕ → Lang ℕ
Fixed w = Of little (Raw w)

-- The n numbers of w bytes at the front of s.
unfoldable pub nums : ℕ → ℕ → List ℕ → List ℕ
nums zero w s = []
nums (suc n) w s = little (take w s) ∷ nums n w (drop w s)
