-- A parser for each spelling of a number (document 01, "Numbers on the wire"). A refusal names the first byte of the
-- number, byte run or padding that was being read.
use Rattle.std.specs.Prelude.{◌≡◌, ℕ, zero, suc, ◌+◌, ◌*◌, ◌-◌, ◌%◌, ◌^◌, ◌≤◌, ◌<◌, List, ℤ, length, take, drop}
use Rattle.std.proofs.Math.Decide.{dec_lt}
use Rattle.exact.specs.Exact.{Parser}
use Rattle.exact.specs.Basic.{byte, pure, fail}
use Rattle.exact.specs.Sequence.{bind, mapped}
use Rattle.exact.specs.Choice.{choose}
use Rattle.exact.specs.Repeat.{times, counted}
use Rattle.exact.specs.Fixed.{little, fixed}
use Rattle.exact.specs.Padding.{blamed, here, pad}
use Rattle.enums.specs.Container.{P}
use Rattle.enums.specs.Refusals as refusals
use Rattle.encoding.specs.Signed.{unzigzag, signed}

-- The digits of a varint of which k more bytes may follow before the tenth.
unfoldable pub digits : ℕ → Parser ℕ
digits zero = bind byte (λ b. choose (dec_lt b 128) (pure (b % 2)) (fail refusals.overlong))
digits (suc k) = bind byte (λ b. choose (dec_lt b 128) (pure b) (mapped (λ v. b % 128 + 128 * v) (digits k)))

-- A varint.
unfoldable pub varint_at : Parser ℕ
varint_at = blamed (digits 9)

-- A signed varint.
unfoldable pub signed_varint_at : Parser ℤ
signed_varint_at = mapped unzigzag varint_at

-- A signed number of w bytes.
unfoldable pub signed_at : ℕ → Parser ℤ
signed_at w = mapped (signed (8 * w)) (fixed w)

-- Padding to a, the place counted from the payload's start.
unfoldable pub padding_at : ℕ → Parser (Unit {0})
padding_at a = pad refusals.unpadded P a

-- A counted array of numbers of w bytes, as bit patterns.
unfoldable pub counted_at : ℕ → Parser (List ℕ)
counted_at w = counted varint_at (fixed w)

-- What p reads, with the place where it begins.
unfoldable pub placed : {A : Type 0} → Parser A → Parser (ℕ × A)
placed p = here (λ i. mapped (λ v. (i, v)) p)

-- A counted array with the place of its first number.
unfoldable pub items_at : ℕ → Parser (ℕ × List ℕ)
items_at w = bind varint_at (λ n. placed (times n (fixed w)))

-- n is the number of w bytes at a place.
pub record Word (w : ℕ) (l : List ℕ) (i n : ℕ) : Type 0 where
  pub value : n ≡ little (take w (drop i l))
  pub fits : n < 256 ^ w

-- At a place stands the byte b, and a varint goes on behind it.
pub record Begins (l : List ℕ) (i b : ℕ) : Type 0 where
  pub inside : i < length l
  pub first : Word 1 l i b
  pub more : 128 ≤ b

-- How many bytes are left at a place: none past the end.
abbrev pub remaining_at : List ℕ → ℕ → ℕ
remaining_at l i = length l - i
