-- What the steps that copy a list of varints by blocks ask and answer: bytes by their top bits, numbers that have a
-- known width, and an answer for some of the numbers.
use Rattle.reading.specs.declared.Refused.{Refused}
use Rattle.std.specs.Prelude.{◌≡◌, ℕ, zero, suc, ◌+◌, ◌-◌, ◌*◌, ◌/◌, ◌≤◌, ◌<◌, List, length, get_or, Result}
use Rattle.payloads.specs.declared.fields.Number.TheVariants.{Varint}
use Rattle.payloads.specs.declared.fields.Spot.{Spot}
use Rattle.payloads.specs.Fields.{numbers, Step}

-- How many of n bytes have their top bit set: of the one at place i, and those behind it a step apart.
unfoldable pub tops : ℕ → ℕ → List ℕ → ℕ → ℕ
tops step zero l i = 0
tops step (suc n) l i = get_or l i 0 / 128 + tops step n l (i + step)

-- A varint of one byte or two stands at place i: the last byte's top bit is clear, that of one before it is set.
pub record Spans (width : ℕ) (l : List ℕ) (i : ℕ) : Type 0 where
  pub some : 0 < width
  pub few : width ≤ 2
  pub inside : i + width ≤ length l
  pub last : get_or l (i + width - 1) 0 / 128 ≡ 0
  pub more : 1 < width → get_or l i 0 / 128 ≡ 1

-- n such varints of one width, one behind the other.
abbrev pub Even : ℕ → ℕ → List ℕ → ℕ → Type 0
Even width n l i = (k : ℕ) → k < n → Spans width l (i + k * width)

-- The next numbers are copied, or refused: at least one, and at most sixteen.
pub record Some (l : List ℕ) (t : Spot) (sheet sheet' : List ℕ) (r : Result Spot Refused) : Type 0 where
  pub count : ℕ
  pub some : 0 < count
  pub most : count ≤ 16
  pub step : Step 0 (numbers count count Varint) l t sheet sheet' r
