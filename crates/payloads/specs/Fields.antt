-- What the steps that copy an entry's fields answer and leave in the sheet (document 01, "The sheet": a type's fields
-- in wire order with counts before lists; a field absent on the wire is 0).
use Rattle.std.specs.Prelude.{◌≡◌, ℕ, ◌+◌, ◌*◌, ◌^◌, ◌≤◌, ◌<◌, Bool, true, List, [], ◌∷◌, length, Result, Ok, Err}
use Rattle.std.proofs.Math.Bool.{Bool-discrete}
use Rattle.exact.specs.Got.{Got, got, stop}
use Rattle.exact.specs.Exact.{Parser}
use Rattle.exact.specs.Basic.{byte}
use Rattle.exact.specs.Sequence.{mapped}
use Rattle.exact.specs.Repeat.{times, counted}
use Rattle.exact.specs.Fixed.{fixed}
use Rattle.reading.specs.Numbers.{varint_at}
use Rattle.format.specs.DecodeTables.{field_at}
use Rattle.format.specs.Sheet.{counted_words}
use Rattle.sheet.specs.Store.{put_words}
use Rattle.reading.specs.Shown.{stop_of}
use Rattle.reading.specs.declared.Refused.{Refused}
use Rattle.payloads.specs.declared.fields.Spot.{Spot}
use Rattle.payloads.specs.declared.fields.Number.{Number}
use Rattle.payloads.specs.declared.fields.Number.TheVariants.{Varint, Byte, I32, I64}

-- A number, by how it stands.
unfoldable pub number_at : Number → Parser ℕ
number_at Varint = varint_at
number_at Byte = byte
number_at I32 = fixed 4
number_at I64 = fixed 8

-- A field that may be absent.
unfoldable pub field_if : Bool → Parser ℕ → Parser ℕ
field_if there p = field_at (Bool-discrete there true) p

-- One number is one word; it is the value to go on with.
unfoldable pub as_word : Parser ℕ → Parser (ℕ × List ℕ)
as_word p = mapped (λ v. (v, v ∷ [])) p

-- A counted list is its count and a word for each number; the count is the value to go on with.
unfoldable pub listed : Number → Parser (ℕ × List ℕ)
listed k = mapped (λ vs. (length vs, counted_words vs)) (counted varint_at (number_at k))

-- n numbers by p, and m to go on with.
unfoldable pub several : ℕ → ℕ → Parser ℕ → Parser (ℕ × List ℕ)
several m n p = mapped (λ vs. (m, vs)) (times n p)

-- The same, by how the numbers stand.
unfoldable pub numbers : ℕ → ℕ → Number → Parser (ℕ × List ℕ)
numbers m n k = several m n (number_at k)

-- What a step answers: the value to go on with and the next word, behind the bytes that were read; or a refusal.
abbrev pub spot_of : Result Spot Refused → Got (ℕ × ℕ)
spot_of (Ok t) = got (t.value, t.word) t.pos
spot_of (Err x) = stop_of x

-- Words that were read are put from word w on, and the answer says where both end; a refusal is handed out.
unfoldable pub Put : Got (ℕ × List ℕ) → ℕ → List ℕ → List ℕ → Result Spot Refused → Type 0
Put (got v j) w sheet sheet' r =
    (r ≡ Ok record { pos = j; word = w + length v.1; value = v.0 }) × (sheet' ≡ put_words sheet w v.1)
Put (stop c k) w sheet sheet' r = spot_of r ≡ stop c k

-- Since byte i and word w, at most n words more than bytes; a refusal names a place of the entry or its end.
abbrev pub Within : List ℕ → ℕ → ℕ → ℕ → Result Spot Refused → Type 0
Within l i w n (Ok t) = (t.pos ≤ length l) × (t.word + i ≤ w + t.pos + n)
Within l i w n (Err x) = x.at ≤ length l

-- A step by p from the spot t: it puts at most n words more than it reads bytes.
pub record Step (n : ℕ) (p : Parser (ℕ × List ℕ)) (l : List ℕ) (t : Spot) (sheet sheet' : List ℕ) (r : Result Spot Refused) : Type 0 where
  pub put : Put (p l t.pos) t.word sheet sheet' r
  pub within : Within l t.pos t.word n r

-- The word index stays far from wrapping while the rest of the entry is copied ..
abbrev pub Room : List ℕ → Spot → Type 0
Room l t = (t.pos ≤ length l) × (t.word + 2 * length l < 2 ^ 63)

-- .. and while numbers of it are.
abbrev pub Near : List ℕ → Spot → Type 0
Near l t = (t.pos ≤ length l) × (t.word + length l ≤ 2 ^ 63)
