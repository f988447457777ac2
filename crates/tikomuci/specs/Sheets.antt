-- What writing a handed sheet and naming a type of it answer across the C boundary, and what they promise (document 01,
-- "Refusal numbers": all writing is stage 10; document 02, request 1/14).
use Rattle.std.specs.Prelude.{◌≡◌, ℕ, ◌%◌, ◌≤◌, ◌<◌, List, length}
use Rattle.format.specs.Read.{Read, accepted, refused, map_read}
use Rattle.format.specs.Tables.{Tables}
use Rattle.format.specs.Decode.{most_bytes}
use Rattle.format.specs.Sheet.{sheet_of, pool_of}
use Rattle.format.specs.Sound.{Sound}
use Rattle.format.specs.Image.{image}
use Rattle.format.specs.Write.{most_words}
use Rattle.sheet.specs.Store.{words_in}
use Rattle.images.specs.Written.{length_of, in_room, with_image}
use Rattle.names.specs.Names.{name_for, with_name}
use Rattle.writer.specs.Written.{writing, writing_alone, Kept, Sized}
use Rattle.tikomuci.specs.declared.answers.Answer.{Answer}
use Rattle.tikomuci.specs.Boundary as boundary

-- The length of the image; or the refusal's number and its stage, and no other data.
abbrev pub size : Read ℕ → Answer
size (accepted n) = boundary.accepted n 0
size (refused c stage at) = record { refusal = c; stage = stage; first = 0; second = 0 }

-- Writing into the output out, which it leaves as out'.
pub record SheetWritten (s pool out out' : List ℕ) (r : Answer) : Type 0 where
  pub answer : r ≡ size (in_room (length out) (writing s pool))
  pub output : out' ≡ with_image out (writing s pool)
  -- A refused call, whose refusal is not 0, has changed nothing.
  pub unchanged : 0 < r.refusal → out' ≡ out
  -- Only the image of the tables that were handed is written ..
  pub written : r.refusal ≡ 0 → Kept s pool out out' r.first
  -- .. and that of all well-formed tables within the limits is, if it fits.
  pub complete : (t : Tables) → Sound t → length s % 8 ≡ 0 → words_in s ≡ sheet_of t → pool ≡ pool_of t →
      length (sheet_of t) ≤ most_words → length (pool_of t) ≤ most_bytes → length (image t) ≤ most_bytes → length (image t) ≤ length out →
      r ≡ size (accepted (length (image t)))

-- The length of what would be written: with refusal 0 that of the image of tables whose sheet was handed, and of all
-- well-formed tables within the limits.
pub record SheetImaged (s : List ℕ) (r : Answer) : Type 0 where
  pub answer : r ≡ size (length_of (writing_alone s))
  pub sound : r.refusal ≡ 0 → Sized s r.first
  pub complete : (t : Tables) → Sound t → length s % 8 ≡ 0 → words_in s ≡ sheet_of t → length (sheet_of t) ≤ most_words →
      length (image t) ≤ most_bytes → r ≡ size (accepted (length (image t)))

-- The name of a type row, in the buffer out, which the call leaves as out'.
pub record TypeNamed (s : List ℕ) (row : ℕ) (out out' : List ℕ) (r : Answer) : Type 0 where
  pub answer : r ≡ size (map_read length (name_for s row out))
  pub output : out' ≡ with_name out (name_for s row out)
  -- A refused call, whose refusal is not 0, has changed nothing.
  pub unchanged : 0 < r.refusal → out' ≡ out
