-- What writing a handed sheet answers and leaves in the output (document 01, "Refusal numbers": 12, 13, 1 for the image,
-- 11; all writing is stage 10).
use Rattle.std.specs.Prelude.{◌≡◌, ℕ, List, length, Result, Ok, Err}
use Rattle.std.proofs.Math.Decide.{dec_le}
use Rattle.std.proofs.Math.Option.{some}
use Rattle.exact.specs.Choice.{choose}
use Rattle.enums.specs.Refusals as refusals
use Rattle.enums.specs.Numbered.{number_of}
use Rattle.enums.specs.declared.Refusal.{Refusal}
use Rattle.encoding.specs.Out.{put}
use Rattle.format.specs.Read.{Read, accepted, refused}
use Rattle.format.specs.Tables.{Tables}
use Rattle.format.specs.Sheet.{pool_of}
use Rattle.format.specs.Write.{Writing, writes, refuses, imaged}
use Rattle.judge.specs.declared.Judged.{Judged}
use Rattle.images.specs.Sections.{Holds}

-- The refusal of a call that writes: its number, and stage 10; it names no place.
abbrev pub not_written : ℕ → Read ℕ
not_written c = refused c refusals.at_call 0

-- What an answer means: the length of the image, or the refusal.
abbrev pub image_size : Result ℕ Refusal → Read ℕ
image_size (Ok n) = accepted n
image_size (Err x) = not_written (number_of x)

-- The length of what is written.
unfoldable pub length_of : Writing → Read ℕ
length_of (writes bs) = accepted (length bs)
length_of (refuses c) = not_written c

-- The same for an output of so many bytes: 11 where it has no room for what is to be written.
unfoldable pub in_room : ℕ → Writing → Read ℕ
in_room n (writes bs) = choose (dec_le (length bs) n) (accepted (length bs)) (not_written refusals.full)
in_room n (refuses c) = not_written c

-- The output with what is written at its start, if it has room.
unfoldable pub with_image : List ℕ → Writing → List ℕ
with_image out (writes bs) = put out 0 bs
with_image out (refuses c) = out

-- The judge told this of the sheet of these tables.
pub record Told (j : Judged) (t : Tables) (s : List ℕ) : Type 0 where
  pub holds : Holds j.class t s
  pub pool : j.pool ≡ length (pool_of t)

-- Whatever tables a judged sheet stands for, the answer is the length of their image, or the refusal.
pub record ImageTold (s : List ℕ) (j : Judged) (r : Result ℕ Refusal) : Type 0 where
  pub each : (t : Tables) → Told j t s → image_size r ≡ length_of (imaged (some t))

-- Whatever tables a judged sheet and its pool stand for, the answer and the output are so.
pub record JudgedWritten (s : List ℕ) (j : Judged) (pool out out' : List ℕ) (r : Result ℕ Refusal) : Type 0 where
  pub each : (t : Tables) → Told j t s → pool ≡ pool_of t →
      (image_size r ≡ in_room (length out) (imaged (some t))) × (out' ≡ with_image out (imaged (some t)))
