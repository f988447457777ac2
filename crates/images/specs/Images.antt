-- What the writers of whole sections and of the image answer and leave in the output (document 01, "The sheet", the
-- paragraph "Writer").
use Rattle.std.specs.Prelude.{◌≡◌, ℕ, zero, suc, ◌^◌, ◌<◌, Bool, true, false, cond, List, [], length, Option, Some, None}
use Rattle.std.proofs.Math.Option as maybe
use Rattle.enums.specs.declared.VersionClass.{VersionClass}
use Rattle.format.specs.Tables.{Tables}
use Rattle.format.specs.Sheet.{sheet_of, pool_of}
use Rattle.format.specs.Sound.{Sound}
use Rattle.format.specs.Image.{Part, alignment_bytes, first_byte, part_bytes, header_bytes, image}
use Rattle.sheet.specs.Store.{words_in}
use Rattle.images.specs.Put.{Puts, Wrote, Lent}
use Rattle.images.specs.Fields.{Copied}
use Rattle.images.specs.Sections.{Holds, part_in, runs_in}
use Rattle.images.specs.declared.fields.Pen.{Pen}
use Rattle.enums.specs.declared.Section.{Section}

-- Whether a number is not 0.
unfoldable pub is_some : ℕ → Bool
is_some zero = false
is_some (suc n) = true

-- An alignment, if there is one.
abbrev pub alignment_of : Option ℕ → maybe.Option ℕ
alignment_of None = maybe.none
alignment_of (Some n) = maybe.some n

-- Whatever tables the sheet stands for: whether a section is written, ..
pub record Presence (k : Section) (s : List ℕ) (r : Bool) : Type 0 where
  pub each : (t : Tables) → words_in s ≡ sheet_of t → Sound t → r ≡ (part_in k t).present

-- .. the byte that opens it, ..
pub record Opens (k : Section) (r : ℕ) : Type 0 where
  pub each : (t : Tables) → r ≡ first_byte (part_in k t).id (part_in k t).alignment

-- .. its alignment, ..
pub record Aligned (k : Section) (r : Option ℕ) : Type 0 where
  pub each : (t : Tables) → alignment_of r ≡ (part_in k t).alignment

-- .. which is put with its padding, ..
abbrev pub AlignmentPut : Option ℕ → ℕ → List ℕ → List ℕ → ℕ → Type 0
AlignmentPut a at = Wrote (alignment_bytes (alignment_of a) at) at

-- .. the section, which has no bytes if it is not written, ..
unfoldable pub section_bytes : ℕ → Part → List ℕ
section_bytes i p = cond p.present (part_bytes i p) []

pub record SectionPut (k : Section) (c : VersionClass) (s pool : List ℕ) (p : Pen) (out out' : List ℕ) (q : Pen) : Type 0 where
  pub each : (t : Tables) → Holds c t s → Copied [] (runs_in k t) (section_bytes p.at (part_in k t)) s pool p out out' q

-- .. the header, ..
pub record HeaderPut (s out out' : List ℕ) (next : ℕ) : Type 0 where
  pub each : (t : Tables) → words_in s ≡ sheet_of t → Sound t → Wrote (header_bytes t.version) 0 out out' next

-- .. and the image.
pub record ImagePut (c : VersionClass) (s pool out out' : List ℕ) (next : ℕ) : Type 0 where
  pub each : (t : Tables) → Holds c t s → Lent pool 0 (pool_of t) out → length (pool_of t) < 2 ^ 64 → length (image t) < 2 ^ 64 →
      Puts (image t) 0 out out' next
