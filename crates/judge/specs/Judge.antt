-- What the judge answers of the bytes of a store (document 01, "The sheet": across the C boundary the list is lent as
-- bytes; a handed sheet that isn't whole words is 12).
use Rattle.std.specs.Prelude.{ℕ, ◌%◌, Bool, ◌&&◌, List, ltb, leb, length, get_or}
use Rattle.std.specs.Prelude as code
use Rattle.std.specs.Prelude.{Some, None}
use Rattle.std.proofs.Math.Decide.{ℕ_discrete}
use Rattle.std.proofs.Math.Option.{Option, none, some}
use Rattle.exact.specs.Choice.{choose}
use Rattle.enums.specs.Refusals as refusals
use Rattle.enums.specs.Version.{class_of}
use Rattle.enums.specs.declared.VersionClass.{VersionClass}
use Rattle.format.specs.Read.{Read, accepted, refused}
use Rattle.format.specs.Sheet.{Frame, pool_length}
use Rattle.format.specs.Sound.{class_in}
use Rattle.format.specs.Judge.{judged}
use Rattle.sheet.specs.Store.{words_in}
use Rattle.judge.specs.declared.Judged.{Judged}
use Rattle.judge.specs.Steps.{only}

-- The frame of the sheet in a store, if it is whole words and well-formed.
unfoldable pub judged_bytes : List ℕ → Option Frame
judged_bytes s = choose (ℕ_discrete (length s % 8) 0) (judged (words_in s)) none

-- A sheet that is not well-formed is refusal 12, at stage 10, as of all writing; it names no place.
abbrev pub not_sound : Read Judged
not_sound = refused refusals.unsound refusals.at_call 0

-- What an answer means.
abbrev pub judged_read : code.Option Judged → Read Judged
judged_read (Some j) = accepted j
judged_read None = not_sound

-- What is told of a frame: the class of its version, and the length of its pool.
unfoldable pub summary : Option Frame → Read Judged
summary none = not_sound
summary (some r) = accepted record { class = class_in r; pool = pool_length r }

-- Words 0 to 3 fit: major and minor a byte, the tag two, and the producer is inside the strings, which word 6 counts.
unfoldable pub head_fits : List ℕ → Bool
head_fits l =
    ltb (get_or l 0 0) 256 && (ltb (get_or l 1 0) 256 && (ltb (get_or l 2 0) 65536 && leb (get_or l 3 0) (get_or l 6 0)))

-- The class of the version, where they fit.
unfoldable pub head_class : List ℕ → code.Option VersionClass
head_class l = only None (head_fits l) (Some (class_of (get_or l 0 0) (get_or l 1 0)))
