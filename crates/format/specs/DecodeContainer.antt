-- The reader of header and sections, in reading order (document 01, "The container").
use Rattle.std.specs.Prelude.{ℕ, ◌%◌, Bool, true, false, ◌&&◌, List, [], ◌∷◌, eqb, length}
use Rattle.std.proofs.Math.Decide.{dec_lt, ℕ_discrete}
use Rattle.std.proofs.Math.Bool.{Bool-discrete}
use Rattle.std.proofs.Math.Option.{Option, none, some}
use Rattle.exact.specs.Got.{Got, got}
use Rattle.exact.specs.Exact.{Parser}
use Rattle.exact.specs.Basic.{byte, pure}
use Rattle.exact.specs.Sequence.{bind, mapped}
use Rattle.exact.specs.Choice.{choose, such}
use Rattle.exact.specs.Fixed.{raw, fixed}
use Rattle.exact.specs.Padding.{blamed}
use Rattle.exact.specs.Upto.{place}
use Rattle.exact.specs.Until.{until}
use Rattle.exact.specs.Entries.{raised}
use Rattle.enums.specs.Container.{magic, end_of_bytecode}
use Rattle.enums.specs.Refusals as refusals
use Rattle.reading.specs.Numbers.{varint_at, padding_at}
use Rattle.format.specs.Tables.{Version}
use Rattle.format.specs.Sections.{Section, Place}

-- Whether two runs of bytes are the same.
abbrev pub same : List ℕ → List ℕ → Bool
same [] [] = true
same [] (y ∷ ys) = false
same (x ∷ xs) [] = false
same (x ∷ xs) (y ∷ ys) = eqb x y && same xs ys

-- Eight bytes that are MAGIC; others are refused at their first byte.
unfoldable pub magic_at : Parser (List ℕ)
magic_at = blamed (such refusals.not_magic (λ m. Bool-discrete (same m magic) true) (raw 8))

unfoldable pub header_at : Parser Version
header_at =
    bind magic_at
    (λ m. bind byte
    (λ major. bind byte
    (λ minor. mapped (λ tag. record { major = major; minor = minor; tag = tag }) (fixed 2))))

-- Alignment and padding, if the top bit of the section's first byte is set.
unfoldable pub alignment_at : ℕ → Parser (Unit {0})
alignment_at first = choose (dec_lt first 128) (pure tt) (bind varint_at padding_at)

-- The section behind its first byte.
unfoldable pub section_at : ℕ → Parser Section
section_at first =
    bind varint_at
    (λ n. bind (alignment_at first)
    (λ u. bind place
    (λ k. mapped (λ p. record { id = first % 128; start = k; payload = p }) (raw n))))

-- A section, or none at the end marker.
unfoldable pub item_at : Parser (Option Section)
item_at = bind byte (λ first. choose (ℕ_discrete (first % 128) end_of_bytecode) (pure none) (mapped some (section_at first)))

-- The walk; it stops behind the end marker.
unfoldable pub sections_at : Parser (List Section)
sections_at = until item_at

-- The later of two, if it is there.
unfoldable pub later : Option Section → Option Section → Option Section
later a none = a
later a (some s) = some s

-- The last section with this id.
unfoldable pub last_with : ℕ → List Section → Option Section
last_with id [] = none
last_with id (s ∷ ss) = later (choose (ℕ_discrete s.id id) (some s) none) (last_with id ss)

-- Its place.
unfoldable pub place_of : Option Section → Place
place_of none = record { presence = 0; start = 0; size = 0 }
place_of (some s) = record { presence = 1; start = s.start; size = length s.payload }

-- The places for these ids.
unfoldable pub places_of : List Section → List ℕ → List Place
places_of ss [] = []
places_of ss (id ∷ ids) = place_of (last_with id ss) ∷ places_of ss ids

-- What p, told the payload's file offset, reads of a section's payload, with places in the file; e where it is
-- absent.
unfoldable pub in_section : {A : Type 0} → Option Section → (ℕ → Parser A) → A → Got A
in_section none p e = got e 0
in_section (some s) p e = raised s.start (p s.start s.payload 0)
