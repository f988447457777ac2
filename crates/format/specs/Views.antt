-- What the views answer (document 01, "Refusal numbers"): a view of a string, constant or body first judges the whole
-- file, a section view only the header and walk; an asked index or section that is not there is 14.
use Rattle.std.specs.Prelude.{◌≡◌, ℕ, ◌<◌, List, [], map, length, get_or}
use Rattle.std.proofs.Math.Decide.{dec_le, dec_lt}
use Rattle.std.proofs.Math.Option.{Option, none, some}
use Rattle.exact.specs.Choice.{choose}
use Rattle.exact.specs.Entries.{Rows}
use Rattle.enums.specs.Container.{num_sections}
use Rattle.enums.specs.Refusals as refusals
use Rattle.format.specs.Tables.{Function}
use Rattle.format.specs.Sections.{Section}
use Rattle.format.specs.Explains.{Placed, Layout}
use Rattle.format.specs.Read.{Read, accepted, refused, at_stage}
use Rattle.format.specs.DecodeContainer.{header_at, sections_at, last_with}
use Rattle.format.specs.Decode.{most_bytes, placed}
use Rattle.format.specs.Stands.{RowAt}

-- Where a run of bytes begins in the file, and how many they are.
pub record Span : Type 0 where
  pub offset : ℕ
  pub size : ℕ

-- Goes on with what was read.
unfoldable pub and_then : {A B : Type 0} → Read A → (A → Read B) → Read B
and_then (accepted v) f = f v
and_then (refused c n i) f = refused c n i

-- The rows of a table, with their places.
abbrev pub strings_in : Placed → Rows (List ℕ)
strings_in x = record { at = x.places.strings; values = x.tables.strings }

abbrev pub constants_in : Placed → Rows (List ℕ)
constants_in x = record { at = x.places.constants; values = x.tables.constants }

abbrev pub body_of : Function → List ℕ
body_of f = f.body

abbrev pub bodies_in : Placed → Rows (List ℕ)
bodies_in x = record { at = x.places.bodies; values = map body_of x.tables.functions }

-- The place of row k ..
abbrev pub span_of : Rows (List ℕ) → ℕ → Span
span_of r k = record { offset = get_or r.at k 0; size = length (get_or r.values k []) }

-- .. if it is there.
unfoldable pub row_span : Rows (List ℕ) → ℕ → Read Span
row_span r k =
    choose (dec_lt k (length r.values)) (accepted (span_of r k)) (refused refusals.not_there refusals.at_call 0)

-- The view of row k of a table.
unfoldable pub row_view : (Placed → Rows (List ℕ)) → List ℕ → ℕ → Read Span
row_view rows_in file k = and_then (placed file) (λ x. row_span (rows_in x) k)

abbrev pub string_view : List ℕ → ℕ → Read Span
string_view = row_view strings_in

abbrev pub constant_view : List ℕ → ℕ → Read Span
constant_view = row_view constants_in

abbrev pub body_view : List ℕ → ℕ → Read Span
body_view = row_view bodies_in

-- This is the place of row k of a table of the file's layout, and the file's bytes there are the row's, inside the
-- payload that counts for the section with this id.
pub record Viewed (rows_in : Placed → Rows (List ℕ)) (id : ℕ) (file : List ℕ) (k : ℕ) (s : Span) : Type 0 where
  pub found : Placed
  pub layout : Layout file found
  pub inside : k < length (rows_in found).values
  pub span : s ≡ span_of (rows_in found) k
  pub row : RowAt file layout.sections id s.offset (get_or (rows_in found).values k [])

-- The whole payload of a section, if it is there.
unfoldable pub payload_span : Option Section → Read Span
payload_span none = refused refusals.not_there refusals.at_call 0
payload_span (some s) = accepted (record { offset = s.start; size = length s.payload })

-- The sections of a file, from header and walk alone.
unfoldable pub read_sections : List ℕ → Read (List Section)
read_sections file =
    choose (dec_le (length file) most_bytes)
    (at_stage refusals.at_header (header_at file 0)
    (λ v j. at_stage refusals.at_sections (sections_at file j) (λ ss _. accepted ss)))
    (refused refusals.limit refusals.at_limits 0)

-- The view of the section with this id; ids at or above NUM_SECTIONS are never there.
unfoldable pub section_view : List ℕ → ℕ → Read Span
section_view file id =
    and_then (read_sections file)
    (λ ss. choose (dec_lt id num_sections) (payload_span (last_with id ss)) (refused refusals.not_there refusals.at_call 0))
