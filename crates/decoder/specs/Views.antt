-- What the view of a string, a constant or a body answers, and what it promises (document 01, "Refusal numbers").
use Rattle.std.specs.Prelude.{◌≡◌, ℕ, ◌≤◌, ◌<◌, List, length, Option, Result}
use denote.Ref.{Bor}
use Rattle.exact.specs.Exact.{Parser}
use Rattle.exact.specs.Basic.{pure}
use Rattle.exact.specs.Entries.{Rows}
use Rattle.enums.specs.Refusals as refusals
use Rattle.enums.specs.declared.Section.{Section}
use Rattle.enums.specs.declared.Section.TheVariants as section
use Rattle.reading.specs.declared.Refused.{Refused}
use Rattle.format.specs.Strings.{no_rows}
use Rattle.format.specs.Explains.{Placed, Layout}
use Rattle.format.specs.Read.{Read, accepted, refused}
use Rattle.format.specs.DecodeTables.{strings_at, constants_at}
use Rattle.format.specs.Decode.{most_bytes, placed}
use Rattle.format.specs.Views.{Span, strings_in, constants_in, bodies_in, span_of, row_view, Viewed}
use Rattle.container.specs.declared.View.{View}
use Rattle.container.specs.declared.sections.Stopped.{Stopped}
use Rattle.container.specs.Views.{view_of}
use Rattle.entries.specs.declared.places.Place.{Place}
use Rattle.entries.specs.Places.{Finds, bodies_at}

-- The rows of bytes that a section has, with their places: only String, Constant and Func have some ..
abbrev pub rows_of : Section → Placed → Rows (List ℕ)
rows_of section.String = strings_in
rows_of section.Producer = λ x. no_rows
rows_of section.Type = λ x. no_rows
rows_of section.Constant = constants_in
rows_of section.Global = λ x. no_rows
rows_of section.Func = bodies_in
rows_of section.Debug = λ x. no_rows

-- .. and they are read of its payload, which begins at o.
abbrev pub rows_at : Section → ℕ → Parser (Rows (List ℕ))
rows_at section.String = strings_at
rows_at section.Producer = λ o. pure no_rows
rows_at section.Type = λ o. pure no_rows
rows_at section.Constant = constants_at
rows_at section.Global = λ o. pure no_rows
rows_at section.Func = bodies_at
rows_at section.Debug = λ o. pure no_rows

-- What a call may answer of a payload, at row n, is the place of that row.
abbrev pub FindsRow : (Bor (List ℕ) → ℕ → Result (Option Place) Refused → Type 0) → Section → ℕ → Type 0
FindsRow may k n = (payload : Bor (List ℕ)) (r : Result (Option Place) Refused) → may payload n r →
    Finds (λ o. rows_at k o payload.now 0) payload.now n r

-- The whole file is accepted.
abbrev pub Accepted : List ℕ → Type 0
Accepted file = (x : Placed) × (placed file ≡ accepted x)

-- The asked row is not there.
abbrev pub not_there : Read Span
not_there = refused refusals.not_there refusals.at_call 0

-- What the view of row k promises, of the rows that a layout gives and the section that has them.
pub record RowPost (rows_in : Placed → Rows (List ℕ)) (id : ℕ) (file : List ℕ) (k : ℕ) (r : Result View Stopped) : Type 0 where
  pub answer : view_of r ≡ row_view rows_in file k
  -- A view is exactly the row asked for, inside the payload that counts for the section ..
  pub sound : (s : Span) → view_of r ≡ accepted s → Viewed rows_in id file k s
  -- .. and each row of a file within the limit that a layout explains is viewed.
  pub complete : (x : Placed) → Layout file x → length file ≤ most_bytes → k < length (rows_in x).values →
      view_of r ≡ accepted (span_of (rows_in x) k)
