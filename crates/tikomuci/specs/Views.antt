-- What a view answers across the C boundary, and what it promises (document 01, "Refusal numbers").
use Rattle.std.specs.Prelude.{◌≡◌, ℕ, ◌≤◌, ◌<◌, List, length}
use Rattle.exact.specs.Entries.{Rows}
use Rattle.enums.specs.Container.{num_sections}
use Rattle.format.specs.Read.{Read, accepted, refused}
use Rattle.format.specs.Decode.{most_bytes}
use Rattle.format.specs.Explains.{Placed, Layout}
use Rattle.format.specs.Views.{Span, section_view, span_of, row_view, Viewed}
use Rattle.container.specs.Views.{SectionAt}
use Rattle.tikomuci.specs.declared.answers.Answer.{Answer}
use Rattle.tikomuci.specs.Boundary as boundary

-- Offset and length; or the refusal's number and its stage, and no other data.
abbrev pub view : Read Span → Answer
view (accepted s) = boundary.accepted s.offset s.size
view (refused n stage at) = record { refusal = n; stage = stage; first = 0; second = 0 }

-- The place that an answer tells.
abbrev pub span_in : Answer → Span
span_in r = record { offset = r.first; size = r.second }

-- The view of a section: it answers what the model answers, which with refusal 0 is exactly the payload asked for.
pub record SectionViewed (file : List ℕ) (id : ℕ) (r : Answer) : Type 0 where
  pub answer : r ≡ view (section_view file id)
  pub sound : r.refusal ≡ 0 → SectionAt file id (span_in r)
  pub complete : (s : Span) → SectionAt file id s → length file ≤ most_bytes → id < num_sections → r ≡ view (accepted s)

-- The view of row k, of the rows that a layout gives and the section that has them: it answers what the model answers,
-- which with refusal 0 is exactly the row asked for.
pub record RowViewed (rows_in : Placed → Rows (List ℕ)) (id : ℕ) (file : List ℕ) (k : ℕ) (r : Answer) : Type 0 where
  pub answer : r ≡ view (row_view rows_in file k)
  pub sound : r.refusal ≡ 0 → Viewed rows_in id file k (span_in r)
  pub complete : (x : Placed) → Layout file x → length file ≤ most_bytes → k < length (rows_in x).values →
      r ≡ view (accepted (span_of (rows_in x) k))
