-- What a view answers, and what it promises (document 01, "Refusal numbers").
use Rattle.std.specs.Prelude.{◌≡◌, ℕ, ◌≤◌, ◌<◌, List, length, Result}
use Rattle.enums.specs.Container.{num_sections}
use Rattle.format.specs.Tables.{Version}
use Rattle.format.specs.Sections.{Section}
use Rattle.format.specs.Explains.{Container}
use Rattle.format.specs.Read.{Read, accepted}
use Rattle.format.specs.Decode.{most_bytes}
use Rattle.format.specs.Stands.{PayloadAt}
use Rattle.format.specs.Views.{Span, section_view}
use Rattle.container.specs.Shown.{read_by}
use Rattle.container.specs.declared.View.{View}
use Rattle.container.specs.declared.sections.Stopped.{Stopped}

-- What the answer of a view stands for.
abbrev pub view_of : Result View Stopped → Read Span
view_of = read_by (λ v. record { offset = v.start; size = v.len })

-- The bytes of this span are the whole payload that counts for this id: the file is a header, sections and an end
-- marker, and the last of these sections with this id has them as its payload.
pub record SectionAt (file : List ℕ) (id : ℕ) (s : Span) : Type 0 where
  pub version : Version
  pub sections : List Section
  pub container : Container file version sections
  pub payload : PayloadAt file sections id s.offset s.size

-- What the view of a section promises.
pub record SectionPost (file : List ℕ) (id : ℕ) (r : Result View Stopped) : Type 0 where
  pub answer : view_of r ≡ section_view file id
  -- A view is exactly the payload asked for ..
  pub sound : (s : Span) → view_of r ≡ accepted s → SectionAt file id s
  -- .. and each payload of a file within the limit is viewed, if its id is one of document 01's.
  pub complete : (s : Span) → SectionAt file id s → length file ≤ most_bytes → id < num_sections → view_of r ≡ accepted s
