-- Where a run of bytes stands, and where a row of a table does (document 01, "Refusal numbers": a view answers the
-- place that the layout gives to the row of that number).
use Rattle.std.specs.Prelude.{◌≡◌, ℕ, ◌+◌, ◌≤◌, ◌<◌, List, [], ◌++◌, length, get_or}
use Rattle.exact.specs.Entries.{Rows}
use Rattle.format.specs.Sections.{Section, Last}

-- In l, which begins at n, this run of bytes stands at the place k.
pub record Stands (n : ℕ) (l : List ℕ) (k : ℕ) (run : List ℕ) : Type 0 where
  pub before : List ℕ
  pub after : List ℕ
  pub whole : l ≡ before ++ (run ++ after)
  pub place : k ≡ n + length before

-- At the place k of the file stands this row, inside the payload that counts for this section id.
pub record RowAt (file : List ℕ) (sections : List Section) (id k : ℕ) (row : List ℕ) : Type 0 where
  pub section : Section
  pub counts : Last id sections section
  pub low : section.start ≤ k
  pub high : k + length row ≤ section.start + length section.payload
  pub stands : Stands 0 file k row

-- Each of these rows stands at its place, inside the payload that counts for this section id.
abbrev pub RowsAt : List ℕ → List Section → ℕ → Rows (List ℕ) → Type 0
RowsAt file sections id r =
    (k : ℕ) → k < length r.values → RowAt file sections id (get_or r.at k 0) (get_or r.values k [])

-- This is the place of the whole payload that counts for this section id.
pub record PayloadAt (file : List ℕ) (sections : List Section) (id offset size : ℕ) : Type 0 where
  pub section : Section
  pub counts : Last id sections section
  pub starts : offset ≡ section.start
  pub sized : size ≡ length section.payload
  pub stands : Stands 0 file offset section.payload
