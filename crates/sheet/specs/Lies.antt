-- Where a part of a list stands: the words of a row in a sheet, the bytes of a run in a pool. Assumes nothing.
use Rattle.std.specs.Prelude.{◌≡◌, ℕ, List, ◌++◌, length}

-- From place i on the list has this part.
pub record Lies (l : List ℕ) (i : ℕ) (part : List ℕ) : Type 0 where
  pub front : List ℕ
  pub behind : List ℕ
  pub whole : l ≡ front ++ (part ++ behind)
  pub place : length front ≡ i
