-- Two files that differ only after the end marker (document 01, "The container": "what follows isn't read").
use Rattle.std.specs.Prelude.{◌≡◌, ℕ, ◌≤◌, List, ◌++◌, length}
use Rattle.format.specs.Tables.{Version}
use Rattle.format.specs.Sections.{Section}
use Rattle.format.specs.Explains.{Container}
use Rattle.format.specs.Decode.{most_bytes}

-- Both are within the limit. The one is a header, sections with the end marker, and any bytes after it; the other is the
-- same header, the same sections with the end marker, and other bytes.
pub record SameToEnd (file other : List ℕ) : Type 0 where
  pub version : Version
  pub sections : List Section
  pub container : Container file version sections
  pub behind : List ℕ
  pub whole : other ≡ container.header ++ (container.walked ++ behind)
  pub within : length file ≤ most_bytes
  pub other_within : length other ≤ most_bytes
