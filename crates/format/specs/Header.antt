-- The header (document 01, "The container": eight bytes MAGIC, major u8, minor u8, tag u16; any version is read).
use Rattle.std.specs.Prelude.{◌≡◌, ℕ, List, ◌∷◌, ◌++◌}
use Rattle.exact.specs.Fixed.{Fixed}
use Rattle.enums.specs.Container.{magic}
use Rattle.format.specs.Tables.{Version}

-- These bytes are the header of a file of this version.
pub record Header (bs : List ℕ) (v : Version) : Type 0 where
  pub tag_bytes : List ℕ
  pub whole : bs ≡ magic ++ (v.major ∷ (v.minor ∷ tag_bytes))
  pub tag : Fixed 2 0 tag_bytes v.tag
