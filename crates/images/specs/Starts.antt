-- Whether every u32 start fits (document 01, "Refusal numbers", 13).
use Rattle.std.specs.Prelude.{ℕ, Bool, List, map}
use Rattle.exact.specs.Tiling.{sums}
use Rattle.enums.specs.declared.VersionClass.{VersionClass}
use Rattle.encoding.specs.Out.{Tells}
use Rattle.format.specs.Tables.{Tables}
use Rattle.format.specs.Sound.{All, Fits}
use Rattle.format.specs.Image.{Starts32}
use Rattle.images.specs.Rows.{RowOf}
use Rattle.images.specs.Tables.{Starting}
use Rattle.images.specs.Sections.{Holds}
use Rattle.images.specs.declared.rows.Row.{Row}

-- Whatever n rows the sheet has from a word on, the answer tells whether their starts fit.
pub record StartsTold (c : VersionClass) (k : Row) (unit : RowOf k → List ℕ) (n : ℕ) (s : List ℕ) (word start : ℕ) (r : Bool) : Type 0 where
  pub each : (xs : List (RowOf k)) → Starting c k xs n s word start → Tells (All (Fits 32) (sums start (map unit xs))) r

-- Whatever tables the sheet stands for, the answer tells whether all their u32 starts fit.
pub record FitTold (c : VersionClass) (s : List ℕ) (r : Bool) : Type 0 where
  pub each : (t : Tables) → Holds c t s → Tells (Starts32 t) r
