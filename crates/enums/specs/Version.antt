-- The order of versions and their three classes (document 01, "The container": below 13.3, from 13.3, from 13.4).
use Rattle.std.specs.Prelude.{◌≡◌, ℕ, ◌<◌, ◌≤◌, Bool, true, false, cond, ltb, leb}
use Rattle.enums.specs.declared.VersionClass.{VersionClass}
use Rattle.enums.specs.declared.VersionClass.TheVariants.{Below13_3, From13_3, From13_4}

-- major.minor is at least a.b: the major number decides, and the minor one where the majors are equal.
abbrev pub at_least : ℕ → ℕ → ℕ → ℕ → Bool
at_least major minor a b = cond (ltb major a) false (cond (ltb a major) true (leb b minor))

-- The class of major.minor. The tag decides nothing, since each class begins at tag 0.
unfoldable pub class_of : ℕ → ℕ → VersionClass
class_of major minor = cond (at_least major minor 13 4) From13_4 (cond (at_least major minor 13 3) From13_3 Below13_3)

-- The classes from 13.3 on, and from 13.4 on.
abbrev pub since13_3 : VersionClass → Bool
since13_3 Below13_3 = false
since13_3 From13_3 = true
since13_3 From13_4 = true

abbrev pub since13_4 : VersionClass → Bool
since13_4 Below13_3 = false
since13_4 From13_3 = false
since13_4 From13_4 = true

-- The order of versions: the major number decides, then the minor one, then the tag.
pub data NotBefore (major minor tag a b c : ℕ) : Type 0 where
  later_major : a < major → NotBefore major minor tag a b c
  later_minor : major ≡ a → b < minor → NotBefore major minor tag a b c
  tag_reached : major ≡ a → minor ≡ b → c ≤ tag → NotBefore major minor tag a b c
