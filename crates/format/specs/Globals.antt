-- Global (document 01, "The container": count; name, type, constant, alignment as varints; from 13.3 a visibility
-- byte and a varint constant flag, of which nonzero means 1).
use Rattle.std.specs.Prelude.{◌≡◌, ℕ, true, List, ◌++◌}
use Rattle.exact.specs.Exact.{Lang}
use Rattle.exact.specs.Repeat.{Counted}
use Rattle.exact.specs.Upto.{Upto}
use Rattle.enums.specs.declared.VersionClass.{VersionClass}
use Rattle.enums.specs.Version.{since13_3}
use Rattle.encoding.specs.Varint.{Spells}
use Rattle.format.specs.Tables.{Global}
use Rattle.format.specs.Items.{Number, Byte, Field, Truth}

-- One global.
pub data GlobalRow (c : VersionClass) : ℕ → List ℕ → Global → Type 0 where
  global : {i : ℕ} {name_bytes type_bytes constant_bytes alignment_bytes visibility_bytes flag_bytes : List ℕ}
      {name type constant alignment visibility constant_flag : ℕ} →
      Spells name_bytes name →
      Spells type_bytes type →
      Spells constant_bytes constant →
      Spells alignment_bytes alignment →
      Field (since13_3 c ≡ true) Byte visibility_bytes visibility →
      Field (since13_3 c ≡ true) (Truth Spells) flag_bytes constant_flag →
      GlobalRow c i (name_bytes ++ (type_bytes ++ (constant_bytes ++ (alignment_bytes ++ (visibility_bytes ++ flag_bytes)))))
      (record {
        name = name;
        type = type;
        constant = constant;
        alignment = alignment;
        visibility = visibility;
        constant_flag = constant_flag;
      })

-- The count, the globals, and any bytes after the last.
abbrev pub Globals : VersionClass → ℕ → Lang (List Global)
Globals c o = Upto (Counted Number (GlobalRow c))
