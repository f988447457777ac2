-- Func (document 01, "The container": count; name, signature, a flags byte, location varint, varint body length,
-- body).
use Rattle.std.specs.Prelude.{◌≡◌, ℕ, ◌+◌, ◌/◌, ◌%◌, List, [], ◌∷◌, ◌++◌, length}
use Rattle.exact.specs.Exact.{Lang}
use Rattle.exact.specs.Sequence.{Of}
use Rattle.exact.specs.Repeat.{Counted}
use Rattle.exact.specs.Upto.{Upto}
use Rattle.exact.specs.Entries.{Rows}
use Rattle.enums.specs.Container.{hints_flag}
use Rattle.encoding.specs.Varint.{Spells}
use Rattle.format.specs.Tables.{Function}
use Rattle.format.specs.Items.{Number}

-- A value, and the place of its bytes.
pub record Located (A : Type 0) : Type 0 where
  pub at : ℕ
  pub value : A

-- Values with their places, apart.
abbrev pub apart : {A : Type 0} → List (Located A) → Rows A
apart [] = record { at = []; values = [] }
apart (x ∷ xs) = record { at = x.at ∷ (apart xs).at; values = x.value ∷ (apart xs).values }

-- The hints flag is clear.
abbrev pub NoHints : ℕ → Type 0
NoHints flags = flags / hints_flag % 2 ≡ 0

-- One function, in a payload that begins at file offset o, with the file offset of its body.
pub data FunctionRow (o : ℕ) : ℕ → List ℕ → Located Function → Type 0 where
  function : {i : ℕ} {name_bytes signature_bytes location_bytes length_bytes body : List ℕ}
      {name signature flags location : ℕ} →
      Spells name_bytes name →
      Spells signature_bytes signature →
      NoHints flags →
      Spells location_bytes location →
      Spells length_bytes (length body) →
      FunctionRow o i (name_bytes ++ (signature_bytes ++ (flags ∷ (location_bytes ++ (length_bytes ++ body)))))
      (record {
        at = o + (i + length name_bytes + length signature_bytes + 1 + length location_bytes + length length_bytes);
        value = record { name = name; signature = signature; flags = flags; location = location; body = body };
      })

-- The count, the functions, and any bytes after the last.
abbrev pub Functions : ℕ → Lang (Rows Function)
Functions o = Of apart (Upto (Counted Number (FunctionRow o)))
