-- The text of the numbers of a list (document 02, request 1/14: numbers as `decode_type_entry` prints them), by how
-- they stand in the words of a sheet. Assumes nothing.
use Rattle.std.specs.Prelude.{ℕ, ◌%◌, ◌^◌, List, [], ◌∷◌, ◌++◌, map}
use Rattle.exact.specs.Tiling.{join}
use Rattle.format.specs.Names.{dimension, i32, i64}
use Rattle.text.specs.declared.numbers.Number.{Number}
use Rattle.text.specs.declared.numbers.Number.TheVariants.{I32, I64, Dynamic}

-- A number of 32 bits is the low half of its word.
abbrev pub low32 : ℕ → List ℕ
low32 v = i32 (v % 2 ^ 32)

-- The text of a number, by how it stands in its word.
unfoldable pub number_text : Number → ℕ → List ℕ
number_text I32 = low32
number_text I64 = i64
number_text Dynamic = dimension

-- Numbers, each behind a separator ..
unfoldable pub separated : Number → ℕ → List ℕ → List ℕ
separated k b vs = join (map (λ v. b ∷ number_text k v) vs)

-- .. and with a separator between them.
unfoldable pub between : Number → ℕ → List ℕ → List ℕ
between k b [] = []
between k b (v ∷ vs) = number_text k v ++ separated k b vs
