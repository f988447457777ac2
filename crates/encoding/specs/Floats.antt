-- How an f64 attribute is written in a float type (document 01, "Eight-bit floats").
use Rattle.std.specs.Prelude.{List, [], ◌∷◌, ℕ, Result}
use Rattle.float8.specs.Formats.{E4M3FN, E5M2}
use Rattle.encoding.specs.Varint.{spelling}
use Rattle.encoding.specs.Signed.{zigzag, signed}
use Rattle.encoding.specs.Shown.{Writes}
use Rattle.encoding.specs.declared.EncodingWriter.{EncodingWriter}
use Rattle.encoding.specs.declared.FloatType.{FloatType}
use Rattle.encoding.specs.declared.FloatType.TheVariants.{F64, F8E4M3FN, F8E5M2}
use Rattle.enums.specs.declared.Refusal.{Refusal}

-- "Each is written as one byte; an F64 attribute as its 64 bits in a signed varint."
pub data FloatBytes (bits : ℕ) : FloatType → List ℕ → Type 0 where
  as_bits : FloatBytes bits F64 (spelling (zigzag (signed 64 bits)))
  as_e4m3fn : {code : ℕ} → E4M3FN bits code → FloatBytes bits F8E4M3FN (code ∷ [])
  as_e5m2 : {code : ℕ} → E5M2 bits code → FloatBytes bits F8E5M2 (code ∷ [])

-- The writer w wrote the f64 in that type.
pub record WritesFloat (w : EncodingWriter) (bits : ℕ) (ty : FloatType) (out out' : List ℕ) (r : Result EncodingWriter Refusal) : Type 0 where
  pub bytes : List ℕ
  pub spelt : FloatBytes bits ty bytes
  pub written : Writes w bytes out out' r
