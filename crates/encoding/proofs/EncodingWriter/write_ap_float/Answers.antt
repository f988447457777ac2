-- `write_ap_float` writes an f64 in a float type. Assumes nothing.
use mathlib.Core.Path.{◌≡◌, ap, ◌∙◌}
use mathlib.Core.List.{List}
use Prim.Native.Nat.{ℕ, ◌^◌, ◌<◌}
use lib.Dec.{lit≤}
use lib.IntN.{ℤ}
use mir.Syntax.{w64}
use mir.Val.{SFits, to_z, of_z}
use mir.Facts.{to_z-of_z}
use Rattle.encoding.specs.Varint.{spelling}
use Rattle.encoding.specs.Signed.{zigzag, signed}
use Rattle.encoding.specs.Shown.{Writes}
use Rattle.encoding.specs.Floats.{FloatBytes, as_bits, as_e4m3fn, as_e5m2, WritesFloat}
use Rattle.encoding.specs.declared.EncodingWriter.{EncodingWriter}
use Rattle.encoding.specs.declared.FloatType.{FloatType}
use Rattle.encoding.specs.declared.FloatType.TheVariants.{F64}
use Rattle.std.specs.Prelude.{Result}
use Rattle.enums.specs.declared.Refusal.{Refusal}
use Rattle.encoding.proofs.LawsSigned.{signed-fits}
use Rattle.encoding.proofs.LawsOut.{puts-as}
use Rattle.encoding.proofs.EncodingWriter.write_ap_float.Goals as goal

module _ {w : EncodingWriter} {bits : ℕ} {ty : FloatType} {out out' : List ℕ} {r : Result EncodingWriter Refusal} where
  told : (bs : List ℕ) → FloatBytes bits ty bs → Writes w bs out out' r → WritesFloat w bits ty out out' r
  told bs s h = record { bytes = bs; spelt = s; written = h }

  -- What the machine hands on of a signed number that it has just made.
  in-bits : (z : ℤ) → bits < 2 ^ 64 → ty ≡ F64 → z ≡ signed 64 bits →
      Writes w (spelling (zigzag (to_z w64 (of_z w64 z)))) out out' r → WritesFloat w bits ty out out' r
  in-bits z b t e h =
      let f : SFits w64 (signed 64 bits) = record { sfits = signed-fits 64 (lit≤ tt) bits b } in
      let q : to_z w64 (of_z w64 z) ≡ signed 64 bits = ap (λ (x : ℤ). to_z w64 (of_z w64 x)) e ∙ to_z-of_z f in
      told (spelling (zigzag (signed 64 bits))) (rw t as_bits) (puts-as (ap (λ (x : ℤ). spelling (zigzag x)) q) h)

pub returns-in-F64 : goal.returns-in-F64
returns-in-F64 c =
    let t = c.in-F64.is in
    let b = c.ranges.bits.fits in
    in-bits _ b t c.i64_of_bits.ensures c.write_signed_varint.ensures

pub returns-in-F8E4M3FN : goal.returns-in-F8E4M3FN
returns-in-F8E4M3FN c =
    let t = c.in-F8E4M3FN.is in
    told _ (rw t (as_e4m3fn c.f64_to_f8e4m3fn.ensures)) c.write_byte.ensures

pub returns-in-F8E5M2 : goal.returns-in-F8E5M2
returns-in-F8E5M2 c =
    let t = c.in-F8E5M2.is in
    told _ (rw t (as_e5m2 c.f64_to_f8e5m2.ensures)) c.write_byte-in-F8E5M2.ensures
