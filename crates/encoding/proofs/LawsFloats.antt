-- A float has one spelling in each type, so its writer has one result. Assumes nothing.
use mathlib.Core.Path.{◌≡◌, refl, ap}
use mathlib.Core.List.{List, [], ◌∷◌}
use Prim.Native.Nat.{ℕ}
use Rattle.float8.proofs.Only.{e4m3fn-only, e5m2-only}
use Rattle.encoding.specs.Floats.{FloatBytes, as_bits, as_e4m3fn, as_e5m2, WritesFloat}
use Rattle.encoding.specs.declared.EncodingWriter.{EncodingWriter}
use Rattle.encoding.specs.declared.FloatType.{FloatType}
use Rattle.std.specs.Prelude.{Result}
use Rattle.enums.specs.declared.Refusal.{Refusal}
use Rattle.encoding.proofs.LawsOut.{puts-as}
use Rattle.encoding.proofs.LawsWritten.{writes-only}

-- The bytes of a float in a type are decided by its bits.
pub float-bytes-only : {bits : ℕ} {ty : FloatType} {bs cs : List ℕ} → FloatBytes bits ty bs → FloatBytes bits ty cs → bs ≡ cs
float-bytes-only as_bits as_bits = refl
float-bytes-only (as_e4m3fn p) (as_e4m3fn q) = ap (λ (b : ℕ). b ∷ []) (e4m3fn-only p q)
float-bytes-only (as_e5m2 p) (as_e5m2 q) = ap (λ (b : ℕ). b ∷ []) (e5m2-only p q)

-- Any two results that `write_ap_float` may give are equal, answer and output.
pub writes-float-only : {w : EncodingWriter} {bits : ℕ} {ty : FloatType} {out out' out'' : List ℕ} {r s : Result EncodingWriter Refusal} →
    WritesFloat w bits ty out out' r → WritesFloat w bits ty out out'' s → (r ≡ s) × (out' ≡ out'')
writes-float-only p q = writes-only (puts-as (float-bytes-only p.spelt q.spelt) p.written) q.written
