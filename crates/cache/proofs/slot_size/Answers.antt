-- `slot_size` divides, if there is a slot. Assumes nothing.
use mathlib.Core.Path.{◌≡◌, sym, ap, ◌∙◌}
use Prim.Native.Nat.{ℕ, ◌/◌}
use native.Mathlib.Nat.{div-zero}
use Rattle.cache.proofs.slot_size.Goals as goal

-- No slots have no bytes each.
none_each : (len n : ℕ) → n ≡ 0 → 0 ≡ len / n
none_each len n e = sym (ap (λ m. len / m) e ∙ div-zero len)

pub returns-then-slots-eq0 : goal.returns-then-slots-eq0
returns-then-slots-eq0 c = none_each _ _ c.if-slots-eq0.true
