-- `put_varint` puts the shortest spelling: one digit at once, and more of them digit by digit. Assumes nothing.
use Rattle.std.proofs.Common.{◌≡◌, ℕ, ◌≤◌, List, length}
use Rattle.encoding.specs.Varint.{spelling}
use Rattle.images.specs.Put.{Wrote}
use Rattle.images.proofs.put.put_varint.Given as goal

abbrev pub invariant-loop-rest : goal.invariant-loop-rest
invariant-loop-rest l =
    ((out' : List ℕ) (r : ℕ) → Wrote (spelling l.rest) l.next l.out out' r → Wrote (spelling l.value) l.at l.initial.out out' r) ×
    (length l.out ≡ length l.initial.out) × (l.rest ≤ l.value)

abbrev pub decreases-loop-rest : goal.decreases-loop-rest
decreases-loop-rest l = l.rest
