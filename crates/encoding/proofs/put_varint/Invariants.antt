-- `put_varint` puts the shortest spelling: one digit at once, and more of them digit by digit. Assumes nothing.
use mathlib.Core.Path.{◌≡◌}
use Prim.Native.Nat.{◌+◌, ◌≤◌}
use lib.ListN.{length}
use Rattle.encoding.specs.Varint.{spelling}
use Rattle.encoding.specs.Out.{put}
use Rattle.encoding.proofs.put_varint.Given as goal

abbrev pub invariant-loop-rest : goal.invariant-loop-rest
invariant-loop-rest l =
    (put l.initial.out l.at (spelling l.value) ≡ put l.out l.i (spelling l.rest)) ×
    (l.i + length (spelling l.rest) ≡ l.at + length (spelling l.value)) × (l.rest ≤ l.value) × (length l.out ≡ length l.initial.out)

abbrev pub decreases-loop-rest : goal.decreases-loop-rest
decreases-loop-rest l = l.rest
