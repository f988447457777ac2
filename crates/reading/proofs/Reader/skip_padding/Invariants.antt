-- `skip_padding` answers the place behind the padding: its loop follows the bytes still to come (`Skip`). Assumes nothing.
use Prim.Native.Nat.{◌+◌, ◌-◌}
use Rattle.reading.proofs.LawsSkip.{Skip}
use Rattle.reading.proofs.Reader.skip_padding.Given as goal

abbrev pub invariant-loop-i : goal.invariant-loop-i
invariant-loop-i l = Skip l.data l.alignment l.at l.i (l.at + l.padding - l.i)
