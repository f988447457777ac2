-- `ends_of` counts byte by byte (`ends-turn`), and fewer numbers than that can be read. Assumes nothing.
use mathlib.Core.Path.{◌≡◌}
use Prim.Native.Nat.{◌+◌, ◌≤◌}
use lib.ListN.{take}
use Rattle.payloads.proofs.LawsEnds.{ends}
use Rattle.payloads.proofs.debug.ends_of.Given as goal

abbrev pub invariant-loop-byte : goal.invariant-loop-byte
invariant-loop-byte l =
    record {
      few : l.ends ≤ l.byte-index;
      left : l.left + l.byte-index ≡ l.size + 15;
      counted : l.ends + ends (take l.size l.window) l.byte-index ≡ ends (take l.size l.window) 0;
    }
