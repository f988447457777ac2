-- `ends_of` counts byte by byte (`ends-turn`), and fewer numbers than that can be read. Assumes nothing.
use Prim.Native.Nat.{◌≤◌}
use native.Mathlib.Omega.{arith}
use lib.ListN.{length}
use Rattle.payloads.proofs.LawsEnds.{ends-turn, ends-over, ends_read}
use Rattle.payloads.proofs.debug.ends_of.Goals as goal

pub loop-byte-preserved : goal.loop-byte-preserved
loop-byte-preserved c =
    let l = c.loop-byte in
    let e = ends-turn c.args.window.now c.args.size l.byte-index (omega (arith, c.requires.window_len)) l.left (omega arith) l.invariant.left in
    record { few = omega arith; left = omega arith; counted = omega (arith, l.invariant.counted, e) }

pub returns : goal.returns
returns c n h =
    let l = c.loop-byte in
    let w = c.args.window.now in
    let fits : c.args.size ≤ length w = omega (arith, c.requires.window_len) in
    let e = ends-over w c.args.size l.byte-index fits (omega arith) in
    ends_read w c.args.size n fits (omega arith) (omega (arith, l.invariant.counted, e, h))
