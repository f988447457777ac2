-- `skip_padding` answers the place behind the padding: its loop follows the bytes still to come (`Skip`). Assumes nothing.
use mathlib.Core.Path.{◌≡◌}
use Prim.Native.Nat.{ℕ, ◌+◌, ◌-◌, ◌%◌}
use native.Mathlib.Omega.{arith}
use Rattle.reading.proofs.LawsSkip.{skip-none, skip-start, skip-done, skip-short, skip-wrong, skip-more}
use Rattle.reading.proofs.Reader.skip_padding.Goals as goal

pub returns-then-alignment-lt2 : goal.returns-then-alignment-lt2
returns-then-alignment-lt2 c = skip-none _ _ _ c.if-alignment-lt2.true

pub loop-i-init : goal.loop-i-init
loop-i-init c =
    let p = c.args.self.pos in
    let n : ℕ = (c.args.alignment - p % c.args.alignment) % c.args.alignment in
    let e : p + n - p ≡ n = omega arith in
    rw e (skip-start _ _ _ c.if-alignment-lt2.false)

pub returns-then-data-i : goal.returns-then-data-i
returns-then-data-i c = skip-wrong _ _ _ _ _ c.loop-i.invariant (omega arith) (omega arith) c.if-data-i.true

pub loop-i-preserved : goal.loop-i-preserved
loop-i-preserved c =
    let p = c.args.self.pos in
    let n : ℕ = (c.args.alignment - p % c.args.alignment) % c.args.alignment in
    let e : p + n - c.loop-i.i - 1 ≡ p + n - (c.loop-i.i + 1) = omega arith in
    rw e at (skip-more _ _ _ _ _ c.loop-i.invariant (omega arith) (omega arith) c.if-data-i.false)

pub returns-then-end-at : goal.returns-then-end-at
returns-then-end-at c = skip-short _ _ _ _ _ c.loop-i.invariant (omega arith) (omega arith)

pub returns : goal.returns
returns c =
    let e : c.at_most-end.result ≡ c.loop-i.i = omega arith in
    rw e (skip-done _ _ _ _ _ c.loop-i.invariant (omega arith))
