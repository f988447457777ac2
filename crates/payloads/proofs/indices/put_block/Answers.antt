-- `put_block` puts numbers of one width, or finds no word for them: whatever copying the rest leaves, copying them all
-- leaves it. Assumes nothing.
use mathlib.Core.Path.{◌≡◌}
use Prim.Native.Nat.{suc, ◌+◌, ◌-◌}
use native.Mathlib.Omega.{arith}
use Rattle.payloads.proofs.LawsIndices.{even-more, even-done, even-measured}
use Rattle.payloads.proofs.indices.put_block.Goals as goal
use Rattle.payloads.proofs.indices.put_block.Goals.{then-at-sheet+else-loop-i-test, else-at-sheet}

pub loop-i-preserved : goal.loop-i-preserved
loop-i-preserved c =
    let l = c.loop-i in
    let m : c.args.count - l.i ≡ suc (c.args.count - (l.i + 1)) = omega (arith, c.loop-i-test.true) in
    λ s r x. l.invariant s r (even-more _ _ _ c.args.at _ _ _ _ _ _ _ _ m c.short_varint-value.ensures c.put_word.ensures x)

pub returns-clause-copied : goal.returns-clause-copied
returns-clause-copied c =
    elim c.if-at-sheet.branch [
      | then-at-sheet+else-loop-i-test w ↦
          let l = w.loop-i in
          let i : l.i ≡ c.args.count = omega (arith, w.loop-i-test.false, l.auto.i-end) in
          l.invariant _ _ (even-done _ _ _ c.args.at _ _ _ _ _ (omega arith) i w.sheet-is c.requires.width_in_bounds.0)
      | else-at-sheet w ↦
          rw w.sheet-is (even-measured _ _ _ _ _ c.args.at c.requires.even w.if-at-sheet.false c.requires.width_in_bounds.0)
    ]
