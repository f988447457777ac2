-- `rows_good` tells whether the rows are good: in its loop, those so far are, and they are noted. Assumes nothing.
use mathlib.Core.Path.{ap}
use native.Mathlib.Omega.{arith}
use Rattle.encoding.proofs.LawsTells.{tells-yes, tells-no}
use Rattle.owners.proofs.LawsOwners.{no_rows}
use Rattle.owners.proofs.LawsNotes.{no-notes, fewer-rows, quick-turn, good_turn, all-rows}
use Rattle.owners.proofs.Table.rows_good.Goals as goal
use Rattle.owners.proofs.Table.rows_good.Goals.{then-notes-first-lt128+then-this-size, else-notes-first-lt128+else-not-row_good}

pub loop-row-init : goal.loop-row-init
loop-row-init c = record { rows = no_rows _ _; noted = no-notes _ _ c.requires }

pub returns-then-not-row_good : goal.returns-then-not-row_good
returns-then-not-row_good c =
    tells-no
    (λ g. c.row_good.ensures.bad c.if-not-row_good.true (fewer-rows (omega (arith, c.loop-row-test.true)) g))

pub loop-row-preserved : goal.loop-row-preserved
loop-row-preserved c =
    let l = c.loop-row in
    let i = ap (λ r. r.instance) c.row-this.ensures in
    let k = ap (λ r. r.len) c.row-this.ensures in
    elim c.if-notes-first-lt128.branch [
      | then-notes-first-lt128+then-this-size w ↦ quick-turn l.invariant _ _ _ _ i c.bucket-first.ensures w.if-notes-first-lt128.true (omega (arith, k, w.if-this-size.true)) (omega arith) (omega arith)
          (λ h. omega arith) w.notes-is
      | else-notes-first-lt128+else-not-row_good w ↦ good_turn w.row_good.ensures w.if-not-row_good.false w.notes-is
    ]

pub returns : goal.returns
returns c =
    let l = c.loop-row in
    tells-yes (all-rows l.invariant _ (omega arith) c.loop-row-test.false)
