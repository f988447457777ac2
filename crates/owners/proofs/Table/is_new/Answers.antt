-- `is_new` tells whether a row's instance is new among those that are noted, and notes it. Assumes nothing.
use mathlib.Core.Path.{subst}
use Prim.Native.Nat.{◌≤◌}
use native.Mathlib.Omega.{arith}
use lib.ListN.{get_or}
use borrow.Author.Rules.{rules}
use Rattle.owners.specs.Owners.{is_of}
use Rattle.owners.proofs.LawsOwners.{first-as, such-of}
use Rattle.owners.proofs.LawsNotes.{both-full, first-none-tells}
use Rattle.owners.proofs.Table.is_new.Goals as goal
use Rattle.owners.proofs.Table.is_new.Goals.{then-row-lt128+else-notes-second-lt128, else-row-lt128}

pub returns : goal.returns
returns c =
    let x = c.requires.1 in
    let b = c.bucket-first.ensures in
    let f = subst (λ j. 128 ≤ get_or c.args.notes.now j 0) b c.if-seen-lt128.false in
    record {
      told = first-none-tells (first-as (such-of _ _) (c.first_row.ensures (is_of c.args.instance) (λ r t h. search rules)));
      after = both-full x _ f
          (λ m. elim c.if-row-lt128.branch [
            | then-row-lt128+else-notes-second-lt128 w ↦ subst (λ j. 128 ≤ get_or c.args.notes.now j 0) w.bucket-second.ensures w.if-notes-second-lt128.false
            | else-row-lt128 w ↦ absurd (omega (arith, m, w.if-row-lt128.false))
          ]);
    }
