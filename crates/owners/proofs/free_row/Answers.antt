-- `free_row` finds the first row that is free. Assumes nothing.
use borrow.Author.Rules.{rules}
use Rattle.owners.specs.Owners.{is_free}
use Rattle.owners.proofs.LawsOwners.{first-as, such-free}
use Rattle.owners.proofs.free_row.Goals as goal

pub returns : goal.returns
returns c =
    let f = first-as (such-free _) (c.first_row.ensures is_free (λ r t h. search rules)) in
    rw (c.new-table.ensures.owners, c.new-table.ensures.rows) at f
