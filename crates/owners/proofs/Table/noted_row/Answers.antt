-- `noted_row` finds the row of an instance that has no other, by its note or by looking at all. Assumes nothing.
use borrow.Author.Rules.{rules}
use Rattle.owners.specs.Owners.{is_of}
use Rattle.owners.proofs.LawsOwners.{first-as, such-of}
use Rattle.owners.proofs.Table.noted_row.Goals as goal

pub returns : goal.returns
returns c = first-as (such-of _ _) (c.first_row.ensures (is_of c.args.instance) (λ r t h. search rules))
