-- A list of a row calls types of earlier rows and the rest of itself, and a type calls lists of its own row: row number
-- and list items left fall. Assumes nothing.
use Rattle.names.proofs.LawsListed.{of_type, of_list}
use Rattle.names.proofs.+describe_list_describe_type.Given as goal

abbrev pub decreases-describe_list : goal.decreases-describe_list
decreases-describe_list l = of_list l.row l.left

abbrev pub decreases-describe_type : goal.decreases-describe_type
decreases-describe_type l = of_type l.row
