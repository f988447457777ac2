-- `parse_table` answers and fills as the table's own reader does; the readers of Type and Global are lent no pool. Assumes
-- nothing.
use Rattle.payloads.specs.Pass.{table_in}
use Rattle.payloads.proofs.LawsPass.{types_fill}
use Rattle.payloads.proofs.pass.parse_table.Goals as goal

pub returns-in-Types : goal.returns-in-Types
unfolding table_in
returns-in-Types c = rw c.in-Types.is (types_fill _ _ _ c.parse_type_section.ensures)

pub returns-in-Globals : goal.returns-in-Globals
unfolding table_in
returns-in-Globals c = rw c.in-Globals.is (c.parse_global_section.ensures _)
