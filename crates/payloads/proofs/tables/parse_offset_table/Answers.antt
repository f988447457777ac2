-- `parse_offset_table` reads the starts and then the entries. Assumes nothing.
use mathlib.Core.Path.{sym}
use Rattle.std.proofs.lemmas.Result.{err_from_is_err_and}
use Rattle.entries.proofs.LawsEntries.{starts-lie}
use Rattle.entries.proofs.LawsPlaces.{table-stop, table_got}
use Rattle.payloads.proofs.LawsFill.{fills-err}
use Rattle.payloads.proofs.LawsTables.{filling-stop}
use Rattle.payloads.proofs.tables.parse_offset_table.Goals as goal

pub fill_at_once-requires : goal.fill_at_once-requires
fill_at_once-requires c =
    starts-lie _ _ _ _ _ c.in_ok-starts.ensures

pub returns-in_err-starts : goal.returns-in_err-starts
returns-in_err-starts c =
    let p = err_from_is_err_and c.from_residual.result c.from_residual.ensures.1 in
    rw (p.1, p.2) (fills-err _ _ (filling-stop _ _ _ (table-stop _ _ _ _ (sym c.in_err-starts.ensures) 0)))

pub returns : goal.returns
returns c = rw (table_got _ _ _ (sym c.in_ok-starts.ensures) 0) c.fill_at_once.ensures
