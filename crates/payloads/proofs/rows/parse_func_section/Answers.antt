-- `parse_func_section` reads the count and fills in the rows. Assumes nothing.
use mathlib.Core.Path.{sym}
use Rattle.std.proofs.lemmas.Result.{err_from_is_err_and}
use Rattle.reading.proofs.LawsNumbers.{varint-in}
use Rattle.payloads.proofs.LawsFill.{fills-err}
use Rattle.payloads.proofs.LawsRows.{funcs-stop, funcs-all}
use Rattle.payloads.proofs.rows.parse_func_section.Goals as goal

pub fill_funcs-requires : goal.fill_funcs-requires
fill_funcs-requires c = (varint-in _ _ _ _ c.in_ok-count.ensures).1

pub returns-in_err-count : goal.returns-in_err-count
returns-in_err-count c =
    let p = err_from_is_err_and c.from_residual.result c.from_residual.ensures.1 in
    rw (p.1, p.2) (fills-err _ _ (funcs-stop _ _ _ (sym c.in_err-count.ensures)))

pub returns : goal.returns
returns c = funcs-all _ _ _ _ _ _ _ _ _ (sym c.in_ok-count.ensures) c.fill_funcs.ensures
