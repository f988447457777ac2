-- `patch_le` patches a number, once over the width. Assumes nothing.
use Rattle.std.proofs.lemmas.Result.{err_from_is_err_and}
use Rattle.enums.specs.declared.Refusal.TheVariants.{Absent}
use Rattle.exact.proofs.LawsFixed.{length-bytes_of}
use Rattle.encoding.proofs.LawsWritten.{puts-found, puts-none}
use Rattle.encoding.proofs.patch_le.Goals as goal

pub returns-in_err-end : goal.returns-in_err-end
returns-in_err-end c =
    let p = err_from_is_err_and c.from_residual.result c.from_residual.ensures.1 in
    rw (p.1, p.2) (puts-none Absent _ _ _ _ (length-bytes_of _ _) c.end_of.ensures c.in_err-end.ensures.value)

pub returns : goal.returns
returns c = puts-found Absent _ _ _ (length-bytes_of _ _) (rw c.in_ok-end.ensures.ok_part at c.end_of.ensures) c.put_le.ensures
