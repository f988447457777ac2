-- `measure` is a pass on no stores. Assumes nothing.
use mathlib.Core.Path.{sym, ap}
use Rattle.std.proofs.lemmas.Result.{err_from_is_err_and}
use Rattle.format.specs.Read.{map_read}
use Rattle.payloads.specs.Whole.{need_of}
use Rattle.payloads.proofs.LawsWhole.{decode-refused}
use Rattle.payloads.proofs.measure.Goals as goal

pub returns-in_err-container : goal.returns-in_err-container
unfolding map_read
returns-in_err-container c =
    let p = err_from_is_err_and c.from_residual.result c.from_residual.ensures.1 in
    rw (p.1, p.2) (sym (ap (map_read need_of) (decode-refused _ _ c.in_err-container.ensures)))
