-- `read_body` reads the length of a body and passes over it; its steps follow `body_at`. Assumes nothing.
use mathlib.Core.Path.{sym}
use Rattle.std.proofs.lemmas.Result.{err_from_is_err_and}
use Rattle.entries.proofs.LawsRows.{body-got, body-short}
use Rattle.entries.proofs.rows.read_body.Goals as goal

pub returns-in_err-body : goal.returns-in_err-body
returns-in_err-body c =
    let p = err_from_is_err_and c.from_residual-in_err-body.result c.from_residual-in_err-body.ensures.1 in
    rw (p.1, p.2)
    (λ o. sym (body-short o _ _ _ _ _ _ _ _ _ _ (sym c.in_ok-body_len.ensures) (sym c.in_err-body.ensures)))

pub returns : goal.returns
returns c =
    λ o. sym (body-got o _ _ _ _ _ _ _ _ _ _ _ (sym c.in_ok-body_len.ensures) (sym c.in_ok-body.ensures))
