-- `copy_number` copies a varint. Assumes nothing.
use Rattle.std.proofs.lemmas.Result.{err_from_is_err_and}
use Rattle.payloads.specs.declared.fields.Number.TheVariants.{Varint}
use Rattle.payloads.specs.Fields.{number_at}
use Rattle.payloads.proofs.LawsFields.{one-there, one-stop}
use Rattle.payloads.proofs.fields.copy_number.Goals as goal

pub returns-in_err-value : goal.returns-in_err-value
unfolding number_at
returns-in_err-value c =
    let p = err_from_is_err_and c.from_residual.result c.from_residual.ensures.1 in
    rw (p.1, p.2) (one-stop Varint _ _ _ c.args.at _ c.requires.0 c.in_err-value.ensures)

pub returns : goal.returns
unfolding number_at
returns c =
    let p = c.put_value.ensures in
    one-there Varint _ _ _ c.args.at _ _ _ c.in_ok-value.ensures p.sheet_after p.value
