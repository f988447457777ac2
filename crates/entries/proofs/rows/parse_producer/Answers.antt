-- `parse_producer` follows the model. Assumes nothing.
use mathlib.Core.Path.{sym}
use Rattle.std.proofs.lemmas.Result.{err_from_is_err_and}
use Rattle.entries.proofs.LawsProducer.{producer-stop, producer-in, producer-out}
use Rattle.entries.proofs.rows.parse_producer.Goals as goal

pub returns-then-index-strings : goal.returns-then-index-strings
returns-then-index-strings c =
    producer-in _ _ _ _ (sym c.in_ok-index.ensures) c.if-index-strings.true

pub returns : goal.returns
returns c =
    producer-out _ _ _ _ (sym c.in_ok-index.ensures) c.if-index-strings.false

pub returns-in_err-index : goal.returns-in_err-index
returns-in_err-index c =
    let p = err_from_is_err_and c.from_residual.result c.from_residual.ensures.1 in
    rw (p.1, p.2) (producer-stop _ _ _ _ (sym c.in_err-index.ensures))
