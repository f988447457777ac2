-- `write_byte` writes one byte. Assumes nothing.
use mathlib.Core.Path.{refl}
use Rattle.std.proofs.lemmas.Result.{err_from_is_err_and}
use Rattle.enums.specs.declared.Refusal.TheVariants.{Full}
use Rattle.encoding.proofs.LawsOut.{put_one}
use Rattle.encoding.proofs.LawsWritten.{puts-found, puts-none}
use Rattle.encoding.proofs.EncodingWriter.write_byte.Goals as goal

pub returns-in_err-end : goal.returns-in_err-end
returns-in_err-end c =
    let p = err_from_is_err_and c.from_residual.result c.from_residual.ensures.1 in
    rw (p.1, p.2) (puts-none Full _ _ 1 _ refl c.end_of.ensures c.in_err-end.ensures.value)

pub returns : goal.returns
returns c =
    let h = rw c.in_ok-end.ensures.ok_part at c.end_of.ensures in
    rw c.moved.ensures (puts-found Full _ _ 1 refl h (put_one _ _ _ h.0))
