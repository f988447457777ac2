-- `write_bytes` writes a run of bytes. Assumes nothing.
use mathlib.Core.Path.{refl}
use native.Mathlib.Omega.{arith}
use Rattle.std.proofs.lemmas.Result.{err_from_is_err_and}
use Rattle.enums.specs.declared.Refusal.TheVariants.{Full}
use Rattle.encoding.proofs.LawsOut.{put_part}
use Rattle.encoding.proofs.LawsWritten.{puts-found, puts-none}
use Rattle.encoding.proofs.EncodingWriter.write_bytes.Goals as goal

pub returns-in_err-end : goal.returns-in_err-end
returns-in_err-end c =
    let p = err_from_is_err_and c.from_residual.result c.from_residual.ensures.1 in
    rw (p.1, p.2) (puts-none Full _ _ _ _ refl c.end_of.ensures c.in_err-end.ensures.value)

pub returns : goal.returns
returns c =
    let h = rw c.in_ok-end.ensures.ok_part at c.end_of.ensures in
    rw (c.moved.ensures, c.copy_from_slice.ensures.after)
    (puts-found Full _ _ _ refl h (put_part _ _ _ _ (omega arith) h.0))
