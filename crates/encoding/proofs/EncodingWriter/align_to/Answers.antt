-- `align_to` writes the padding, and remembers the alignment. Assumes nothing.
use mathlib.Core.Path.{sym, ◌∙◌}
use lib.ListN.{length-replicate}
use Rattle.std.proofs.lemmas.Result.{err_from_is_err_and}
use Rattle.enums.specs.declared.Refusal.TheVariants.{Full}
use Rattle.encoding.proofs.LawsOut.{put_filled}
use Rattle.encoding.proofs.LawsWritten.{puts-found, puts-none}
use Rattle.encoding.proofs.EncodingWriter.align_to.Goals as goal

pub returns-in_err-end : goal.returns-in_err-end
returns-in_err-end c =
    let p = err_from_is_err_and c.from_residual.result c.from_residual.ensures.1 in
    let e = length-replicate _ _ ∙ sym c.padding_to-padding.ensures in
    rw (p.1, p.2) (puts-none Full _ _ _ _ e c.end_of.ensures c.in_err-end.ensures.value)

pub returns : goal.returns
returns c =
    let h = rw c.in_ok-end.ensures.ok_part at c.end_of.ensures in
    let e = length-replicate _ _ ∙ sym c.padding_to-padding.ensures in
    let f = c.fill.ensures in
    rw (c.moved.ensures, c.asked.ensures) (puts-found Full _ _ _ e h (put_filled _ _ _ _ _ f c.padding_to-padding.ensures h))
