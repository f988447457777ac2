-- `write_items` writes a counted array. Assumes nothing.
use Rattle.std.proofs.lemmas.Result.{err_from_is_err_and}
use Rattle.enums.specs.declared.Refusal.TheVariants.{Full}
use Rattle.encoding.proofs.LawsWritten.{puts-found, puts-none, length-counted, array-put}
use Rattle.encoding.proofs.EncodingWriter.write_items.Goals as goal

pub returns-in_err-end : goal.returns-in_err-end
returns-in_err-end g c =
    let p = err_from_is_err_and c.from_residual.result c.from_residual.ensures.1 in
    let e = length-counted g.T.Item.WIDTH g.T.Item.bits c.args.items.now in
    rw (p.1, p.2) (puts-none Full _ _ _ _ e (rw c.WIDTH.ensures at c.array_end.ensures) c.in_err-end.ensures.value)

pub returns : goal.returns
returns g c =
    let h = rw (c.in_ok-end.ensures.ok_part, c.WIDTH.ensures) at c.array_end.ensures in
    let f = g.T.Item.bits in
    let s = c.put_varint-start.ensures in
    rw c.moved.ensures
    (puts-found Full _ _ _ (length-counted _ f _) h (array-put _ f _ _ _ h.0 s.place s.output c.put_items.ensures))
