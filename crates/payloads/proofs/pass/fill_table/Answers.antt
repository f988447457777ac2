-- `fill_table` is one step of a pass. Assumes nothing.
use native.Mathlib.Omega.{arith}
use Rattle.std.proofs.lemmas.Result.{err_from_is_err_and}
use Rattle.format.proofs.LawsSoundItems.{known_bytes}
use Rattle.payloads.proofs.LawsRaised.{staged-err, staged-ok}
use Rattle.payloads.proofs.LawsFill.{fills-stopped}
use Rattle.payloads.proofs.LawsHeld.{source-short}
use Rattle.payloads.proofs.LawsPass.{number_small, table-refused, table-goes, in-place-bound}
use Rattle.payloads.proofs.pass.fill_table.Goals as goal

pub returns-in_err-rows : goal.returns-in_err-rows
returns-in_err-rows c =
    let p = err_from_is_err_and c.from_residual.result c.from_residual.ensures.1 in
    let (x, e, q) = staged-err _ _ _ c.in_err-rows.ensures in
    let stopped = fills-stopped _ _ x (rw e at c.read_table.ensures) in
    rw (p.1, p.2, q) (λ n. table-refused _ _ _ _ _ _ n x stopped c.stage.ensures)

pub put_table-requires : goal.put_table-requires
put_table-requires c = omega (arith, c.contents.ensures, number_small c.args.table)

pub returns : goal.returns
returns c =
    let s = c.args.source in
    let bound = in-place-bound _ _ s.file.now _ (known_bytes s.file.now s.bytes) (source-short s.file.now s.container.now s.read) in
    let read = rw (staged-ok _ _ _ c.in_ok-rows.ensures) at c.read_table.ensures in
    λ n. table-goes _ _ _ _ n _ _ (number_small c.args.table) read bound c.contents.ensures c.put_table.ensures
