-- `write` refuses what is not well-formed, and hands the rest on. Assumes nothing.
use Rattle.std.proofs.Common.{◌^◌, ◌<◌, length, arith}
use Rattle.std.proofs.lemmas.Result.{err_from_is_err_and}
use Rattle.format.proofs.LawsSoundItems.{known_bytes}
use Rattle.images.proofs.LawsHanded.{ok_some, err-none, write-stopped, write-other, write-passed}
use Rattle.images.proofs.write.Goals as goal

pub returns-in_err-judged : goal.returns-in_err-judged
returns-in_err-judged c =
    let p = err_from_is_err_and c.from_residual.result c.from_residual.ensures.1 in
    let n = err-none _ _ c.in_err-judged.ensures.value in
    let w = write-stopped _ c.judge.ensures c.args.pool.now c.args.out.now n.0 in
    rw (p.1, p.2, n.1) (record { result_value = w.0; out_after = w.1 })

pub returns-then-judged-pool : goal.returns-then-judged-pool
returns-then-judged-pool c =
    let w = write-other _ c.judge.ensures (ok_some _ _ c.in_ok-judged.ensures.value) _ _ c.if-judged-pool.true in
    record { result_value = w.0; out_after = w.1 }

pub returns : goal.returns
returns c =
    let s = c.args.sheet.now in
    let pool = c.args.pool.now in
    let short : length s < 2 ^ 63 = omega (arith, c.well_formed) in
    let known = known_bytes pool (λ i. omega (arith, c.type_inv.pool i)) in
    let w = write-passed s c.judge.ensures (ok_some _ _ c.in_ok-judged.ensures.value) short known c.if-judged-pool.false c.write_judged.ensures in
    record { result_value = w.0; out_after = w.1 }
