-- `type_text` judges the sheet, looks for the row, and puts its name. Assumes nothing.
use mathlib.Core.Path.{ap, ◌∙◌}
use native.Mathlib.Omega.{arith}
use Rattle.std.specs.Prelude.{Err}
use Rattle.std.proofs.lemmas.Result.{err_from_is_err_and}
use Rattle.names.proofs.LawsAnswer.{sheet-refused, types-told, row-refused}
use Rattle.names.proofs.type_text.Goals as goal

pub returns-in_err-ok_or : goal.returns-in_err-ok_or
returns-in_err-ok_or c =
    let p = err_from_is_err_and c.from_residual.result c.from_residual.ensures.1 in
    let a = sheet-refused _ _ c.args.out.now _ c.judge.ensures c.in_err-ok_or.ensures.value (p.1 ∙ ap Err p.2) in
    record { result_value = a.0; out_after = a.1 }

pub returns-then-word_at-row : goal.returns-then-word_at-row
returns-then-word_at-row c =
    let a = row-refused _ _ c.args.out.now _ c.judge.ensures _ c.in_ok-ok_or.ensures.value _ c.word_at.ensures c.if-word_at-row.true in
    record { result_value = a.0; out_after = a.1 }

pub put_name-requires : goal.put_name-requires
put_name-requires c =
    let n = types-told _ (c.args.row) (c.args.out.now) _ c.judge.ensures _ c.in_ok-ok_or.ensures.value _ c.word_at.ensures in
    let l = c.if-word_at-row.false in
    omega (arith, n, l)
