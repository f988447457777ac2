-- `read` measures on no stores, and then, if the lent ones are large enough, fills these; both passes are over what
-- header and walk gave. Assumes nothing.
use mathlib.Core.Path.{refl}
use mathlib.Core.Logic.{inl, inr}
use Rattle.std.specs.Prelude.{Ok, Err}
use Rattle.std.proofs.lemmas.Result.{err_from_is_err_and}
use Rattle.payloads.proofs.LawsWhole.{decode-refused}
use Rattle.payloads.proofs.LawsReads.{First, reads-stopped, reads-stop, reads-small, reads-filled}
use Rattle.payloads.proofs.read.Goals as goal
use Rattle.payloads.proofs.read.Goals.{then-sheet-need-via-then-sheet-need, then-sheet-need-via-else-sheet-need+then-pool-need}

pub returns-in_err-container : goal.returns-in_err-container
returns-in_err-container c =
    let p = err_from_is_err_and c.from_residual.result c.from_residual.ensures.1 in
    rw (p.1, p.2) (reads-stopped _ _ _ _ (decode-refused _ _ c.in_err-container.ensures) _ _ refl refl)

pub returns-in_err-need : goal.returns-in_err-need
returns-in_err-need c =
    let first : First c.args.file.now c.fill.new.sheet c.fill.new.pool (Err c.in_err-need.field-0.0) =
    record { sheet = c.fill.auto.sheet; pool = c.fill.auto.pool; answer = c.in_err-need.ensures.answer } in
    let p = err_from_is_err_and c.from_residual-in_err-need.result c.from_residual-in_err-need.ensures.1 in
    rw (p.1, p.2) (reads-stop _ _ _ _ first)

pub returns-then-sheet-need : goal.returns-then-sheet-need
returns-then-sheet-need c =
    let first : First c.args.file.now c.fill.new.sheet c.fill.new.pool (Ok c.in_ok-need.need) =
    record { sheet = c.fill.auto.sheet; pool = c.fill.auto.pool; answer = c.in_ok-need.ensures.answer } in
    rw c.call.ensures
    (reads-small _ _ _ _ first
    (elim c.then-sheet-need.branch [
      | then-sheet-need-via-then-sheet-need w ↦ inl w.if-sheet-need.true
      | then-sheet-need-via-else-sheet-need+then-pool-need w ↦ inr w.if-pool-need.true
    ]))

pub returns : goal.returns
returns c =
    let first : First c.args.file.now c.fill.new.sheet c.fill.new.pool (Ok c.in_ok-need.need) =
    record { sheet = c.fill.auto.sheet; pool = c.fill.auto.pool; answer = c.in_ok-need.ensures.answer } in
    reads-filled _ _ _ _ first _ _ c.if-sheet-need.false c.if-pool-need.false _ c.fill-2.ensures
