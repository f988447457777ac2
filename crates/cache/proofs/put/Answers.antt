-- `put` judges the cache and the file, and puts it. Assumes nothing.
use mathlib.Core.Path.{refl, ap}
use native.Mathlib.Omega.{arith}
use Rattle.std.specs.Prelude.{Err}
use Rattle.std.proofs.lemmas.Result.{err_from_is_err_and}
use Rattle.decoder.proofs.LawsRowViews.{measured}
use Rattle.cache.specs.Calls.{slot_read}
use Rattle.cache.proofs.LawsCalls.{bad-answer, put_refused, measure-refused, put-stays, put_post}
use Rattle.cache.proofs.put.Goals as goal

pub judged-requires : goal.judged-requires
judged-requires c = c.slot_size-size.ensures

pub returns-in_default : goal.returns-in_default
returns-in_default c =
    let b = rw c.in_default.is at (c.judged.ensures c.args.cache.now refl) in
    put_post _ _ _ _ _ _ (omega (arith, c.well_formed))
    (put-stays _ _ _ _ _ _ _ _ (ap (λ x. slot_read (Err x)) c.call.ensures) (bad-answer _ _ _ b))

pub put_accepted-requires : goal.put_accepted-requires
put_accepted-requires c = (
  rw c.in-Some.is at (c.judged.ensures c.args.cache.now refl),
  measured _ _ (rw c.in_ok-measure.was at c.measure.ensures.answer),
  c.slot_size-size.ensures,
)

pub returns-in_err-measure : goal.returns-in_err-measure
returns-in_err-measure c =
    let g = rw c.in-Some.is at (c.judged.ensures c.args.cache.now refl) in
    let p = err_from_is_err_and c.from_residual.result c.from_residual.ensures.1 in
    put_post _ _ _ _ _ _ (omega (arith, c.well_formed))
    (put-stays _ _ _ _ _ _ _ _ (ap slot_read (rw p.2 at p.1))
    (put_refused _ _ _ _ g.0 _ _ _ (measure-refused _ _ _ c.in_err-measure.was c.measure.ensures.answer)))

pub returns : goal.returns
returns c = put_post _ _ _ _ _ _ (omega (arith, c.well_formed)) c.put_accepted.ensures
