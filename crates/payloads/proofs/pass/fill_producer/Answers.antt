-- `fill_producer` is the producer's step of a pass. Assumes nothing.
use mathlib.Core.Path.{sym, ◌∙◌}
use native.Mathlib.Omega.{arith}
use Rattle.std.proofs.lemmas.Result.{err_from_is_err_and}
use Rattle.payloads.proofs.LawsRaised.{raised-fits, raised-err, raised-ok, staged-err, staged-ok}
use Rattle.payloads.proofs.LawsProducing.{producer-index, producer-short, producer-absent, producer-named, producer-refused}
use Rattle.payloads.proofs.pass.fill_producer.Goals as goal

pub returns-in_default : goal.returns-in_default
returns-in_default c = λ at s p. producer-absent _ _ at _ c.in_default.ensures

pub raised-found-requires : goal.raised-found-requires
raised-found-requires c =
    raised-fits _ _ (λ x e. omega (arith, producer-short _ _ _ c.parse_producer.ensures x e, c.in-Some.payload.near))

pub returns-in_err-index : goal.returns-in_err-index
returns-in_err-index c =
    let p = err_from_is_err_and c.from_residual.result c.from_residual.ensures.1 in
    let (y, e, q) = staged-err _ _ _ c.in_err-index.ensures in
    let (x, f, o) = raised-err _ _ _ (sym e ∙ c.raised-found.ensures) in
    let there = c.in-Some.ensures in
    rw (p.1, p.2, q, o) (λ at s p. producer-refused _ _ at _ _ _ _ there.0 there.1 there.2 c.parse_producer.ensures x f)

pub overflow_add-result : goal.overflow_add-result
overflow_add-result c =
    let f = raised-ok _ _ _ (sym (staged-ok _ _ _ c.in_ok-index.ensures) ∙ c.raised-found.ensures) in
    omega (arith, producer-index _ _ _ c.parse_producer.ensures _ f)

pub returns : goal.returns
returns c =
    let f = raised-ok _ _ _ (sym (staged-ok _ _ _ c.in_ok-index.ensures) ∙ c.raised-found.ensures) in
    let there = c.in-Some.ensures in
    λ at s p. producer-named _ _ at _ _ _ _ there.0 there.1 there.2 c.parse_producer.ensures _ f
