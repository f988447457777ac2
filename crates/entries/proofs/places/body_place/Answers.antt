-- `body_place` finds the body of a function in its section. Assumes nothing.
use mathlib.Core.Path.{sym}
use Rattle.std.proofs.lemmas.Result.{err_from_is_err_and}
use Rattle.reading.proofs.LawsNumbers.{varint-in}
use Rattle.entries.proofs.LawsPlaces.{finds-stop, finds-as, bodies-refused, bodies-counted}
use Rattle.entries.proofs.places.body_place.Goals as goal

pub find_body-requires : goal.find_body-requires
find_body-requires c = (varint-in _ _ _ _ c.in_ok-count.ensures).1

pub returns : goal.returns
returns c =
    finds-as _ _ _ _ _
    (bodies-counted _ _ _ (sym c.in_ok-count.ensures))
    c.find_body.ensures

pub returns-in_err-count : goal.returns-in_err-count
returns-in_err-count c =
    let p = err_from_is_err_and c.from_residual.result c.from_residual.ensures.1 in
    rw (p.1, p.2) (finds-stop _ _ _ _ (bodies-refused _ _ _ (sym c.in_err-count.ensures)))
