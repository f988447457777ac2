-- `fetch` views the constant of the file in the slot that the instance holds. Assumes nothing.
use mathlib.Core.Path.{refl, sym, ap, ◌∙◌}
use native.Mathlib.Omega.{arith}
use Rattle.std.proofs.lemmas.Result.{err_from_is_err_and}
use Rattle.format.specs.Read.{map_read}
use Rattle.cache.proofs.LawsFetch.{own-held, fetch-refused, fetch-there, fetch-post}
use Rattle.cache.proofs.fetch.Goals as goal

pub own_slot-requires : goal.own_slot-requires
own_slot-requires c = c.slot_size-size.ensures

pub overflow_mul-slot : goal.overflow_mul-slot
overflow_mul-slot c =
    let held =
    own-held _ _ c.args.cache.now c.args.owners.now _ _ _ c.slot_size-size.ensures c.own_slot.ensures c.in_ok-slot.was in
    omega (arith, held.row_room)

pub overflow_add-slot : goal.overflow_add-slot
overflow_add-slot c =
    let held =
    own-held _ _ c.args.cache.now c.args.owners.now _ _ _ c.slot_size-size.ensures c.own_slot.ensures c.in_ok-slot.was in
    omega (arith, held.row_room)

pub overflow_mul-slot-2 : goal.overflow_mul-slot-2
overflow_mul-slot-2 c =
    let held =
    own-held _ _ c.args.cache.now c.args.owners.now _ _ _ c.slot_size-size.ensures c.own_slot.ensures c.in_ok-slot.was in
    omega (arith, held.room)

pub constant_in-requires : goal.constant_in-requires
constant_in-requires c =
    let x =
    own-held _ _ c.args.cache.now c.args.owners.now _ _ _ c.slot_size-size.ensures c.own_slot.ensures c.in_ok-slot.was in
    omega (arith, c.word_at-kept.ensures, x.fits, x.room)

pub returns-in_err-slot : goal.returns-in_err-slot
unfolding map_read
returns-in_err-slot c =
    let a = c.args in
    let e = rw c.in_err-slot.was at (c.own_slot.ensures a.cache.now refl) in
    let p = err_from_is_err_and c.from_residual.result c.from_residual.ensures.1 in
    rw (p.1, p.2)
    (fetch-post _ _ _ _ _ (sym (ap (map_read _) (fetch-refused _ _ _ a.index _ _ _ (sym e)))))

pub returns : goal.returns
returns c =
    let z = c.slot_size-size in
    let a = c.args in
    fetch-post _ _ _ _ _
    (c.constant_in.ensures ∙ fetch-there _ _ _ (own-held _ _ c.args.cache.now c.args.owners.now _ _ _ c.slot_size-size.ensures c.own_slot.ensures c.in_ok-slot.was) a.index _ c.word_at-kept.ensures z.ensures)
