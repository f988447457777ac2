-- `drop` clears the slot that the instance holds, and its row. Assumes nothing.
use mathlib.Core.Path.{refl, sym, ap}
use native.Mathlib.Omega.{arith}
use Rattle.std.proofs.lemmas.Result.{err_from_is_err_and}
use Rattle.cache.specs.Calls.{slot_read}
use Rattle.cache.proofs.LawsCalls.{drop-stays, drop-post, stored-left}
use Rattle.cache.proofs.LawsFetch.{own-found, own-held}
use Rattle.cache.proofs.drop.Goals as goal

pub own_slot-requires : goal.own_slot-requires
own_slot-requires c = c.slot_size-size.ensures

pub overflow_mul-slot : goal.overflow_mul-slot
overflow_mul-slot c =
    let held =
    own-held _ _ c.args.cache.now c.args.owners.now _ _ _ c.slot_size-size.ensures c.own_slot.ensures c.in_ok-slot.was in
    omega (arith, held.room)

pub fill_slot-requires : goal.fill_slot-requires
fill_slot-requires c =
    let held =
    own-held _ _ c.args.cache.now c.args.owners.now _ _ _ c.slot_size-size.ensures c.own_slot.ensures c.in_ok-slot.was in
    (held.room, omega arith)

pub put_row-requires : goal.put_row-requires
put_row-requires c =
    let held =
    own-held _ _ c.args.cache.now c.args.owners.now _ _ _ c.slot_size-size.ensures c.own_slot.ensures c.in_ok-slot.was in
    omega (arith, held.row_room)

pub returns-in_err-slot : goal.returns-in_err-slot
returns-in_err-slot c =
    let a = c.args in
    let e = rw c.in_err-slot.was at (c.own_slot.ensures a.cache.now refl) in
    let p = err_from_is_err_and c.from_residual.result c.from_residual.ensures.1 in
    drop-post _ _ _ _ _ (drop-stays _ _ _ _ _ _ _ (ap slot_read (rw p.2 at p.1)) (sym e))

pub returns : goal.returns
returns c =
    let z = c.slot_size-size in
    let found =
    own-found _ _ c.args.cache.now c.args.owners.now _ _ c.own_slot.ensures c.in_ok-slot.was in
    drop-post _ _ _ _ _
    (record { answered = sym found; left = stored-left _ _ _ _ _ _ _ _ _ found z.ensures c.fill_slot.ensures c.put_row.ensures })
