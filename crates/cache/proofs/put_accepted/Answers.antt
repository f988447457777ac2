-- `put_accepted` puts a file that is accepted, if it fits and there is a slot. Assumes nothing.
use mathlib.Core.Path.{sym, ap, ◌∙◌}
use native.Mathlib.Omega.{arith}
use Rattle.std.specs.Prelude.{Err}
use Rattle.cache.specs.Calls.{slot_read}
use Rattle.cache.proofs.LawsJudged.{below, slot-room, as-slot, as_none}
use Rattle.cache.proofs.LawsCalls.{accepted-decode, put-large, put-there, or-accepted, or-refused, put-stays, stored-left}
use Rattle.cache.proofs.put_accepted.Goals as goal

pub returns-then-size-file : goal.returns-then-size-file
returns-then-size-file c =
    let (t, d) = accepted-decode _ c.requires.1 in
    put-stays _ _ _ _ _ _ _ _ (ap (λ x. slot_read (Err x)) c.call.ensures)
    (put-large _ _ _ _ c.requires.0.0 t d _ c.requires.2 c.if-size-file.true)

pub returns-then-slot-slots : goal.returns-then-slot-slots
returns-then-slot-slots c =
    let x = c.slot_for-slot.ensures _ c.requires.0.1 in
    let (t, d) = accepted-decode _ c.requires.1 in
    put-stays _ _ _ _ _ _ _ _ (ap (λ x. slot_read (Err x)) c.call-then-slot-slots.ensures)
    (put-there _ _ _ _ c.requires.0.0 t d _ c.requires.2 c.if-size-file.false _ (x.slot _) ∙
    or-refused _ _ (as_none _ _ (omega (arith, c.if-slot-slots.true))))

pub overflow_mul-slot : goal.overflow_mul-slot
overflow_mul-slot c =
    let x = c.slot_for-slot.ensures _ c.requires.0.1 in
    omega (arith, slot-room _ _ _ _ c.requires.0.0 c.requires.2 (below _ _ x.inside c.if-slot-slots.false))

pub fill_slot-requires : goal.fill_slot-requires
fill_slot-requires c =
    let x = c.slot_for-slot.ensures _ c.requires.0.1 in
    (slot-room _ _ _ _ c.requires.0.0 c.requires.2 (below _ _ x.inside c.if-slot-slots.false), c.if-size-file.false)

pub put_row-requires : goal.put_row-requires
put_row-requires c =
    let x = c.slot_for-slot.ensures _ c.requires.0.1 in
    omega (arith, c.requires.0.0.owners, below _ _ x.inside c.if-slot-slots.false)

pub returns : goal.returns
returns c =
    let x = c.slot_for-slot.ensures _ c.requires.0.1 in
    let (t, d) = accepted-decode _ c.requires.1 in
    let q = put-there _ _ _ _ c.requires.0.0 t d _ c.requires.2 c.if-size-file.false _ (x.slot _) ∙ or-accepted _ _ _ (as-slot _ _ (below _ _ x.inside c.if-slot-slots.false)) in
    record { answered = sym q; left = stored-left _ _ _ _ _ _ _ _ _ q c.requires.2 c.fill_slot.ensures c.put_row.ensures }
