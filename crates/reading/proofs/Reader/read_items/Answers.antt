-- `read_items` answers the counted array there, its numbers where they stand. Assumes nothing.
use native.Mathlib.Omega.{arith}
use mathlib.Core.Path.{sym}
use Rattle.reading.proofs.LawsPlaced.{items-room, items-fit, items-at, items-end}
use Rattle.reading.proofs.Reader.read_items.Goals as goal

pub overflow_mul-result : goal.overflow_mul-result
overflow_mul-result c =
    omega (arith, items-room c.args.width _ _ _ _ _ (sym c.in_ok-count.ensures) c.remaining.ensures)

pub overflow_add-result : goal.overflow_add-result
overflow_add-result c =
    omega (arith, items-room c.args.width _ _ _ _ _ (sym c.in_ok-count.ensures) c.remaining.ensures)

pub returns-then-room-count : goal.returns-then-room-count
returns-then-room-count c =
    items-end _ _ _ _ _ _ (sym c.in_ok-count.ensures) c.remaining.ensures c.requires c.if-room-count.true

pub overflow_mul-next : goal.overflow_mul-next
overflow_mul-next c =
    omega (arith, items-fit _ _ _ _ _ _ (sym c.in_ok-count.ensures) c.remaining.ensures c.if-room-count.false)

pub overflow_add-next : goal.overflow_add-next
overflow_add-next c =
    omega (arith, items-fit _ _ _ _ _ _ (sym c.in_ok-count.ensures) c.remaining.ensures c.if-room-count.false)

pub returns : goal.returns
returns c = items-at _ _ _ _ _ _ (sym c.in_ok-count.ensures) c.remaining.ensures c.if-room-count.false
