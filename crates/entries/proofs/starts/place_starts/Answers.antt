-- `place_starts` answers where the starts stand, or where the first is cut. Assumes nothing.
use native.Mathlib.Omega.{arith}
use Rattle.entries.proofs.LawsStarts.{wide-some, starts-room, starts_fit, starts-placed, starts-short}
use Rattle.entries.proofs.starts.place_starts.Goals as goal

pub nonzero_div-room : goal.nonzero_div-room
nonzero_div-room c = omega (arith, c.bytes-bytes.ensures, wide-some c.args.width)

pub overflow_mul-result : goal.overflow_mul-result
overflow_mul-result c =
    omega (arith, starts-room c.bytes-bytes.result c.args.payload.now c.args.table.pos c.args.count _ c.remaining.ensures)

pub overflow_add-result : goal.overflow_add-result
overflow_add-result c =
    let r = c.remaining.ensures in
    omega (arith, r, starts-room c.bytes-bytes.result c.args.payload.now c.args.table.pos c.args.count _ r)

pub returns-then-room-count : goal.returns-then-room-count
returns-then-room-count c =
    let b = c.bytes-bytes.ensures in
    let some = wide-some c.args.width in
    rw (← b)
    (starts-short _ c.args.payload.now c.args.table.pos _ _ c.remaining.ensures (rw b some) c.if-room-count.true)

pub overflow_mul-data : goal.overflow_mul-data
overflow_mul-data c =
    let r = c.remaining.ensures in
    omega (arith, r, starts_fit _ c.args.payload.now c.args.table.pos _ _ r c.if-room-count.false)

pub overflow_add-data : goal.overflow_add-data
overflow_add-data c =
    let r = c.remaining.ensures in
    omega (arith, r, starts_fit _ c.args.payload.now c.args.table.pos _ _ r c.if-room-count.false)

pub returns : goal.returns
returns c =
    rw (← c.bytes-bytes.ensures)
    (starts-placed _ c.args.payload.now c.args.table.pos _ _ c.remaining.ensures c.if-room-count.false)
