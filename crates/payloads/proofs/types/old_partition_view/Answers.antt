-- `old_partition_view` copies the fields below 13.3, and puts tag and presence before them. Assumes nothing.
use native.Mathlib.Omega.{arith}
use Rattle.reading.specs.Numbers.{varint_at}
use Rattle.payloads.specs.Fields.{number_at}
use Rattle.payloads.proofs.LawsTypes.{ran_more, ran-last, field-if}
use Rattle.payloads.proofs.LawsTypeEntries.{presence-got, old_kind}
use Rattle.payloads.proofs.types.old_partition_view.Goals as goal

pub returns : goal.returns
unfolding number_at
returns c =
    let y = presence-got _ _ c.in_ok-dims.dims _ _ c.in_ok-presence.ensures in
    let p = rw c.put_word.ensures at c.put_word-2.ensures in
    let z = rw (field-if c.in_ok-presence.presence 1 varint_at) at c.copy_number_if.ensures in
    old_kind c.args.at (omega arith) (ran_more c.in_ok-shape.ensures (ran_more c.in_ok-view.ensures (ran_more c.in_ok-dims.ensures (ran-last y)))) p
    (record { put = z.put; within = z.within })
