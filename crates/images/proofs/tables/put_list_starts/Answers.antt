-- `put_list_starts` puts the starts one by one: whatever putting the rest leaves, putting them all leaves it.
-- Assumes nothing.
use Rattle.std.proofs.Common.{◌≡◌, ◌+◌, ◌-◌, suc, arith}
use Rattle.images.proofs.LawsTables.{ids-le, starts_none, starts_more, lists-end, lists-on, list-starts}
use Rattle.images.proofs.tables.put_list_starts.Goals as goal

pub loop-preserved : goal.loop-preserved
loop-preserved c =
    let n = c.args.table.count in
    let z : n - c.loop.counter ≡ suc (n - (c.loop.counter + 1)) = omega arith in
    let m = c.next_list-this.ensures in
    record {
      starts = λ v o r x. c.loop.invariant.starts v o r (starts_more z (ids-le v) c.put_le-next.ensures (m v) x);
      end = λ e x. c.loop.invariant.end e (lists-on z m x);
    }

pub returns : goal.returns
returns c =
    list-starts (λ v. c.loop.invariant.starts v _ _ (starts_none _ _ _ _ _ _ _ _ _ _ (omega arith)))
    (c.loop.invariant.end _ (lists-end _ _ _ _ (omega arith)))
