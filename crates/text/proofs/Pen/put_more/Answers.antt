-- `put_more` puts one number behind the other: whatever putting the rest leaves, putting them all leaves it. Assumes
-- nothing.
use Rattle.std.proofs.Common.{◌≡◌, ◌+◌, ◌-◌, ◌<◌, ◌≤◌, refl, rules, arith}
use Rattle.text.proofs.LawsNumbers.{more-none, more-stopped, more-next}
use Rattle.text.proofs.Pen.put_more.Goals as goal

pub returns-in-Full : goal.returns-in-Full
returns-in-Full c = c.loop.invariant.0 _ _ (more-stopped _ _ _ _ _ c.in-Full.is)

pub loop-preserved : goal.loop-preserved
loop-preserved c =
    let l = c.loop in
    let some : 0 < c.args.count - l.counter = omega arith in
    let less : c.args.count - (l.counter + 1) ≡ c.args.count - l.counter - 1 = omega arith in (
      λ o r x.
          l.invariant.0 o r
          (more-next _ _ _ (c.args.count - l.counter) l.word _ _ l.invariant.1 some c.put_byte.ensures
          c.word_at-value.ensures c.put_number-pen.ensures refl (rw less at x)),
      omega arith,
      search rules,
    )

pub returns : goal.returns
returns c = let none : c.args.count - c.loop.counter ≤ 0 = omega arith in c.loop.invariant.0 _ _ (more-none _ _ _ _ _ none)
