-- `first_row` finds the first row that is wanted: in its loop, none so far is. Assumes nothing.
use mathlib.Core.Path.{◌≡◌, sym, ap, ◌∙◌}
use mathlib.Core.Bool.{true≢false}
use native.Mathlib.Omega.{arith}
use Rattle.owners.proofs.LawsOwners.{first-here, first-none, one_more}
use Rattle.owners.proofs.Table.first_row.Goals as goal

pub returns-then-wanted : goal.returns-then-wanted
returns-then-wanted g c =
    λ is h. let t : c.wanted.result ≡ is c.row.result = h _ _ c.wanted.ensures in
    first-here c.loop-row-test.true (ap is (sym c.row.ensures) ∙ sym t ∙ c.if-wanted.true) (c.loop-row.invariant is h)

pub loop-row-preserved : goal.loop-row-preserved
loop-row-preserved g c =
    λ is h. let t : c.wanted.result ≡ is c.row.result = h _ _ c.wanted.ensures in
    one_more (λ s. true≢false (sym s ∙ ap is (sym c.row.ensures) ∙ sym t ∙ c.if-wanted.false)) (c.loop-row.invariant is h)

pub returns : goal.returns
returns g c = λ is h. first-none (omega arith) (omega arith) (λ l i. c.loop-row.invariant is h l (omega arith))
