-- `copy_block` copies a block of numbers of one width, or sixteen numbers one after the other. Assumes nothing.
use mathlib.Core.Path.{sym, ◌∙◌}
use native.Mathlib.Omega.{arith}
use Rattle.payloads.proofs.LawsIndices.{even-ones, even-pairs}
use Rattle.payloads.proofs.indices.copy_block.Goals as goal

pub put_block-requires-clause-even : goal.put_block-requires-clause-even
put_block-requires-clause-even c =
    let p = c.requires in
    let t = c.if-entry-at-ge-BLOCK.true in
    even-ones _ _ _ (omega (arith, p.0)) (sym c.going_on-more.ensures ∙ c.if-more-eq0.true)

pub put_block-requires-then-going_on-eq-PAIRS-clause-even : goal.put_block-requires-then-going_on-eq-PAIRS-clause-even
put_block-requires-then-going_on-eq-PAIRS-clause-even c =
    let p = c.requires in
    let t = c.if-entry-at-ge-BLOCK.true in
    let half = sym c.going_on-more.ensures ∙ c.if-more-eq-PAIRS.true in
    let all = sym c.going_on.ensures ∙ c.if-going_on-eq-PAIRS.true in
    even-pairs c.args.entry.now (λ k. omega (arith, c.type_inv.entry k)) _ _ (omega (arith, p.0)) half all
