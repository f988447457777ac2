-- `row_at` passes the rows before the asked one: those from here on stand from `word` on. Assumes nothing.
use mathlib.Core.Path.{◌≡◌, sym, subst}
use Prim.Native.Nat.{suc, ◌+◌, ◌<◌}
use native.Mathlib.Omega.{arith}
use lib.ListN.{length}
use Rattle.names.specs.Names.{types_in, RowAt}
use Rattle.names.proofs.LawsRows.{RowsFrom, rows-begin, row-passed, row-tagged, place-small}
use borrow.Author.Rules.{rules}
use Rattle.names.proofs.row_at.Goals as goal

pub loop-init : goal.loop-init
loop-init c = rows-begin _ c.args.row _ c.requires c.word_at-word.ensures

pub overflow_add-word : goal.overflow_add-word
overflow_add-word c =
    let i = place-small _ _ c.well_formed.0.0 c.loop.invariant in
    search rules

pub overflow_add-word-in-loop : goal.overflow_add-word-in-loop
overflow_add-word-in-loop c =
    let h : c.loop.counter < length (types_in c.args.sheet.now) = omega (arith, c.requires) in
    let n = row-passed c.args.sheet.now c.loop.word c.loop.counter h c.loop.invariant _ c.word_at.ensures in
    let i = place-small _ _ c.well_formed.0.0 n in
    search rules

pub loop-preserved : goal.loop-preserved
loop-preserved c =
    let h : c.loop.counter < length (types_in c.args.sheet.now) = omega (arith, c.requires) in
    let e : suc c.loop.counter ≡ c.loop.counter + 1 = omega arith in
    subst (RowsFrom _ _) e (row-passed c.args.sheet.now c.loop.word c.loop.counter h c.loop.invariant _ c.word_at.ensures)

pub overflow_add-result : goal.overflow_add-result
overflow_add-result c =
    let i = place-small _ _ c.well_formed.0.0 c.loop.invariant in
    search rules

pub returns : goal.returns
returns c =
    let e : c.loop.counter ≡ c.args.row = omega arith in
    subst (λ k. RowAt c.args.sheet.now k (c.loop.word + 1)) e
    (row-tagged c.args.sheet.now c.loop.word c.loop.counter (subst (λ k. k < length (types_in c.args.sheet.now)) (sym e) c.requires) c.loop.invariant)
