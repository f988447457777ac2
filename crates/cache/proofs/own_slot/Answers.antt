-- `own_slot` judges the cache and finds the slot that an instance holds. Assumes nothing.
use mathlib.Core.Path.{sym, ap, ◌∙◌}
use native.Mathlib.Omega.{arith}
use Rattle.std.specs.Prelude.{Err}
use Rattle.cache.specs.Calls.{slot_read}
use Rattle.cache.proofs.LawsJudged.{below, as-slot, as_none, slot_of_row}
use Rattle.cache.proofs.LawsCalls.{bad-answer, drop-there, or-accepted, or-refused}
use Rattle.cache.proofs.own_slot.Goals as goal

pub judged-requires : goal.judged-requires
judged-requires c = c.requires

pub returns-in_default : goal.returns-in_default
returns-in_default c =
    λ b e.
    let bad = rw c.in_default.is at (c.judged.ensures b e) in
    ap (λ x. slot_read (Err x)) c.call.ensures ∙ sym (bad-answer _ _ _ bad)

pub returns-then-slot-slots : goal.returns-then-slot-slots
returns-then-slot-slots c =
    λ b e.
    let (g, x) = rw c.in-Some.is at (c.judged.ensures b e) in
    ap (λ x. slot_read (Err x)) c.call-then-slot-slots.ensures ∙
    sym (drop-there _ _ _ g _ (slot_of_row _ _ _ _ x) ∙ or-refused _ _ (as_none _ _ (omega (arith, c.if-slot-slots.true))))

pub returns : goal.returns
returns c =
    λ b e.
    let (g, x) = rw c.in-Some.is at (c.judged.ensures b e) in
    sym (drop-there _ _ _ g _ (slot_of_row _ _ _ _ x) ∙ or-accepted _ _ _ (as-slot _ _ (below _ _ x.inside c.if-slot-slots.false)))
