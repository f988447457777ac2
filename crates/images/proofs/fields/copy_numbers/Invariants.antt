-- `copy_numbers` copies as many words as are asked for: whatever copying the rest leaves, copying them all leaves it.
-- Assumes nothing.
use Rattle.std.proofs.Common.{ℕ, ◌-◌, List}
use Rattle.images.specs.Fields.{NumbersCopied}
use Rattle.images.specs.declared.fields.Pen.{Pen}
use Rattle.images.proofs.fields.copy_numbers.Given as goal

abbrev pub invariant-loop : goal.invariant-loop
invariant-loop l =
    (out' : List ℕ) (r : Pen) → NumbersCopied l.number (l.count - l.counter) l.sheet l.next l.out out' r →
    NumbersCopied l.number l.count l.sheet l.initial.next l.initial.out out' r
