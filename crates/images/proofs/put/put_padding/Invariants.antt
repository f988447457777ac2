-- `put_padding` puts padding byte by byte. Assumes nothing.
use Rattle.std.proofs.Common.{ℕ, ◌-◌, List, replicate}
use Rattle.exact.specs.Padding.{gap}
use Rattle.enums.specs.Container.{P}
use Rattle.images.specs.Put.{Wrote}
use Rattle.images.proofs.put.put_padding.Given as goal

abbrev pub invariant-loop : goal.invariant-loop
invariant-loop l =
    (out' : List ℕ) (r : ℕ) → Wrote (replicate (gap l.alignment l.place - l.counter) P) l.next l.out out' r →
    Wrote (replicate (gap l.alignment l.place) P) l.at l.initial.out out' r
