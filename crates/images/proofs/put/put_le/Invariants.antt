-- `put_le` puts the lowest bytes of a number, one by one. Assumes nothing.
use Rattle.std.proofs.Common.{ℕ, ◌-◌, List}
use Rattle.exact.specs.Fixed.{bytes_of}
use Rattle.images.specs.Put.{Wrote}
use Rattle.images.proofs.put.put_le.Given as goal

abbrev pub invariant-loop : goal.invariant-loop
invariant-loop l =
    (out' : List ℕ) (r : ℕ) → Wrote (bytes_of (l.width - l.counter) l.rest) l.next l.out out' r → Wrote (bytes_of l.width l.value) l.at l.initial.out out' r
