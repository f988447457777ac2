-- `put_numbers` puts the numbers one by one: what the rest puts, all of them put. Assumes nothing.
use mathlib.Core.Path.{◌≡◌}
use Prim.Native.Nat.{◌+◌}
use lib.ListN.{drop}
use Rattle.exact.specs.Fixed.{nums}
use Rattle.sheet.specs.Store.{put_words}
use Rattle.payloads.proofs.fields.put_numbers.Given as goal

abbrev pub invariant-loop-i : goal.invariant-loop-i
invariant-loop-i l =
    put_words l.sheet (l.at + l.i) (drop l.i (nums l.count l.width l.run)) ≡ put_words l.initial.sheet l.at (nums l.count l.width l.run)
