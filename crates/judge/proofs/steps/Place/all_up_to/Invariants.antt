-- `all_up_to` looks at the words one by one: all are at most that one if those from here on are. Assumes nothing.
use mathlib.Core.Path.{◌≡◌}
use Prim.Native.Nat.{◌-◌}
use lib.ListN.{take, drop}
use Rattle.sheet.specs.Store.{words_in}
use Rattle.judge.specs.Steps.{all_up_to}
use Rattle.judge.proofs.steps.Place.all_up_to.Given as goal

abbrev pub invariant-loop-i : goal.invariant-loop-i
invariant-loop-i l =
    all_up_to l.most (take (l.fn.end.word - l.i) (drop l.i (words_in l.sheet))) ≡ all_up_to l.most (take (l.fn.end.word - l.fn.self.word) (drop l.fn.self.word (words_in l.sheet)))
