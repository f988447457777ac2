-- `spell` puts the digits from the last one back: those that are left have room before `at`, and all together are the
-- number's. Assumes nothing.
use Rattle.std.proofs.Common.{◌≡◌, suc, ◌^◌, ◌<◌, ◌++◌, length, drop}
use Rattle.format.specs.Names.{digits, decimal}
use Rattle.text.proofs.numbers.spell.Given as goal

abbrev pub invariant-loop-rest : goal.invariant-loop-rest
invariant-loop-rest l =
    (l.at < 20) × (length l.digits ≡ 20) × (l.rest < 10 ^ suc l.at) × (decimal l.v ≡ digits (suc l.at) l.rest ++ drop (suc l.at) l.digits)

abbrev pub decreases-loop-rest : goal.decreases-loop-rest
decreases-loop-rest l = l.at
