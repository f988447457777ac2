-- `round_shift_right_ties_even` meets its contract, by the law of the sum. Assumes nothing.
use Rattle.float8.proofs.Rounding.{by-sum}
use Rattle.float8.proofs.round_shift_right_ties_even.Goals as goal

pub returns : goal.returns
returns c = let a = c.args in by-sum a.value a.shift c.pow2-half.result c.requires.0 c.pow2-half.ensures
