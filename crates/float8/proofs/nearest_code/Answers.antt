-- `nearest_code` meets its contract, by the laws of the bits so rounded. Assumes nothing.
use native.Mathlib.Omega.{arith}
use Rattle.float8.proofs.Narrowing.{within-reach, nearest-code}
use Rattle.float8.proofs.nearest_code.Goals as goal

pub overflow_add-shift : goal.overflow_add-shift
overflow_add-shift c =
    omega (arith, (within-reach c.requires.1 c.args.magnitude c.max-held.ensures c.max-target_exp.ensures c.requires.0).1)

pub round_shift_right_ties_even-requires : goal.round_shift_right_ties_even-requires
round_shift_right_ties_even-requires c =
    within-reach c.requires.1 c.args.magnitude c.max-held.ensures c.max-target_exp.ensures c.requires.0

pub returns : goal.returns
returns c =
    rw c.min.ensures
    (nearest-code c.requires.1 c.args.magnitude c.max-held.ensures
    c.max-target_exp.ensures c.args.top c.round_shift_right_ties_even.ensures)
