-- The widths of the numbers of an array are of one word at most.
use Rattle.std.specs.Prelude.{◌≤◌}
use lib.Dec.{lit≤}

abbrev pub narrow_4 : 4 ≤ 8
narrow_4 = lit≤ tt

abbrev pub narrow_8 : 8 ≤ 8
narrow_8 = lit≤ tt
