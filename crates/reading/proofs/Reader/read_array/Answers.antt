-- `read_array` answers the next bytes, or that the data ends inside them. Assumes nothing.
use mathlib.Core.Path.{sym, ap, ◌∙◌}
use native.Mathlib.Omega.{arith}
use lib.ListN.{length-replicate, length-take, length-drop}
use Rattle.exact.specs.Got.{got}
use Rattle.exact.specs.Fixed.{raw}
use Rattle.reading.proofs.LawsPlaced.{placed-got, run-got}
use Rattle.reading.proofs.Reader.read_array.Goals as goal

pub slice_bounds-copy_from_slice-count : goal.slice_bounds-copy_from_slice-count
slice_bounds-copy_from_slice-count g c = omega (arith, run-got g.row.N _ _ _ _ _ (sym c.in_ok-start.ensures))

pub slice_bounds-copy_from_slice-start : goal.slice_bounds-copy_from_slice-start
slice_bounds-copy_from_slice-start g c = omega (arith, run-got g.row.N _ _ _ _ _ (sym c.in_ok-start.ensures))

pub slice_bounds-copy_from_slice-end-2 : goal.slice_bounds-copy_from_slice-end-2
slice_bounds-copy_from_slice-end-2 g c = omega (arith, c.requires, run-got g.row.N _ _ _ _ _ (sym c.in_ok-start.ensures))

pub copy_from_slice-requires : goal.copy_from_slice-requires
copy_from_slice-requires g c =
    let r = run-got g.row.N _ _ _ _ _ (sym c.in_ok-start.ensures) in
    let z = c.requires in
    simp (length-replicate, length-take, length-drop) (omega (arith, r))

pub returns : goal.returns
returns g c =
    let next = c.in_ok-start.next.pos in
    ap (λ bs. got bs next) c.copy_from_slice.ensures.after ∙
    sym (placed-got (raw g.row.N) _ _ _ _ _ (sym c.in_ok-start.ensures)).1
