-- `clear` puts bytes of 0 where they have room. Assumes nothing.
use mathlib.Core.Path.{◌≡◌, refl, sym}
use mathlib.Core.List.{List}
use Prim.Native.Nat.{ℕ, ◌+◌, ◌≤◌}
use native.Mathlib.Omega.{arith}
use lib.ListN.{length, replicate, length-replicate}
use Rattle.encoding.proofs.LawsOut.{put_filled, put_full}
use Rattle.encoding.proofs.clear.Goals as goal

pub returns-in-Some : goal.returns-in-Some
returns-in-Some c = put_filled _ _ _ _ _ c.fill.ensures refl c.in-Some.ensures

pub returns-in_default : goal.returns-in_default
returns-in_default c =
    let n = c.args.n in
    let zeros : List ℕ = replicate n 0 in
    let e : length zeros ≡ n = length-replicate n 0 in
    let f : ¬ (c.args.at + n ≤ length c.args.out.now) = c.in_default.ensures in
    sym (put_full _ _ _ (omega arith))
