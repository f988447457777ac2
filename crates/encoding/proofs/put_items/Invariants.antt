-- `put_items` puts the numbers of an array: in its loop, what is left goes behind what was put. Assumes nothing.
use mathlib.Core.Path.{◌≡◌}
use mathlib.Core.List.{map}
use Prim.Native.Nat.{◌+◌, ◌*◌}
use lib.ListN.{length, drop}
use Rattle.encoding.specs.Out.{put, flat}
use Rattle.encoding.proofs.put_items.Given as goal

abbrev pub invariant-loop-item : goal.invariant-loop-item
invariant-loop-item g l = record {
  done : put l.initial.out l.at (flat g.T.Item.WIDTH (map g.T.Item.bits l.items)) ≡
      put l.out l.next (flat g.T.Item.WIDTH (map g.T.Item.bits (drop l.item-index l.items)));
  place : l.next ≡ l.at + l.item-index * g.T.Item.WIDTH;
  same : length l.out ≡ length l.initial.out;
}
