-- `put_row` puts word after word: what the rest puts, all of them put. Assumes nothing.
use mathlib.Core.Path.{◌≡◌}
use Prim.Native.Nat.{◌+◌}
use lib.ListN.{drop}
use Rattle.sheet.specs.Store.{put_words}
use Rattle.payloads.proofs.rows.put_row.Given as goal

abbrev pub invariant-loop-k : goal.invariant-loop-k
invariant-loop-k l = put_words l.sheet (l.at + l.k) (drop l.k l.row) ≡ put_words l.initial.sheet l.at l.row
