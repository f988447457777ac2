-- `contents` counts by the table's number. Assumes nothing.
use mathlib.Core.Path.{◌≡◌, refl}
use Prim.Native.Nat.{◌+◌, ◌*◌}
use denote.Enum.Declared.{tag_of}
use Rattle.payloads.specs.contracts.pass.Table.{the_type}
use Rattle.payloads.specs.declared.pass.Table.{Table}
use Rattle.payloads.specs.declared.pass.Table.TheVariants.{Strings, Types, Constants, Globals, Functions}
use Rattle.payloads.specs.Pass.{number_of}
use Rattle.payloads.proofs.pass.Table.contents.Goals as goal

by_table : (t : Table) → 5 + 2 * tag_of the_type t ≡ 5 + 2 * number_of t
unfolding number_of
by_table Strings = refl
by_table Types = refl
by_table Constants = refl
by_table Globals = refl
by_table Functions = refl

pub returns : goal.returns
returns c = by_table c.args.self
