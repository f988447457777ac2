-- What the readers of Producer and of the rows of Global and Func answer, over the model (document 01, "The container":
-- Producer, Global, Func).
use Rattle.std.specs.Prelude.{◌≡◌, ℕ, ◌+◌, ◌-◌, true, List, length, take, drop, Result, Ok, Err}
use Rattle.std.proofs.Math.Bool.{Bool-discrete}
use Rattle.std.proofs.Math.Option.{Option, some}
use Rattle.exact.specs.Got.{Got, got}
use Rattle.exact.specs.Exact.{Parser}
use Rattle.exact.specs.Basic.{byte}
use Rattle.exact.specs.Sequence.{bind, mapped}
use Rattle.enums.specs.declared.VersionClass.{VersionClass}
use Rattle.enums.specs.Version.{since13_3}
use Rattle.reading.specs.Numbers.{varint_at}
use Rattle.format.specs.Tables.{Global, Function}
use Rattle.format.specs.Items.{truth}
use Rattle.format.specs.Functions.{Located}
use Rattle.format.specs.DecodeTables.{field_at}
use Rattle.reading.specs.Shown.{stop_of, got_by}
use Rattle.reading.specs.declared.Reader.{Reader}
use Rattle.reading.specs.declared.Refused.{Refused}
use Rattle.entries.specs.declared.rows.Linkage.{Linkage}
use Rattle.entries.specs.declared.rows.GlobalRow.{GlobalRow}
use Rattle.entries.specs.declared.rows.FuncHead.{FuncHead}
use Rattle.entries.specs.declared.rows.FuncRow.{FuncRow}

-- Visibility and constant flag: from 13.3 on, else 0 and 0.
unfoldable pub linkage_at : VersionClass → Parser (ℕ × ℕ)
linkage_at c =
    bind (field_at (Bool-discrete (since13_3 c) true) byte)
    (λ v. mapped (λ f. (v, f)) (field_at (Bool-discrete (since13_3 c) true) (mapped truth varint_at)))

abbrev pub got_linkage : Result (Linkage × Reader) Refused → Got (ℕ × ℕ)
got_linkage = got_by (λ k r. (k.visibility, k.constant))

-- The global that a row stands for.
abbrev pub global_of : GlobalRow → Global
global_of g =
    record {
      name = g.name_idx;
      type = g.type_idx;
      constant = g.const_idx;
      alignment = g.alignment;
      visibility = g.linkage.visibility;
      constant_flag = g.linkage.constant;
    }

abbrev pub got_global : Result (GlobalRow × Reader) Refused → Got Global
got_global = got_by (λ g r. global_of g)

-- The function with this body.
abbrev pub function_of : FuncHead → List ℕ → Function
function_of f body =
    record { name = f.name_idx; signature = f.sig_idx; flags = f.flags; location = f.loc_idx; body = body }

-- What the payload l has from a row's body up to the place j.
abbrev pub bytes_in : List ℕ → FuncRow → ℕ → List ℕ
bytes_in l f j = take (j - f.body) (drop f.body l)

-- The function of a row whose body ends at j; the place of the body counts from o bytes before l.
abbrev pub located_in : ℕ → List ℕ → FuncRow → ℕ → Located Function
located_in o l f j = record { at = o + f.body; value = function_of f.head (bytes_in l f j) }

abbrev pub got_function : ℕ → List ℕ → Result (FuncRow × Reader) Refused → Got (Located Function)
got_function o l = got_by (λ f r. located_in o l f r.pos)

-- The answer is what p reads, wherever the payload stands.
abbrev pub Gives : List ℕ → (ℕ → Parser (Located Function)) → ℕ → Result (FuncRow × Reader) Refused → Type 0
Gives l p i r = (o : ℕ) → got_function o l r ≡ p o l i

abbrev pub got_producer : List ℕ → Result ℕ Refused → Got (Option ℕ)
got_producer l (Ok index) = got (some index) (length l)
got_producer l (Err x) = stop_of x
