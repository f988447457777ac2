-- Where a string, a constant or a body stands, over the model that reads its whole table (document 01, "Refusal numbers":
-- the place the layout gives to the row of that number).
use Rattle.std.specs.Prelude as std
use Rattle.std.specs.Prelude.{◌≡◌, ℕ, ◌+◌, List, map, length, Result, Ok, Err}
use Rattle.std.proofs.Math.Decide.{dec_lt}
use Rattle.std.proofs.Math.Option.{Option, none, some}
use Rattle.exact.specs.Got.{Got, got, follow}
use Rattle.exact.specs.Exact.{Parser}
use Rattle.exact.specs.Sequence as sequence
use Rattle.exact.specs.Choice.{choose}
use Rattle.exact.specs.Repeat.{times}
use Rattle.exact.specs.Upto.{whole}
use Rattle.exact.specs.Entries.{Rows, rows}
use Rattle.enums.specs.Refusals as refusals
use Rattle.format.specs.Tables.{Function}
use Rattle.format.specs.Functions.{apart}
use Rattle.format.specs.DecodeTables.{offset_table_at}
use Rattle.format.specs.DecodeRows.{function_at, functions_at}
use Rattle.format.specs.Views.{Span, span_of, body_of}
use Rattle.entries.specs.Starts.{numbers_in}
use Rattle.reading.specs.Shown.{stop_of}
use Rattle.reading.specs.declared.Refused.{Refused}
use Rattle.entries.specs.declared.starts.Starts.{Starts}
use Rattle.entries.specs.declared.places.Place.{Place}

-- The place of row n, if it is there.
unfoldable pub span_in : Rows (List ℕ) → ℕ → Option Span
span_in v n = choose (dec_lt n (length v.values)) (some (span_of v n)) none

-- The place of row n of what was read; where the table is refused, its refusal.
unfoldable pub row_in : ℕ → Got (Rows (List ℕ)) → Got (Option Span)
row_in n g = follow g (λ v j. got (span_in v n) j)

-- An answer of the payload l; its places count from o bytes before it.
abbrev pub got_place : ℕ → List ℕ → Result (std.Option Place) Refused → Got (Option Span)
got_place o l (Ok (std.Some p)) = got (some (record { offset = o + p.start; size = p.len })) (length l)
got_place o l (Ok std.None) = got none (length l)
got_place o l (Err x) = stop_of x

-- The answer is the place of row n of the table g, wherever the payload l stands.
pub record Finds (g : ℕ → Got (Rows (List ℕ))) (l : List ℕ) (n : ℕ) (r : Result (std.Option Place) Refused) : Type 0 where
  pub found : (o : ℕ) → got_place o l r ≡ row_in n (g o)

-- The bodies of functions, with their places.
abbrev pub bodies_of : Rows Function → Rows (List ℕ)
bodies_of v = record { at = v.at; values = map body_of v.values }

unfoldable pub bodies_at : ℕ → Parser (Rows (List ℕ))
bodies_at o = sequence.mapped bodies_of (functions_at o)

-- The bodies of m functions that stand from i on.
unfoldable pub bodies_from : ℕ → ℕ → List ℕ → ℕ → Got (Rows (List ℕ))
bodies_from o m l i = follow (times m (function_at o) l i) (λ vs j. got (bodies_of (apart vs)) (length l))

-- The entries that starts of w bytes cut out of the data behind them.
unfoldable pub entries_in : ℕ → ℕ → List ℕ → Starts → Got (Rows (List ℕ))
entries_in o w l s = rows o refusals.bounds 0 whole (numbers_in w l s) l s.data

-- The table whose starts have w bytes.
abbrev pub table_at : ℕ → ℕ → List ℕ → Got (Rows (List ℕ))
table_at o w l = offset_table_at w w o whole l 0
