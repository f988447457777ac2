-- What the readers of Global and Func answer and leave in the stores (document 01, "The sheet": global, 6 words; function,
-- name, signature, flags, location, body length).
use Rattle.std.specs.Prelude.{ℕ, List, [], map, length, Result}
use Rattle.exact.specs.Got.{Got, got, follow}
use Rattle.exact.specs.Tiling.{join}
use Rattle.exact.specs.Entries as table
use Rattle.format.specs.Tables.{Global, Function}
use Rattle.format.specs.Functions.{Located, apart}
use Rattle.format.specs.Sheet.{FunctionRow, function_row_of, global_words, function_words}
use Rattle.entries.specs.declared.rows.FuncHead.{FuncHead}
use Rattle.payloads.specs.Fill.{Rows, Fills}
use Rattle.payloads.specs.declared.answers.Filled.{Filled}
use Rattle.reading.specs.declared.Refused.{Refused}

-- The rows of globals: six words each, and no run of bytes.
unfoldable pub global_rows : Got (List Global) → Got Rows
global_rows g = follow g (λ vs j. got (record { rows = length vs; words = join (map global_words vs); runs = [] }) j)

-- No run of bytes is put: any pool stays as it is.
abbrev pub FillsSheet : Filled → Got Rows → List ℕ → List ℕ → Result (ℕ × Filled) Refused → Type 0
FillsSheet at g sheet sheet' r = (pool : List ℕ) → Fills at g sheet sheet' pool pool r

-- The row of a function whose body has n bytes.
abbrev pub row_of : FuncHead → ℕ → FunctionRow
row_of f n =
    record { name = f.name_idx; signature = f.sig_idx; flags = f.flags; location = f.loc_idx; body_length = n }

-- The rows of functions: five words each, and the body in the pool.
abbrev pub bodied : List Function → Rows
bodied fs =
    record { rows = length fs; words = join (map function_words (map function_row_of fs)); runs = map (λ f. f.body) fs }

unfoldable pub located_rows : Got (List (Located Function)) → Got Rows
located_rows g = follow g (λ vs j. got (bodied (apart vs).values) j)

unfoldable pub function_rows : Got (table.Rows Function) → Got Rows
function_rows g = follow g (λ v j. got (bodied v.values) j)
