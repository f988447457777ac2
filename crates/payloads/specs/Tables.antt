-- What the readers of String and Constant answer and leave in the stores (document 01, "The sheet": string and constant, a
-- length).
use Rattle.std.specs.Prelude.{List, map, ℕ, length}
use Rattle.exact.specs.Got.{Got, got, follow}
use Rattle.exact.specs.Tiling.{join}
use Rattle.exact.specs.Entries as table
use Rattle.format.specs.Sheet.{length_words}
use Rattle.payloads.specs.Fill.{Rows}

-- Runs of bytes as rows: a length in the sheet for each, and its bytes in the pool.
abbrev pub run_rows : List (List ℕ) → Rows
run_rows vs = record { rows = length vs; words = join (map length_words (map length vs)); runs = vs }

-- What a table of runs of bytes fills in.
unfoldable pub filling : Got (table.Rows (List ℕ)) → Got Rows
filling g = follow g (λ v j. got (run_rows v.values) j)
