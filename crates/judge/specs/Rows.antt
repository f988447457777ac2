-- What the judges of rows and tables answer (document 01, "The sheet": start word and row count of each table, in that
-- order without gaps).
use Rattle.std.specs.Prelude.{◌≡◌, ℕ, zero, suc, ◌+◌, List, eqb, get_or, Option, Some, None}
use Rattle.enums.specs.declared.VersionClass.{VersionClass}
use Rattle.format.specs.Judge.{word, type_at, global_at, function_at, attribute_at, list_at}
use Rattle.judge.specs.declared.steps.Place.{Place}
use Rattle.judge.specs.Steps.{◌>>=◌, only, kept, spent}

-- What is called with a place answers as this step does.
abbrev pub Does : (Place → Option Place → Type 0) → (Place → Option Place) → Type 0
Does call step = (at : Place) (r : Option Place) → call at r → r ≡ step at

-- The same step n times.
unfoldable pub rows_after : (Place → Option Place) → ℕ → Place → Option Place
rows_after step zero at = Some at
rows_after step (suc n) at = step at >>= rows_after step n

-- A table whose entry in the contents is at word e: it starts here, and has as many rows as its count.
unfoldable pub table_after : (Place → Option Place) → ℕ → List ℕ → Place → Option Place
table_after step e l at = only None (eqb at.word (get_or l e 0)) (rows_after step (get_or l (e + 1) 0) at)

-- Strings, types, constants, globals, functions, attributes, lists.
unfoldable pub tables_after : VersionClass → List ℕ → Place → Option Place
tables_after c l at =
    table_after (spent word (λ n. n) l) 5 l at >>= table_after (kept (type_at c) l) 7 l >>=
    table_after (spent word (λ n. n) l) 9 l >>= table_after (kept (global_at c) l) 11 l >>=
    table_after (spent function_at (λ f. f.body_length) l) 13 l >>= table_after (kept attribute_at l) 15 l >>=
    table_after (kept list_at l) 17 l
