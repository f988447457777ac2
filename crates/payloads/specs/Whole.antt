-- What measuring a file and reading it answer and leave in the two stores (document 01, "The sheet" and "Refusal numbers").
use Rattle.std.specs.Prelude.{◌≡◌, ℕ, List, ◌++◌, map, length, Result}
use Rattle.format.specs.Tables.{Tables}
use Rattle.format.specs.Read.{Read, accepted, map_read}
use Rattle.format.specs.Decode.{decode}
use Rattle.format.specs.Sheet.{sheet_of, pool_of}
use Rattle.format.specs.Stores.{read_into, sheet_after, pool_after}
use Rattle.container.specs.Shown.{read_of}
use Rattle.container.specs.declared.sections.Stopped.{Stopped}
use Rattle.sheet.specs.Store.{put_words, put_runs}
use Rattle.payloads.specs.declared.Need.{Need}

-- How much is needed, or the refusal.
abbrev pub file_read : Result Need Stopped → Read Need
file_read = read_of

-- How many words and bytes tables need: the lengths of their sheet and of their pool.
unfoldable pub need_of : Tables → Need
need_of t = record { words = length (sheet_of t); bytes = length (pool_of t) }

-- Reading the file l answers r, and leaves the stores s and p as s' and p'.
pub record Reads (l s s' p p' : List ℕ) (r : Result Need Stopped) : Type 0 where
  pub answer : file_read r ≡ map_read need_of (read_into l s p)
  pub sheet : s' ≡ sheet_after l s p
  pub pool : p' ≡ pool_after l s p

-- The runs of the pool: strings, constants, bodies.
abbrev pub runs_of : Tables → List (List ℕ)
runs_of t = t.strings ++ (t.constants ++ map (λ f. f.body) t.functions)

-- One pass over the whole file, from the stores s and p to s' and p'; each word and each run is put where the store has
-- it. (Where the file is refused the stores of the call are empty, so that nothing can have been written.)
pub record PassPost (l s s' p p' : List ℕ) (r : Result Need Stopped) : Type 0 where
  pub answer : file_read r ≡ map_read need_of (decode l)
  pub sheet : (t : Tables) → decode l ≡ accepted t → s' ≡ put_words s 0 (sheet_of t)
  pub pool : (t : Tables) → decode l ≡ accepted t → p' ≡ put_runs p 0 (runs_of t)
