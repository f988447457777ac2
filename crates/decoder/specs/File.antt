-- What measuring a file and reading it promise (document 01, "The sheet" and "Refusal numbers"): the answer and the stores
-- as the model has them, and what this means over the layout.
use Rattle.std.specs.Prelude.{◌≡◌, ℕ, ◌/◌, ◌≤◌, List, length, Result}
use Rattle.format.specs.Tables.{Tables}
use Rattle.format.specs.Explains.{Explains}
use Rattle.format.specs.Read.{accepted, refused, map_read}
use Rattle.format.specs.Decode.{most_bytes, decode}
use Rattle.format.specs.Sheet.{sheet_of, pool_of}
use Rattle.format.specs.Stores.{Stored}
use Rattle.container.specs.declared.sections.Stopped.{Stopped}
use Rattle.payloads.specs.declared.Need.{Need}
use Rattle.payloads.specs.Whole.{file_read, need_of, Reads}

-- What `measure` promises.
pub record MeasurePost (l : List ℕ) (r : Result Need Stopped) : Type 0 where
  pub answer : file_read r ≡ map_read need_of (decode l)
  -- It is accepted only if a layout explains the file, and answers the lengths of its sheet and pool ..
  pub sound : (n : Need) → file_read r ≡ accepted n → (t : Tables) × Explains l t × (n ≡ need_of t)
  -- .. and each file within the limit that a layout explains is.
  pub complete : (t : Tables) → Explains l t → length l ≤ most_bytes → file_read r ≡ accepted (need_of t)

-- What `read` promises of the stores s and p, which it leaves as s' and p'.
pub record ReadPost (l s s' p p' : List ℕ) (r : Result Need Stopped) : Type 0 where
  -- The answer and what each store holds.
  pub reads : Reads l s s' p p' r
  -- A refused call has changed nothing.
  pub kept : (c n i : ℕ) → file_read r ≡ refused c n i → (s' ≡ s) × (p' ≡ p)
  -- It is accepted only if a layout explains the file, and only its tables are written ..
  pub sound : (n : Need) → file_read r ≡ accepted n → (t : Tables) × Stored l s s' p p' t × (n ≡ need_of t)
  -- .. and each file within the limit that a layout explains is, if the stores are large enough.
  pub complete : (t : Tables) → Explains l t → length l ≤ most_bytes → length (sheet_of t) ≤ length s / 8 →
      length (pool_of t) ≤ length p → file_read r ≡ accepted (need_of t)
