-- What reading a file answers across the C boundary, and what it promises (document 01, "The sheet" and "Refusal
-- numbers").
use Rattle.std.specs.Prelude.{◌≡◌, ℕ, ◌/◌, ◌≤◌, ◌<◌, List, length}
use Rattle.format.specs.Tables.{Tables}
use Rattle.format.specs.Explains.{Explains}
use Rattle.format.specs.Read.{Read, accepted, refused, map_read}
use Rattle.format.specs.Decode.{most_bytes, decode}
use Rattle.format.specs.Sheet.{sheet_of, pool_of}
use Rattle.format.specs.Stores.{read_into, sheet_after, pool_after, Stored}
use Rattle.payloads.specs.declared.Need.{Need}
use Rattle.payloads.specs.Whole.{need_of}
use Rattle.tikomuci.specs.declared.answers.Answer.{Answer}
use Rattle.tikomuci.specs.Boundary as boundary

-- Words of the sheet and bytes of the pool; or the refusal's number and its stage, and no other data.
abbrev pub needed : Read Need → Answer
needed (accepted n) = boundary.accepted n.words n.bytes
needed (refused n stage at) = record { refusal = n; stage = stage; first = 0; second = 0 }

-- The size that an answer tells.
abbrev pub size_in : Answer → Need
size_in r = record { words = r.first; bytes = r.second }

-- Measuring: with refusal 0 it answers the lengths of the sheet and the pool of tables that the file's bytes stand for.
pub record Measured (file : List ℕ) (r : Answer) : Type 0 where
  pub answer : r ≡ needed (map_read need_of (decode file))
  pub sound : r.refusal ≡ 0 → (t : Tables) × Explains file t × (size_in r ≡ need_of t)
  pub complete : (t : Tables) → Explains file t → length file ≤ most_bytes → r ≡ needed (accepted (need_of t))

-- Reading into the stores s and p, which it leaves as s' and p'.
pub record FileDone (file s s' p p' : List ℕ) (r : Answer) : Type 0 where
  pub answer : r ≡ needed (map_read need_of (read_into file s p))
  pub sheet : s' ≡ sheet_after file s p
  pub pool : p' ≡ pool_after file s p
  -- A refused call, whose refusal is not 0, has changed nothing.
  pub kept : 0 < r.refusal → (s' ≡ s) × (p' ≡ p)
  -- Only the tables that the file's bytes stand for are written, which are no others' ..
  pub sound : r.refusal ≡ 0 → (t : Tables) × Stored file s s' p p' t × (size_in r ≡ need_of t)
  -- .. and those of each file within the limit are, if the stores are large enough.
  pub complete : (t : Tables) → Explains file t → length file ≤ most_bytes → length (sheet_of t) ≤ length s / 8 →
      length (pool_of t) ≤ length p → r ≡ needed (accepted (need_of t))
