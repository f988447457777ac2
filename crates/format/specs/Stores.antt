-- Reading a file into two lent stores (document 01, "Refusal numbers": "stores last", and on success only the result's own
-- words and bytes change; "The sheet": the list is lent as bytes, little-endian, and a store counts its whole words).
use Rattle.std.specs.Prelude.{◌≡◌, ℕ, ◌/◌, ◌≤◌, List, length}
use Rattle.std.proofs.Math.Decide.{dec_le}
use Rattle.exact.specs.Choice.{choose}
use Rattle.encoding.specs.Out.{put, flat}
use Rattle.enums.specs.Refusals as refusals
use Rattle.format.specs.Tables.{Tables}
use Rattle.format.specs.Explains.{Explains}
use Rattle.format.specs.Read.{Read, accepted, refused}
use Rattle.format.specs.Decode.{decode}
use Rattle.format.specs.Views.{and_then}
use Rattle.format.specs.Sheet.{sheet_of, pool_of}

-- The tables, if there is room for the words of their sheet and the bytes of their pool.
unfoldable pub stored : ℕ → ℕ → Tables → Read Tables
stored words bytes t =
    choose (dec_le (length (sheet_of t)) words)
    (choose (dec_le (length (pool_of t)) bytes) (accepted t) (refused refusals.full refusals.at_call 0))
    (refused refusals.full refusals.at_call 0)

-- What is read of a file into the stores s and p ..
unfoldable pub read_into : List ℕ → List ℕ → List ℕ → Read Tables
read_into file s p = and_then (decode file) (stored (length s / 8) (length p))

-- (A store that begins with bytes of the tables that were read; as it was, after a refusal.)
unfoldable pub beginning : (Tables → List ℕ) → List ℕ → Read Tables → List ℕ
beginning bytes s (accepted t) = put s 0 (bytes t)
beginning bytes s (refused c n i) = s

-- .. and what the store of the sheet and that of the pool hold afterwards.
unfoldable pub sheet_after : List ℕ → List ℕ → List ℕ → List ℕ
sheet_after file s p = beginning (λ t. flat 8 (sheet_of t)) s (read_into file s p)

unfoldable pub pool_after : List ℕ → List ℕ → List ℕ → List ℕ
pool_after file s p = beginning pool_of p (read_into file s p)

-- The file's bytes stand for these tables, and for no others; the stores s and p had room for their sheet and their pool,
-- and s' and p' begin with these, and go on as s and p do.
pub record Stored (file s s' p p' : List ℕ) (t : Tables) : Type 0 where
  pub explained : Explains file t
  pub only : (u : Tables) → Explains file u → u ≡ t
  pub words : length (sheet_of t) ≤ length s / 8
  pub bytes : length (pool_of t) ≤ length p
  pub sheet : s' ≡ put s 0 (flat 8 (sheet_of t))
  pub pool : p' ≡ put p 0 (pool_of t)
