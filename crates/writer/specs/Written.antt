-- What `write` and `image` answer of a handed sheet, what they leave in the output, and what they promise (document 01,
-- "Refusal numbers": "Writing: 1 for sheet and pool, 12, 13, 1 for the image, 11").
use Rattle.std.specs.Prelude.{◌≡◌, ℕ, ◌%◌, ◌≤◌, List, length, Result}
use Rattle.std.proofs.Math.Decide.{dec_le}
use Rattle.exact.specs.Choice.{choose}
use Rattle.encoding.specs.Out.{put}
use Rattle.enums.specs.Refusals as refusals
use Rattle.enums.specs.declared.Refusal.{Refusal}
use Rattle.format.specs.Tables.{Tables}
use Rattle.format.specs.Explains.{Explains}
use Rattle.format.specs.Read.{accepted, refused}
use Rattle.format.specs.Decode.{most_bytes, decode}
use Rattle.format.specs.Sheet.{sheet_of, pool_of}
use Rattle.format.specs.Sound.{Sound}
use Rattle.format.specs.Judge.{with_pool}
use Rattle.format.specs.Image.{image}
use Rattle.format.specs.Write.{Writing, refuses, most_words, imaged, blank}
use Rattle.sheet.specs.Store.{words_in}
use Rattle.judge.specs.Judge.{judged_bytes}
use Rattle.images.specs.Written.{image_size, length_of, in_room, with_image}

-- What is written of a sheet in a store and its pool.
unfoldable pub writing : List ℕ → List ℕ → Writing
writing s pool =
    choose (dec_le (length (words_in s)) most_words)
    (choose (dec_le (length pool) most_bytes) (imaged (with_pool pool (judged_bytes s))) (refuses refusals.limit))
    (refuses refusals.limit)

-- The same for a call that is lent no pool.
unfoldable pub writing_alone : List ℕ → Writing
writing_alone s = choose (dec_le (length (words_in s)) most_words) (imaged (blank (judged_bytes s))) (refuses refusals.limit)

-- The sheet and the pool are those of well-formed tables. The output begins with their image, of n bytes, and what is
-- behind it is as it was; the image is explained by these tables, reading it returns them, and no others share it.
pub record Kept (s pool out out' : List ℕ) (n : ℕ) : Type 0 where
  pub tables : Tables
  pub sound : Sound tables
  pub its_sheet : words_in s ≡ sheet_of tables
  pub its_pool : pool ≡ pool_of tables
  pub size : n ≡ length (image tables)
  pub output : out' ≡ put out 0 (image tables)
  pub explained : Explains (image tables) tables
  pub read_back : decode (image tables) ≡ accepted tables
  pub alone : (u : Tables) → Sound u → image tables ≡ image u → tables ≡ u

-- What `write` promises of the output out, which it leaves as out'.
pub record WritePost (s pool out out' : List ℕ) (r : Result ℕ Refusal) : Type 0 where
  pub answer : image_size r ≡ in_room (length out) (writing s pool)
  pub output : out' ≡ with_image out (writing s pool)
  -- A refused call has changed nothing.
  pub unchanged : (c n i : ℕ) → image_size r ≡ refused c n i → out' ≡ out
  -- Only the image of the tables that were handed is written ..
  pub written : (n : ℕ) → image_size r ≡ accepted n → Kept s pool out out' n
  -- .. and that of all well-formed tables within the limits is, if it fits.
  pub complete : (t : Tables) → Sound t → length s % 8 ≡ 0 → words_in s ≡ sheet_of t → pool ≡ pool_of t →
      length (sheet_of t) ≤ most_words → length (pool_of t) ≤ most_bytes → length (image t) ≤ most_bytes → length (image t) ≤ length out →
      image_size r ≡ accepted (length (image t))

-- The sheet is that of well-formed tables, and the image of these is n bytes long, whatever their pool holds.
pub record Sized (s : List ℕ) (n : ℕ) : Type 0 where
  pub tables : Tables
  pub sound : Sound tables
  pub its_sheet : words_in s ≡ sheet_of tables
  pub size : (u : Tables) → Sound u → words_in s ≡ sheet_of u → n ≡ length (image u)

-- What `image` promises.
pub record ImagePost (s : List ℕ) (r : Result ℕ Refusal) : Type 0 where
  pub answer : image_size r ≡ length_of (writing_alone s)
  -- Only the length of the image of tables whose sheet was handed is answered ..
  pub sound : (n : ℕ) → image_size r ≡ accepted n → Sized s n
  -- .. and that of all well-formed tables within the limits is.
  pub complete : (t : Tables) → Sound t → length s % 8 ≡ 0 → words_in s ≡ sheet_of t → length (sheet_of t) ≤ most_words →
      length (image t) ≤ most_bytes → image_size r ≡ accepted (length (image t))
