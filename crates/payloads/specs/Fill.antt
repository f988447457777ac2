-- What a payload reader answers and leaves in the two stores, over what the model reads there.
use Rattle.std.specs.Prelude.{◌≡◌, ℕ, ◌+◌, ◌*◌, ◌^◌, ◌≤◌, List, length, Result, Ok, Err}
use Rattle.exact.specs.Got.{Got, got, stop}
use Rattle.exact.specs.Tiling.{join}
use Rattle.sheet.specs.Store.{put_words, put_runs}
use Rattle.enums.specs.Numbered.{number_of}
use Rattle.reading.specs.declared.Refused.{Refused}
use Rattle.payloads.specs.declared.answers.Filled.{Filled}

-- What was counted and how far the stores are filled; or a refusal and its place.
pub data Count : Type 0 where
  counted : (rows words bytes : ℕ) → Count
  refused : (number at : ℕ) → Count

abbrev pub count_of : Result (ℕ × Filled) Refused → Count
count_of (Ok (n, f)) = counted n f.words f.bytes
count_of (Err x) = refused (number_of x.refusal) x.at

-- Rows with these words and these runs of bytes.
pub record Rows : Type 0 where
  pub rows : ℕ
  pub words : List ℕ
  pub runs : List (List ℕ)

-- What is answered of such rows, filled in behind what is filled already.
abbrev pub behind : Filled → Got Rows → Count
behind at (got v j) = counted v.rows (at.words + length v.words) (at.bytes + length (join v.runs))
behind at (stop c k) = refused c k

-- The reader's answer r to what the model reads, g; and the stores, where it reads something. (Where it reads nothing the
-- stores of the call are empty, so that nothing can have been written.)
pub record Fills (at : Filled) (g : Got Rows) (sheet sheet' pool pool' : List ℕ) (r : Result (ℕ × Filled) Refused) : Type 0 where
  pub answer : count_of r ≡ behind at g
  pub words : (v : Rows) (j : ℕ) → g ≡ got v j → sheet' ≡ put_words sheet at.words v.words
  pub runs : (v : Rows) (j : ℕ) → g ≡ got v j → pool' ≡ put_runs pool at.bytes v.runs

-- The stores' indices stay far from wrapping: a payload gives at most eight words and one byte of pool for each byte.
pub record Fits (at : Filled) (payload : List ℕ) : Type 0 where
  pub words : at.words + 8 * length payload ≤ 2 ^ 60
  pub bytes : at.bytes + length payload ≤ 2 ^ 60
