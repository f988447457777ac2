-- What the name of a type row of a handed sheet is, and what is answered and left in the buffer (document 02, request
-- 1/14: 12, then 14 for the row, then 11, each leaving the buffer untouched).
use Rattle.std.specs.Prelude.{ℕ, List, [], length, take, drop, get_or, Result, Ok, Err}
use Rattle.std.proofs.Math.Decide.{dec_le}
use Rattle.std.proofs.Math.Option.{Option, none, some}
use Rattle.exact.specs.Choice.{choose}
use Rattle.enums.specs.Refusals as refusals
use Rattle.enums.specs.Numbered.{number_of}
use Rattle.enums.specs.declared.Refusal.{Refusal}
use Rattle.encoding.specs.Out.{put}
use Rattle.format.specs.Tables.{TypeRow, plain}
use Rattle.format.specs.Read.{Read, accepted, refused}
use Rattle.format.specs.Sheet.{Frame, field_words}
use Rattle.format.specs.Names.{listed, names_of, name_in}
use Rattle.sheet.specs.Store.{words_in}
use Rattle.sheet.specs.Lies.{Lies}
use Rattle.judge.specs.Judge.{judged_bytes}

-- The type rows of the sheet in a store; none where it is not well-formed.
unfoldable pub types_of : Option Frame → List TypeRow
types_of none = []
types_of (some r) = r.types

abbrev pub types_in : List ℕ → List TypeRow
types_in s = types_of (judged_bytes s)

-- The name of a row, and those of the n rows whose indices stand from a word on, as the text of this row has them.
abbrev pub name_at : List ℕ → ℕ → List ℕ
name_at s row = get_or (names_of (types_in s)) row []

abbrev pub list_at : List ℕ → ℕ → ℕ → ℕ → List ℕ
list_at s row word n = listed (take row (names_of (types_in s))) (take n (drop word (words_in s)))

-- The tag of a row stands at a word, and its fields behind it.
pub record RowAt (s : List ℕ) (row at : ℕ) : Type 0 where
  pub lies : Lies (words_in s) at (field_words (get_or (types_in s) row (plain 0)))

-- The name that is put: 11 where the buffer has no room for it.
unfoldable pub fitting : ℕ → Read (List ℕ) → Read (List ℕ)
fitting room (accepted t) = choose (dec_le (length t) room) (accepted t) (refused refusals.full refusals.at_call 0)
fitting room (refused c n i) = refused c n i

-- The name of row k of the sheet in a store, for a buffer ..
abbrev pub name_for : List ℕ → ℕ → List ℕ → Read (List ℕ)
name_for s row out = fitting (length out) (name_in (judged_bytes s) row)

-- .. and the buffer with it at its start; as it was, after a refusal.
unfoldable pub with_name : List ℕ → Read (List ℕ) → List ℕ
with_name out (accepted t) = put out 0 t
with_name out (refused c n i) = out

-- What an answer means.
abbrev pub name_read : Result ℕ Refusal → Read ℕ
name_read (Ok n) = accepted n
name_read (Err r) = refused (number_of r) refusals.at_call 0
