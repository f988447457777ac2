-- Offset tables as far as their starts, and the bounds of an entry (document 01, "The container": String, Type, Constant,
-- Debug; "Refusal numbers": 6).
use Rattle.std.specs.Prelude.{◌≡◌, ℕ, ◌+◌, ◌*◌, ◌≤◌, List, [], length, drop, Result, Ok, Err}
use Rattle.std.proofs.Math.Decide.{dec_le, ℕ_discrete}
use Rattle.exact.specs.Got.{Got, got, stop, follow}
use Rattle.exact.specs.Exact.{Parser}
use Rattle.exact.specs.Sequence.{bind}
use Rattle.exact.specs.Choice.{choose}
use Rattle.exact.specs.Repeat.{times}
use Rattle.exact.specs.Fixed.{fixed, nums}
use Rattle.enums.specs.Refusals as refusals
use Rattle.reading.specs.Numbers.{varint_at, padding_at, placed}
use Rattle.entries.specs.declared.starts.Width.{Width}
use Rattle.entries.specs.declared.starts.Width.TheVariants as width
use Rattle.reading.specs.Shown.{stop_of}
use Rattle.reading.specs.declared.Refused.{Refused}
use Rattle.entries.specs.declared.starts.Starts.{Starts}
use Rattle.entries.specs.declared.starts.EntryCursor.{EntryCursor}
use Rattle.entries.specs.declared.starts.ListCursor.{ListCursor}

-- How many bytes a number has.
abbrev pub wide : Width → ℕ
wide width.Four = 4
wide width.Eight = 8

-- n starts of w bytes behind padding to a, and the place of the first.
unfoldable pub behind_count : ℕ → ℕ → ℕ → Parser (ℕ × List ℕ)
behind_count w a n = bind (padding_at a) (λ u. placed (times n (fixed w)))

-- No starts: all that is left is passed over.
unfoldable pub no_starts : Parser (ℕ × List ℕ)
no_starts l i = got (length l, []) (length l)

-- The starts of an offset table: a count of 0 ends it.
unfoldable pub starts_at : ℕ → ℕ → Parser (ℕ × List ℕ)
starts_at w a = bind varint_at (λ n. choose (ℕ_discrete n 0) no_starts (behind_count w a n))

-- A count, padding to a, and as many numbers of w bytes.
unfoldable pub array_at : ℕ → ℕ → Parser (ℕ × List ℕ)
array_at w a = bind varint_at (behind_count w a)

-- The numbers of w bytes that stand where they are said to stand.
abbrev pub numbers_in : ℕ → List ℕ → Starts → List ℕ
numbers_in w l s = nums s.count w (drop s.first l)

-- The place of the first start, and the starts.
abbrev pub got_starts : ℕ → List ℕ → Result Starts Refused → Got (ℕ × List ℕ)
got_starts w l (Ok s) = got (s.first, numbers_in w l s) s.data
got_starts w l (Err x) = stop_of x

-- Starts of w bytes that are all in the payload l, with the data right behind them.
pub record Lies (w : ℕ) (l : List ℕ) (s : Starts) : Type 0 where
  pub behind : s.data ≡ s.first + s.count * w
  pub inside : s.data ≤ length l

-- A number that was read; where none was, v at the place i.
unfoldable pub or_else : Got ℕ → ℕ → ℕ → Got ℕ
or_else (got n j) v i = got n j
or_else (stop c k) v i = got v i

-- The number of w bytes at i, or v where none is left.
unfoldable pub number_or : ℕ → ℕ → Parser ℕ
number_or w v l i = or_else (fixed w l i) v i

-- The end e of an entry that begins at s: it has m bytes at least, and lies in the n bytes of the data. Else it is refused,
-- at the payload's first byte.
unfoldable pub bounded : ℕ → ℕ → ℕ → ℕ → ℕ → Got ℕ
bounded m n s e j = choose (dec_le (s + m) e) (choose (dec_le e n) (got e j) (stop refusals.bounds 0)) (stop refusals.bounds 0)

-- The end of an entry that begins at s, where the starts behind it stand from i on: the next start, or the data's end.
unfoldable pub end_at : ℕ → ℕ → ℕ → ℕ → Parser ℕ
end_at w m n s l i = follow (number_or w n l i) (bounded m n s)

abbrev pub got_entry : Result EntryCursor Refused → Got ℕ
got_entry (Ok c) = got c.start.0 c.next
got_entry (Err x) = stop_of x

abbrev pub got_list : Result ListCursor Refused → Got ℕ
got_list (Ok c) = got c.start.0 c.next
got_list (Err x) = stop_of x
