-- What a step of the writer leaves in the output that it was lent, and the next place that it answers. The function
-- that fills the output is the one that measures: on an output of no bytes nothing is put and the places are the same.
use Rattle.std.specs.Prelude.{◌≡◌, ℕ, ◌+◌, ◌^◌, ◌<◌, ◌≤◌, ◌⊎◌, List, [], length}
use Rattle.encoding.specs.Out.{put}
use Rattle.sheet.specs.Lies.{Lies}

-- The bytes bs were put from a place on, where all of them have room; the next place is behind them in any case. An output
-- keeps its length, so that one of no bytes has none afterwards.
pub record Puts (bs : List ℕ) (at : ℕ) (out out' : List ℕ) (next : ℕ) : Type 0 where
  pub output : at + length bs ≤ length out → out' ≡ put out at bs
  pub size : length out' ≡ length out
  pub place : next ≡ at + length bs

-- So it is as long as no place reaches 2^64.
pub record Wrote (bs : List ℕ) (at : ℕ) (out out' : List ℕ) (next : ℕ) : Type 0 where
  pub puts : at + length bs < 2 ^ 64 → Puts bs at out out' next

-- The pool has this run from byte i on. Where there is no output nobody looks: a call that measures is lent no pool.
abbrev pub Lent : List ℕ → ℕ → List ℕ → List ℕ → Type 0
Lent pool i run out = Lies pool i run ⊎ (out ≡ [])

-- The run of len bytes from byte i of the pool was put.
pub record RunPut (pool : List ℕ) (i len at : ℕ) (out out' : List ℕ) (next : ℕ) : Type 0 where
  pub each : (run : List ℕ) → length run ≡ len → Lent pool i run out → Wrote run at out out' next
