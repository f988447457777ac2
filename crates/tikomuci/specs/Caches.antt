-- What the calls of the shared profile cache answer across the C boundary, and what they promise (document 02, 8/14), for any
-- number of slots n. The buffer and the owner table that are lent are s before a call, and s' after it.
use Rattle.std.specs.Prelude.{◌≡◌, ℕ, ◌<◌, List}
use Rattle.std.proofs.Math.Option.{some}
use Rattle.format.specs.Read.{Read, map_read}
use Rattle.slots.specs.Cache.{Slot, put_after, drop_after}
use Rattle.slots.specs.Lent.{Lent, slot_size, SlotKept, SlotCleared}
use Rattle.slots.specs.Meaning.{cache_of, put_answer, fetch_answer, drop_answer, in_buffer, put_lent, drop_lent}
use Rattle.cache.specs.Calls.{Fetched}
use Rattle.tikomuci.specs.declared.answers.Answer.{Answer}
use Rattle.tikomuci.specs.Views.{view, span_in}
use Rattle.tikomuci.specs.Sheets.{size}

-- The slots of document 02's cache ..
abbrev pub cache_slots : ℕ
cache_slots = 16

-- .. and those for the sixty tracks of one session.
abbrev pub session_slots : ℕ
session_slots = 64

-- A slot and 0; or the refusal's number and its stage, and no other data.
abbrev pub slot : Read ℕ → Answer
slot = size

-- A call that writes, by what it answers and what it leaves.
pub record Changes (n : ℕ) (answers : Lent → Read ℕ) (leaves : Lent → Lent) (s s' : Lent) (r : Answer) : Type 0 where
  pub answer : r ≡ slot (answers s)
  pub left : s' ≡ leaves s
  -- A refused call, whose refusal is not 0, has changed nothing ..
  pub kept : 0 < r.refusal → s' ≡ s
  -- .. and an accepted one no other slot, and no other row.
  pub others : r.refusal ≡ 0 → (l : ℕ) → l < n → ¬ (l ≡ r.first) → SlotKept n l s s'

-- Putting a file for instance i: what is left stands for the cache with the file put.
pub record CachePut (n i : ℕ) (file : List ℕ) (s s' : Lent) (r : Answer) : Type 0 where
  pub changes : Changes n (put_answer n i file) (put_lent n i file) s s' r
  pub means : (c : List Slot) → cache_of n s ≡ some c → cache_of n s' ≡ some (put_after (slot_size n s.buffer) i file c)

-- Dropping the file of instance i: what is left stands for the cache with the file dropped.
pub record CacheDropped (n i : ℕ) (s s' : Lent) (r : Answer) : Type 0 where
  pub changes : Changes n (drop_answer n i) (drop_lent n i) s s' r
  -- The slot's bytes and its row are 0.
  pub cleared : r.refusal ≡ 0 → SlotCleared n r.first s'
  pub means : (c : List Slot) → cache_of n s ≡ some c → cache_of n s' ≡ some (drop_after i c)

-- Fetching Constant entry k of the file of instance i: its offset in the buffer and its length, which with refusal 0 are
-- exactly those of the entry asked for.
pub record CacheFetched (n i k : ℕ) (s : Lent) (r : Answer) : Type 0 where
  pub answer : r ≡ view (map_read (in_buffer (slot_size n s.buffer)) (fetch_answer n i k s))
  pub sound : r.refusal ≡ 0 → Fetched n i k s (span_in r)
