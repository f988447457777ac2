-- What the calls promise of the buffer and the owner table s, which they leave as s' (document 02, 8/14).
use Rattle.std.specs.Prelude.{◌≡◌, ℕ, ◌+◌, ◌<◌, List, [], length, take, drop, get_or, Result}
use Rattle.std.proofs.Math.Option.{some}
use Rattle.enums.specs.Container.{constant_id}
use Rattle.format.specs.Read.{Read, accepted, refused, map_read}
use Rattle.format.specs.Views.{Span, constants_in, Viewed}
use Rattle.container.specs.declared.View.{View}
use Rattle.container.specs.declared.sections.Stopped.{Stopped}
use Rattle.container.specs.Shown.{read_of}
use Rattle.container.specs.Views.{view_of}
use Rattle.slots.specs.Cache.{Slot, held, InSlot, put_after, drop_after}
use Rattle.slots.specs.Lent.{Lent, slot_size, SlotKept, SlotCleared}
use Rattle.slots.specs.Meaning.{cache_of, put_answer, fetch_answer, drop_answer, in_buffer, put_lent, drop_lent}

-- The slot of a call that was accepted; or why it was refused.
abbrev pub slot_read : Result ℕ Stopped → Read ℕ
slot_read = read_of

-- The slot that an instance holds, as a drop answers it, of an owner table and a buffer of this length, whatever its bytes are.
abbrev pub OwnSlot : ℕ → List ℕ → ℕ → ℕ → Result ℕ Stopped → Type 0
OwnSlot len owners n i r =
    (b : List ℕ) → length b ≡ len → slot_read r ≡ drop_answer n i (record { buffer = b; owners = owners })

-- A place in bytes that begin here.
abbrev pub placed_at : ℕ → Span → Span
placed_at start p = record { offset = start + p.offset; size = p.size }

-- A call that writes: what it answers, and what it leaves.
pub record Writes (answer : Lent → Read ℕ) (leaves : Lent → Lent) (s s' : Lent) (r : Result ℕ Stopped) : Type 0 where
  pub answered : slot_read r ≡ answer s
  pub left : s' ≡ leaves s

-- Putting a file for instance i.
pub record PutPost (n i : ℕ) (file : List ℕ) (s s' : Lent) (r : Result ℕ Stopped) : Type 0 where
  pub writes : Writes (put_answer n i file) (put_lent n i file) s s' r
  -- A refused call has changed nothing ..
  pub kept : (c m a : ℕ) → slot_read r ≡ refused c m a → s' ≡ s
  -- .. and an accepted one no other slot, and no other row.
  pub others : (k : ℕ) → slot_read r ≡ accepted k → (l : ℕ) → l < n → ¬ (l ≡ k) → SlotKept n l s s'
  -- What is left stands for the cache with the file put.
  pub means : (c : List Slot) → cache_of n s ≡ some c → cache_of n s' ≡ some (put_after (slot_size n s.buffer) i file c)

-- Dropping the file of instance i.
pub record DropPost (n i : ℕ) (s s' : Lent) (r : Result ℕ Stopped) : Type 0 where
  pub writes : Writes (drop_answer n i) (drop_lent n i) s s' r
  pub kept : (c m a : ℕ) → slot_read r ≡ refused c m a → s' ≡ s
  pub others : (k : ℕ) → slot_read r ≡ accepted k → (l : ℕ) → l < n → ¬ (l ≡ k) → SlotKept n l s s'
  -- The slot's bytes and its row are 0.
  pub cleared : (k : ℕ) → slot_read r ≡ accepted k → SlotCleared n k s'
  pub means : (c : List Slot) → cache_of n s ≡ some c → cache_of n s' ≡ some (drop_after i c)

-- The bytes of this span are Constant entry k of the file that instance i has, in the slot that it holds.
pub record Fetched (n i k : ℕ) (s : Lent) (p : Span) : Type 0 where
  pub place : InSlot
  pub file : List ℕ
  pub cache : List Slot
  pub stands : cache_of n s ≡ some cache
  pub inside : place.slot < n
  pub holds : (d : Slot) → get_or cache place.slot d ≡ held i file
  pub viewed : Viewed constants_in constant_id file k place.within
  pub span : p ≡ in_buffer (slot_size n s.buffer) place
  pub bytes : take p.size (drop p.offset s.buffer) ≡ get_or (constants_in viewed.found).values k []

-- Fetching Constant entry k of the file of instance i.
pub record FetchPost (n i k : ℕ) (s : Lent) (r : Result View Stopped) : Type 0 where
  pub answer : view_of r ≡ map_read (in_buffer (slot_size n s.buffer)) (fetch_answer n i k s)
  pub sound : (p : Span) → view_of r ≡ accepted p → Fetched n i k s p
