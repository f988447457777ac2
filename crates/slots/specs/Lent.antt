-- The bytes of a cache (document 02, 8/14): a buffer of n equal slots, and an owner table with a row of three little-endian
-- words for each: mark, instance and length. Which of them stand for a cache.
use Rattle.std.specs.Prelude.{◌≡◌, ℕ, zero, suc, ◌+◌, ◌*◌, ◌/◌, ◌≤◌, ◌<◌, List, [], ◌∷◌, length, take, drop, get_or, replicate}
use Rattle.std.proofs.Math.Decide.{dec_lt}
use Rattle.exact.specs.Choice.{choose}
use Rattle.sheet.specs.Store.{words_in}
use Rattle.slots.specs.Cache.{Slot, free, held}

-- What is lent.
pub record Lent : Type 0 where
  pub buffer : List ℕ
  pub owners : List ℕ

-- The words of row k.
abbrev pub mark_at : List ℕ → ℕ → ℕ
mark_at owners k = get_or (words_in owners) (3 * k) 0

abbrev pub instance_at : List ℕ → ℕ → ℕ
instance_at owners k = get_or (words_in owners) (3 * k + 1) 0

abbrev pub length_at : List ℕ → ℕ → ℕ
length_at owners k = get_or (words_in owners) (3 * k + 2) 0

-- Mark 0 is free, and anything else is taken.
abbrev pub Taken : List ℕ → ℕ → Type 0
Taken owners k = 0 < mark_at owners k

-- How many bytes a slot has, and those of slot k.
abbrev pub slot_size : ℕ → List ℕ → ℕ
slot_size n buffer = length buffer / n

abbrev pub slot_bytes : ℕ → List ℕ → ℕ → List ℕ
slot_bytes n buffer k = take (slot_size n buffer) (drop (k * slot_size n buffer) buffer)

-- No instance has two taken rows among the first m.
abbrev pub Once : List ℕ → ℕ → Type 0
Once owners m = (k l : ℕ) → k < l → l < m → Taken owners k → Taken owners l → ¬ (instance_at owners k ≡ instance_at owners l)

-- The first m rows of an owner table, for slots of z bytes: no taken row has a length above the slot's, and no instance has
-- two.
pub record Rows (z : ℕ) (owners : List ℕ) (m : ℕ) : Type 0 where
  pub fits : (k : ℕ) → k < m → Taken owners k → length_at owners k ≤ z
  pub once : Once owners m

-- The buffer is a multiple of the number of slots, the owner table has as many rows, and these are as they should be. What
-- stands in a free row's other words does not count.
pub record Good (n : ℕ) (s : Lent) : Type 0 where
  pub slots : 0 < n
  pub buffer : length s.buffer ≡ n * slot_size n s.buffer
  pub owners : length s.owners ≡ n * 24
  pub rows : Rows (slot_size n s.buffer) s.owners n

-- What slot k stands for.
unfoldable pub slot_at : ℕ → Lent → ℕ → Slot
slot_at n s k =
    choose (dec_lt 0 (mark_at s.owners k))
    (held (instance_at s.owners k) (take (length_at s.owners k) (drop (k * slot_size n s.buffer) s.buffer))) free

-- All of the first n.
unfoldable pub slots_up_to : ℕ → (ℕ → Slot) → List Slot
slots_up_to zero f = []
slots_up_to (suc n) f = f 0 ∷ slots_up_to n (λ k. f (suc k))

-- Slot l and its row are as they were.
pub record SlotKept (n l : ℕ) (s s' : Lent) : Type 0 where
  pub bytes : slot_bytes n s'.buffer l ≡ slot_bytes n s.buffer l
  pub mark : mark_at s'.owners l ≡ mark_at s.owners l
  pub instance : instance_at s'.owners l ≡ instance_at s.owners l
  pub size : length_at s'.owners l ≡ length_at s.owners l

-- Slot l and its row are cleared.
pub record SlotCleared (n l : ℕ) (s : Lent) : Type 0 where
  pub bytes : slot_bytes n s.buffer l ≡ replicate (slot_size n s.buffer) 0
  pub mark : mark_at s.owners l ≡ 0
  pub instance : instance_at s.owners l ≡ 0
  pub size : length_at s.owners l ≡ 0
