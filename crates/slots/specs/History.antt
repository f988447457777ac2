-- Histories of a cache (document 02, 8/14: "as long as the host changes buffer and table only by these calls, starting from
-- an empty cache"): lists of calls by any instances, accepted and refused.
use Rattle.std.specs.Prelude.{◌≡◌, ℕ, ◌+◌, ◌*◌, ◌^◌, ◌≤◌, ◌<◌, List, [], ◌∷◌, length, take, drop, get_or, replicate}
use Rattle.std.proofs.Math.Decide.{ℕ_discrete}
use Rattle.std.proofs.Math.Option.{Option, none, some}
use Rattle.exact.specs.Choice.{choose}
use Rattle.enums.specs.Refusals as refusals
use Rattle.format.specs.Tables.{Tables}
use Rattle.format.specs.Explains.{Explains}
use Rattle.format.specs.Read.{Read, accepted, refused, map_read}
use Rattle.format.specs.Decode.{most_bytes}
use Rattle.format.specs.Views.{Span, constant_view}
use Rattle.slots.specs.Cache.{free, InSlot}
use Rattle.slots.specs.Lent.{Lent, Taken, slot_size}
use Rattle.slots.specs.Meaning.{cache_of, put_answer, fetch_answer, drop_answer, put_lent, drop_lent}

pub data Call : Type 0 where
  putting : (instance : ℕ) (file : List ℕ) → Call
  fetching : (instance index : ℕ) → Call
  dropping : (instance : ℕ) → Call

abbrev pub caller : Call → ℕ
caller (putting i file) = i
caller (fetching i k) = i
caller (dropping i) = i

-- What a call answers: a slot, or a place in one.
pub data Answer : Type 0 where
  slot : Read ℕ → Answer
  place : Read InSlot → Answer

abbrev pub answer : ℕ → Lent → Call → Answer
answer n s (putting i file) = slot (put_answer n i file s)
answer n s (fetching i k) = place (fetch_answer n i k s)
answer n s (dropping i) = slot (drop_answer n i s)

-- What it leaves.
abbrev pub after : ℕ → Lent → Call → Lent
after n s (putting i file) = put_lent n i file s
after n s (fetching i k) = s
after n s (dropping i) = drop_lent n i s

-- The calls of a history, one after the other: what they leave ..
unfoldable pub run : ℕ → Lent → List Call → Lent
run n s [] = s
run n s (c ∷ h) = run n (after n s c) h

-- .. and each with its answer.
pub record Said : Type 0 where
  pub call : Call
  pub answered : Answer

unfoldable pub told : ℕ → Lent → List Call → List Said
told n s [] = []
told n s (c ∷ h) = record { call = c; answered = answer n s c } ∷ told n (after n s c) h

-- The cache is empty: every slot is free.
abbrev pub Empty : ℕ → Lent → Type 0
Empty n s = cache_of n s ≡ some (replicate n free)

-- An instance number is a u64.
abbrev pub Numbered : List Call → Type 0
Numbered [] = Unit {0}
Numbered (c ∷ h) = (caller c < 2 ^ 64) × Numbered h

abbrev pub Accepted : Answer → Type 0
Accepted (slot (accepted k)) = Unit {0}
Accepted (slot (refused n stage at)) = ⊥
Accepted (place (accepted p)) = Unit {0}
Accepted (place (refused n stage at)) = ⊥

abbrev pub is_accepted : (a : Answer) → Dec (Accepted a)
is_accepted (slot (accepted k)) = yes tt
is_accepted (slot (refused n stage at)) = no (λ x. x)
is_accepted (place (accepted p)) = yes tt
is_accepted (place (refused n stage at)) = no (λ x. x)

-- The file that the caller has after an accepted call, if it had f before ..
abbrev pub leaves : Option (List ℕ) → Call → Option (List ℕ)
leaves f (putting i file) = some file
leaves f (fetching i k) = f
leaves f (dropping i) = none

-- .. and what instance i has after any call: another's changes nothing, and neither does a refused one.
unfoldable pub has : ℕ → Option (List ℕ) → Said → Option (List ℕ)
has i f x = choose (ℕ_discrete (caller x.call) i) (choose (is_accepted x.answered) (leaves f x.call) f) f

-- The file of its last accepted put since its drop.
unfoldable pub last_put : ℕ → Option (List ℕ) → List Said → Option (List ℕ)
last_put i f [] = f
last_put i f (x ∷ h) = last_put i (has i f x) h

-- The calls of instance i with their answers.
unfoldable pub own : ℕ → List Said → List Said
own i [] = []
own i (x ∷ h) = choose (ℕ_discrete (caller x.call) i) (x ∷ own i h) (own i h)

-- An answer, slot places apart.
unfoldable pub placeless : Answer → Answer
placeless (slot r) = slot (map_read (λ k. 0) r)
placeless (place r) = place (map_read (λ p. record { slot = 0; within = p.within }) r)

-- It is "no slot".
abbrev pub NoSlot : Answer → Type 0
NoSlot a = a ≡ slot (refused refusals.no_slot refusals.at_call 0)

-- Two lists of calls with their answers: the same calls, and "no slot" at the same places.
pub data Alike : List Said → List Said → Type 0 where
  both_end : Alike [] []
  both_say : {x y : Said} {h g : List Said} → x.call ≡ y.call → (NoSlot x.answered → NoSlot y.answered) →
      (NoSlot y.answered → NoSlot x.answered) → Alike h g → Alike (x ∷ h) (y ∷ g)

-- What a fetch answers to an instance that has the file f: what the view of that constant answers of f, at the slot's place;
-- and the buffer's bytes there are those of that entry of the tables that f's bytes stand for.
pub record OfFile (n i k : ℕ) (s : Lent) (f : List ℕ) : Type 0 where
  pub slot : ℕ
  pub inside : slot < n
  pub answer : fetch_answer n i k s ≡ map_read (λ p. record { slot = slot; within = p }) (constant_view f k)
  pub bytes : (p : Span) (t : Tables) → constant_view f k ≡ accepted p → Explains f t →
      take p.size (drop (slot * slot_size n s.buffer + p.offset) s.buffer) ≡ get_or t.constants k []

-- To one that has none, 14.
abbrev pub OfOwn : ℕ → ℕ → ℕ → Lent → Option (List ℕ) → Type 0
OfOwn n i k s none = fetch_answer n i k s ≡ refused refusals.not_there refusals.at_call 0
OfOwn n i k s (some f) = OfFile n i k s f

-- A file that passes and fits, an instance that has none (f is what it has), and a cache whose slots are all taken.
pub record NoneLeft (n : ℕ) (file : List ℕ) (s : Lent) (f : Option (List ℕ)) : Type 0 where
  pub passes : (t : Tables) × Explains file t
  pub limit : length file ≤ most_bytes
  pub fits : length file ≤ slot_size n s.buffer
  pub nothing : f ≡ none
  pub taken : (k : ℕ) → k < n → Taken s.owners k
