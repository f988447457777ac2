-- What the shared profile cache is (document 02, 8/14): a list of slots, each free or held by an instance with a file. The
-- calls are functions on it; each slot has room for z bytes.
use Rattle.std.specs.Prelude.{◌≡◌, ℕ, suc, List, [], ◌∷◌, length, get_or, set}
use Rattle.std.proofs.Math.Decide.{ℕ_discrete, dec_le}
use Rattle.std.proofs.Math.Option.{Option, none, some}
use Rattle.exact.specs.Choice.{choose}
use Rattle.enums.specs.Refusals as refusals
use Rattle.format.specs.Read.{Read, accepted, refused, map_read}
use Rattle.format.specs.Decode.{decode}
use Rattle.format.specs.Views.{Span, and_then, constant_view}

pub data Slot : Type 0 where
  free : Slot
  held : (instance : ℕ) (file : List ℕ) → Slot

abbrev pub Free : Slot → Type 0
Free free = Unit {0}
Free (held j f) = ⊥

abbrev pub HeldBy : ℕ → Slot → Type 0
HeldBy i free = ⊥
HeldBy i (held j f) = j ≡ i

-- Both can be told.
abbrev pub is_free : (s : Slot) → Dec (Free s)
is_free free = yes tt
is_free (held j f) = no (λ x. x)

abbrev pub is_held_by : (i : ℕ) (s : Slot) → Dec (HeldBy i s)
is_held_by i free = no (λ x. x)
is_held_by i (held j f) = ℕ_discrete j i

abbrev pub file_in : Slot → List ℕ
file_in free = []
file_in (held i f) = f

-- The number of the lowest slot that is such, if there is one.
unfoldable pub one_up : Option ℕ → Option ℕ
one_up none = none
one_up (some k) = some (suc k)

unfoldable pub lowest : {P : Slot → Type 0} → ((s : Slot) → Dec (P s)) → List Slot → Option ℕ
lowest d [] = none
lowest d (s ∷ c) = choose (d s) (some 0) (one_up (lowest d c))

-- The slot that instance i holds ..
abbrev pub slot_of : ℕ → List Slot → Option ℕ
slot_of i c = lowest (is_held_by i) c

-- .. and the one that its file goes to: that one, else the lowest that is free.
unfoldable pub or_else : Option ℕ → Option ℕ → Option ℕ
or_else none o = o
or_else (some k) o = some k

abbrev pub slot_for : ℕ → List Slot → Option ℕ
slot_for i c = or_else (slot_of i c) (lowest is_free c)

-- A slot that was found, or this refusal.
unfoldable pub or_refused : ℕ → Option ℕ → Read ℕ
or_refused n none = refused n refusals.at_call 0
or_refused n (some k) = accepted k

-- Putting a file for instance i: it is judged, it has to fit a slot, and there has to be one.
unfoldable pub put_in : ℕ → ℕ → List ℕ → List Slot → Read ℕ
put_in z i file c =
    and_then (decode file)
    (λ t. choose (dec_le (length file) z) (or_refused refusals.no_slot (slot_for i c)) (refused refusals.full refusals.at_call 0))

-- Dropping the file of instance i.
unfoldable pub drop_in : ℕ → List Slot → Read ℕ
drop_in i c = or_refused refusals.not_there (slot_of i c)

-- A slot, and a place in its file.
pub record InSlot : Type 0 where
  pub slot : ℕ
  pub within : Span

-- Fetching Constant entry k of the file of instance i.
unfoldable pub fetch_in : ℕ → ℕ → List Slot → Read InSlot
fetch_in i k c =
    and_then (or_refused refusals.not_there (slot_of i c))
    (λ j. map_read (λ p. record { slot = j; within = p }) (constant_view (file_in (get_or c j free)) k))

-- The cache afterwards: with the slot anew that a call was accepted with; as it was, after a refusal.
unfoldable pub anew : Slot → List Slot → Read ℕ → List Slot
anew s c (accepted k) = set c k s
anew s c (refused n stage at) = c

abbrev pub put_after : ℕ → ℕ → List ℕ → List Slot → List Slot
put_after z i file c = anew (held i file) c (put_in z i file c)

abbrev pub drop_after : ℕ → List Slot → List Slot
drop_after i c = anew free c (drop_in i c)
