-- Instances are apart: in two histories from empty caches whose slots are as large, in which instance i makes the same calls and is told
-- "no slot" at the same ones, it is answered the same, slot places apart; whatever the others call. Assumes nothing.
use mathlib.Core.Path.{◌≡◌, refl, sym, ap, ap₂, ◌∙◌, subst}
use mathlib.Core.Logic.{◌⊎◌, inl, inr}
use Prim.Native.Nat.{ℕ}
use native.Mathlib.Decide.{ℕ_discrete, dec_le}
use mathlib.Core.Option.{Option, none, some}
use mathlib.Core.List.{List, [], ◌∷◌, map}
use lib.ListN.{length}
use Rattle.exact.specs.Choice.{choose}
use Rattle.exact.proofs.LawsChoice.{choose_no}
use Rattle.enums.specs.Refusals as refusals
use Rattle.format.specs.Tables.{Tables}
use Rattle.format.specs.Read.{Read, accepted, refused, map_read}
use Rattle.format.specs.Decode.{decode}
use Rattle.format.specs.Views.{Span, and_then, constant_view}
use Rattle.slots.specs.Cache.{Slot, or_refused, slot_for, put_in, drop_in, fetch_in}
use Rattle.slots.specs.Lent.{Lent, slot_size}
use Rattle.slots.specs.Meaning.{of_cache}
use Rattle.slots.specs.History.{
  Call,
  putting,
  fetching,
  dropping,
  caller,
  Answer,
  slot,
  place,
  answer,
  after,
  Said,
  told,
  Empty,
  Numbered,
  is_accepted,
  leaves,
  has,
  own,
  placeless,
  NoSlot,
  Alike,
  both_end,
  both_say,
}
use Rattle.slots.proofs.LawsMeaning.{put-size, drop-size}
use Rattle.slots.proofs.LawsCache.{Has, Once, has_file, has_none, slot-file, slot-none, puts, fetch-file, fetch-none}
use Rattle.slots.proofs.LawsHistory.{cache-once, Holds, empty_holds, call-holds}

-- What one that has the file f is answered, slot places apart, by a cache with slots of z bytes that has one for every file.
abbrev alone : ℕ → Option (List ℕ) → Call → Answer
alone z f (putting i file) =
    slot (and_then (decode file) (λ t. choose (dec_le (length file) z) (accepted 0) (refused refusals.full refusals.at_call 0)))
alone z none (fetching i k) = place (refused refusals.not_there refusals.at_call 0)
alone z (some f) (fetching i k) = place (map_read (λ p. record { slot = 0; within = p }) (constant_view f k))
alone z none (dropping i) = slot (refused refusals.not_there refusals.at_call 0)
alone z (some f) (dropping i) = slot (accepted 0)

-- An answer is "no slot", or that.
abbrev Either : ℕ → Option (List ℕ) → Call → Answer → Type 0
Either z f x a = NoSlot a ⊎ (placeless a ≡ alone z f x)

-- So is that of a put ..
either-put : {P : Type 0} (r : Read Tables) (d : Dec P) (o : Option ℕ) →
    NoSlot (slot (puts r d o)) ⊎
    (placeless (slot (puts r d o)) ≡ slot (and_then r (λ t. choose d (accepted 0) (refused refusals.full refusals.at_call 0))))
unfolding and_then choose or_refused placeless map_read
either-put (accepted t) (yes h) none = inl refl
either-put (accepted t) (yes h) (some k) = inr refl
either-put (accepted t) (no h) o = inr refl
either-put (refused n m a) d o = inr refl

-- .. and those of a fetch and of a drop are that.
no_place : (j : ℕ) (r : Read Span) →
    placeless (place (map_read (λ p. record { slot = j; within = p }) r)) ≡ place (map_read (λ p. record { slot = 0; within = p }) r)
unfolding placeless map_read
no_place j (accepted p) = refl
no_place j (refused n m a) = refl

module _ (z i : ℕ) (c : List Slot) (o : Once i c) where
  fetch-alone : (k : ℕ) {f : Option (List ℕ)} → Has i c f → placeless (place (fetch_in i k c)) ≡ alone z f (fetching i k)
  unfolding placeless map_read
  fetch-alone k (has_file {f} j x) = ap (λ r. placeless (place r)) (fetch-file i k j f c o x) ∙ no_place j (constant_view f k)
  fetch-alone k (has_none x) = ap (λ r. placeless (place r)) (fetch-none i k c x)

  drop-alone : {f : Option (List ℕ)} → Has i c f → placeless (slot (drop_in i c)) ≡ alone z f (dropping i)
  unfolding placeless map_read drop_in or_refused
  drop-alone (has_file {f} j x) = rw (slot-file i j f c o x)
  drop-alone (has_none x) = rw (slot-none i c x)

-- So each call is answered so, by the file that its caller has.
call-either : (n : ℕ) {f : Option (List ℕ)} (s : Lent) (x : Call) → Holds n (caller x) f s →
    Either (slot_size n s.buffer) f x (answer n s x)
unfolding of_cache put_in
call-either n s (putting i file) y =
    rw y.stands (either-put (decode file) (dec_le (length file) (slot_size n s.buffer)) (slot_for i y.cache))
call-either n s (fetching i k) y =
    inr (rw y.stands (fetch-alone (slot_size n s.buffer) i y.cache (cache-once n s y.cache y.stands i) k y.has))
call-either n s (dropping i) y =
    inr (rw y.stands (drop-alone (slot_size n s.buffer) i y.cache (cache-once n s y.cache y.stands i) y.has))

-- Calls of instance i, which has the file f before them, that are all answered so.
data Alone (z i : ℕ) : Option (List ℕ) → List Said → Type 0 where
  ends : {f : Option (List ℕ)} → Alone z i f []
  says : {f : Option (List ℕ)} {x : Said} {h : List Said} → Either z f x.call x.answered → Alone z i (has i f x) h →
      Alone z i f (x ∷ h)

-- A call keeps the slots' size.
call-size : (n : ℕ) (s : Lent) (x : Call) → slot_size n (after n s x).buffer ≡ slot_size n s.buffer
call-size n s (putting i file) = put-size n i file s
call-size n s (fetching i k) = refl
call-size n s (dropping i) = drop-size n i s

-- The calls of instance i in a history are such.
own_alone : (n i : ℕ) {f : Option (List ℕ)} (s : Lent) (h : List Call) → Numbered h → Holds n i f s →
    Alone (slot_size n s.buffer) i f (own i (told n s h))
unfolding own told has choose
own_alone n i s [] m y = ends
own_alone n i {f} s (x ∷ h) m y =
    go (ℕ_discrete (caller x) i)
    (rw call-size at (own_alone n i {f = has i f said} (after n s x) h m.1 (call-holds n i s x m.0 y)))
  where
    z : ℕ
    z = slot_size n s.buffer

    said : Said
    said = record { call = x; answered = answer n s x }

    rest : List Said
    rest = own i (told n (after n s x) h)

    go : (d : Dec (caller x ≡ i)) → Alone z i (has i f said) rest → Alone z i f (choose d (said ∷ rest) rest)
    go (yes e) r = says (call-either n s x (subst (λ j. Holds n j f s) (sym e) y)) r
    go (no e) r = subst (λ g. Alone z i g rest) (choose_no (ℕ_discrete (caller x) i) _ f e) r

-- What a call leaves its caller does not depend on the slot's place.
accepted-placeless : (a : Answer) (g f : Option (List ℕ)) → choose (is_accepted a) g f ≡ choose (is_accepted (placeless a)) g f
unfolding choose placeless map_read
accepted-placeless (slot (accepted k)) g f = refl
accepted-placeless (slot (refused n m a)) g f = refl
accepted-placeless (place (accepted p)) g f = refl
accepted-placeless (place (refused n m a)) g f = refl

has-placeless : (i : ℕ) (f : Option (List ℕ)) (x : Said) →
    has i f x ≡ has i f (record { call = x.call; answered = placeless x.answered })
unfolding has
has-placeless i f x =
    ap (λ o. choose (ℕ_discrete (caller x.call) i) o f) (accepted-placeless x.answered (leaves f x.call) f)

-- Two answers that are "no slot" together, and are else the same.
same_answer : (a b w : Answer) → NoSlot a ⊎ (placeless a ≡ w) → NoSlot b ⊎ (placeless b ≡ w) → (NoSlot a → NoSlot b) →
    (NoSlot b → NoSlot a) → placeless a ≡ placeless b
same_answer a b w (inl p) q f g = ap placeless (p ∙ sym (f p))
same_answer a b w (inr p) (inl q) f g = ap placeless (g q ∙ sym q)
same_answer a b w (inr p) (inr q) f g = p ∙ sym q

-- So two such lists of calls have the same answers, call by call.
alike-alone : (z i : ℕ) {f : Option (List ℕ)} {h g : List Said} → Alike h g → Alone z i f h → Alone z i f g →
    map (λ x. placeless x.answered) h ≡ map (λ x. placeless x.answered) g
alike-alone z i both_end p q = refl
alike-alone z i {f} (both_say {x} {y} e a b r) (says p u) (says q v) =
    let w : placeless x.answered ≡ placeless y.answered = same_answer _ _ _ (subst (λ c. Either z f c x.answered) e p) q a b in
    let t : has i f x ≡ has i f y =
    has-placeless i f x ∙ ap₂ (λ c d. has i f (record { call = c; answered = d })) e w ∙ sym (has-placeless i f y) in
    ap₂ ◌∷◌ w (alike-alone z i {f = has i f y} r (rw t at u) v)

-- The theorem.
pub apart : (n : ℕ) (s s' : Lent) → Empty n s → Empty n s' → slot_size n s.buffer ≡ slot_size n s'.buffer → (h h' : List Call) →
    Numbered h → Numbered h' → (i : ℕ) → Alike (own i (told n s h)) (own i (told n s' h')) →
    map (λ x. placeless x.answered) (own i (told n s h)) ≡ map (λ x. placeless x.answered) (own i (told n s' h'))
apart n s s' e e' z h h' m m' i a =
    let x = own_alone n i s h m (empty_holds n i s e) in
    let y = own_alone n i s' h' m' (empty_holds n i s' e') in
    alike-alone (slot_size n s.buffer) i a x (rw z y)
