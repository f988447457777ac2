-- How the calls follow their model: what they answer, what they leave, and that their contracts allow one result only.
-- Assumes nothing.
use mathlib.Core.Path.{◌≡◌, sym, ap, subst, ◌∙◌}
use Prim.Native.Nat.{ℕ, ◌+◌, ◌-◌, ◌*◌, ◌^◌, ◌≤◌, ◌<◌}
use native.Mathlib.Omega.{arith}
use native.Mathlib.Decide.{dec_le}
use mathlib.Core.Option.{Option, none, some}
use mathlib.Core.List.{List, [], ◌∷◌, ◌++◌}
use lib.ListN.{length, replicate, length-replicate}
use Rattle.std.specs.Prelude.{Result, Err}
use Rattle.payloads.specs.declared.Need.{Need}
use Rattle.enums.specs.Numbered.{number_of, stage_number}
use Rattle.exact.proofs.LawsChoice.{choose_yes, choose_no}
use Rattle.encoding.specs.Out.{put}
use Rattle.encoding.proofs.LawsOut.{put-append}
use Rattle.enums.specs.Refusals as refusals
use Rattle.format.specs.Tables.{Tables}
use Rattle.format.specs.Read.{Read, accepted, refused, map_read}
use Rattle.format.specs.Decode.{only_tables, decode}
use Rattle.format.specs.Views.{and_then}
use Rattle.format.proofs.Decoded.{map-refused}
use Rattle.sheet.specs.Store.{put_words}
use Rattle.container.specs.declared.sections.Stopped.{Stopped}
use Rattle.container.specs.declared.View.{View}
use Rattle.container.proofs.LawsViews.{view-only}
use Rattle.container.proofs.LawsShown.{read-only}
use Rattle.payloads.specs.Whole.{file_read, need_of}
use Rattle.decoder.specs.Views.{Accepted}
use Rattle.slots.specs.Cache.{Slot, slot_of, slot_for, or_refused, put_in, drop_in}
use Rattle.slots.specs.Lent.{Lent, slot_size, Good, slot_at, slots_up_to}
use Rattle.slots.specs.Meaning.{cache_of, of_cache, put_answer, drop_answer, stored, afterwards, put_lent, drop_lent}
use Rattle.cache.specs.Judged.{as_slot}
use Rattle.cache.specs.Calls.{slot_read, Writes, PutPost, DropPost, FetchPost}
use Rattle.slots.proofs.LawsStored.{good-cache, bad-cache}
use Rattle.slots.proofs.LawsMeaning.{put-means, drop-means, put-others, drop-others, drop-cleared}

module _ {A : Type 0} (n : ℕ) (s : Lent) (f : List Slot → Read A) where
  -- Without a cache the answer is 12 ..
  pub bad-answer : ¬ Good n s → of_cache (cache_of n s) f ≡ refused refusals.unsound refusals.at_call 0
  unfolding of_cache
  bad-answer h = rw (bad-cache n s h)

  -- .. and with one that of the call on it.
  pub good-answer : Good n s → of_cache (cache_of n s) f ≡ f (slots_up_to n (slot_at n s))
  unfolding of_cache
  good-answer g = rw (good-cache n s g)

module _ (n i : ℕ) (file : List ℕ) (s : Lent) (g : Good n s) where
  abbrev slots : List Slot
  slots = slots_up_to n (slot_at n s)

  -- A file that is refused is not put ..
  pub put_refused : (c m a : ℕ) → decode file ≡ refused c m a → put_answer n i file s ≡ refused c m a
  unfolding put_in and_then
  put_refused c m a e = good-answer n s (put_in (slot_size n s.buffer) i file) g ∙ rw e

  module _ (t : Tables) (d : decode file ≡ accepted t) where
    -- .. nor is one that is too large ..
    pub put-large : (z : ℕ) → z ≡ slot_size n s.buffer → z < length file →
        put_answer n i file s ≡ refused refusals.full refusals.at_call 0
    unfolding put_in and_then
    put-large z e h =
        good-answer n s (put_in (slot_size n s.buffer) i file) g ∙
        rw d (choose_no (dec_le (length file) (slot_size n s.buffer)) _ _ (λ l. omega (arith, subst (λ m. length file ≤ m) (sym e) l)))

    -- .. and another is, if there is a slot.
    pub put-there : (z : ℕ) → z ≡ slot_size n s.buffer → length file ≤ z → (r : ℕ) → slot_for i slots ≡ as_slot n r →
        put_answer n i file s ≡ or_refused refusals.no_slot (as_slot n r)
    unfolding put_in and_then
    put-there z q h r e =
        good-answer n s (put_in (slot_size n s.buffer) i file) g ∙
        rw d (choose_yes (dec_le (length file) (slot_size n s.buffer)) _ _ (subst (λ m. length file ≤ m) q h) ∙ ap (or_refused refusals.no_slot) e)

-- The slot that a call is accepted with, or its refusal.
pub or-accepted : (c r : ℕ) (o : Option ℕ) → o ≡ some r → or_refused c o ≡ accepted r
unfolding or_refused
or-accepted c r o e = rw e

pub or-refused : (c : ℕ) (o : Option ℕ) → o ≡ none → or_refused c o ≡ refused c refusals.at_call 0
unfolding or_refused
or-refused c o e = rw e

-- Dropping, by the slot that the instance holds.
pub drop-there : (n i : ℕ) (s : Lent) → Good n s → (r : ℕ) → slot_of i (slots_up_to n (slot_at n s)) ≡ as_slot n r →
    drop_answer n i s ≡ or_refused refusals.not_there (as_slot n r)
unfolding drop_in
drop-there n i s g r e = good-answer n s (drop_in i) g ∙ ap (or_refused refusals.not_there) e

-- What is left after a refusal ..
refused-left : (f : ℕ → Lent) (s : Lent) (r : Read ℕ) (c m a : ℕ) → r ≡ refused c m a → s ≡ afterwards f s r
unfolding afterwards
refused-left f s r c m a e = rw e

-- .. and after the call was accepted with slot k.
pub stored-left : (n k z : ℕ) (bs ws : List ℕ) (s : Lent) (r : Read ℕ) (b o : List ℕ) → r ≡ accepted k → z ≡ slot_size n s.buffer →
    b ≡ put s.buffer (k * z) (bs ++ replicate (z - length bs) 0) → o ≡ put_words s.owners (3 * k) ws →
    record { buffer = b; owners = o } ≡ afterwards (stored n bs ws s) s r
unfolding afterwards stored
stored-left n k z bs ws s r b o e d p q = rw (e, p, q, d)

module _ (answer : Lent → Read ℕ) (f : Lent → ℕ → Lent) where
  -- A call that writes and was refused, with what is there as it was ..
  stays : (s : Lent) (r : Result ℕ Stopped) (c m a : ℕ) → slot_read r ≡ refused c m a → answer s ≡ refused c m a →
      Writes answer (λ s. afterwards (f s) s (answer s)) s s r
  stays s r c m a e q = record { answered = e ∙ sym q; left = refused-left (f s) s (answer s) c m a q }

  -- .. for if it was refused, that is what it leaves.
  unchanged : (s s' : Lent) (r : Result ℕ Stopped) → Writes answer (λ s. afterwards (f s) s (answer s)) s s' r → (c m a : ℕ) →
      slot_read r ≡ refused c m a → s' ≡ s
  unchanged s s' r w c m a e = w.left ∙ sym (refused-left (f s) s (answer s) c m a (sym w.answered ∙ e))

-- So with a put ..
pub put-stays : (n i : ℕ) (file : List ℕ) (s : Lent) (r : Result ℕ Stopped) (c m a : ℕ) → slot_read r ≡ refused c m a →
    put_answer n i file s ≡ refused c m a → Writes (put_answer n i file) (put_lent n i file) s s r
put-stays n i file = stays (put_answer n i file) (stored n file (1 ∷ i ∷ length file ∷ []))

-- .. and with a drop.
pub drop-stays : (n i : ℕ) (s : Lent) (r : Result ℕ Stopped) (c m a : ℕ) → slot_read r ≡ refused c m a → drop_answer n i s ≡ refused c m a →
    Writes (drop_answer n i) (drop_lent n i) s s r
drop-stays n i = stays (drop_answer n i) (stored n [] (0 ∷ 0 ∷ 0 ∷ []))

-- All of what a put promises ..
pub put_post : (n i : ℕ) (file : List ℕ) (s s' : Lent) (r : Result ℕ Stopped) → i < 2 ^ 64 →
    Writes (put_answer n i file) (put_lent n i file) s s' r → PutPost n i file s s' r
put_post n i file s s' r h w =
    record {
      writes = w;
      kept = unchanged (put_answer n i file) (stored n file (1 ∷ i ∷ length file ∷ [])) s s' r w;
      others = λ k e l b d. rw w.left (put-others n i k file s (sym w.answered ∙ e) l b d);
      means = λ c e. rw w.left (put-means n i file s c h e);
    }

-- .. and a drop.
pub drop-post : (n i : ℕ) (s s' : Lent) (r : Result ℕ Stopped) → Writes (drop_answer n i) (drop_lent n i) s s' r → DropPost n i s s' r
drop-post n i s s' r w =
    record {
      writes = w;
      kept = unchanged (drop_answer n i) (stored n [] (0 ∷ 0 ∷ 0 ∷ [])) s s' r w;
      others = λ k e l b d. rw w.left (drop-others n i k s (sym w.answered ∙ e) l b d);
      cleared = λ k e. rw w.left (drop-cleared n i k s (sym w.answered ∙ e));
      means = λ c e. rw w.left (drop-means n i s c e);
    }

-- A file that is accepted has tables.
pub accepted-decode : (file : List ℕ) → Accepted file → (t : Tables) × (decode file ≡ accepted t)
unfolding decode map_read
accepted-decode file (x, e) = (only_tables x, rw e)

-- A refusal is that of the file.
pub measure-refused : (file : List ℕ) (x : Stopped) (r : Result Need Stopped) → r ≡ Err x → file_read r ≡ map_read need_of (decode file) →
    decode file ≡ refused (number_of x.refusal) (stage_number x.stage) x.at
measure-refused file x r e q = map-refused need_of (decode file) _ _ _ (sym q ∙ ap file_read e)

-- A slot's bytes and then zeros, as the code puts them.
pub filled-up : (b x y bs : List ℕ) (at z : ℕ) → at + z ≤ length b → length bs ≤ z → x ≡ put b at bs →
    y ≡ put x (at + length bs) (replicate (z - length bs) 0) → y ≡ put b at (bs ++ replicate (z - length bs) 0)
filled-up b x y bs at z h l p q =
    let zeros : List ℕ = replicate (z - length bs) 0 in
    let m : length zeros ≡ z - length bs = length-replicate (z - length bs) 0 in
    q ∙ rw p (sym (put-append bs zeros b at (omega arith)))

-- Two calls that write, of one answer and one effect: what they answer and leave is the same ..
writes-only : {answer : Lent → Read ℕ} {leaves : Lent → Lent} {s s' s'' : Lent} {r q : Result ℕ Stopped} →
    Writes answer leaves s s' r → Writes answer leaves s s'' q → (r ≡ q) × (s' ≡ s'')
writes-only x y = (read-only x.answered y.answered, x.left ∙ sym y.left)

-- .. so that the contracts of the calls allow one result each.
pub put_only : {n i : ℕ} {file : List ℕ} {s s' s'' : Lent} {r q : Result ℕ Stopped} → PutPost n i file s s' r → PutPost n i file s s'' q →
    (r ≡ q) × (s' ≡ s'')
put_only x y = writes-only x.writes y.writes

pub drop-only : {n i : ℕ} {s s' s'' : Lent} {r q : Result ℕ Stopped} → DropPost n i s s' r → DropPost n i s s'' q → (r ≡ q) × (s' ≡ s'')
drop-only x y = writes-only x.writes y.writes

pub fetch-only : {n i k : ℕ} {s : Lent} {r q : Result View Stopped} → FetchPost n i k s r → FetchPost n i k s q → r ≡ q
fetch-only x y = view-only x.answer y.answer
