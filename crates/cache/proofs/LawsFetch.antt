-- What is known of the slot that an instance holds; and what a fetch answers: the entry of the file in that slot. Assumes
-- nothing.
use mathlib.Core.Path.{◌≡◌, refl, sym, ap, subst, ◌∙◌}
use Prim.Native.Nat.{ℕ, ◌+◌, ◌-◌, ◌*◌, ◌≤◌, ◌<◌}
use native.Mathlib.Omega.{arith}
use mathlib.Core.Option.{Option, none, some}
use mathlib.Core.List.{List}
use lib.ListN.{length, take, drop, get_or, length-drop}
use lib.Seq.{length-take-le}
use Rattle.std.specs.Prelude.{Result, Ok}
use Rattle.container.specs.declared.sections.Stopped.{Stopped}
use Rattle.enums.specs.Container.{constant_id}
use Rattle.enums.specs.Refusals as refusals
use Rattle.format.specs.Read.{Read, accepted, refused, map_read}
use Rattle.format.specs.Views.{Span, and_then, constants_in, constant_view, Viewed}
use Rattle.format.proofs.Decoded.{map-inv}
use Rattle.format.proofs.LawsStands.{stands-bytes}
use Rattle.format.proofs.Viewed.{then-inv, constant-viewed}
use Rattle.container.specs.declared.View.{View}
use Rattle.container.specs.Views.{view_of}
use Rattle.slots.specs.Cache.{Slot, free, held, file_in, InSlot, slot_of, or_refused, drop_in, fetch_in}
use Rattle.slots.specs.Lent.{Lent, length_at, slot_size, Good, slot_at, slots_up_to}
use Rattle.slots.specs.Meaning.{cache_of, of_cache, fetch_answer, drop_answer, in_buffer}
use Rattle.owners.specs.Owners.{RowOf}
use Rattle.cache.specs.Calls.{placed_at, OwnSlot, Fetched, FetchPost}
use Rattle.slots.proofs.LawsSlots.{slots_at}
use Rattle.slots.proofs.LawsStored.{good-cache, file_at, taken-slot}
use Rattle.slots.proofs.LawsFound.{answered, or-refused-inv, held-row}
use Rattle.slots.proofs.LawsCache.{fetch-file}
use Rattle.slots.proofs.LawsHistory.{cache-once}
use Rattle.slots.proofs.FetchOwn.{slot-bytes}
use Rattle.cache.proofs.LawsJudged.{slot-room}
use Rattle.cache.proofs.LawsCalls.{good-answer}

-- Instance i holds slot k of n, each of z bytes.
pub record Holds (n i z : ℕ) (s : Lent) (k : ℕ) : Type 0 where
  pub good : Good n s
  pub inside : k < n
  pub row : RowOf i s.owners k
  pub fits : length_at s.owners k ≤ z
  pub room : k * z + z ≤ length s.buffer
  pub row_room : k * 24 + 24 ≤ length s.owners

-- What goes on with what is answered of a cache is refused where that is.
then-refused : {A B : Type 0} (o : Option (List Slot)) (f : List Slot → Read A) (g : List Slot → A → Read B) (c m a : ℕ) →
    of_cache o f ≡ refused c m a → of_cache o (λ x. and_then (f x) (g x)) ≡ refused c m a
unfolding of_cache and_then
then-refused none f g c m a e = ap (λ r. and_then r (λ v. refused 0 0 0)) e
then-refused (some x) f g c m a e = ap (λ r. and_then r (g x)) e

module _ (n i : ℕ) (s : Lent) where
  abbrev slots : List Slot
  slots = slots_up_to n (slot_at n s)

  -- What a drop answers is the slot that the instance holds.
  pub holds : (z k : ℕ) → z ≡ slot_size n s.buffer → drop_answer n i s ≡ accepted k → Holds n i z s k
  unfolding drop_in
  holds z k e q =
      let (g, a) = answered n s (drop_in i) k q in
      let y : slot_of i slots ≡ some k = or-refused-inv refusals.not_there (slot_of i slots) k a in
      let (h, t, o) = held-row n s i k y in
      record {
        good = g;
        inside = h;
        row = (t, o);
        fits = rw e (g.rows.fits k h t);
        room = slot-room n k z s g e h;
        row_room = omega (arith, g.owners);
      }

  -- Where it is refused, so is a fetch ..
  pub fetch-refused : (k c m a : ℕ) → drop_answer n i s ≡ refused c m a → fetch_answer n i k s ≡ refused c m a
  unfolding drop_in fetch_in
  fetch-refused k = then-refused (cache_of n s) (drop_in i) _

  module _ {z r : ℕ} (x : Holds n i z s r) where
    -- .. and else that slot has its file ..
    held-file : (d : Slot) → get_or slots r d ≡ held i (file_at n s r)
    held-file d =
        slots_at n (slot_at n s) r d x.inside ∙ taken-slot n s r x.row.0 ∙ ap (λ j. held j (file_at n s r)) x.row.1

    -- .. and a fetch answers what the view of it answers, at its place in the buffer.
    pub fetch-there : (k size : ℕ) → size ≡ length_at s.owners r → z ≡ slot_size n s.buffer →
        map_read (placed_at (r * z)) (constant_view (take size (drop (r * z) s.buffer)) k) ≡
        map_read (in_buffer (slot_size n s.buffer)) (fetch_answer n i k s)
    unfolding map_read
    fetch-there k size d e =
        rw (
          d,
          e,
          good-answer n s (fetch_in i k) x.good ∙
              fetch-file i k r (file_at n s r) slots (cache-once n s slots (good-cache n s x.good) i) (held-file free),
        )
        (again (constant_view (file_at n s r) k))
      where
        again : (v : Read Span) →
            map_read (placed_at (r * slot_size n s.buffer)) v ≡
            map_read (in_buffer (slot_size n s.buffer)) (map_read (λ p. record { slot = r; within = p }) v)
        again (accepted v) = refl
        again (refused c m b) = refl

  -- An accepted fetch has found the slot that a drop would answer ..
  fetch-found : (k : ℕ) (q : InSlot) → fetch_answer n i k s ≡ accepted q →
      (drop_answer n i s ≡ accepted q.slot) × (constant_view (file_in (get_or slots q.slot free)) k ≡ accepted q.within)
  unfolding drop_in fetch_in
  fetch-found k q e =
      let (g, f) = answered n s (fetch_in i k) q e in
      let (j, o, a) = then-inv (or_refused refusals.not_there (slot_of i slots)) _ q f in
      let (w, v, b) = map-inv (λ p. record { slot = j; within = p }) (constant_view (file_in (get_or slots j free)) k) q a in
      subst (λ z. (drop_answer n i s ≡ accepted z.slot) × (constant_view (file_in (get_or slots z.slot free)) k ≡ accepted z.within)) b
      (good-answer n s (drop_in i) g ∙ o, v)

  -- .. and the entry's bytes in it.
  fetch-sound : (k : ℕ) (p : Span) → map_read (in_buffer (slot_size n s.buffer)) (fetch_answer n i k s) ≡ accepted p →
      Fetched n i k s p
  fetch-sound k p e =
      let (q, a, b) = map-inv (in_buffer (slot_size n s.buffer)) (fetch_answer n i k s) p e in
      let (c, v) = fetch-found k q a in
      let j = q.slot in
      let x : Holds n i (slot_size n s.buffer) s j = holds (slot_size n s.buffer) j refl c in
      let m = held-file x free in
      let w = constant-viewed (file_at n s j) k q.within (ap (λ z. constant_view (file_in z) k) (sym m) ∙ v) in
      record {
        place = q;
        file = file_at n s j;
        cache = slots;
        stands = good-cache n s x.good;
        inside = x.inside;
        holds = λ d. held-file x d;
        viewed = w;
        span = sym b;
        bytes =
            ap (λ z. take z.size (drop z.offset s.buffer)) (sym b) ∙
            slot-bytes n i j k s slots (file_at n s j) q.within (good-cache n s x.good) m w;
      }

  -- All of what a fetch promises.
  pub fetch-post : (k : ℕ) (q : Result View Stopped) → view_of q ≡ map_read (in_buffer (slot_size n s.buffer)) (fetch_answer n i k s) →
      FetchPost n i k s q
  fetch-post k q e = record { answer = e; sound = λ p a. fetch-sound k p (sym e ∙ a) }

-- A part of a buffer, by its length.
part-is : (b : List ℕ) (start size : ℕ) → take (start + size - start) (drop start b) ≡ take size (drop start b)
part-is b start size = let d : start + size - start ≡ size = omega arith in ap (λ j. take j (drop start b)) d

-- What the view q of that part answers, at its place in the buffer.
pub view-placed : (b : List ℕ) (start size k : ℕ) (q v : Result View Stopped) → q ≡ v →
    view_of q ≡ constant_view (take (start + size - start) (drop start b)) k →
    map_read (placed_at start) (view_of v) ≡ map_read (placed_at start) (constant_view (take size (drop start b)) k)
view-placed b start size k q v e a =
    ap (map_read (placed_at start)) (sym (ap view_of e) ∙ a ∙ ap (λ f. constant_view f k) (part-is b start size))

-- What is viewed begins in the file.
pub view-begins : (b : List ℕ) (start size k : ℕ) (p : Span) →
    Viewed constants_in constant_id (take (start + size - start) (drop start b)) k p → start + size ≤ length b → start + p.offset ≤ length b
view-begins b start size k p v h =
    let d : length (drop start b) ≡ length b - start = length-drop start b in
    let m : length (take (start + size - start) (drop start b)) ≡ size = ap length (part-is b start size) ∙ length-take-le size (drop start b) (omega arith) in
    omega (arith, m, (stands-bytes _ p.offset _ v.row.stands).1)

-- The slot that was found is the one that a drop answers, ..
pub own-found : (n i : ℕ) (b ws : List ℕ) (k : ℕ) (r : Result ℕ Stopped) → OwnSlot (length b) ws n i r → r ≡ Ok k →
    drop_answer n i (record { buffer = b; owners = ws }) ≡ accepted k
own-found n i b ws k r o e = sym (rw e at (o b refl))

-- .. and so the instance's.
pub own-held : (n i : ℕ) (b ws : List ℕ) (z k : ℕ) (r : Result ℕ Stopped) → z ≡ slot_size n b → OwnSlot (length b) ws n i r →
    r ≡ Ok k → Holds n i z (record { buffer = b; owners = ws }) k
own-held n i b ws z k r e o g = holds n i (record { buffer = b; owners = ws }) z k e (own-found n i b ws k r o g)
