-- The calls of the shared profile cache answer and leave what the crate below did, for any number of slots; and any two
-- results that a contract allows are equal. Assumes nothing.
use mathlib.Core.Path.{◌≡◌, refl, sym, ◌∙◌, subst}
use mathlib.Core.Option.{Option, none, some}
use Prim.Native.Nat.{ℕ, ◌<◌}
use native.Mathlib.Omega.{arith}
use native.Mathlib.Decide.{dec_le}
use mathlib.Core.List.{List}
use lib.ListN.{length, get_or}
use Rattle.std.specs.Prelude.{Result}
use Rattle.container.specs.declared.sections.Stopped.{Stopped}
use Rattle.enums.specs.Refusals as refusals
use Rattle.format.specs.Read.{Read, accepted, refused, map_read}
use Rattle.format.specs.Decode.{decode}
use Rattle.format.specs.Views.{and_then, constants_in}
use Rattle.format.proofs.Refused.{decode-listed, row_listed}
use Rattle.container.specs.Views.{view_of}
use Rattle.container.specs.declared.View.{View}
use Rattle.slots.specs.Cache.{Slot, free, file_in, slot_of, slot_for, or_refused, put_in, drop_in, fetch_in}
use Rattle.slots.specs.Lent.{Lent, slot_size, SlotKept}
use Rattle.slots.specs.Meaning.{cache_of, of_cache, put_answer, fetch_answer, drop_answer, in_buffer}
use Rattle.cache.specs.Calls.{slot_read, Writes, PutPost, DropPost, FetchPost}
use Rattle.tikomuci.specs.declared.answers.Answer.{Answer}
use Rattle.tikomuci.specs.Views.{view, span_in}
use Rattle.tikomuci.specs.Caches.{slot, Changes, CachePut, CacheDropped, CacheFetched}
use Rattle.tikomuci.proofs.LawsBoundary.{told}
use Rattle.tikomuci.proofs.LawsTold.{Answered, an_answer, a_refusal, listed-answered, answered-choose, shown, size-told, size-refused}

-- A refusal of what goes on with what was read has a number ..
answered-then : {A B : Type 0} {x : Read A} (f : A → Read B) → Answered x → ((v : A) → Answered (f v)) → Answered (and_then x f)
unfolding and_then
answered-then f (an_answer {v}) y = y v
answered-then f (a_refusal c p) y = a_refusal c p

-- .. of a function of it ..
answered-map : {A B : Type 0} {x : Read A} (f : A → B) → Answered x → Answered (map_read f x)
unfolding map_read
answered-map f an_answer = an_answer
answered-map f (a_refusal c p) = a_refusal c p

-- .. of a slot that is looked for ..
answered-slot : (c : ℕ) → 0 < c → (o : Option ℕ) → Answered (or_refused c o)
unfolding or_refused
answered-slot c p none = a_refusal c p
answered-slot c p (some k) = an_answer

-- .. and of a cache that is judged first.
answered-cache : {A : Type 0} (o : Option (List Slot)) (f : List Slot → Read A) → ((c : List Slot) → Answered (f c)) →
    Answered (of_cache o f)
unfolding of_cache
answered-cache none f y = a_refusal refusals.unsound (omega arith)
answered-cache (some c) f y = y c

-- So those of all three calls: put ..
put-answered : (n i : ℕ) (file : List ℕ) (s : Lent) → Answered (put_answer n i file s)
unfolding put_in
put-answered n i file s =
    answered-cache (cache_of n s) _
    (λ c. answered-then _ (listed-answered (decode file) (decode-listed file))
    (λ t. answered-choose (dec_le (length file) (slot_size n s.buffer)) (answered-slot refusals.no_slot (omega arith) (slot_for i c))
    (a_refusal refusals.full (omega arith))))

-- .. drop ..
drop-answered : (n i : ℕ) (s : Lent) → Answered (drop_answer n i s)
unfolding drop_in
drop-answered n i s = answered-cache (cache_of n s) _ (λ c. answered-slot refusals.not_there (omega arith) (slot_of i c))

-- .. and fetch.
fetch-answered : (n i k : ℕ) (s : Lent) → Answered (fetch_answer n i k s)
unfolding fetch_in
fetch-answered n i k s =
    answered-cache (cache_of n s) _
    (λ c. answered-then _ (answered-slot refusals.not_there (omega arith) (slot_of i c))
    (λ j. answered-map _ (listed-answered _ (row_listed constants_in (file_in (get_or c j free)) k))))

-- A slot is shown.
slot-shown : (x : Result ℕ Stopped) {y : Read ℕ} {r : Answer} → Answered y → r ≡ slot (slot_read x) → slot_read x ≡ y → r.refusal ≡ 0 →
    slot_read x ≡ accepted r.first
slot-shown x {r = r} p e a = size-told r (subst Answered (sym a) p) e

-- A call that writes, shown.
changed : {n : ℕ} {answers : Lent → Read ℕ} {leaves : Lent → Lent} {s s' : Lent} (x : Result ℕ Stopped) {r : Answer} → Answered (answers s) →
    r ≡ slot (slot_read x) → Writes answers leaves s s' x → ((c m a : ℕ) → slot_read x ≡ refused c m a → s' ≡ s) →
    ((k : ℕ) → slot_read x ≡ accepted k → (l : ℕ) → l < n → ¬ (l ≡ k) → SlotKept n l s s') → Changes n answers leaves s s' r
changed x {r} p e w kept others =
    record {
      answer = told slot e w.answered;
      left = w.left;
      kept = λ z. let (c, m, a, h) = size-refused (slot_read x) r e z in kept c m a h;
      others = λ z. others r.first (slot-shown x p e w.answered z);
    }

-- Putting, shown.
pub cache-put : (n i : ℕ) (file : List ℕ) (s s' : Lent) (x : Result ℕ Stopped) (r : Answer) → r ≡ slot (slot_read x) → PutPost n i file s s' x →
    CachePut n i file s s' r
cache-put n i file s s' x r e p =
    record { changes = changed x (put-answered n i file s) e p.writes p.kept p.others; means = p.means }

-- Dropping, shown.
pub cache-dropped : (n i : ℕ) (s s' : Lent) (x : Result ℕ Stopped) (r : Answer) → r ≡ slot (slot_read x) → DropPost n i s s' x →
    CacheDropped n i s s' r
cache-dropped n i s s' x r e p =
    let d = drop-answered n i s in
    record {
      changes = changed x d e p.writes p.kept p.others;
      cleared = λ z. p.cleared r.first (slot-shown x d e p.writes.answered z);
      means = p.means;
    }

-- Fetching, shown.
pub cache-fetched : (n i k : ℕ) (s : Lent) (x : Result View Stopped) (r : Answer) → r ≡ view (view_of x) → FetchPost n i k s x →
    CacheFetched n i k s r
cache-fetched n i k s x r e p =
    let d = answered-map (in_buffer (slot_size n s.buffer)) (fetch-answered n i k s) in
    record {
      answer = told view e p.answer;
      sound = λ z. p.sound (span_in r) (shown view span_in (λ v. refl) (λ c m a. refl) r (subst Answered (sym p.answer) d) e z);
    }

-- A call that writes has one answer, and leaves one buffer and one owner table.
changes-only : {n : ℕ} {answers : Lent → Read ℕ} {leaves : Lent → Lent} {s a b : Lent} {r q : Answer} → Changes n answers leaves s a r →
    Changes n answers leaves s b q → (r ≡ q) × (a ≡ b)
changes-only x y = (x.answer ∙ sym y.answer, x.left ∙ sym y.left)

-- So any two results that a contract allows are equal, answer and stores alike: of put ..
pub cache-put-only : {n i : ℕ} {file : List ℕ} {s a b : Lent} {r q : Answer} → CachePut n i file s a r → CachePut n i file s b q →
    (r ≡ q) × (a ≡ b)
cache-put-only x y = changes-only x.changes y.changes

-- .. of drop ..
pub cache-dropped-only : {n i : ℕ} {s a b : Lent} {r q : Answer} → CacheDropped n i s a r → CacheDropped n i s b q → (r ≡ q) × (a ≡ b)
cache-dropped-only x y = changes-only x.changes y.changes

-- .. and of fetch, which leaves all as it was.
pub cache-fetched-only : {n i k : ℕ} {s : Lent} {r q : Answer} → CacheFetched n i k s r → CacheFetched n i k s q → r ≡ q
cache-fetched-only x y = x.answer ∙ sym y.answer
