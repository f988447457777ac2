-- A call answers what the crate below answered; and any two results that a call's contract allows are equal.
-- Assumes nothing.
use mathlib.Core.Path.{◌≡◌, refl, sym, ap, ◌∙◌, subst}
use Prim.Native.Nat.{ℕ, ◌≤◌}
use native.Mathlib.Decide.{dec_le}
use mathlib.Core.List.{List}
use lib.ListN.{length, drop}
use Rattle.exact.specs.Got.{Got, stop}
use Rattle.exact.specs.Exact.{Parser}
use Rattle.exact.specs.Choice.{choose}
use Rattle.exact.proofs.LawsChoice.{choose_yes, choose_no}
use Rattle.exact.proofs.LawsFixed.{length-nums}
use Rattle.enums.specs.Refusals as refusals
use Rattle.encoding.specs.Out.{Wrote}
use Rattle.encoding.specs.Shown as below
use Rattle.encoding.specs.Floats as floats
use Rattle.encoding.proofs.LawsFloats.{float-bytes-only}
use Rattle.encoding.specs.declared.EncodingWriter.{EncodingWriter}
use Rattle.encoding.specs.declared.FloatType.{FloatType}
use Rattle.std.specs.Prelude.{Result, Ok, Err}
use Rattle.enums.specs.declared.Refusal.{Refusal}
use Rattle.reading.specs.declared.Reader.{Reader}
use Rattle.reading.specs.declared.Refused.{Refused}
use Rattle.reading.specs.declared.Items.{Items}
use Rattle.reading.specs.Shown.{got_bytes, got_items}
use Rattle.tikomuci.specs.declared.answers.Answer.{Answer}
use Rattle.container.specs.Views.{view_of}
use Rattle.container.specs.declared.View.{View}
use Rattle.container.specs.declared.sections.Stopped.{Stopped}
use Rattle.names.specs.Names.{name_read}
use Rattle.cache.specs.Calls.{slot_read}
use Rattle.tikomuci.specs.Views.{view}
use Rattle.tikomuci.specs.Sheets.{size}
use Rattle.tikomuci.specs.Caches.{slot}
use Rattle.tikomuci.specs.Boundary.{accepted, stopped_of, refused_as, refusal_of, pair_by, shown_by, Puts, Writes, WritesFloat, next_place, reached, run, items}

-- An answer that shows x, which is known to be y, shows y.
pub told : {A : Type 0} (f : A → Answer) {r : Answer} {x y : A} → r ≡ f x → x ≡ y → r ≡ f y
told f e h = e ∙ ap f h

-- A writer below, and its answer shown.
pub puts : (f : Wrote → Answer) {n at required : ℕ} {bs out out' : List ℕ} {r : Answer} {x : Wrote} → r ≡ f x →
    below.Puts n at required bs out out' x → Puts f n at required bs out out' r
puts f e p = record { answer = told f e p.answer; output = p.output }

-- The same of a float attribute.
pub puts-float : {w : EncodingWriter} {bits : ℕ} {ty : FloatType} {out out' : List ℕ} {r : Answer} {x : Result EncodingWriter Refusal} → w.required_alignment ≡ 1 →
    r ≡ next_place (below.wrote_of x) → floats.WritesFloat w bits ty out out' x → WritesFloat w.at bits ty out out' r
puts-float e f p = record { bytes = p.bytes; spelt = p.spelt; written = rw (← e) (puts next_place f p.written) }

-- An answer that was refused past the data shows what is refused there.
pub shown-past : {A : Type 0} (f : Got A → Answer) → ((c k : ℕ) → f (stop c k) ≡ refused_as c) → (p : Parser A) (l : List ℕ)
    (i : ℕ) {r a : Answer} → r ≡ choose (dec_le i (length l)) a (refused_as refusals.short) → a ≡ f (p l i) → r ≡ f (reached p l i)
unfolding reached
shown-past f refuses p l i {r} {a} e h = e ∙ go (dec_le i (length l))
  where
    go : (d : Dec (i ≤ length l)) → choose d a (refused_as refusals.short) ≡ f (choose d (p l i) (stop refusals.short i))
    go (yes k) = choose_yes (yes k) _ _ k ∙ h ∙ ap f (sym (choose_yes (yes k) _ _ k))
    go (no k) = choose_no (no k) _ _ k ∙ sym (refuses refusals.short i) ∙ ap f (sym (choose_no (no k) _ _ k))

-- A refused read.
abbrev pub refused_of : Refused → Answer
refused_of x = refusal_of x.refusal

-- A run is answered by its places, whatever the data ..
pub run-of : (s : List ℕ) (r : Result (ℕ × Reader) Refused) → shown_by (pair_by (λ v. v)) refused_of r ≡ run (got_bytes s r)
run-of s (Ok x) = refl
run-of s (Err x) = refl

-- .. and a counted array by its count.
pub items-of : (w : ℕ) (s : List ℕ) (r : Result (Items × Reader) Refused) →
    shown_by (pair_by (λ v. v.count)) refused_of r ≡ items (got_items w s r)
items-of w s (Ok (i, r)) = rw (length-nums i.count w (drop i.start s))
items-of w s (Err x) = refl

-- So are the answers of the calls on files, sheets and caches: a place ..
pub view-of : (x : Result View Stopped) → shown_by (λ v. accepted v.start v.len) stopped_of x ≡ view (view_of x)
view-of (Ok v) = refl
view-of (Err x) = refl

-- .. a length ..
pub size-of : (x : Result ℕ Refusal) → shown_by (λ n. accepted n 0) refusal_of x ≡ size (name_read x)
size-of (Ok n) = refl
size-of (Err x) = refl

-- .. and a slot.
pub slot-of : (x : Result ℕ Stopped) → shown_by (λ n. accepted n 0) stopped_of x ≡ slot (slot_read x)
slot-of (Ok n) = refl
slot-of (Err x) = refl

-- Two results of one call are equal, answer and output alike.
pub puts-only : {f : Wrote → Answer} {n at required : ℕ} {bs out a b : List ℕ} {r s : Answer} →
    Puts f n at required bs out a r → Puts f n at required bs out b s → (r ≡ s) × (a ≡ b)
puts-only p q = (p.answer ∙ sym q.answer, p.output ∙ sym q.output)

-- The same of a float attribute.
pub float-only : {at bits : ℕ} {ty : FloatType} {out a b : List ℕ} {r s : Answer} → WritesFloat at bits ty out a r →
    WritesFloat at bits ty out b s → (r ≡ s) × (a ≡ b)
float-only {at} {out = out} {b = b} {s = s} p q =
    puts-only p.written (subst (λ (l : List ℕ). Writes at l out b s) (float-bytes-only q.spelt p.spelt) q.written)

-- A call that reads answers a function of the data: two answers are equal.
pub read_only : {r s x : Answer} → r ≡ x → s ≡ x → r ≡ s
read_only e f = e ∙ sym f
