-- What the writers answer, as the code's own answers: from room found or not found, to the promise. Assumes nothing.
use mathlib.Core.Path.{◌≡◌, refl, sym, ap, ◌∙◌}
use mathlib.Core.Logic.{◌⊎◌}
use mathlib.Core.List.{List, map}
use Prim.Native.Nat.{ℕ, ◌+◌, ◌*◌, ◌%◌, ◌≤◌, ◌<◌, max}
use native.Mathlib.Omega.{arith}
use lib.ListN.{length, get_or, take, drop, replicate, length-replicate, length-append, length-map}
use Rattle.exact.specs.Padding.{gap}
use Rattle.exact.proofs.LawsPadding.{gap-even}
use Rattle.enums.specs.Container.{P}
use Rattle.enums.specs.Refusals as refusals
use Rattle.encoding.specs.Varint.{spelling}
use Rattle.encoding.specs.Out.{Wrote, wrote, refused, put, flat, counted_bytes}
use Rattle.encoding.specs.Shown.{asked, wrote_of, patched_of, Puts, Writes, Patches}
use Rattle.encoding.specs.declared.EncodingWriter.{EncodingWriter}
use Rattle.std.specs.Prelude.{Result, Ok, Err, Option, None, Some, SomeIff}
use Rattle.std.specs.Option.{ok_or}
use Rattle.enums.specs.Numbered.{number_of}
use Rattle.enums.specs.declared.Refusal.{Refusal}
use Rattle.enums.specs.declared.Refusal.TheVariants as refusal
use Rattle.enums.proofs.LawsNumbered.{refusal_of, refusal-back}
use Rattle.encoding.proofs.LawsOut.{put-append, puts-room, puts-full, puts-there, puts-kept, puts-other, puts-only, required-some}
use Rattle.encoding.proofs.LawsArray.{length-flat}

-- A writer that found room for its k bytes, put them and moved behind them ..
pub writes-room : (w : EncodingWriter) {bs out out' : List ℕ} {r : Result EncodingWriter Refusal} (k : ℕ) → length bs ≡ k →
    w.at + k ≤ length out → out' ≡ put out w.at bs →
    r ≡ Ok (record { at = w.at + k; required_alignment = w.required_alignment }) →
    Writes w bs out out' r
writes-room w k e h o m =
    rw (ap wrote_of m) (puts-room refusals.full w.at w.required_alignment k e h o)

-- .. and one that found none.
pub writes-full : (w : EncodingWriter) {bs out : List ℕ} (k : ℕ) → length bs ≡ k → ¬ (w.at + k ≤ length out) →
    Writes w bs out out (Err refusal.Full)
writes-full w k e h = puts-full refusals.full w.at w.required_alignment k e h

-- Who found room for k bytes at a place, put them there and answers the place behind them ..
pub puts-found : (f : Refusal) (at required k : ℕ) {bs out out' : List ℕ} {end : ℕ} → length bs ≡ k →
    (at + k ≤ length out) × (end ≡ at + k) → out' ≡ put out at bs →
    Puts (number_of f) at required bs out out' (wrote end required)
puts-found f at required k e h p = rw h.1 (puts-room (number_of f) at required k e h.0 p)

-- .. and who found none answers the refusal.
pub puts-none : (f : Refusal) (at required k : ℕ) {bs out : List ℕ} {x : Refusal} (o : Option ℕ) → length bs ≡ k →
    SomeIff o (at + k ≤ length out) (at + k) → Err x ≡ ok_or o f →
    Puts (number_of f) at required bs out out (refused (number_of x))
puts-none f at required k (Some v) e h q = absurd (cc)
puts-none f at required k {x = x} None e h q =
    let z : x ≡ f = (cc) in rw z (puts-full (number_of f) at required k e h)

module _ {A : Type 0} (w : ℕ) (f : A → ℕ) (xs : List A) where
  -- A counted array has its count's length and its numbers' widths.
  pub length-counted : length (counted_bytes w (map f xs)) ≡ length (spelling (length xs)) + length xs * w
  length-counted =
      let e = length-map xs f in
      rw (length-append, length-flat, e)

  -- Its count, and its numbers behind it, are the array.
  pub array-put : (out : List ℕ) (at : ℕ) {start : ℕ} {mid out' : List ℕ} → at + (length (spelling (length xs)) + length xs * w) ≤ length out →
      start ≡ at + length (spelling (length xs)) → mid ≡ put out at (spelling (length xs)) →
      out' ≡ put mid start (flat w (map f xs)) → out' ≡ put out at (counted_bytes w (map f xs))
  array-put out at h s m o =
      let n = length-map xs f in
      let l : length (flat w (map f xs)) ≡ length xs * w = length-flat w (map f xs) ∙ ap (λ (k : ℕ). k * w) n in
      rw (o, m, s, n) (sym (put-append (spelling (length xs)) (flat w (map f xs)) out at (omega arith)))

-- An answer is known by what it means.
abbrev back_written : Wrote → Result EncodingWriter Refusal
back_written (wrote at a) = Ok (record { at = at; required_alignment = a })
back_written (refused n) = Err (refusal_of n)

same_written : (r : Result EncodingWriter Refusal) → back_written (wrote_of r) ≡ r
same_written (Ok w) = refl
same_written (Err x) = ap Err (refusal-back x)

pub written_one : (r s : Result EncodingWriter Refusal) → wrote_of r ≡ wrote_of s → r ≡ s
written_one r s e = sym (same_written r) ∙ ap back_written e ∙ same_written s

-- So is a patch's.
abbrev back_patched : Wrote → Result ℕ Refusal
back_patched (wrote at a) = Ok at
back_patched (refused n) = Err (refusal_of n)

same_patched : (r : Result ℕ Refusal) → back_patched (patched_of r) ≡ r
same_patched (Ok at) = refl
same_patched (Err x) = ap Err (refusal-back x)

pub patched-one : (r s : Result ℕ Refusal) → patched_of r ≡ patched_of s → r ≡ s
patched-one r s e = sym (same_patched r) ∙ ap back_patched e ∙ same_patched s

-- An accepted `align_to` ends at a multiple of the alignment, which is then required unless a larger one was.
pub aligned : (w : EncodingWriter) (a : ℕ) {v : EncodingWriter} {out out' : List ℕ} → 2 ≤ a →
    Writes (asked w a) (replicate (gap a w.at) P) out out' (Ok v) →
    (v.at % a ≡ 0) × (v.required_alignment ≡ max w.required_alignment a)
aligned w a h p =
    let t = puts-there p in
    let e = t.1 ∙ ap (λ (n : ℕ). w.at + n) (length-replicate (gap a w.at) P) in
    (rw e (gap-even a w.at h), t.2 ∙ required-some w.required_alignment a h)

-- An accepted patch is there and changed no other byte ..
pub patch-changes : {at next : ℕ} {bs out out' : List ℕ} → Patches at bs out out' (Ok next) →
    (take (length bs) (drop at out') ≡ bs) ×
    ((i : ℕ) → (i < at) ⊎ (at + length bs ≤ i) → get_or out' i 0 ≡ get_or out i 0)
patch-changes p = ((puts-there p).0, λ i o. puts-other i o p)

-- .. and a refused one, 14, changed none.
pub patch-kept : {at : ℕ} (x : Refusal) {bs out out' : List ℕ} → Patches at bs out out' (Err x) →
    (out' ≡ out) × (number_of x ≡ refusals.not_there)
patch-kept x p = puts-kept p

-- Any two results that one writer's contract allows are equal, answer and output: of every writer, whatever its bytes ..
pub writes-only : {w : EncodingWriter} {bs out out' out'' : List ℕ} {r s : Result EncodingWriter Refusal} → Writes w bs out out' r →
    Writes w bs out out'' s → (r ≡ s) × (out' ≡ out'')
writes-only {r = r} {s = s} p q = let e = puts-only p q in (written_one r s e.0, e.1)

-- .. and of a patch.
pub patches-only : {at : ℕ} {bs out out' out'' : List ℕ} {r s : Result ℕ Refusal} → Patches at bs out out' r →
    Patches at bs out out'' s → (r ≡ s) × (out' ≡ out'')
patches-only {r = r} {s = s} p q = let e = puts-only p q in (patched-one r s e.0, e.1)
