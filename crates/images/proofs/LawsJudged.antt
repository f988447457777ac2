-- The answers of writing a judged sheet are the model's. Assumes nothing.
use Rattle.std.proofs.Common.{Result, Ok, Err, ◌≡◌, ℕ, ◌+◌, ◌^◌, ◌<◌, ◌≤◌, Bool, true, false, List, [], length, sym, refl, ap, ◌∙◌, subst, inl, inr, zero-add, arith}
use native.Mathlib.Decide.{dec_le}
use mathlib.Core.Option.{some, some-injective}
use Rattle.exact.proofs.LawsChoice.{choose_yes, choose_no}
use Rattle.enums.specs.Refusals as refusals
use Rattle.enums.specs.Numbered.{number_of}
use Rattle.encoding.specs.Out.{put}
use Rattle.encoding.proofs.LawsOut.{put_full}
use Rattle.format.specs.Read.{accepted}
use Rattle.format.specs.Tables.{Tables}
use Rattle.format.specs.Decode.{most_bytes}
use Rattle.format.specs.Sheet.{pool_of}
use Rattle.format.specs.Image.{image, Starts32}
use Rattle.format.specs.Write.{Writing, writes, refuses, starts32?, imaged}
use Rattle.format.proofs.LawsStarts.{starts_fit}
use Rattle.format.proofs.Writes.{imaged-inv}
use Rattle.judge.specs.declared.Judged.{Judged}
use Rattle.sheet.specs.Lies.{Lies}
use Rattle.sheet.proofs.LawsLies.{whole-lies}
use Rattle.images.specs.Images.{ImagePut}
use Rattle.images.specs.Starts.{FitTold}
use Rattle.images.specs.Written.{not_written, image_size, length_of, in_room, with_image, Told, ImageTold, JudgedWritten}
use Rattle.enums.specs.declared.Refusal.{Refusal}
use Rattle.enums.specs.declared.Refusal.TheVariants as refusal
use Rattle.images.proofs.LawsSheet.{pool-fits}
use Rattle.images.proofs.LawsWritten.{image-fits, pool-le}

-- The three answers of the model.
start-large : (t : Tables) → ¬ Starts32 t → imaged (some t) ≡ refuses refusals.start_too_large
unfolding imaged
start-large t h = choose_no (starts32? t) _ _ h

image-large : (t : Tables) → Starts32 t → 2 ^ 30 < length (image t) → imaged (some t) ≡ refuses refusals.limit
unfolding imaged
image-large t h l =
    let n : ¬ (length (image t) ≤ most_bytes) = omega arith in
    choose_yes (starts32? t) _ _ h ∙ choose_no (dec_le (length (image t)) most_bytes) _ _ n

pub image-fine : (t : Tables) → length (image t) ≤ 2 ^ 30 → imaged (some t) ≡ writes (image t)
unfolding imaged
image-fine t l = choose_yes (starts32? t) _ _ (starts_fit t l) ∙ choose_yes (dec_le (length (image t)) most_bytes) _ _ l

-- The image of whatever tables the sheet stands for is over its limit ..
pub record Over (s : List ℕ) (j : Judged) : Type 0 where
  pub each : (t : Tables) → Told j t s → 2 ^ 30 < length (image t)

-- .. where the pool is much longer than an image may be ..
pub over-pool : {s : List ℕ} {j : Judged} → 0xC0000000 < j.pool → Over s j
over-pool g = record { each = λ t h. let p = pool-le t in let e = h.pool in omega arith }

module _ {s pool : List ℕ} {j : Judged} {l : List ℕ} {r : ℕ} (n : j.pool ≤ 0xC0000000) (y : ImagePut j.class s pool [] l r) where
  size-told : (t : Tables) → Told j t s → r ≡ length (image t)
  size-told t h =
      let e = h.pool in
      let p : length (pool_of t) ≤ 2 ^ 32 = omega arith in
      let f = pool-fits t h.holds.sound in
      (y.each t h.holds (inr refl) f (image-fits t h.holds.fits p)).place ∙ zero-add (length (image t))

  -- .. or the measured image is ..
  pub over-size : 0x40000000 < r → Over s j
  over-size g = record { each = λ t h. let q = size-told t h in omega arith }

  -- .. and else its length is the answer.
  pub told-fine : r ≤ 0x40000000 → ImageTold s j (Ok r)
  unfolding length_of
  told-fine g =
      record {
        each =
            λ t h.
            let q = size-told t h in
            let m : length (image t) ≤ 2 ^ 30 = omega arith in
            ap accepted q ∙ ap length_of (sym (image-fine t m));
      }

-- What is over the limit has a start that does not fit, or not.
module _ {s : List ℕ} {j : Judged} {b : Bool} (o : Over s j) (x : FitTold j.class s b) where
  pub told-limit : b ≡ true → ImageTold s j (Err refusal.Limit)
  unfolding length_of
  told-limit e =
      record { each = λ t h. ap length_of (sym (image-large t ((x.each t h.holds).holds e) (o.each t h))) }

  pub told-start : b ≡ false → ImageTold s j (Err refusal.Start)
  unfolding length_of
  told-start e = record { each = λ t h. ap length_of (sym (start-large t ((x.each t h.holds).fails e))) }

refused_as : (n m : ℕ) (out : List ℕ) (w : Writing) → not_written n ≡ length_of w → (not_written n ≡ in_room m w) × (out ≡ with_image out w)
unfolding length_of in_room with_image
refused_as n m out (writes bs) e = let z : ◌≡◌ {A = ℕ} 0 1 = cc in absurd (omega (arith, z))
refused_as n m out (refuses k) e = (e, refl)

small-as : (size : ℕ) (out : List ℕ) (w : Writing) → accepted size ≡ length_of w → length out < size →
    (not_written refusals.full ≡ in_room (length out) w) × (out ≡ with_image out w)
unfolding length_of in_room with_image
small-as size out (writes bs) e h =
    let k : size ≡ length bs = cc in
    let n : ¬ (length bs ≤ length out) = omega arith in
    let l : length out < 0 + length bs = omega arith in
    (sym (choose_no (dec_le (length bs) (length out)) _ _ n), sym (put_full out 0 bs l))
small-as size out (refuses k) e h = let z : ◌≡◌ {A = ℕ} 0 1 = cc in absurd (omega (arith, z))

fine-as : (size : ℕ) (out out' : List ℕ) (t : Tables) (w : Writing) → imaged (some t) ≡ w → accepted size ≡ length_of w → size ≤ length out →
    (length (image t) < 2 ^ 64 → length (image t) ≤ length out → out' ≡ put out 0 (image t)) →
    (accepted size ≡ in_room (length out) w) × (out' ≡ with_image out w)
unfolding length_of in_room with_image
fine-as size out out' t (writes bs) q e h f =
    let k : size ≡ length bs = cc in
    let j = imaged-inv (some t) bs q in
    let k' : t ≡ j.tables = some-injective _ _ j.there in
    let i : bs ≡ image t = j.whole ∙ ap image (sym k') in
    let u : length (image t) ≤ most_bytes = rw k' j.fits in
    let v : length (image t) < 2 ^ 64 = omega arith in
    let l : length bs ≤ length out = omega arith in
    let m : length (image t) ≤ length out = subst (λ b. length b ≤ length out) i l in
    (ap accepted k ∙ sym (choose_yes (dec_le (length bs) (length out)) _ _ l), f v m ∙ ap (put out 0) (sym i))
fine-as size out out' t (refuses k) q e h f = let z : ◌≡◌ {A = ℕ} 0 1 = cc in absurd (omega (arith, z))

-- A refusal leaves the output, ..
pub written-refused : {s pool out : List ℕ} {j : Judged} {n : Refusal} {r : Result ℕ Refusal} → ImageTold s j r → r ≡ Err n →
    JudgedWritten s j pool out out (Err n)
written-refused {out = out} {n = n} x e =
    record {
      each =
          λ t h q.
          refused_as (number_of n) (length out) out (imaged (some t)) (sym (ap image_size e) ∙ x.each t h);
    }

-- .. so does one that has no room, ..
pub written_small : {s pool out : List ℕ} {j : Judged} {size : ℕ} {r : Result ℕ Refusal} → ImageTold s j r → r ≡ Ok size →
    length out < size → JudgedWritten s j pool out out (Err refusal.Full)
written_small {out = out} {size = size} x e g =
    record {
      each =
          λ t h q.
          small-as size out (imaged (some t)) (sym (ap image_size e) ∙ x.each t h) g;
    }

-- .. and else the image is put.
pub written-fine : {s pool out out' : List ℕ} {j : Judged} {size next : ℕ} {r : Result ℕ Refusal} → ImageTold s j r →
    r ≡ Ok size → size ≤ length out → ImagePut j.class s pool out out' next → JudgedWritten s j pool out out' (Ok size)
written-fine {pool = pool} {out = out} {out' = out'} {size = size} x e g y =
    record {
      each =
          λ t h q.
          fine-as size out out' t (imaged (some t)) refl (sym (ap image_size e) ∙ x.each t h) g
          (λ b m. (y.each t h.holds (inl (subst (Lies pool 0) q (whole-lies pool))) (pool-fits t h.holds.sound) b).output (rw zero-add m));
    }

-- The laws by which the check proves what measures and writes.
pub ruleset writings = (over-pool, over-size, told-fine, told-limit, told-start, written-refused, written_small, written-fine)
