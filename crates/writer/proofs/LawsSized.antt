-- `image` answers the length of the image of the tables whose sheet was handed, and keeps its promise; that this allows
-- one answer only. Assumes nothing.
use mathlib.Core.Path.{◌≡◌, refl, sym, ap, ◌∙◌, subst}
use Prim.Native.Nat.{ℕ, ◌/◌, ◌%◌, ◌≤◌}
use native.Mathlib.Omega.{arith}
use native.Mathlib.Decide.{dec_le}
use mathlib.Core.List.{List}
use mathlib.Core.Option.{Option, none, some, some-injective}
use lib.ListN.{length, replicate, length-replicate}
use Rattle.exact.specs.Choice.{choose}
use Rattle.exact.proofs.LawsChoice.{choose_yes}
use Rattle.std.proofs.Common.{Result, Err}
use Rattle.enums.specs.Refusals as refusals
use Rattle.enums.specs.Numbered.{number_of}
use Rattle.enums.specs.declared.Refusal.{Refusal}
use Rattle.format.specs.Read.{accepted}
use Rattle.format.specs.Tables.{Tables}
use Rattle.format.specs.Decode.{most_bytes}
use Rattle.format.specs.Sheet.{Frame, frame_of, pool_length, sheet_of}
use Rattle.format.specs.Sound.{All, Fits, Sound}
use Rattle.format.specs.Judge.{judged, cutting}
use Rattle.format.specs.Image.{image}
use Rattle.format.specs.Write.{Writing, writes, refuses, most_words, imaged, blank}
use Rattle.format.proofs.LawsFrame.{judged-exact}
use Rattle.format.proofs.LawsPool.{frame-cutting}
use Rattle.format.proofs.LawsSoundItems.{zeros-fit}
use Rattle.format.proofs.LawsImageLength.{image-length}
use Rattle.format.proofs.Sheets.{sheet-judged, judged-pool}
use Rattle.format.proofs.Writes.{imaged-inv, refuses-not-writes}
use Rattle.sheet.specs.Store.{words_in}
use Rattle.judge.specs.Judge.{judged_bytes}
use Rattle.judge.proofs.LawsJudge.{whole_words}
use Rattle.judge.proofs.LawsPlaced.{judged-words}
use Rattle.images.specs.Written.{image_size, length_of}
use Rattle.images.proofs.LawsHanded.{size_same}
use Rattle.images.proofs.LawsJudged.{image-fine}
use Rattle.writer.specs.Written.{writing_alone, Sized, ImagePost}
use Rattle.writer.proofs.LawsWriting.{accepted-not-refused, accepted-same, alone-within}

-- A frame's tables with a pool of zeros.
abbrev zeroed : Frame → Tables
zeroed r = cutting r (replicate (pool_length r) 0)

zeroed-frame : (r : Frame) → frame_of (zeroed r) ≡ r
zeroed-frame r = frame-cutting r (replicate (pool_length r) 0) (length-replicate {A = ℕ} (pool_length r) 0)

-- Well-formed tables are judged by their words.
tables-frame : (s : List ℕ) (t : Tables) → Sound t → words_in s ≡ sheet_of t → judged (words_in s) ≡ some (frame_of t)
unfolding sheet_of
tables-frame s t h e = (judged-exact (words_in s) (frame_of t)).1 (e, subst (All (Fits 64)) (sym e) h.words, h.frame)

-- The sheet of which an image was measured.
sized-frame : (s bs : List ℕ) (r : Frame) → judged_bytes s ≡ some r → imaged (some (zeroed r)) ≡ writes bs → Sized s (length bs)
sized-frame s bs r e q =
    let w = judged-words s r e in
    let z : List ℕ = replicate (pool_length r) 0 in
    let j = (sheet-judged (words_in s) z (zeroed r)).0 (judged-pool (words_in s) z r w (length-replicate {A = ℕ} (pool_length r) 0) (zeros-fit (pool_length r))) in
    let i = imaged-inv (some (zeroed r)) bs q in
    let b : bs ≡ image (zeroed r) = i.whole ∙ ap image (sym (some-injective _ _ i.there)) in
    record {
      tables = zeroed r;
      sound = j.2;
      its_sheet = j.0;
      size =
          λ u h f.
          let k : r ≡ frame_of u = some-injective _ _ (sym w ∙ tables-frame s u h f) in
          ap length b ∙ image-length (zeroed r) u (zeroed-frame r ∙ k);
    }

sized-by : (s bs : List ℕ) → writing_alone s ≡ writes bs → Sized s (length bs)
unfolding writing_alone choose imaged blank
sized-by s bs = go (dec_le (length (words_in s)) most_words)
  where
    found : (o : Option Frame) → judged_bytes s ≡ o → imaged (blank o) ≡ writes bs → Sized s (length bs)
    found none e q = absurd (refuses-not-writes q)
    found (some r) e q = sized-frame s bs r e q

    go : (d : Dec (length (words_in s) ≤ most_words)) → choose d (imaged (blank (judged_bytes s))) (refuses refusals.limit) ≡ writes bs →
        Sized s (length bs)
    go (yes h) q = found (judged_bytes s) refl q
    go (no h) q = absurd (refuses-not-writes q)

length-by : (s : List ℕ) (w : Writing) → writing_alone s ≡ w → (n : ℕ) → length_of w ≡ accepted n → Sized s n
unfolding length_of
length-by s (writes bs) e n q = subst (Sized s) (accepted-same q) (sized-by s bs e)
length-by s (refuses c) e n q = absurd (accepted-not-refused (sym q))

-- Well-formed tables within the limits.
tables-sized : (s : List ℕ) (t : Tables) → Sound t → length s % 8 ≡ 0 → words_in s ≡ sheet_of t → length (sheet_of t) ≤ most_words →
    length (image t) ≤ most_bytes → length_of (writing_alone s) ≡ accepted (length (image t))
unfolding writing_alone length_of blank
tables-sized s t h whole words m k =
    let few : length (words_in s) ≤ most_words = subst (λ l. length l ≤ most_words) (sym words) m in
    let f : judged_bytes s ≡ some (frame_of t) = whole_words s whole ∙ tables-frame s t h words in
    let l : length (image (zeroed (frame_of t))) ≡ length (image t) = image-length (zeroed (frame_of t)) t (zeroed-frame (frame_of t)) in
    let short : length (image (zeroed (frame_of t))) ≤ most_bytes = omega arith in
    ap length_of
    (choose_yes (dec_le (length (words_in s)) most_words) _ _ few ∙ ap (λ o. imaged (blank o)) f ∙ image-fine (zeroed (frame_of t)) short) ∙
    ap accepted l

-- All of the promise.
pub image-post : (s : List ℕ) (r : Result ℕ Refusal) → image_size r ≡ length_of (writing_alone s) → ImagePost s r
image-post s r a =
    record {
      answer = a;
      sound = λ n e. length-by s (writing_alone s) refl n (sym a ∙ e);
      complete = λ t h whole words m k. a ∙ tables-sized s t h whole words m k;
    }

-- A sheet over its limit ..
pub image-refused : (s : List ℕ) (c : Refusal) → writing_alone s ≡ refuses (number_of c) → ImagePost s (Err c)
unfolding length_of
image-refused s c e = image-post s (Err c) (ap length_of (sym e))

-- .. or within.
pub image-within : (s : List ℕ) (r : Result ℕ Refusal) → length s / 8 ≤ most_words → image_size r ≡ length_of (imaged (blank (judged_bytes s))) → ImagePost s r
image-within s r w x = image-post s r (x ∙ ap length_of (sym (alone-within s w)))

-- Any two answers that the contract allows are equal.
pub image-only : {s : List ℕ} {r q : Result ℕ Refusal} → ImagePost s r → ImagePost s q → r ≡ q
image-only {r = r} {q = q} x y = size_same r q (x.answer ∙ sym y.answer)
