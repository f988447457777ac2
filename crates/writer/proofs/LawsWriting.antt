-- What is written of a handed sheet within and over the limits; that `write` keeps its promise, and that this allows one
-- result only. Assumes nothing.
use mathlib.Core.Path.{◌≡◌, refl, sym, ap, ◌∙◌, subst}
use Prim.Native.Nat.{ℕ, ◌+◌, ◌/◌, ◌%◌, ◌≤◌, ◌<◌}
use native.Mathlib.Omega.{arith}
use native.Mathlib.Decide.{dec_le}
use mathlib.Core.List.{List}
use mathlib.Core.Option.{Option, none, some}
use lib.ListN.{length}
use Rattle.exact.specs.Choice.{choose}
use Rattle.exact.proofs.LawsChoice.{choose_yes, choose_no}
use Rattle.encoding.specs.Out.{put}
use Rattle.encoding.proofs.LawsOut.{put_full}
use Rattle.std.proofs.Common.{Result, Err}
use Rattle.enums.specs.Refusals as refusals
use Rattle.enums.specs.Numbered.{number_of}
use Rattle.enums.specs.declared.Refusal.{Refusal}
use Rattle.format.specs.Read.{Read, accepted, refused}
use Rattle.format.specs.Tables.{Tables}
use Rattle.format.specs.Decode.{most_bytes, decode}
use Rattle.format.specs.Sheet.{Frame, sheet_of, pool_of}
use Rattle.format.specs.Sound.{Sound}
use Rattle.format.specs.Judge.{judged, with_pool, tables_of}
use Rattle.format.specs.Image.{image}
use Rattle.format.specs.Write.{Writing, writes, refuses, most_words, imaged, written, blank}
use Rattle.format.proofs.Images.{image-explained, image-one}
use Rattle.format.proofs.Writes.{written-sound, written-complete, refuses-not-writes}
use Rattle.sheet.specs.Store.{words_in}
use Rattle.sheet.proofs.LawsWords.{length-words_in}
use Rattle.judge.specs.Judge.{judged_bytes}
use Rattle.judge.proofs.LawsJudge.{whole_words}
use Rattle.judge.proofs.LawsPlaced.{judged-words}
use Rattle.images.specs.Written.{not_written, image_size, in_room, with_image}
use Rattle.images.proofs.LawsHanded.{size_same}
use Rattle.writer.specs.Written.{writing, writing_alone, Kept, WritePost}

module _ (s pool : List ℕ) where
  -- Too many words ..
  pub writing-words : most_words < length s / 8 → writing s pool ≡ refuses refusals.limit
  unfolding writing
  writing-words h = choose_no (dec_le (length (words_in s)) most_words) _ _ (omega (arith, length-words_in s))

  -- .. too many bytes ..
  pub writing-bytes : length s / 8 ≤ most_words → most_bytes < length pool → writing s pool ≡ refuses refusals.limit
  unfolding writing
  writing-bytes w h =
      choose_yes (dec_le (length (words_in s)) most_words) _ _ (omega (arith, length-words_in s)) ∙
      choose_no (dec_le (length pool) most_bytes) _ _ (omega arith)

  -- .. or neither.
  pub writing-within : length s / 8 ≤ most_words → length pool ≤ most_bytes → writing s pool ≡ imaged (with_pool pool (judged_bytes s))
  unfolding writing
  writing-within w h =
      choose_yes (dec_le (length (words_in s)) most_words) _ _ (omega (arith, length-words_in s)) ∙
      choose_yes (dec_le (length pool) most_bytes) _ _ h

-- The same of a sheet alone.
pub alone-words : (s : List ℕ) → most_words < length s / 8 → writing_alone s ≡ refuses refusals.limit
unfolding writing_alone
alone-words s h = choose_no (dec_le (length (words_in s)) most_words) _ _ (omega (arith, length-words_in s))

pub alone-within : (s : List ℕ) → length s / 8 ≤ most_words → writing_alone s ≡ imaged (blank (judged_bytes s))
unfolding writing_alone
alone-within s h = choose_yes (dec_le (length (words_in s)) most_words) _ _ (omega (arith, length-words_in s))

pub accepted-not-refused : {n c k i : ℕ} → ◌≡◌ {A = Read ℕ} (accepted n) (refused c k i) → ⊥
accepted-not-refused e = let z : ◌≡◌ {A = ℕ} 0 1 = cc in omega arith

pub accepted-same : {n m : ℕ} → ◌≡◌ {A = Read ℕ} (accepted n) (accepted m) → n ≡ m
accepted-same e = cc

-- What is written is written of the words.
writing-written : (s pool bs : List ℕ) → writing s pool ≡ writes bs → written (words_in s) pool ≡ writes bs
unfolding writing written tables_of choose imaged with_pool
writing-written s pool bs = go (dec_le (length (words_in s)) most_words) (dec_le (length pool) most_bytes)
  where
    same : (o : Option Frame) → judged_bytes s ≡ o → imaged (with_pool pool (judged_bytes s)) ≡ writes bs →
        imaged (with_pool pool (judged (words_in s))) ≡ writes bs
    same none e q = absurd (refuses-not-writes (sym (ap (λ o. imaged (with_pool pool o)) e) ∙ q))
    same (some r) e q = ap (λ o. imaged (with_pool pool o)) (judged-words s r e ∙ sym e) ∙ q

    go : (a : Dec (length (words_in s) ≤ most_words)) (b : Dec (length pool ≤ most_bytes)) →
        choose a (choose b (imaged (with_pool pool (judged_bytes s))) (refuses refusals.limit)) (refuses refusals.limit) ≡ writes bs →
        choose a (choose b (imaged (with_pool pool (judged (words_in s)))) (refuses refusals.limit)) (refuses refusals.limit) ≡ writes bs
    go (yes a) (yes b) q = same (judged_bytes s) refl q
    go (yes a) (no b) q = absurd (refuses-not-writes q)
    go (no a) b q = absurd (refuses-not-writes q)

module _ (s pool out out' : List ℕ) (r : Result ℕ Refusal) (a : image_size r ≡ in_room (length out) (writing s pool)) (o : out' ≡ with_image out (writing s pool)) where
  unchanged-by : (w : Writing) → writing s pool ≡ w → (c n i : ℕ) → image_size r ≡ refused c n i → out' ≡ out
  unfolding in_room with_image choose
  unchanged-by (writes bs) e c n i h = go (dec_le (length bs) (length out)) (sym (a ∙ ap (in_room (length out)) e) ∙ h)
    where
      go : (d : Dec (length bs ≤ length out)) → choose d (accepted (length bs)) (not_written refusals.full) ≡ refused c n i → out' ≡ out
      go (yes l) q = absurd (accepted-not-refused q)
      go (no l) q =
          let k : length out < 0 + length bs = omega arith in
          o ∙ ap (with_image out) e ∙ put_full out 0 bs k
  unchanged-by (refuses m) e c n i h = o ∙ ap (with_image out) e

  kept_by : (w : Writing) → writing s pool ≡ w → (n : ℕ) → image_size r ≡ accepted n → Kept s pool out out' n
  unfolding in_room with_image choose
  kept_by (writes bs) e n h = go (dec_le (length bs) (length out)) (sym (a ∙ ap (in_room (length out)) e) ∙ h)
    where
      go : (d : Dec (length bs ≤ length out)) → choose d (accepted (length bs)) (not_written refusals.full) ≡ accepted n → Kept s pool out out' n
      go (yes l) q =
          let x = written-sound (words_in s) pool bs (writing-written s pool bs e) in
          let t = x.tables in
          let short : length (image t) ≤ most_bytes = subst (λ l. length l ≤ most_bytes) x.whole x.fits in
          record {
            tables = t;
            sound = x.sound;
            its_sheet = x.its_sheet;
            its_pool = x.its_pool;
            size = sym (accepted-same q) ∙ ap length x.whole;
            output = o ∙ ap (with_image out) e ∙ ap (put out 0) x.whole;
            explained = image-explained t x.sound short;
            read_back = ap decode (sym x.whole) ∙ x.read_back;
            alone = λ u v q. image-one t u x.sound v short q;
          }
      go (no l) q = absurd (accepted-not-refused (sym q))
  kept_by (refuses m) e n h = absurd (accepted-not-refused (sym (sym (a ∙ ap (in_room (length out)) e) ∙ h)))

  -- Well-formed tables within the limits.
  tables-written : (t : Tables) → Sound t → length s % 8 ≡ 0 → words_in s ≡ sheet_of t → pool ≡ pool_of t → length (sheet_of t) ≤ most_words →
      length (pool_of t) ≤ most_bytes → length (image t) ≤ most_bytes → writing s pool ≡ writes (image t)
  unfolding writing written tables_of
  tables-written t h whole words bytes m n k =
      let same : writing s pool ≡ written (words_in s) pool =
      ap
      (λ f. choose (dec_le (length (words_in s)) most_words)
      (choose (dec_le (length pool) most_bytes) (imaged (with_pool pool f)) (refuses refusals.limit)) (refuses refusals.limit))
      (whole_words s whole) in
      same ∙ ap (λ w. written w pool) words ∙ ap (written (sheet_of t)) bytes ∙ written-complete t h m n k

  -- All of the promise.
  pub write-post : WritePost s pool out out' r
  unfolding in_room
  write-post =
      record {
        answer = a;
        output = o;
        unchanged = unchanged-by (writing s pool) refl;
        written = kept_by (writing s pool) refl;
        complete = λ t h whole words bytes m n k l.
            a ∙ ap (in_room (length out)) (tables-written t h whole words bytes m n k) ∙
            choose_yes (dec_le (length (image t)) (length out)) _ _ l;
      }

-- A sheet or a pool over its limit ..
pub write-refused : (s pool out : List ℕ) (c : Refusal) → writing s pool ≡ refuses (number_of c) → WritePost s pool out out (Err c)
unfolding in_room with_image
write-refused s pool out c e =
    write-post s pool out out (Err c) (ap (in_room (length out)) (sym e)) (ap (with_image out) (sym e))

-- .. or both within.
pub write-within : (s pool out out' : List ℕ) (r : Result ℕ Refusal) → length s / 8 ≤ most_words → length pool ≤ most_bytes →
    image_size r ≡ in_room (length out) (imaged (with_pool pool (judged_bytes s))) → out' ≡ with_image out (imaged (with_pool pool (judged_bytes s))) →
    WritePost s pool out out' r
write-within s pool out out' r w b x y =
    let e = writing-within s pool w b in
    write-post s pool out out' r (x ∙ ap (in_room (length out)) (sym e)) (y ∙ ap (with_image out) (sym e))

-- Any two results that the contract allows are equal.
pub write-only : {s pool out out' out'' : List ℕ} {r q : Result ℕ Refusal} → WritePost s pool out out' r → WritePost s pool out out'' q →
    (r ≡ q) × (out' ≡ out'')
write-only {r = r} {q = q} x y = (size_same r q (x.answer ∙ sym y.answer), x.output ∙ sym y.output)
