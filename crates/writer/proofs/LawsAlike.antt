-- When `image` and `write` answer alike. `write` is lent a pool and an output that `image` does not see. Assumes nothing.
use mathlib.Core.Path.{◌≡◌, refl, sym, ap, ◌∙◌}
use Prim.Native.Nat.{ℕ, ◌≤◌, ◌<◌}
use native.Mathlib.Omega.{arith}
use native.Mathlib.Decide.{ℕ_discrete, dec_le}
use mathlib.Core.List.{List}
use mathlib.Core.Option.{Option, none, some}
use lib.ListN.{length, get_or, replicate, length-replicate}
use Rattle.exact.specs.Choice.{choose}
use Rattle.exact.proofs.LawsChoice.{choose_yes, choose_no}
use Rattle.std.proofs.Common.{Result}
use Rattle.enums.specs.Refusals as refusals
use Rattle.enums.specs.declared.Refusal.{Refusal}
use Rattle.format.specs.Read.{Read, accepted, refused}
use Rattle.format.specs.Decode.{most_bytes}
use Rattle.format.specs.Sheet.{Frame, pool_length, words_of}
use Rattle.format.specs.Sound.{All, Fits}
use Rattle.format.specs.Judge.{cutting, with_pool}
use Rattle.format.specs.Tests.{both?, all?, fits?}
use Rattle.format.specs.Write.{Writing, refuses, most_words, imaged, blank}
use Rattle.format.proofs.LawsPool.{frame-cutting}
use Rattle.format.proofs.Writes.{Alike, as_long, refused_too, imaged-alike}
use Rattle.sheet.specs.Store.{words_in}
use Rattle.judge.specs.Judge.{judged_bytes}
use Rattle.judge.proofs.LawsPlaced.{judged-holds}
use Rattle.images.specs.Written.{not_written, image_size, length_of, in_room}
use Rattle.images.proofs.LawsHanded.{size_same}
use Rattle.writer.specs.Written.{writing, writing_alone, WritePost, ImagePost}

-- Word 4 of a well-formed sheet is its pool's length.
word-four : (s : List ℕ) (r : Frame) → judged_bytes s ≡ some r → get_or (words_in s) 4 0 ≡ pool_length r
unfolding words_of
word-four s r e = ap (λ ws. get_or ws 4 0) (judged-holds s r e).words

module _ (s pool : List ℕ) where
  -- With the pool of that length.
  frames-alike : All (Fits 8) pool → length pool ≡ get_or (words_in s) 4 0 → (o : Option Frame) → judged_bytes s ≡ o →
      Alike (imaged (with_pool pool o)) (imaged (blank o))
  unfolding imaged with_pool blank
  frames-alike b n none e = refused_too
  frames-alike b n (some r) e =
      let l : length pool ≡ pool_length r = n ∙ word-four s r e in
      let z : List ℕ = replicate (pool_length r) 0 in
      rw (choose_yes (both? (ℕ_discrete (length pool) (pool_length r)) (all? (fits? 8) pool)) (some (cutting r pool)) none (l, b))
      (imaged-alike (cutting r pool) (cutting r z)
      (frame-cutting r pool l ∙ sym (frame-cutting r z (length-replicate {A = ℕ} (pool_length r) 0))))

  writings-alike : All (Fits 8) pool → length pool ≡ get_or (words_in s) 4 0 → length pool ≤ most_bytes → Alike (writing s pool) (writing_alone s)
  unfolding writing writing_alone choose
  writings-alike b n m = go (dec_le (length (words_in s)) most_words)
    where
      go : (d : Dec (length (words_in s) ≤ most_words)) →
          Alike
          (choose d (choose (dec_le (length pool) most_bytes) (imaged (with_pool pool (judged_bytes s))) (refuses refusals.limit)) (refuses refusals.limit))
          (choose d (imaged (blank (judged_bytes s))) (refuses refusals.limit))
      go (yes d) =
          rw (choose_yes (dec_le (length pool) most_bytes) (imaged (with_pool pool (judged_bytes s))) (refuses refusals.limit) m)
          (frames-alike b n (judged_bytes s) refl)
      go (no d) = refused_too

  -- With another.
  other-unsound : length (words_in s) ≤ most_words → length pool ≤ most_bytes → ¬ (length pool ≡ get_or (words_in s) 4 0) →
      writing s pool ≡ refuses refusals.unsound
  unfolding writing imaged with_pool
  other-unsound w m n =
      choose_yes (dec_le (length (words_in s)) most_words) _ _ w ∙ choose_yes (dec_le (length pool) most_bytes) _ _ m ∙ go (judged_bytes s) refl
    where
      go : (o : Option Frame) → judged_bytes s ≡ o → imaged (with_pool pool o) ≡ refuses refusals.unsound
      go none e = refl
      go (some r) e =
          ap imaged
          (choose_no (both? (ℕ_discrete (length pool) (pool_length r)) (all? (fits? 8) pool)) (some (cutting r pool)) none
          (λ q. n (q.0 ∙ sym (word-four s r e))))

  long-limit : most_bytes < length pool → writing s pool ≡ refuses refusals.limit
  unfolding writing choose
  long-limit h = go (dec_le (length (words_in s)) most_words)
    where
      go : (d : Dec (length (words_in s) ≤ most_words)) →
          choose d (choose (dec_le (length pool) most_bytes) (imaged (with_pool pool (judged_bytes s))) (refuses refusals.limit)) (refuses refusals.limit) ≡
          refuses refusals.limit
      go (yes d) = choose_no (dec_le (length pool) most_bytes) _ _ (omega arith)
      go (no d) = refl

-- What an output of so many bytes makes of the answer of `image`: 11 where it is smaller.
unfoldable pub held : ℕ → Read ℕ → Read ℕ
held n (accepted m) = choose (dec_le m n) (accepted m) (not_written refusals.full)
held n (refused c k i) = refused c k i

held-alike : (n : ℕ) (v w : Writing) → Alike v w → in_room n v ≡ held n (length_of w)
unfolding in_room length_of held
held-alike n v w (as_long {bs} {cs} e) = ap (λ (m : ℕ). choose (dec_le m n) (accepted m) (not_written refusals.full)) e
held-alike n v w refused_too = refl

held-room : (n : ℕ) (x : Read ℕ) → ((m : ℕ) → x ≡ accepted m → m ≤ n) → held n x ≡ x
unfolding held
held-room n (accepted m) h = choose_yes (dec_le m n) _ _ (h m refl)
held-room n (refused c k i) h = refl

module _ {s pool out out' : List ℕ} {i w : Result ℕ Refusal} (x : ImagePost s i) (y : WritePost s pool out out' w) where
  -- Lent the pool of the length of word 4, within its limit, `write` answers as `image` does, but 11 where the output is
  -- smaller ..
  pub write-as-image : All (Fits 8) pool → length pool ≡ get_or (words_in s) 4 0 → length pool ≤ most_bytes →
      image_size w ≡ held (length out) (image_size i)
  write-as-image b n m =
      y.answer ∙ held-alike (length out) (writing s pool) (writing_alone s) (writings-alike s pool b n m) ∙
      ap (held (length out)) (sym x.answer)

  -- .. so that with room for the image the two answers are the same.
  pub image-write-same : All (Fits 8) pool → length pool ≡ get_or (words_in s) 4 0 → length pool ≤ most_bytes →
      ((n : ℕ) → image_size i ≡ accepted n → n ≤ length out) → w ≡ i
  image-write-same b n m h = size_same w i (write-as-image b n m ∙ held-room (length out) (image_size i) h)

-- Lent a pool of another length, `write` is 12, for a sheet and a pool within their limits ..
pub write-other-pool : {s pool out out' : List ℕ} {w : Result ℕ Refusal} → WritePost s pool out out' w → length (words_in s) ≤ most_words →
    length pool ≤ most_bytes → ¬ (length pool ≡ get_or (words_in s) 4 0) → image_size w ≡ not_written refusals.unsound
unfolding in_room
write-other-pool {s} {pool} {out} y a b n = y.answer ∙ ap (in_room (length out)) (other-unsound s pool a b n)

-- .. and lent one over its limit, 1.
pub write-long-pool : {s pool out out' : List ℕ} {w : Result ℕ Refusal} → WritePost s pool out out' w → most_bytes < length pool →
    image_size w ≡ not_written refusals.limit
unfolding in_room
write-long-pool {s} {pool} {out} y h = y.answer ∙ ap (in_room (length out)) (long-limit s pool h)
