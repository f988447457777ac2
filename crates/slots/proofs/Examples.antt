-- A history of a cache of 2 slots of 40 bytes, computed: two instances put the whole case of document 01, a third finds no slot, and the
-- first drops its file and fetches in vain. What the calls answer, and what they leave. Assumes nothing.
use mathlib.Core.Path.{◌≡◌, refl, ap, ap₂, ◌∙◌, subst}
use Prim.Native.Nat.{ℕ, ◌^◌, ◌<◌}
use native.Mathlib.Omega.{arith}
use native.Mathlib.Decide.{dec_le, ℕ_discrete}
use mathlib.Core.Option.{some}
use mathlib.Core.List.{List, [], ◌∷◌, ◌++◌, map}
use lib.ListN.{length, get_or, replicate}
use Rattle.exact.specs.Choice.{choose}
use Rattle.exact.specs.Fixed.{little, bytes_of, nums}
use Rattle.encoding.specs.Out.{put}
use Rattle.sheet.specs.Store.{words_in, put_word, put_words}
use Rattle.format.specs.Read.{accepted, refused}
use Rattle.format.specs.Decode.{decode}
use Rattle.format.specs.Views.{and_then}
use Rattle.format.proofs.ExampleFiles.{tables_with, abc, whole_case}
use Rattle.format.proofs.Examples.{examples-answered}
use Rattle.slots.specs.Cache.{
  Slot,
  free,
  one_up,
  lowest,
  or_else,
  or_refused,
  put_in,
  drop_in,
  fetch_in,
  anew,
  put_after,
  drop_after,
}
use Rattle.slots.specs.Lent.{Lent, slot_size}
use Rattle.slots.specs.Meaning.{cache_of, of_cache, stored, afterwards}
use Rattle.slots.specs.History.{
  Call,
  putting,
  fetching,
  dropping,
  caller,
  Answer,
  slot,
  place,
  answer,
  after,
  run,
  Said,
  told,
  Numbered,
}
use Rattle.slots.proofs.LawsMeaning.{put-means, drop-means}
use Rattle.slots.proofs.Empty.{zero-empty}

-- What is lent, and the slots that it stands for.
record Moment : Type 0 where
  lent : Lent
  slots : List Slot

-- What a call answers by the slots ..
abbrev answer_by : ℕ → Moment → Call → Answer
answer_by n m (putting i file) = slot (put_in (slot_size n m.lent.buffer) i file m.slots)
answer_by n m (fetching i k) = place (fetch_in i k m.slots)
answer_by n m (dropping i) = slot (drop_in i m.slots)

-- .. and what it leaves.
abbrev after_by : ℕ → Moment → Call → Moment
after_by n m (putting i file) =
    let z = slot_size n m.lent.buffer in
    record {
      lent = afterwards (stored n file (1 ∷ i ∷ length file ∷ []) m.lent) m.lent (put_in z i file m.slots);
      slots = put_after z i file m.slots;
    }
after_by n m (fetching i k) = m
after_by n m (dropping i) =
    record {
      lent = afterwards (stored n [] (0 ∷ 0 ∷ 0 ∷ []) m.lent) m.lent (drop_in i m.slots);
      slots = drop_after i m.slots;
    }

-- The calls of a history so.
abbrev run_by : ℕ → Moment → List Call → Moment
run_by n m [] = m
run_by n m (x ∷ h) = run_by n (after_by n m x) h

abbrev told_by : ℕ → Moment → List Call → List Said
told_by n m [] = []
told_by n m (x ∷ h) = record { call = x; answered = answer_by n m x } ∷ told_by n (after_by n m x) h

module _ (n : ℕ) where
  abbrev Stands : Moment → Type 0
  Stands m = cache_of n m.lent ≡ some m.slots

  -- Where the bytes stand for the slots, a call does just that ..
  answer-by : (m : Moment) (x : Call) → Stands m → (answer n m.lent x ≡ answer_by n m x) × (after n m.lent x ≡ (after_by n m x).lent)
  unfolding of_cache
  answer-by m (putting i file) e = (rw e, rw e)
  answer-by m (fetching i k) e = (rw e, refl)
  answer-by m (dropping i) e = (rw e, rw e)

  means-by : (m : Moment) (x : Call) → caller x < 2 ^ 64 → Stands m → cache_of n (after n m.lent x) ≡ some (after_by n m x).slots
  means-by m (putting i file) b e = put-means n i file m.lent m.slots b e
  means-by m (fetching i k) b e = e
  means-by m (dropping i) b e = drop-means n i m.lent m.slots e

  stands_by : (m : Moment) (x : Call) → caller x < 2 ^ 64 → Stands m → Stands (after_by n m x)
  stands_by m x b e = subst (λ s. cache_of n s ≡ some (after_by n m x).slots) (answer-by m x e).1 (means-by m x b e)

  -- .. and so do those of a history.
  history-by : (m : Moment) (h : List Call) → Numbered h → Stands m →
      (told n m.lent h ≡ told_by n m h) × (run n m.lent h ≡ (run_by n m h).lent)
  unfolding told run
  history-by m [] b e = (refl, refl)
  history-by m (x ∷ h) b e =
      let (a, l) = answer-by m x e in
      let (t, r) = history-by (after_by n m x) h b.1 (stands_by m x b.0 e) in
      (ap₂ (λ v w. record { call = x; answered = v } ∷ w) a (ap (λ s. told n s h) l ∙ t), ap (λ s. run n s h) l ∙ r)

-- Two free slots of 40 bytes: zeros are lent.
abbrev pub zeros : Lent
zeros = record { buffer = replicate 80 0; owners = replicate 48 0 }

abbrev start : Moment
start = record { lent = zeros; slots = free ∷ free ∷ [] }

-- Three instances put the same file, which passes ..
abbrev pub puts : List Call
puts = putting 0 whole_case ∷ putting 0xFFFFFFFFFFFFFFFF whole_case ∷ putting 1 whole_case ∷ []

passes : decode whole_case ≡ accepted (tables_with 13 1 abc [])
passes = ap (λ l. get_or l 0 (refused 0 0 0)) examples-answered.0

-- .. and the first of them drops it, and fetches.
abbrev pub history : List Call
history = puts ++ (dropping 0 ∷ fetching 0 0 ∷ [])

-- The first two are answered a slot each, the third "no slot" (18), the drop its slot and the fetch 14. The owner table's words after the
-- puts, and in the end; and the buffer in the end.
pub history-computed :
    (map (λ x. x.answered) (told 2 zeros history) ≡
    slot (accepted 0) ∷ slot (accepted 1) ∷ slot (refused 18 10 0) ∷ slot (accepted 0) ∷ place (refused 14 10 0) ∷ []) ×
    (words_in (run 2 zeros puts).owners ≡ 1 ∷ 0 ∷ 32 ∷ 1 ∷ 0xFFFFFFFFFFFFFFFF ∷ 32 ∷ []) ×
    (words_in (run 2 zeros history).owners ≡ 0 ∷ 0 ∷ 0 ∷ 1 ∷ 0xFFFFFFFFFFFFFFFF ∷ 32 ∷ []) ×
    ((run 2 zeros history).buffer ≡ replicate 40 0 ++ (whole_case ++ replicate 8 0))
unfolding dec_le ℕ_discrete choose little bytes_of nums put words_in put_word put_words and_then
    lowest one_up or_else or_refused put_in drop_in fetch_in anew stored afterwards
history-computed =
    let e = zero-empty 2 40 (omega arith) in
    let (_, p) = history-by 2 start puts (omega arith, (omega arith, (omega arith, tt))) e in
    let (t, q) = history-by 2 start history (omega arith, (omega arith, (omega arith, (omega arith, (omega arith, tt))))) e in (
      ap (map (λ x. x.answered)) t ∙ rw passes,
      ap (λ s. words_in s.owners) p ∙ rw passes,
      ap (λ s. words_in s.owners) q ∙ rw passes,
      ap (λ s. s.buffer) q ∙ rw passes,
    )
