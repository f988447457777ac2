-- Numbers taken for short ones: how a loop over them follows the model, and that they are the varints that stand there,
-- where none is longer and the last ends in time; and so is an attribute of such numbers. Assumes nothing.
use mathlib.Core.Path.{◌≡◌, refl, sym, ap, ap₂, ◌∙◌, subst}
use Prim.Native.Nat.{ℕ, zero, suc, ◌+◌, ◌*◌, ◌-◌, ◌/◌, ◌%◌, ◌≤◌, ◌<◌}
use native.Mathlib.Nat.{add-zero, zero-add}
use native.Mathlib.Omega.{arith}
use native.Mathlib.Decide.{dec_lt}
use mathlib.Core.List.{List, [], ◌∷◌, ◌++◌, append-nil, append_assoc}
use lib.ListN.{length, get_or, take, drop, set, replicate, length-set}
use lib.Seq.{drop-cons, get_or-take, get_or-drop, take-add, take_all, take-set-le, get_or-set_same}
use Rattle.exact.specs.Got.{Got, got, follow}
use Rattle.exact.specs.Basic.{byte, pure}
use Rattle.exact.specs.Sequence.{bind, mapped}
use Rattle.exact.specs.Repeat.{times}
use Rattle.exact.proofs.LawsSteps.{byte_at}
use Rattle.enums.specs.Debug.{field_counts}
use Rattle.enums.proofs.LawsDebug.{counts-few}
use Rattle.reading.specs.Numbers.{varint_at}
use Rattle.format.specs.Debug.{attribute_of}
use Rattle.format.specs.Sheet.{attribute_words}
use Rattle.sheet.specs.Store.{put_words}
use Rattle.entries.proofs.LawsEntries.{part_length}
use Rattle.payloads.specs.Indices.{Spans}
use Rattle.payloads.specs.Shorts.{high_at, shorts}
use Rattle.payloads.specs.declared.debug.Shorts.{Shorts}
use Rattle.payloads.specs.TypeRows.{Row}
use Rattle.std.specs.Prelude.{Result, Ok}
use Rattle.reading.specs.declared.Refused.{Refused}
use Rattle.payloads.specs.declared.fields.Spot.{Spot}
use Rattle.payloads.proofs.LawsEntryRows.{row-got}
use Rattle.payloads.proofs.LawsIndices.{spans-one, spans-two}
use Rattle.payloads.proofs.LawsFields.{times-length}
use Rattle.payloads.proofs.LawsDebug.{words-of, one-got}
use Rattle.payloads.specs.DebugRows.{attribute_row}

-- What a second byte counts is little.
pub high_small : (d : List ℕ) (i : ℕ) → get_or d i 0 < 256 → get_or d (i + 1) 0 < 256 → (128 * (get_or d i 0 / 128) < 256) × (high_at d i < 32768)
high_small d i a b =
    elim (dec_lt (get_or d i 0) 128) [
      | yes h ↦ let e : get_or d i 0 / 128 ≡ 0 = omega arith in rw e (omega arith, omega arith)
      | no h ↦ let e : get_or d i 0 / 128 ≡ 1 = omega arith in rw e (omega arith, omega (arith, b))
    ]

-- The words so far, one more.
take-set : (ws : List ℕ) (k v : ℕ) → k < length ws → take (k + 1) (set ws k v) ≡ take k ws ++ (v ∷ [])
take-set ws k v h =
    let n : k < length (set ws k v) = omega (arith, length-set ws k v) in
    take-add k 1 (set ws k v) ∙
    ap₂ (λ a b. a ++ take 1 b) (take-set-le k ws k v (omega arith))
    (drop-cons (set ws k v) k 0 n ∙ ap (λ x. x ∷ drop (suc k) (set ws k v)) (get_or-set_same ws k v 0 h))

-- What is left of n numbers in six words after k of them, from place i on.
abbrev rest : List ℕ → ℕ → ℕ → ℕ → Shorts
rest d n k i = shorts d i (n - k) (6 - k)

-- A loop over them that began at `from`: what it has found and what is left make up the whole.
pub record Going (d : List ℕ) (n from i long : ℕ) (ws : List ℕ) (k : ℕ) : Type 0 where
  pub turns : k ≤ 6
  pub near : i ≤ from + 2 * k
  pub few : long ≤ k
  pub size : length ws ≡ 6
  pub end : (rest d n k i).end ≡ (shorts d from n 6).end
  pub longer : long + (rest d n k i).long ≡ (shorts d from n 6).long
  pub words : take k ws ++ (rest d n k i).words ≡ (shorts d from n 6).words

module _ (d : List ℕ) (n from : ℕ) where
  pub going-begun : (ws : List ℕ) → length ws ≡ 6 → Going d n from from 0 ws 0
  going-begun ws h =
      let a : n - 0 ≡ n = omega arith in
      record {
        turns = omega arith;
        near = omega arith;
        few = omega arith;
        size = h;
        end = rw a refl;
        longer = rw (a, zero-add) refl;
        words = rw a refl;
      }

  module _ (i long : ℕ) (ws : List ℕ) (k : ℕ) (g : Going d n from i long ws k) where
    pub going-over : 6 ≤ k → record { end = i; long = long; words = ws } ≡ shorts d from n 6
    unfolding shorts
    going-over h =
        let a : 6 - k ≡ 0 = omega arith in
        let r : Shorts = shorts d from n 6 in
        let x : i ≡ r.end = rw a at g.end in
        let y : long ≡ r.long = sym (add-zero long) ∙ (rw a at g.longer) in
        let z : ws ≡ r.words = sym (take_all k ws (omega (arith, g.size))) ∙ sym (append-nil (take k ws)) ∙ (rw a at g.words) in
        ap (λ x. record { end = x; long = long; words = ws }) x ∙ ap (λ x. record { end = r.end; long = x; words = ws }) y ∙
        ap (λ x. record { end = r.end; long = r.long; words = x }) z

    -- One turn more, which puts v, counts l, and goes on at j.
    going_on : (v l j : ℕ) → k < 6 → j ≤ i + 2 → l ≤ 1 →
        rest d n k i ≡ record { end = (rest d n (k + 1) j).end; long = l + (rest d n (k + 1) j).long; words = v ∷ (rest d n (k + 1) j).words } →
        Going d n from j (long + l) (set ws k v) (k + 1)
    going_on v l j h near few t =
        record {
          turns = omega arith;
          near = omega (arith, g.near, near);
          few = omega (arith, g.few, few);
          size = length-set ws k v ∙ g.size;
          end = ap (λ s. s.end) (sym t) ∙ g.end;
          longer = omega (arith, g.longer, ap (λ s. s.long) t);
          words = ap (λ s. s ++ (rest d n (k + 1) j).words) (take-set ws k v (omega (arith, g.size))) ∙
              append_assoc (take k ws) (v ∷ []) (rest d n (k + 1) j).words ∙ ap (λ s. take k ws ++ s.words) (sym t) ∙ g.words;
        }

    module _ (i' long' v : ℕ) (more : k < 6) where
      -- It is the turn of a number ..
      pub going_more : get_or d i 0 < 256 → get_or d (i + 1) 0 < 256 → k < n → i' ≡ i + (1 + get_or d i 0 / 128) →
          long' ≡ long + high_at d i / 16384 → v ≡ get_or d i 0 % 128 + high_at d i → Going d n from i' long' (set ws k v) (k + 1)
      unfolding shorts
      going_more p q h e f u =
          let a : n - k ≡ suc (n - (k + 1)) = omega arith in
          let b : 6 - k ≡ suc (6 - (k + 1)) = omega arith in
          rw (e, f, u)
          (going_on _ _ _ more (omega (arith, p)) (omega (arith, (high_small d i p q).1)) (ap₂ (shorts d i) a b))

      -- .. or all were read.
      pub going-past : n ≤ k → i' ≡ i → long' ≡ long → v ≡ 0 → Going d n from i' long' (set ws k v) (k + 1)
      unfolding shorts
      going-past h e f u =
          let a : n - k ≡ 0 = omega arith in
          let b : 6 - k ≡ suc (6 - (k + 1)) = omega arith in
          let c : n - (k + 1) ≡ 0 = omega arith in
          rw (e, f ∙ sym (add-zero long), u)
          (going_on 0 0 i more (omega arith) (omega arith) (rw (c, zero-add) (ap₂ (shorts d i) a b)))

-- What such numbers are.
module _ (d : List ℕ) where
  -- Numbers end behind where they begin.
  shorts-on : (n m i : ℕ) → i ≤ (shorts d i n m).end
  unfolding shorts
  shorts-on n zero i = omega arith
  shorts-on zero (suc m) i = shorts-on zero m i
  shorts-on (suc n) (suc m) i = omega (arith, shorts-on n m (i + (1 + get_or d i 0 / 128)))

  -- There are as many words as were asked for ..
  words_size : (n m i : ℕ) → length (shorts d i n m).words ≡ m
  unfolding shorts
  words_size n zero i = refl
  words_size zero (suc m) i = ap suc (words_size zero m i)
  words_size (suc n) (suc m) i = ap suc (words_size n m (i + (1 + get_or d i 0 / 128)))

  -- .. which are 0 without numbers.
  no_words : (m i : ℕ) → (shorts d i zero m).words ≡ replicate m 0
  unfolding shorts
  no_words zero i = refl
  no_words (suc m) i = ap (λ x. 0 ∷ x) (no_words m i)

-- The numbers in the entry from s to z of the data.
module _ (d : List ℕ) (s z : ℕ) (inside : z ≤ length d) (bytes : (i : ℕ) → get_or d i 0 < 256) where
  abbrev entry_in : List ℕ
  entry_in = take (z - s) (drop s d)

  in_entry : (i : ℕ) → s ≤ i → i < z → get_or entry_in (i - s) 0 ≡ get_or d i 0
  in_entry i p q =
      let e : s + (i - s) ≡ i = omega arith in
      get_or-take (z - s) (drop s d) (i - s) 0 (omega arith) ∙ get_or-drop s d (i - s) 0 ∙ ap (λ i. get_or d i 0) e

  -- A number that is not longer, and ends in time.
  short-read : (i : ℕ) → s ≤ i → i + (1 + get_or d i 0 / 128) ≤ z → high_at d i / 16384 ≡ 0 →
      varint_at entry_in (i - s) ≡ got (get_or d i 0 % 128 + high_at d i) (i + (1 + get_or d i 0 / 128) - s)
  short-read i p q h =
      let n = part_length s z d (omega arith) inside in
      let a : get_or entry_in (i - s) 0 ≡ get_or d i 0 = in_entry i p (omega arith) in
      elim (dec_lt (get_or d i 0) 128) [
        | yes b ↦
            let t : get_or d i 0 / 128 ≡ 0 = omega arith in
            let l : i - s + 1 - 1 ≡ i - s = omega arith in
            let x : Spans 1 entry_in (i - s) =
            record { some = omega arith; few = omega arith; inside = omega (arith, n, q, t); last = rw (l, a) t; more = λ y. let w : ⊥ = omega arith in absurd w } in
            let v : get_or entry_in (i - s) 0 ≡ get_or d i 0 % 128 + high_at d i = rw t (omega (arith, a)) in
            spans-one 1 entry_in (i - s) x refl ∙ ap₂ got v (omega (arith, t))
        | no b ↦
            let t : get_or d i 0 / 128 ≡ 1 = omega (arith, bytes i) in
            let c : get_or entry_in (i - s + 1) 0 ≡ get_or d (i + 1) 0 = let e : i - s + 1 ≡ i + 1 - s = omega arith in rw e (in_entry (i + 1) (omega arith) (omega (arith, q, t))) in
            let u : get_or d (i + 1) 0 < 128 = let k = rw t at h in omega (arith, k) in
            let l : i - s + 2 - 1 ≡ i - s + 1 = omega arith in
            let x : Spans 2 entry_in (i - s) =
            record { some = omega arith; few = omega arith; inside = omega (arith, n, q, t); last = rw (l, c) (omega (arith, u)); more = λ y. rw a t } in
            let v : get_or entry_in (i - s) 0 % 128 + 128 * get_or entry_in (i - s + 1) 0 ≡ get_or d i 0 % 128 + high_at d i = rw (a, c, t) (omega arith) in
            spans-two 2 entry_in (i - s) x (λ e. let w : ⊥ = omega arith in absurd w) ∙ ap₂ got v (omega (arith, t))
      ]

  -- All of them are read; the other words are 0.
  shorts-read : (n m i : ℕ) → n ≤ m → s ≤ i → (shorts d i n m).end ≤ z → (shorts d i n m).long ≡ 0 →
      (vs : List ℕ) × (j : ℕ) × (times n varint_at entry_in (i - s) ≡ got vs j) × ((shorts d i n m).words ≡ vs ++ replicate (m - n) 0)
  unfolding shorts times bind mapped pure follow
  shorts-read zero m i h p q l = let o : m - 0 ≡ m = omega arith in ([], i - s, refl, rw o (no_words d m i))
  shorts-read (suc n) zero i h p q l = absurd (omega arith)
  shorts-read (suc n) (suc m) i h p q l =
      let k : ℕ = i + (1 + get_or d i 0 / 128) in
      let (vs, j, e, f) = shorts-read n m k (omega arith) (omega arith) q (omega (arith, l)) in
      let g = short-read i p (omega (arith, q, shorts-on d n m k)) (omega (arith, l)) in
      let o : suc m - suc n ≡ m - n = omega arith in
      ((get_or d i 0 % 128 + high_at d i) ∷ vs, j, rw (g, e) refl, rw o (ap (λ x. (get_or d i 0 % 128 + high_at d i) ∷ x) f))

  -- An attribute of such numbers.
  pub short-attribute : s < z → get_or d s 0 < 7 → (r : Shorts) → r ≡ shorts d (s + 1) (get_or field_counts (get_or d s 0) 0) 6 → r.end ≤ z → r.long ≤ 0 →
      (attribute_row entry_in ≡ got (get_or d s 0 ∷ r.words) (z - s)) × (length (get_or d s 0 ∷ r.words) ≡ 7)
  short-attribute p t r e q l =
      let c : ℕ = get_or d s 0 in
      let n = part_length s z d (omega arith) inside in
      let o : s - s ≡ 0 = omega arith in
      let u : s + 1 - s ≡ 1 = omega arith in
      let a : get_or entry_in 0 0 ≡ c = ap (λ k. get_or entry_in k 0) (sym o) ∙ in_entry s (omega arith) p in
      let b : byte entry_in 0 ≡ got c 1 = byte_at entry_in 0 (omega arith) ∙ ap (λ c. got c 1) a in
      let few = counts-few c in
      let (vs, j, f, g) = shorts-read (get_or field_counts c 0) 6 (s + 1) few (omega arith) (rw (← e) q) (rw (← e) (omega (arith, l))) in
      let h : times (get_or field_counts c 0) varint_at entry_in 1 ≡ got vs j = ap (λ k. times (get_or field_counts c 0) varint_at entry_in k) (sym u) ∙ f in
      let k : length vs ≡ get_or field_counts c 0 = times-length (get_or field_counts c 0) varint_at entry_in 1 vs j h in
      let w : c ∷ r.words ≡ attribute_words (attribute_of c vs) = ap (λ r. c ∷ r.words) e ∙ ap (λ x. c ∷ x) (g ∙ ap (λ n. vs ++ replicate (6 - n) 0) (sym k)) ∙ sym (words-of c vs (omega (arith, few, k))) in
      let m = ap (λ r. length (c ∷ r.words)) e ∙ ap suc (words_size d (get_or field_counts c 0) 6 (s + 1)) in
      (one-got entry_in c 1 b t vs j h ∙ ap₂ got (sym w) n, m)

-- The row of an attribute that is put.
pub short_row : (l ws : List ℕ) (j w v : ℕ) (s s' : List ℕ) → attribute_row l ≡ got ws j → length ws ≡ 7 → s' ≡ put_words s w ws →
    Row (attribute_row l) w s s' (Ok record { pos = j; word = w + 7; value = v })
short_row l ws j w v s s' e n p = row-got _ w s s' ws _ e (ap (λ k. w + k) (sym n)) p

-- A row is put into the sheet that was there.
pub row_from : (g : Got (List ℕ)) (w : ℕ) (s t s' : List ℕ) (r : Result Spot Refused) → s ≡ t → Row g w s s' r → Row g w t s' r
row_from g w s t s' r e x = subst (λ s. Row g w s s' r) e x
