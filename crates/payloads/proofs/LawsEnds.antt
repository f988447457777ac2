-- A byte below 128 ends a number: where enough bytes of a short entry do, all of its numbers can be read, and so can
-- the attribute that they stand in. Assumes nothing.
use mathlib.Core.Path.{◌≡◌, refl, sym, ap, ◌∙◌}
use Prim.Native.Nat.{ℕ, zero, suc, ◌+◌, ◌*◌, ◌-◌, ◌/◌, ◌%◌, ◌≤◌, ◌<◌}
use native.Mathlib.Nat.{add-zero}
use native.Mathlib.Omega.{arith}
use native.Mathlib.Decide.{dec_lt}
use native.Mathlib.Numerals.{add-one}
use mathlib.Core.List.{List, [], ◌∷◌}
use lib.ListN.{length, get_or, take, drop, drop_of_length-le}
use lib.Seq.{drop-cons, get_or-take, get_or-drop, take-take, length-take-le}
use Rattle.exact.specs.Got.{Got, got, follow}
use Rattle.exact.specs.Basic.{byte, pure}
use Rattle.exact.specs.Sequence.{bind, mapped}
use Rattle.exact.specs.Repeat.{times}
use Rattle.exact.specs.Padding.{broke, blamed}
use Rattle.exact.proofs.LawsSteps.{byte_at}
use Rattle.enums.specs.Debug.{field_counts}
use Rattle.reading.specs.Numbers.{digits, varint_at}
use Rattle.reading.proofs.LawsDigits.{digits_last, digits_more, digits-tenth}
use Rattle.format.specs.Debug.{attribute_of}
use Rattle.format.specs.Sheet.{attribute_words}
use Rattle.sheet.specs.Store.{put_words}
use Rattle.entries.proofs.LawsEntries.{part_length}
use Rattle.std.specs.Prelude.{Ok}
use Rattle.payloads.specs.TypeRows.{Row}
use Rattle.payloads.proofs.LawsPast.{put_words-past}
use Rattle.payloads.proofs.LawsEntryRows.{row-got}
use Rattle.payloads.proofs.LawsDebug.{one-got, seven}
use Rattle.payloads.specs.DebugRows.{attribute_row}

-- How many bytes are below 128.
unfoldable pub low : List ℕ → ℕ
low [] = 0
low (b ∷ l) = 1 - b / 128 + low l

-- How many bytes from place i on end a number.
abbrev pub ends : List ℕ → ℕ → ℕ
ends l i = low (drop i l)

module _ (l : List ℕ) (i : ℕ) where
  ends_next : i < length l → ends l i ≡ 1 - get_or l i 0 / 128 + ends l (i + 1)
  unfolding low
  ends_next h = rw (drop-cons l i 0 h, add-one)

  ends-none : length l ≤ i → ends l i ≡ 0
  unfolding low
  ends-none h = rw (drop_of_length-le l h)

  ends_some : 0 < ends l i → i < length l
  ends_some p = elim (dec_lt i (length l)) [ yes h ↦ h | no h ↦ omega (arith, ends-none (omega arith)) ]

  -- The first byte is one of them or is not.
  ends-behind : ends l i ≤ 1 + ends l (i + 1)
  ends-behind = elim (dec_lt i (length l)) [ yes h ↦ omega (arith, ends_next h) | no h ↦ omega (arith, ends-none (omega arith)) ]

-- A loop that counts the bytes of an entry of n bytes in the window w: one turn ..
module _ (w : List ℕ) (n k : ℕ) (fits : n ≤ length w) where
  pub ends-turn : (left : ℕ) → n ≤ 16 → left + k ≡ n + 15 →
      (left / 16 + (1 - get_or w k 0 / 128)) / 2 + ends (take n w) (k + 1) ≡ ends (take n w) k
  ends-turn left few e =
      let m = length-take-le n w fits in
      elim (dec_lt k n) [
        | yes h ↦ omega (arith, m, e, get_or-take n w k 0 h, ends_next (take n w) k (omega arith))
        | no h ↦ omega (arith, m, e, ends-none (take n w) k (omega arith), ends-none (take n w) (k + 1) (omega arith))
      ]

  -- .. and past the last byte.
  pub ends-over : n ≤ k → ends (take n w) k ≡ 0
  ends-over h = ends-none (take n w) k (omega (arith, length-take-le n w fits))

-- The number at i was read, to behind the first byte that ends one.
Ended : List ℕ → ℕ → Got ℕ → Type 0
Ended l i g = (v : ℕ) × (j : ℕ) × (g ≡ got v j) × (i ≤ j) × (ends l j + 1 ≡ ends l i)

ended_here : (k : ℕ) (l : List ℕ) (i : ℕ) → i < length l → get_or l i 0 < 128 → Ended l i (digits k l i)
unfolding Ended
ended_here zero l i h b = (_, i + 1, digits-tenth l i h b, omega arith, omega (arith, ends_next l i h))
ended_here (suc k) l i h b = (_, i + 1, digits_last l i k h b, omega arith, omega (arith, ends_next l i h))

-- Digits of which no more than k + 1 bytes are left end where one of them does.
digits-ended : (k : ℕ) (l : List ℕ) (i : ℕ) → 0 < ends l i → length l ≤ i + k + 1 → Ended l i (digits k l i)
unfolding Ended follow
digits-ended zero l i p q =
    let h = ends_some l i p in
    elim (dec_lt (get_or l i 0) 128) [
      | yes b ↦ ended_here zero l i h b
      | no b ↦ let z : ⊥ = omega (arith, ends_next l i h, ends-none l (i + 1) (omega arith)) in absurd z
    ]
digits-ended (suc k) l i p q =
    let h = ends_some l i p in
    elim (dec_lt (get_or l i 0) 128) [
      | yes b ↦ ended_here (suc k) l i h b
      | no b ↦
          let n = ends_next l i h in
          let (v, j, e, m, o) = digits-ended k l (i + 1) (omega arith) (omega arith) in
          let d = digits_more l i k h (omega arith) in
          (_, j, d ∙ ap (λ g. follow g (λ v j. got (get_or l i 0 % 128 + 128 * v) j)) e, omega arith, omega arith)
    ]

varint-ended : (l : List ℕ) (i : ℕ) → 0 < ends l i → length l ≤ i + 10 → Ended l i (varint_at l i)
unfolding Ended varint_at blamed broke
varint-ended l i p q =
    let (v, j, e, m, o) = digits-ended 9 l i p (omega arith) in (v, j, ap (λ g. broke g i) e, m, o)

-- As many numbers as there are bytes that end one, where none can be too long.
times-ended : (n : ℕ) (l : List ℕ) (i : ℕ) → n ≤ ends l i → length l ≤ i + 10 → (vs : List ℕ) × (j : ℕ) × (times n varint_at l i ≡ got vs j)
unfolding Ended times bind mapped pure follow
times-ended zero l i p q = ([], i, refl)
times-ended (suc n) l i p q =
    let (v, j, e, m, o) = varint-ended l i (omega arith) q in
    let (vs, k, f) = times-ended n l j (omega arith) (omega arith) in
    (v ∷ vs, k, rw (e, f))

-- Fewer numbers than bytes that end one stand behind the first byte of an entry of n bytes in the window w.
pub ends_read : (w : List ℕ) (n m : ℕ) → n ≤ length w → n ≤ 11 → m < ends (take n w) 0 →
    (vs : List ℕ) × (j : ℕ) × (times m varint_at (take n w) 1 ≡ got vs j)
ends_read w n m fits few h =
    times-ended m (take n w) 1 (omega (arith, ends-behind (take n w) 0)) (omega (arith, length-take-le n w fits))

-- An attribute whose numbers can all be read, as a window of w bytes shows.
pub entry_whole : (d : List ℕ) (s e w : ℕ) → s < e → e ≤ length d → e - s ≤ w → get_or d s 0 < 7 →
    (vs : List ℕ) × (j : ℕ) × (times (get_or field_counts (get_or d s 0) 0) varint_at (take (e - s) (take w (drop s d))) 1 ≡ got vs j) →
    (ws : List ℕ) × (attribute_row (take (e - s) (drop s d)) ≡ got ws (e - s))
entry_whole d s e w p q r t (vs, j, f) =
    let l : List ℕ = take (e - s) (drop s d) in
    let c : ℕ = get_or d s 0 in
    let n : length l ≡ e - s = part_length s e d (omega arith) q in
    let a : get_or l 0 0 ≡ c = get_or-take (e - s) (drop s d) 0 0 (omega arith) ∙ get_or-drop s d 0 0 ∙ ap (λ i. get_or d i 0) (add-zero s) in
    let b : byte l 0 ≡ got c 1 = byte_at l 0 (omega arith) ∙ ap (λ c. got c 1) a in
    let g : times (get_or field_counts c 0) varint_at l 1 ≡ got vs j =
    ap (λ l. times (get_or field_counts c 0) varint_at l 1) (sym (take-take (e - s) w (drop s d) r)) ∙ f in
    (attribute_words (attribute_of c vs), one-got l c 1 b t vs j g ∙ ap (λ k. got (attribute_words (attribute_of c vs)) k) n)

-- Its row in a sheet that has no word for it.
pub whole_row : (l ws : List ℕ) (j w v : ℕ) (s : List ℕ) → length s / 8 ≤ w → attribute_row l ≡ got ws j →
    Row (attribute_row l) w s s (Ok record { pos = j; word = w + 7; value = v })
whole_row l ws j w v s h e =
    let n = seven l w s (put_words s w ws) (record { pos = j; word = w + length ws; value = v }) (row-got _ w s _ ws _ e refl refl) in
    row-got _ w s s ws _ e (sym n) (sym (put_words-past ws s w h))
