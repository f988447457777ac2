-- How the code follows the model of an offset table, over the width of a start and the padding before the starts: the
-- starts, and the bounds of its entries one by one. Assumes nothing.
use mathlib.Core.Path.{◌≡◌, refl, sym, ap, ◌∙◌}
use Prim.Native.Nat.{ℕ, suc, ◌+◌, ◌*◌, ◌-◌, ◌/◌, ◌≤◌, ◌<◌}
use native.Mathlib.Nat.{div-mul-le_self, lt-div-mul-add, mul-le-mul_right}
use native.Mathlib.Omega.{arith}
use native.Mathlib.Decide.{dec_le, ℕ_discrete}
use mathlib.Core.Logic.{◌⊎◌, inl, inr, ⊎_elim}
use mathlib.Core.List.{List, []}
use lib.ListN.{length, drop}
use Rattle.exact.specs.Got.{Got, got, stop, ended, follow}
use Rattle.exact.specs.Exact.{Parser}
use Rattle.exact.specs.Repeat.{times}
use Rattle.exact.specs.Fixed.{fixed, nums}
use Rattle.exact.proofs.LawsExact.{stop-not-got, got-value}
use Rattle.exact.proofs.LawsChoice.{choose_yes, choose_no}
use Rattle.exact.proofs.LawsSequence.{bind-got}
use Rattle.exact.proofs.LawsSteps.{times-at, times-end}
use Rattle.enums.specs.Refusals as refusals
use Rattle.reading.specs.Numbers.{varint_at, placed}
use Rattle.reading.proofs.LawsPlaced.{placed_at, placed_end}
use Rattle.entries.specs.Starts.{wide, no_starts, starts_at, or_else, number_or, bounded, end_at}
use Rattle.entries.specs.declared.starts.Width.{Width}
use Rattle.entries.specs.declared.starts.Width.TheVariants as width

-- A width is some bytes.
pub wide-some : (x : Width) → 0 < wide x
wide-some width.Four = omega arith
wide-some width.Eight = omega arith

module _ (w : ℕ) (l : List ℕ) (i count left : ℕ) (rest : left ≡ length l - i) where
  -- As many starts as there is room for end inside the payload.
  pub starts-room : left / w * w ≤ left
  starts-room = div-mul-le_self left w

  pub starts_fit : count ≤ left / w → count * w ≤ left
  starts_fit h = omega (arith, starts-room, mul-le-mul_right {m = count} {n = left / w} w h)

  -- All starts are there ..
  pub starts-placed : count ≤ left / w →
      got (i, nums count w (drop i l)) (i + count * w) ≡ placed (times count (fixed w)) l i
  starts-placed h =
      let f : count * w ≤ length l - i = omega (arith, starts_fit h) in
      sym (placed_at (times count (fixed w)) l i _ _ (times-at count w l i f))

  -- .. or the first that is not breaks.
  pub starts-short : 0 < w → left / w < count → stop ended (i + left / w * w) ≡ placed (times count (fixed w)) l i
  starts-short some h =
      let a : left / w * w ≤ length l - i = omega (arith, starts-room) in
      let b : length l - i < suc (left / w) * w = omega (arith, lt-div-mul-add {a = left} some) in
      sym (placed_end (times count (fixed w)) l i _ _ (times-end count w l i (left / w) h a b))

-- Behind the count: the padding was refused, or the starts stand behind it.
module _ (w a : ℕ) (l : List ℕ) (i : ℕ) where
  -- .. is 0 ..
  pub count_none : (n j : ℕ) → varint_at l i ≡ got n j → n ≡ 0 → got (length l, []) (length l) ≡ starts_at w a l i
  unfolding starts_at no_starts
  count_none n j e z =
      sym (bind-got varint_at _ l i n j (sym e) ∙ ap (λ (p : Parser (ℕ × List ℕ)). p l j) (choose_yes (ℕ_discrete n 0) _ _ z))

-- A number that is read, or another in its place.
module _ (w v : ℕ) (l : List ℕ) (i : ℕ) where
  pub number_read : (n j : ℕ) → fixed w l i ≡ got n j → got n j ≡ number_or w v l i
  unfolding number_or or_else
  number_read n j e = rw e

  pub number-other : (c k : ℕ) → fixed w l i ≡ stop c k → got v i ≡ number_or w v l i
  unfolding number_or or_else
  number-other c k e = rw e

-- An entry from s to e, in n bytes: it begins after its end, is too short, lies outside, or is good.
module _ (m n s e j : ℕ) where
  bounded-short : ¬ (s + m ≤ e) → stop refusals.bounds 0 ≡ bounded m n s e j
  unfolding bounded
  bounded-short h = sym (choose_no (dec_le (s + m) e) _ _ h)

  bounded-outside : n < e → stop refusals.bounds 0 ≡ bounded m n s e j
  unfolding bounded
  bounded-outside h =
      elim (dec_le (s + m) e) [
        | no k ↦ bounded-short k
        | yes k ↦
            let o : ¬ (e ≤ n) = omega arith in
            sym (choose_yes (dec_le (s + m) e) _ _ k ∙ choose_no (dec_le e n) _ _ o)
      ]

  bounded-good : s + m ≤ e → e ≤ n → got e j ≡ bounded m n s e j
  unfolding bounded
  bounded-good h k = sym (choose_yes (dec_le (s + m) e) _ _ h ∙ choose_yes (dec_le e n) _ _ k)

module _ (w m n s : ℕ) (l : List ℕ) (i e j : ℕ) (next : got e j ≡ number_or w n l i) where
  end_is : bounded m n s e j ≡ end_at w m n s l i
  unfolding end_at follow
  end_is = rw (← next)

  pub end_short : e < s + m → stop refusals.bounds 0 ≡ end_at w m n s l i
  end_short h = let k : ¬ (s + m ≤ e) = omega arith in bounded-short m n s e j k ∙ end_is

  pub end-good : s + m ≤ e → e ≤ n → got e j ≡ end_at w m n s l i
  end-good h k = bounded-good m n s e j h k ∙ end_is

  -- No bytes stand between start and end: that is too few, or enough.
  pub end_none : e ≤ s → (e < s) ⊎ (0 < m) → stop refusals.bounds 0 ≡ end_at w m n s l i
  end_none g (inl h) = end_short (omega arith)
  end_none g (inr h) = end_short (omega arith)

  pub end_empty : s ≤ e → m ≤ 0 → e ≤ n → got e j ≡ end_at w m n s l i
  end_empty g h k = end-good (omega arith) k

-- What the answer says of the number and of the bounds.
module _ (w m n s : ℕ) (l : List ℕ) (i : ℕ) where
  number_is : (e : ℕ) × (j : ℕ) × (got e j ≡ number_or w n l i)
  unfolding number_or or_else
  number_is = go (fixed w l i)
    where
      go : (g : Got ℕ) → (e : ℕ) × (j : ℕ) × (got e j ≡ or_else g n i)
      go (got e j) = (e, j, refl)
      go (stop c k) = (n, i, refl)

  bounds_of : (e j : ℕ) → got e j ≡ number_or w n l i → (Dec (s + m ≤ e)) → (Dec (e ≤ n)) →
      ((s + m ≤ e) × (e ≤ n) × (end_at w m n s l i ≡ got e j)) ⊎
      ((s + m ≤ e → e ≤ n → ⊥) × (end_at w m n s l i ≡ stop refusals.bounds 0))
  bounds_of e j q (yes a) (yes b) = inl (a, b, sym (bounded-good m n s e j a b ∙ end_is w m n s l i e j q))
  bounds_of e j q (yes a) (no b) = inr (λ x y. b y, sym (bounded-outside m n s e j (omega arith) ∙ end_is w m n s l i e j q))
  bounds_of e j q (no a) b = inr (λ x y. a x, sym (bounded-short m n s e j a ∙ end_is w m n s l i e j q))

  pub end-got : (e j : ℕ) → end_at w m n s l i ≡ got e j → (got e j ≡ number_or w n l i) × (s + m ≤ e) × (e ≤ n)
  end-got e j h =
      let (t, k, q) = number_is in
      ⊎_elim
      (λ (a, b, f). let x : got t k ≡ got e j = sym f ∙ h in (sym x ∙ q, rw (got-value x) at a, rw (got-value x) at b))
      (λ (a, f). absurd (stop-not-got (sym f ∙ h)))
      (bounds_of t k q (dec_le (s + m) t) (dec_le t n))

  pub end-stop : (c k : ℕ) → end_at w m n s l i ≡ stop c k →
      (e : ℕ) × (j : ℕ) × (got e j ≡ number_or w n l i) × (refusals.bounds ≡ c) × (0 ≡ k) × (s + m ≤ e → e ≤ n → ⊥)
  end-stop c k h =
      let (t, j, q) = number_is in
      ⊎_elim
      (λ (a, b, f). absurd (stop-not-got (sym h ∙ f)))
      (λ (a, f). let x : ◌≡◌ {A = Got ℕ} (stop refusals.bounds 0) (stop c k) = sym f ∙ h in (t, j, q, (cc), (cc), a))
      (bounds_of t j q (dec_le (s + m) t) (dec_le t n))
