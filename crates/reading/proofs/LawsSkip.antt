-- How the loop of `skip_padding` follows padding: k bytes P are still to come at i. Assumes nothing.
use mathlib.Core.Path.{◌≡◌, sym, ap, ◌∙◌, subst}
use Prim.Native.Nat.{ℕ, suc, ◌+◌, ◌-◌, ◌%◌, ◌≤◌, ◌<◌}
use native.Mathlib.Omega.{arith}
use native.Mathlib.Decide.{ℕ_discrete}
use mathlib.Core.List.{List}
use lib.ListN.{length, get_or, replicate}
use Rattle.exact.specs.Got.{got, stop, ended, follow}
use Rattle.exact.specs.Basic.{pure, fail}
use Rattle.exact.specs.Sequence.{bind}
use Rattle.exact.specs.Padding.{literal, broke, blamed, here, pad}
use Rattle.exact.proofs.LawsChoice.{choose_yes, choose_no}
use Rattle.exact.proofs.LawsPadding.{gap-none, gap-some}
use Rattle.exact.proofs.LawsSteps.{byte_at, byte-end}
use Rattle.enums.specs.Container.{P}
use Rattle.enums.specs.Refusals as refusals
use Rattle.reading.specs.Numbers.{padding_at}

module _ (c x : ℕ) (l : List ℕ) (i : ℕ) where
  literal-end : (k : ℕ) → length l ≤ i → literal c (replicate (suc k) x) l i ≡ stop ended i
  unfolding literal bind follow
  literal-end k h = rw (byte-end l i h)

  literal-wrong : (k : ℕ) → i < length l → ¬ (get_or l i 0 ≡ x) → literal c (replicate (suc k) x) l i ≡ stop c (i + 1)
  unfolding literal bind follow fail
  literal-wrong k h n =
      rw (byte_at l i h) (ap (λ p. p l (i + 1)) (choose_no (ℕ_discrete (get_or l i 0) x) (literal c (replicate k x)) (fail c) n))

  literal-same : (k : ℕ) → i < length l → get_or l i 0 ≡ x →
      literal c (replicate (suc k) x) l i ≡ literal c (replicate k x) l (i + 1)
  unfolding literal bind follow
  literal-same k h e =
      rw (byte_at l i h) (ap (λ p. p l (i + 1)) (choose_yes (ℕ_discrete (get_or l i 0) x) (literal c (replicate k x)) (fail c) e))

-- Between two turns.
abbrev pub Skip : List ℕ → ℕ → ℕ → ℕ → ℕ → Type 0
Skip s a at i k = padding_at a s at ≡ broke (literal refusals.unpadded (replicate k P) s i) at

-- An alignment below 2 asks for nothing.
pub skip-none : (s : List ℕ) (a at : ℕ) → a < 2 → got tt at ≡ padding_at a s at
unfolding padding_at pad blamed here literal broke pure
skip-none s a at h = rw (gap-none a at h)

-- Before the first turn.
pub skip-start : (s : List ℕ) (a at : ℕ) → 2 ≤ a → Skip s a at at ((a - at % a) % a)
unfolding padding_at pad blamed here
skip-start s a at h = rw (gap-some a at h)

-- All of it was there.
pub skip-done : (s : List ℕ) (a at i k : ℕ) → Skip s a at i k → k ≤ 0 → got tt i ≡ padding_at a s at
unfolding literal broke pure
skip-done s a at i k e h = let z : k ≡ 0 = omega arith in sym (e ∙ rw z)

module _ (s : List ℕ) (a at i k : ℕ) (e : Skip s a at i k) (some : 0 < k) where
  next : Skip s a at i (suc (k - 1))
  next = let z : k ≡ suc (k - 1) = omega arith in subst (Skip s a at i) z e

  -- The data ends.
  pub skip-short : length s ≤ i → stop refusals.short at ≡ padding_at a s at
  unfolding broke
  skip-short h = sym (next ∙ rw (literal-end refusals.unpadded P s i (k - 1) h))

  -- A byte is not P.
  pub skip-wrong : i < length s → ¬ (get_or s i 0 ≡ P) → stop refusals.unpadded at ≡ padding_at a s at
  unfolding broke
  skip-wrong h n = sym (next ∙ rw (literal-wrong refusals.unpadded P s i (k - 1) h n))

  -- A byte is P.
  pub skip-more : i < length s → get_or s i 0 ≡ P → Skip s a at (i + 1) (k - 1)
  skip-more h p = next ∙ ap (λ g. broke g at) (literal-same refusals.unpadded P s i (k - 1) h p)
