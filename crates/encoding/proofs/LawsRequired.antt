-- The alignment that is required is the largest of 2 or more that was asked for, else 1. Assumes nothing.
use mathlib.Core.Path.{◌≡◌, refl, ◌∙◌}
use mathlib.Core.Logic.{◌⊎◌, inl, inr, ⊎_elim}
use mathlib.Core.List.Memᴰ
use mathlib.Core.List.{List, [], ◌∷◌, Memᴰ}
use Prim.Native.Nat.{ℕ, ◌≤◌, ◌<◌, max}
use native.Mathlib.Nat.{le-max_left, le-max_right, max-eq_left, max-eq_right, le_refl, le_trans}
use native.Mathlib.Omega.{arith}
use native.Mathlib.Decide.{dec_lt}
use Rattle.encoding.specs.Out.{required, required_by}
use Rattle.encoding.proofs.LawsOut.{required-none, required-some}

-- Below 2 nothing changes; from 2 on the larger one counts.
by-asked : {X : Type 0} (b a : ℕ) → (a < 2 → required b a ≡ b → X) → (2 ≤ a → required b a ≡ max b a → X) → X
by-asked b a f g =
    elim (dec_lt a 2) [
      | yes h ↦ f h (required-none b a h)
      | no h ↦ let k : 2 ≤ a = omega arith in g k (required-some b a k)
    ]

required-keeps : (b a : ℕ) → b ≤ required b a
required-keeps b a = by-asked b a (λ h e. rw e (le_refl b)) (λ h e. rw e (le-max_left b a))

required-takes : (b a : ℕ) → 2 ≤ a → a ≤ required b a
required-takes b a h = rw (required-some b a h) (le-max_right b a)

-- It is what was required before, or what was asked.
required-one : (b a : ℕ) → (required b a ≡ b) ⊎ ((required b a ≡ a) × (2 ≤ a))
required-one b a =
    by-asked b a (λ h e. inl e)
    (λ h e.
    elim (dec_lt b a) [
      | yes l ↦ inr (e ∙ max-eq_right (omega arith), h)
      | no l ↦ inl (e ∙ max-eq_left (omega arith))
    ])

-- What was required before is not lost ..
pub required_by-keeps : (b : ℕ) (asks : List ℕ) → b ≤ required_by b asks
required_by-keeps b [] = le_refl b
required_by-keeps b (a ∷ asks) = le_trans (required-keeps b a) (required_by-keeps (required b a) asks)

-- .. nothing of 2 or more that was asked for is larger ..
pub required_by-largest : (b : ℕ) (asks : List ℕ) (a : ℕ) → Memᴰ a asks → 2 ≤ a → a ≤ required_by b asks
required_by-largest b [] a m h = absurd (Memᴰ.not-nil m)
required_by-largest b (c ∷ asks) a m h =
    ⊎_elim
    (λ e. let k : c ≤ required b c = required-takes b c (omega arith) in
    let j : required b c ≤ required_by (required b c) asks = required_by-keeps (required b c) asks in
    omega arith)
    (λ n. required_by-largest (required b c) asks a n h) (Memᴰ.cases_cons m)

-- .. and it is what was required before, 1 of a new writer, or one of 2 or more that was asked for.
pub required_by-one : (b : ℕ) (asks : List ℕ) → (required_by b asks ≡ b) ⊎ (Memᴰ (required_by b asks) asks × (2 ≤ required_by b asks))
required_by-one b [] = inl refl
required_by-one b (a ∷ asks) =
    ⊎_elim
    (λ e. ⊎_elim (λ f. inl (e ∙ f))
    (λ f. let g : required_by (required b a) asks ≡ a = e ∙ f.0 in inr (Memᴰ.head g, omega arith)) (required-one b a))
    (λ m. inr (Memᴰ.tail m.0, m.1)) (required_by-one (required b a) asks)
