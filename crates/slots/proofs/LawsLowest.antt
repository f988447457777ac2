-- The lowest slot that is such: where it is, and when there is none. Assumes nothing.
use mathlib.Core.Path.{◌≡◌, refl, ap}
use Prim.Native.Nat.{ℕ, zero, suc, ◌<◌}
use native.Mathlib.Omega.{arith}
use native.Mathlib.Decide.{dec_lt}
use mathlib.Core.Option.{Option, none, some}
use mathlib.Core.List.{List, [], ◌∷◌}
use lib.ListN.{length, get_or}
use Rattle.exact.specs.Choice.{choose}
use Rattle.slots.specs.Cache.{Slot, free, one_up, lowest}

-- Slot k is such and none below it is.
pub record LowestAt (P : Slot → Type 0) (c : List Slot) (k : ℕ) : Type 0 where
  pub inside : k < length c
  pub such : P (get_or c k free)
  pub none_below : (l : ℕ) → l < k → ¬ P (get_or c l free)

-- No slot is such.
abbrev pub NoneSuch : (Slot → Type 0) → List Slot → Type 0
NoneSuch P c = (l : ℕ) → l < length c → ¬ P (get_or c l free)

-- What was looked for.
pub data Found (P : Slot → Type 0) (c : List Slot) : Option ℕ → Type 0 where
  found : {k : ℕ} → LowestAt P c k → Found P c (some k)
  nowhere : NoneSuch P c → Found P c none

-- One slot more, in front.
none-such : (P : Slot → Type 0) (s : Slot) (c : List Slot) → ¬ P s → NoneSuch P c → NoneSuch P (s ∷ c)
none-such P s c h x zero i = h
none-such P s c h x (suc l) i = x l (omega arith)

module _ {P : Slot → Type 0} where
  none_below : (s : Slot) (c : List Slot) (k : ℕ) → ¬ P s → LowestAt P c k → (l : ℕ) → l < suc k → ¬ P (get_or (s ∷ c) l free)
  none_below s c k h x zero i = h
  none_below s c k h x (suc l) i = x.none_below l (omega arith)

  up : {s : Slot} {c : List Slot} {r : Option ℕ} → ¬ P s → Found P c r → Found P (s ∷ c) (one_up r)
  unfolding one_up
  up {s} {c} h (found {k} x) =
      found {k = suc k} (record { inside = omega (arith, x.inside); such = x.such; none_below = none_below s c k h x })
  up {s} {c} h (nowhere x) = nowhere (none-such P s c h x)

  front : {s : Slot} {c : List Slot} {r : Option ℕ} (e : Dec (P s)) → Found P c r → Found P (s ∷ c) (choose e (some 0) (one_up r))
  unfolding choose
  front (yes p) x = found {k = 0} (record { inside = omega arith; such = p; none_below = λ l h. absurd (omega arith) })
  front (no h) x = up h x

  only : {c : List Slot} {k l : ℕ} → LowestAt P c k → LowestAt P c l → k ≡ l
  only {c} {k} {l} x y = go (dec_lt k l) (dec_lt l k)
    where
      go : Dec (k < l) → Dec (l < k) → k ≡ l
      go (yes h) e = absurd (y.none_below k h x.such)
      go (no h) (yes i) = absurd (x.none_below l i y.such)
      go (no h) (no i) = omega arith

  one : {c : List Slot} {r q : Option ℕ} → Found P c r → Found P c q → r ≡ q
  one (found x) (found y) = ap some (only x y)
  one (found {k} x) (nowhere y) = absurd (y k x.inside x.such)
  one (nowhere x) (found {k} y) = absurd (x k y.inside y.such)
  one (nowhere x) (nowhere y) = refl

  module _ (d : (s : Slot) → Dec (P s)) where
    -- The lowest slot is looked for ..
    pub lowest-found : (c : List Slot) → Found P c (lowest d c)
    unfolding lowest
    lowest-found [] = nowhere (λ l h. absurd (omega arith))
    lowest-found (s ∷ c) = front (d s) (lowest-found c)

    -- .. and so it is where it was found.
    pub lowest-is : {c : List Slot} {r : Option ℕ} → Found P c r → lowest d c ≡ r
    lowest-is {c} x = one (lowest-found c) x
