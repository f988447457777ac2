-- The nearest code by its two neighbours, and that there is one: for any magnitudes that grow with the code. Assumes
-- nothing.
use mathlib.Core.Path.{◌≡◌, ap, subst}
use mathlib.Core.Logic.{⊎_elim}
use Prim.Native.Nat.{ℕ, zero, suc, ◌+◌, ◌-◌, ◌*◌, ◌%◌, ◌≤◌, ◌<◌, min}
use native.Mathlib.Nat.{add-zero, add-suc, add-sub_of_le, min-eq_left, min-eq_right}
use native.Mathlib.Omega.{arith}
use Rattle.float8.specs.Nearest.{Nearest, apart}
use Rattle.float8.proofs.Rounding.{side}

module _ (val : ℕ → ℕ) (step : (c : ℕ) → val c < val (suc c)) where
  grows : (c n : ℕ) → val c ≤ val (c + n)
  grows c zero = rw add-zero (omega arith)
  grows c (suc n) = let h = grows c n in let s = step (c + n) in rw add-suc (omega arith)

  pub grow : (c d : ℕ) → c ≤ d → val c ≤ val d
  grow c d h = subst (λ (k : ℕ). val c ≤ val k) (add-sub_of_le h) (grows c (d - c))

  pub grow-less : (c d : ℕ) → c < d → val c < val d
  grow-less c d h = let s = step c in let g = grow (suc c) d h in omega arith

  -- x is not below the middle of c and the code before it, nor above that of c and the code after it, nor, where c is
  -- odd, in the middle
  abbrev pub Under : ℕ → ℕ → Type 0
  Under x c = 0 < c → val (c - 1) + val c + c % 2 ≤ 2 * x

  abbrev pub Over : ℕ → ℕ → Type 0
  Over x c = 2 * x + c % 2 ≤ val c + val (suc c)

  module _ (top x c : ℕ) (within : c ≤ top) (under : Under x c) (over : c < top → Over x c) where
    lower : (d : ℕ) → d < c → (val d < val c) × (val d + val c + c % 2 ≤ 2 * x)
    lower d l = let u = under (omega arith) in let g = grow d (c - 1) (omega arith) in (grow-less d c l, omega arith)

    upper : (d : ℕ) → c < d → d ≤ top → (val c < val d) × (2 * x + c % 2 ≤ val c + val d)
    upper d l t = let o = over (omega arith) in let g = grow (suc c) d l in (grow-less c d l, omega arith)

    near : (d : ℕ) → d ≤ top → apart (val c) x ≤ apart (val d) x
    near d t =
        ⊎_elim (λ l. let u = lower d l in omega arith)
        (λ h. ⊎_elim (λ l. let u = upper d l t in omega arith)
        (λ g. let v : val d ≡ val c = ap val (omega arith) in omega arith) (side c d)) (side d c)

    even : (d : ℕ) → d ≤ top → (d ≡ c → ⊥) → apart (val c) x ≡ apart (val d) x → c % 2 ≡ 0
    even d t n e =
        ⊎_elim (λ l. let u = lower d l in omega arith)
        (λ h. ⊎_elim (λ l. let u = upper d l t in omega arith) (λ g. absurd (n (omega arith))) (side c d)) (side d c)

    pub nearest : Nearest val top x c
    nearest = record { within = within; near = near; even = even }

  -- where that code is past the format, the largest is the nearest
  module _ (top x c : ℕ) (under : Under x c) (over : Over x c) where
    past : top < c → Under x top
    past l s =
        let u = under (omega arith) in
        let g = grow top (c - 1) (omega arith) in
        let h = grow-less (top - 1) top (omega arith) in
        let t = grow-less top c l in
        omega arith

    pub saturated : Nearest val top x (min c top)
    saturated =
        ⊎_elim
        (λ l. rw (min-eq_right {n = top} {m = c} (omega arith))
        (nearest top x top (omega arith) (past l) (λ z. absurd (omega arith))))
        (λ g. rw (min-eq_left {n = c} {m = top} g) (nearest top x c g under (λ z. over))) (side top c)

  -- what is at most half of the least gives 0
  pub vanishing : (top x : ℕ) → 2 * x ≤ val 0 + val 1 → Nearest val top x 0
  vanishing top x h = nearest top x 0 (omega arith) (λ l. absurd (omega arith)) (λ l. omega arith)

  -- what is at least the largest gives the largest
  pub overflow : (top x c : ℕ) → Nearest val top x c → val top ≤ x → c ≡ top
  overflow top x c n h =
      ⊎_elim (λ l. let g = grow-less c top l in let a = n.near top (omega arith) in absurd (omega arith))
      (λ g. let w = n.within in omega arith) (side c top)

  -- two nearest codes would both be even, and the one between them nearer
  none_below : (top x c d : ℕ) → Nearest val top x c → Nearest val top x d → c < d → ⊥
  none_below top x c d n m l =
      let a = n.near d m.within in
      let b = m.near c n.within in
      let g = grow-less c d l in
      let i = n.even d m.within (λ e. omega arith) (omega arith) in
      let j = m.even c n.within (λ e. omega arith) (omega arith) in
      let s = step c in
      let t = grow-less (suc c) d (omega arith) in
      let z = n.near (suc c) (let w = m.within in omega arith) in
      omega arith

  pub one-nearest : (top x c d : ℕ) → Nearest val top x c → Nearest val top x d → c ≡ d
  one-nearest top x c d n m =
      ⊎_elim (λ l. absurd (none_below top x c d n m l))
      (λ g. ⊎_elim (λ l. absurd (none_below top x d c m n l)) (λ h. omega arith) (side d c)) (side c d)
