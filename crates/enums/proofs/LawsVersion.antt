-- A version class begins at tag 0, so the order of whole versions decides it by major and minor alone. Assumes nothing.
use mathlib.Core.Path.{◌≡◌}
use mathlib.Core.Logic.{◌↔◌}
use Prim.Native.Nat.{ℕ, ◌<◌, ◌≤◌}
use native.Mathlib.Omega.{arith}
use native.Mathlib.Decide.{dec_lt}
use mathlib.Core.Bool.{true, false}
use borrow.Author.Tests.{lt-ltb, le-ltb, le-leb, lt-leb}
use Rattle.enums.specs.Version.{at_least, NotBefore, later_major, later_minor, tag_reached}

by_less : {P : Type 0} (a b : ℕ) → (a < b → P) → (b ≤ a → P) → P
by_less a b f g = elim (dec_lt a b) [ yes h ↦ f h | no h ↦ g (omega arith) ]

no_true : {P : Type 0} → false ≡ true → P
no_true e = let z : ◌≡◌ {A = ℕ} 0 1 = cc in absurd (omega arith)

at-least-order : (major minor tag a b : ℕ) → at_least major minor a b ≡ true → NotBefore major minor tag a b 0
at-least-order major minor tag a b e =
    by_less major a (λ h. no_true (simp (lt-ltb major a h) at e))
    (λ h. by_less a major (λ k. later_major k)
    (λ k.
    let m : major ≡ a = omega arith in
    by_less b minor (λ l. later_minor m l)
    (λ l. by_less minor b (λ n. no_true (simp (le-ltb major a h, le-ltb a major k, lt-leb b minor n) at e))
    (λ n. let q : minor ≡ b = omega arith in let z : 0 ≤ tag = omega arith in tag_reached m q z))))

order-at-least : (major minor tag a b : ℕ) → NotBefore major minor tag a b 0 → at_least major minor a b ≡ true
order-at-least major minor tag a b (later_major h) =
    let k : a ≤ major = omega arith in simp (le-ltb major a k, lt-ltb a major h)
order-at-least major minor tag a b (later_minor e h) =
    let k : a ≤ major = omega arith in
    let l : major ≤ a = omega arith in
    let m : b ≤ minor = omega arith in
    simp (le-ltb major a k, le-ltb a major l, le-leb b minor m)
order-at-least major minor tag a b (tag_reached e f h) =
    let k : a ≤ major = omega arith in
    let l : major ≤ a = omega arith in
    let m : b ≤ minor = omega arith in
    simp (le-ltb major a k, le-ltb a major l, le-leb b minor m)

-- A version is at least a.b exactly if it is not before a.b with tag 0.
pub at-least-iff : (major minor tag a b : ℕ) → (at_least major minor a b ≡ true) ↔ NotBefore major minor tag a b 0
at-least-iff major minor tag a b = (at-least-order major minor tag a b, order-at-least major minor tag a b)
