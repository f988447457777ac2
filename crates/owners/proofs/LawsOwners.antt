-- How the owner table is looked through: a row that is wanted or not, the first one, and rows that are good one after the
-- other. Assumes nothing.
use mathlib.Core.Path.{◌≡◌, refl, sym, ap, subst, ◌∙◌}
use Prim.Native.Nat.{ℕ, ◌+◌, ◌≤◌, ◌<◌}
use native.Mathlib.Omega.{arith}
use native.Mathlib.Decide.{ℕ_discrete, dec_lt}
use mathlib.Core.Bool.{Bool, true, false, not, true≢false, and-eq-true_iff}
use mathlib.Core.Logic.{◌↔◌}
use mathlib.Core.List.{List}
use lib.Dec.{eqb}
use borrow.Author.Tests.{eqb-true, eq-eqb, ne_eqb}
use Rattle.encoding.specs.Out.{Tells}
use Rattle.encoding.proofs.LawsTells.{tells-yes, tells-no}
use Rattle.std.specs.Prelude.{Option, None, Some}
use Rattle.slots.specs.Lent.{mark_at, instance_at, length_at, Taken, Rows}
use Rattle.owners.specs.Owners.{is_free, is_of, Such, FreeRow, RowOf, FirstRow, HeldAmong}

-- A negation tells of what is the other's negation.
pub tells-not : {P Q : Type 0} {t : Bool} → Tells P t → (P → ¬ Q) → (¬ P → Q) → Tells Q (not t)
tells-not {t = true} x to from = tells-no (to (x.holds refl))
tells-not {t = false} x to from = tells-yes (from (x.fails refl))

-- A comparison of two numbers that differ tells of what does not hold ..
pub tells-differ : {P : Type 0} (a b : ℕ) → ¬ (a ≡ b) → ¬ P → Tells P (eqb a b)
tells-differ {P} a b n h = subst (Tells P) (sym (ne_eqb a b n)) (tells-no h)

-- .. and one of any two of what is the same as their equality.
pub tells-equal : {P : Type 0} (a b : ℕ) → (a ≡ b → P) → (P → a ≡ b) → Tells P (eqb a b)
tells-equal {P} a b to from = go (ℕ_discrete a b)
  where
    go : Dec (a ≡ b) → Tells P (eqb a b)
    go (yes e) = subst (Tells P) (sym (eq-eqb a b e)) (tells-yes (to e))
    go (no n) = tells-differ a b n (λ p. n (from p))

-- A row that passes a test is free, or an instance's.
pub such-free : (owners : List ℕ) (k : ℕ) → Such is_free owners k ↔ FreeRow owners k
such-free owners k = (λ e. eqb-true (mark_at owners k) 0 e, λ e. eq-eqb (mark_at owners k) 0 e)

pub such-of : (i : ℕ) (owners : List ℕ) (k : ℕ) → Such (is_of i) owners k ↔ RowOf i owners k
such-of i owners k = (to, λ p. rw (eq-eqb (instance_at owners k) i p.1, ne_eqb (mark_at owners k) 0 (λ e. omega (arith, e, p.0))))
  where
    taken : Dec (mark_at owners k ≡ 0) → not (eqb (mark_at owners k) 0) ≡ true → Taken owners k
    taken (yes e) h = absurd (true≢false (sym h ∙ ap not (eq-eqb (mark_at owners k) 0 e)))
    taken (no n) h = omega arith

    to : Such (is_of i) owners k → RowOf i owners k
    to e =
        let p = (and-eq-true_iff (eqb (instance_at owners k) i) (not (eqb (mark_at owners k) 0))).0 e in
        (taken (ℕ_discrete (mark_at owners k) 0) p.1, eqb-true (instance_at owners k) i p.0)

-- The first row that is one thing is the first that is another, if these are the same.
pub first-as : {P Q : ℕ → Type 0} {n r : ℕ} → ((k : ℕ) → P k ↔ Q k) → FirstRow P n r → FirstRow Q n r
first-as same x =
    record { inside = x.inside; such = λ h. (same _).0 (x.such h); none_before = λ l h q. x.none_before l h ((same l).1 q) }

-- The first row: so far none was wanted, and now one is ..
pub first-here : {P : ℕ → Type 0} {n k : ℕ} → k < n → P k → ((l : ℕ) → l < k → ¬ P l) → FirstRow P n k
first-here h p none_before = record { inside = omega arith; such = λ _. p; none_before = none_before }

-- .. or none of them all is ..
pub first-none : {P : ℕ → Type 0} {n k : ℕ} → k ≤ n → n ≤ k → ((l : ℕ) → l < k → ¬ P l) → FirstRow P n k
first-none h i none_before = record { inside = h; such = λ l. absurd (omega arith); none_before = none_before }

-- .. and one more.
pub one_more : {P : ℕ → Type 0} {k : ℕ} → ¬ P k → ((l : ℕ) → l < k → ¬ P l) → (l : ℕ) → l < k + 1 → ¬ P l
one_more {P} {k} h before l i = go (dec_lt l k)
  where
    go : Dec (l < k) → ¬ P l
    go (yes j) = before l j
    go (no j) = let e : k ≡ l = omega arith in subst (λ m. ¬ P m) e h

-- Only one row is the first ..
not-before : {P : ℕ → Type 0} {n r q : ℕ} → FirstRow P n r → FirstRow P n q → ¬ (r < q)
not-before {n = n} {r = r} x y h = y.none_before r h (x.such (omega (arith, y.inside)))

pub first-row-only : {P : ℕ → Type 0} {n r q : ℕ} → FirstRow P n r → FirstRow P n q → r ≡ q
first-row-only x y = omega (arith, not-before x y, not-before y x)

-- .. and so rows say one thing of an instance.
pub held-row-only : (z i : ℕ) (owners : List ℕ) (n : ℕ) (r q : Option ℕ) → HeldAmong z i owners n r → HeldAmong z i owners n q → r ≡ q
held-row-only z i owners n None None x y = refl
held-row-only z i owners n None (Some q) x y = absurd (x y.0)
held-row-only z i owners n (Some r) None x y = absurd (y x.0)
held-row-only z i owners n (Some r) (Some q) x y = ap Some (first-row-only x.1 y.1)

-- No rows are good.
pub no_rows : (z : ℕ) (owners : List ℕ) → Rows z owners 0
no_rows z owners = record { fits = λ k h. absurd (omega arith); once = λ k l h i. absurd (omega arith) }

module _ {z k : ℕ} {owners : List ℕ} (before : Rows z owners k) where
  -- A row more, given what is asked of it if it is taken ..
  rows_more : (Taken owners k → length_at owners k ≤ z) →
      ((l : ℕ) → l < k → Taken owners l → Taken owners k → ¬ (instance_at owners l ≡ instance_at owners k)) → Rows z owners (k + 1)
  rows_more fit once = record { fits = λ l h. fits l (dec_lt l k) h; once = λ l m h i. one l m (dec_lt m k) h i }
    where
      fits : (l : ℕ) → Dec (l < k) → l < k + 1 → Taken owners l → length_at owners l ≤ z
      fits l (yes j) h = before.fits l j
      fits l (no j) h = let e : k ≡ l = omega arith in subst (λ m. Taken owners m → length_at owners m ≤ z) e fit

      one : (l m : ℕ) → Dec (m < k) → l < m → m < k + 1 → Taken owners l → Taken owners m →
          ¬ (instance_at owners l ≡ instance_at owners m)
      one l m (yes j) h i = before.once l m h j
      one l m (no j) h i =
          let e : k ≡ m = omega arith in
          subst (λ m. Taken owners l → Taken owners m → ¬ (instance_at owners l ≡ instance_at owners m)) e
          (once l (omega arith))

  -- .. so one that fits, whose instance has none before it.
  pub rows_taken : length_at owners k ≤ z → ((l : ℕ) → l < k → ¬ RowOf (instance_at owners k) owners l) →
      Rows z owners (k + 1)
  rows_taken fit none_before = rows_more (λ t. fit) (λ l h s t e. none_before l h (s, e))
