-- A spelling spells one number, below 2^64; the written spelling spells its number, and no spelling of it is shorter.
-- Assumes nothing.
use mathlib.Core.Path.{◌≡◌, sym, ap, ◌∙◌, subst}
use mathlib.Core.List.{List, [], ◌∷◌}
use Prim.Native.Nat.{ℕ, zero, suc, ◌+◌, ◌-◌, ◌*◌, ◌/◌, ◌%◌, ◌^◌, ◌≤◌, ◌<◌}
use native.Mathlib.Omega.{arith}
use native.Mathlib.Decide.{dec_lt}
use native.Mathlib.Nat.{pow-le-pow_right, pow-suc, one-le-pow, mod-eq_of_lt}
use lib.ListN.{length}
use Rattle.std.proofs.lemmas.Nat.{pow-add}
use Rattle.exact.proofs.LawsChoice.{choose_yes, choose_no}
use Rattle.encoding.specs.Varint.{Digits, tenth, last, more, Spells, shortest, spelling}

-- Digits that k more bytes may follow stand for a number below 2 * 128 ^ k.
pub digits-below : (k : ℕ) (bs : List ℕ) (v : ℕ) → Digits k bs v → v < 2 * 128 ^ k
digits-below k bs v (tenth h) = omega arith
digits-below k bs v (last {k = j} h) = rw pow-suc (omega (arith, one-le-pow j 128 (omega arith)))
digits-below k bs v (more {k = j} {bs = cs} {v = w} h d) = let ih = digits-below j cs w d in rw pow-suc (omega arith)

-- What is spelt fits 64 bits.
pub spells-below : (bs : List ℕ) (v : ℕ) → Spells bs v → v < 2 ^ 64
spells-below bs v s = digits-below 9 bs v s

-- A spelling has at least one byte.
pub digits-some : (k : ℕ) (bs : List ℕ) (v : ℕ) → Digits k bs v → 1 ≤ length bs
digits-some k bs v (tenth h) = omega arith
digits-some k bs v (last h) = omega arith
digits-some k bs v (more h d) = omega arith

-- A number below 128 is one byte ..
pub shortest-last : (k v : ℕ) → v < 128 → shortest (suc k) v ≡ v ∷ []
unfolding shortest
shortest-last k v h = choose_yes (dec_lt v 128) _ _ h

-- .. and another one goes on.
pub shortest-more : (k v : ℕ) → 128 ≤ v → shortest (suc k) v ≡ (128 + v % 128) ∷ shortest k (v / 128)
unfolding shortest
shortest-more k v h = choose_no (dec_lt v 128) _ _ (omega arith)

-- A number is below 128 or not.
pub by-128 : {P : Type 0} (v : ℕ) → (v < 128 → P) → (128 ≤ v → P) → P
by-128 v f g = elim (dec_lt v 128) [ yes h ↦ f h | no h ↦ g (omega arith) ]

shortest-digits : (k v : ℕ) → v < 2 * 128 ^ k → Digits k (shortest k v) v
unfolding shortest
shortest-digits zero v h =
    let e : v % 2 ≡ v = mod-eq_of_lt (omega arith) in
    let l : v < 128 = omega arith in
    let d : Digits zero (v ∷ []) (v % 2) = tenth l in
    subst (Digits zero (v ∷ [])) e d
shortest-digits (suc k) v h =
    by-128 v (λ l. rw (shortest-last k v l) (last l))
    (λ l.
    let q : v / 128 < 2 * 128 ^ k = omega (arith, rw pow-suc at h) in
    let m : 128 ≤ 128 + v % 128 = omega arith in
    let d : Digits (suc k) ((128 + v % 128) ∷ shortest k (v / 128)) ((128 + v % 128) % 128 + 128 * (v / 128)) =
    more m (shortest-digits k (v / 128) q) in
    let e : (128 + v % 128) % 128 + 128 * (v / 128) ≡ v = omega arith in
    rw (shortest-more k v l) (subst (Digits (suc k) ((128 + v % 128) ∷ shortest k (v / 128))) e d))

-- The written spelling spells its number.
pub spelling-spells : (v : ℕ) → v < 2 ^ 64 → Spells (spelling v) v
spelling-spells v h = shortest-digits 9 v h

shortest-least : (k : ℕ) (bs : List ℕ) (v : ℕ) → Digits k bs v → length (shortest k v) ≤ length bs
unfolding shortest
shortest-least k bs v (tenth h) = omega arith
shortest-least k bs v (last {k = j} h) = rw (shortest-last j v h) (omega arith)
shortest-least k bs v (more {k = j} {b = b} {bs = cs} {v = w} h d) =
    by-128 v (λ l. rw (shortest-last j v l) (omega arith))
    (λ l.
    let e : v / 128 ≡ w = omega arith in
    rw (shortest-more j v l, e) (omega (arith, shortest-least j cs w d)))

-- No spelling of a number is shorter than the written one.
pub spelling-shortest : (bs : List ℕ) (v : ℕ) → Spells bs v → length (spelling v) ≤ length bs
spelling-shortest bs v s = shortest-least 9 bs v s

-- The shortest digits are at most one more than may follow.
pub shortest-length : (k v : ℕ) → length (shortest k v) ≤ suc k
unfolding shortest
shortest-length zero v = omega arith
shortest-length (suc k) v =
    by-128 v (λ l. rw (shortest-last k v l) (omega arith))
    (λ l. rw (shortest-more k v l) (omega (arith, shortest-length k (v / 128))))

-- A number that k digits and a last one can spell is not spelt otherwise where more are allowed.
shortest-on : (k v : ℕ) → v < 128 ^ suc k → shortest k v ≡ shortest (suc k) v
unfolding shortest
shortest-on zero v h = sym (shortest-last zero v h)
shortest-on (suc k) v h =
    by-128 v (λ l. shortest-last k v l ∙ sym (shortest-last (suc k) v l))
    (λ l.
    let q : v / 128 < 128 ^ suc k = omega (arith, rw pow-suc at h) in
    shortest-more k v l ∙ ap (λ (bs : List ℕ). (128 + v % 128) ∷ bs) (shortest-on k (v / 128) q) ∙ sym (shortest-more (suc k) v l))

-- The written spelling of a number below 128 is that byte ..
pub spelling-last : (v : ℕ) → v < 128 → spelling v ≡ v ∷ []
spelling-last v h = shortest-last 8 v h

-- .. and that of another one is its low seven bits, marked, and the spelling of the rest.
pub spelling-more : (v : ℕ) → v < 2 ^ 64 → 128 ≤ v → spelling v ≡ (128 + v % 128) ∷ spelling (v / 128)
spelling-more v h l =
    let q : v / 128 < 128 ^ 9 = omega arith in
    shortest-more 8 v l ∙ ap (λ (bs : List ℕ). (128 + v % 128) ∷ bs) (shortest-on 8 (v / 128) q)

-- The written spelling has a byte at least, and ten at most.
pub spelling-some : (v : ℕ) → v < 2 ^ 64 → 1 ≤ length (spelling v)
spelling-some v h = digits-some 9 (spelling v) v (spelling-spells v h)

pub spelling-ten : (v : ℕ) → length (spelling v) ≤ 10
spelling-ten v = shortest-length 9 v

-- So a spelling below 128 has one byte ..
pub spelling-size-last : (v : ℕ) → v < 128 → length (spelling v) ≡ 1
spelling-size-last v h = ap length (spelling-last v h)

-- .. and another one has one more than that of the rest.
pub spelling-size-more : (v : ℕ) → v < 2 ^ 64 → 128 ≤ v → length (spelling v) ≡ suc (length (spelling (v / 128)))
spelling-size-more v h l = ap length (spelling-more v h l)

-- Seven bits are below 128, and an eighth is not.
below-seven : (k : ℕ) → 2 ^ k < 128 → k < 7
below-seven k h =
    elim (dec_lt k 7) [
      | yes l ↦ l
      | no l ↦ let p : 2 ^ 7 ≤ 2 ^ k = pow-le-pow_right {n = 2} (omega arith) {i = 7} {j = k} (omega arith) in absurd (omega arith)
    ]

from-seven : (k : ℕ) → 128 < 2 * 2 ^ k → 7 ≤ k
from-seven k h =
    elim (dec_lt k 7) [
      | yes l ↦ let p : 2 ^ k ≤ 2 ^ 6 = pow-le-pow_right {n = 2} (omega arith) {i = k} {j = 6} (omega arith) in absurd (omega arith)
      | no l ↦ omega arith
    ]

-- A number of k + 1 bits has a digit for each seven of them, and one for those left.
shortest-log : (j k v : ℕ) → 2 ^ k ≤ v → v < 2 * 2 ^ k → k < 7 * suc j → length (shortest j v) ≡ k / 7 + 1
unfolding shortest
shortest-log zero k v l h m = omega arith
shortest-log (suc j) k v l h m =
    by-128 v
    (λ s.
    let f : k < 7 = below-seven k (omega arith) in
    rw (shortest-last j v s) (omega arith))
    (λ s.
    let f : 7 ≤ k = from-seven k (omega arith) in
    let n = k - 7 in
    let a : k ≡ n + 7 = omega arith in
    let e : 2 ^ k ≡ 2 ^ n * 2 ^ 7 = ap (λ (i : ℕ). 2 ^ i) a ∙ pow-add 2 n 7 in
    rw (shortest-more j v s) (omega (arith, shortest-log j n (v / 128) (omega arith) (omega arith) (omega arith))))

-- So the highest bit tells the size of a spelling.
pub spelling-log : (k v : ℕ) → k < 64 → 2 ^ k ≤ v → v < 2 * 2 ^ k → length (spelling v) ≡ k / 7 + 1
spelling-log k v b l h = shortest-log 9 k v l h (omega arith)
