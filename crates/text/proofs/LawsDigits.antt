-- The digits of a number, put from the last one back at the end of an array. Assumes nothing.
use Rattle.std.proofs.Common.{◌≡◌, ℕ, zero, suc, ◌+◌, ◌-◌, ◌*◌, ◌/◌, ◌%◌, ◌^◌, ◌<◌, ◌≤◌, List, [], ◌∷◌, ◌++◌, length, drop, set, sym, refl, ap, ◌∙◌, append_assoc, pow-suc, arith, length-set, drop-cons, get_or-set_same, drop-set-lt}
use native.Mathlib.Decide.{dec_lt}
use Rattle.exact.proofs.LawsChoice.{choose_yes, choose_no}
use Rattle.format.specs.Names.{digits}

digits-one : (k n : ℕ) → n < 10 → digits (suc k) n ≡ (48 + n) ∷ []
unfolding digits
digits-one k n h = choose_yes (dec_lt n 10) _ _ h

digits_more : (k n : ℕ) → 10 ≤ n → digits (suc k) n ≡ digits k (n / 10) ++ ((48 + n % 10) ∷ [])
unfolding digits
digits_more k n h = choose_no (dec_lt n 10) _ _ (omega arith)

-- From the place of an element that was set on, there is it and what stands behind it.
drop-set : (l : List ℕ) (i b : ℕ) → i < length l → drop i (set l i b) ≡ b ∷ drop (suc i) l
drop-set l i b h =
    let n = length-set l i b in
    let k : i < length (set l i b) = omega arith in
    drop-cons (set l i b) i 0 k ∙ rw (get_or-set_same l i b 0 h, drop-set-lt (suc i) l i b (omega arith))

-- A number of more digits leaves them to its tenth, which has a digit less ..
pub tenth-below : (at rest : ℕ) → rest < 10 ^ suc at → rest / 10 < 10 ^ at
tenth-below at rest h =
    let e : 10 ^ suc at ≡ 10 ^ at * 10 = pow-suc 10 at in
    omega arith

-- .. so that it is not the first one ..
pub not_first : (at rest : ℕ) → rest < 10 ^ suc at → 10 ≤ rest → 0 < at
not_first zero rest h k = absurd (let e : 10 ^ suc zero ≡ 10 = refl in omega arith)
not_first (suc at) rest h k = omega arith

-- .. and its last one is put before those that stand there.
pub spelt-more : (at rest : ℕ) (ds whole : List ℕ) → 0 < at → at < length ds → 10 ≤ rest → whole ≡ digits (suc at) rest ++ drop (suc at) ds →
    whole ≡ digits (suc (at - 1)) (rest / 10) ++ drop (suc (at - 1)) (set ds at (48 + rest % 10))
spelt-more at rest ds whole z h k e =
    let i : suc (at - 1) ≡ at = omega arith in
    e ∙ rw (digits_more at rest k, i, drop-set ds at (48 + rest % 10) h, append_assoc)

-- The first digit is put, and all stand there.
pub spelt-one : (at rest : ℕ) (ds whole : List ℕ) → at < length ds → rest < 10 → whole ≡ digits (suc at) rest ++ drop (suc at) ds →
    drop at (set ds at (48 + rest)) ≡ whole
spelt-one at rest ds whole h k e =
    drop-set ds at (48 + rest) h ∙ sym (e ∙ ap (λ l. l ++ drop (suc at) ds) (digits-one at rest k))
