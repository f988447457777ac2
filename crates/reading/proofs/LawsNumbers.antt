-- Each parser of a number is exact for its spelling. Assumes nothing.
use mathlib.Core.Path.{◌≡◌, sym, ap}
use mathlib.Core.Logic.{◌↔◌}
use Prim.Native.Nat.{ℕ, zero, suc, ◌+◌, ◌*◌, ◌%◌, ◌≤◌, ◌<◌}
use native.Mathlib.Omega.{arith}
use native.Mathlib.Decide.{dec_lt}
use mathlib.Core.List.{List, [], ◌++◌, append-nil}
use lib.ListN.{length, drop, length-append, length-drop}
use Rattle.exact.specs.Got.{got}
use Rattle.exact.specs.Exact.{Lang, Exact}
use Rattle.exact.specs.Basic.{One, one, Is, is, Never}
use Rattle.exact.specs.Sequence.{Then, then, Of, of}
use Rattle.exact.specs.Choice.{If, so, else}
use Rattle.exact.specs.Repeat.{Counted}
use Rattle.exact.specs.Fixed.{Fixed}
use Rattle.exact.specs.Padding.{Pad}
use Rattle.exact.proofs.LawsExact.{same-exact, exact-iff, unique}
use Rattle.exact.proofs.LawsBasic.{byte-exact, pure-exact, fail-exact}
use Rattle.exact.proofs.LawsSequence.{bind-exact, map-exact}
use Rattle.exact.proofs.LawsChoice.{choose-exact}
use Rattle.exact.proofs.LawsRepeat.{counted-exact}
use Rattle.exact.proofs.LawsFixed.{fixed-exact}
use Rattle.exact.proofs.LawsPadding.{blamed-exact, pad-exact}
use Rattle.enums.specs.Container.{P}
use Rattle.enums.specs.Refusals as refusals
use Rattle.encoding.specs.Varint.{Digits, tenth, last, more, Spells}
use Rattle.encoding.specs.Signed.{unzigzag, signed}
use Rattle.encoding.proofs.LawsVarint.{digits-some}
use Rattle.reading.specs.Numbers.{digits, varint_at, signed_varint_at, signed_at, padding_at, counted_at}

abbrev Last : Lang ℕ
Last = Then One (λ b. If (b < 128) (Is (b % 2)) Never)

last-to : (i : ℕ) (bs : List ℕ) (v : ℕ) → Last i bs v → Digits zero bs v
last-to i bs v (then one (so h is)) = tenth h
last-to i _ v (then {cs = cs} (one {b = b}) (else _ never)) = elim never [ ]

last-from : (i : ℕ) (bs : List ℕ) (v : ℕ) → Digits zero bs v → Last i bs v
last-from i bs v (tenth h) = then one (so h is)

abbrev Step : ℕ → Lang ℕ
Step k = Then One (λ b. If (b < 128) (Is b) (Of (λ v. b % 128 + 128 * v) (λ i. Digits k)))

step-to : (k i : ℕ) (bs : List ℕ) (v : ℕ) → Step k i bs v → Digits (suc k) bs v
step-to k i bs v (then one (so h is)) = last h
step-to k i bs v (then (one {b = b}) (else n (of d))) = let h : 128 ≤ b = omega arith in more h d

step_from : (k i : ℕ) (bs : List ℕ) (v : ℕ) → Digits (suc k) bs v → Step k i bs v
step_from k i bs v (last h) = then one (so h is)
step_from k i bs v (more {b = b} h d) = let n : ¬ (b < 128) = omega arith in then one (else n (of d))

-- The digits of a varint, over how many may follow.
pub digits-exact : (k : ℕ) → Exact (digits k) (λ i. Digits k)
unfolding digits
digits-exact zero =
    same-exact
    (bind-exact byte-exact (λ b. choose-exact (dec_lt b 128) (pure-exact (b % 2)) (fail-exact refusals.overlong)))
    (λ i bs v. (last-to i bs v, last-from i bs v))
digits-exact (suc k) =
    same-exact
    (bind-exact byte-exact
    (λ b. choose-exact (dec_lt b 128) (pure-exact b) (map-exact (λ v. b % 128 + 128 * v) (digits-exact k))))
    (λ i bs v. (step-to k i bs v, step_from k i bs v))

-- A varint is read exactly where one is spelt.
pub varint-exact : Exact varint_at (λ i. Spells)
unfolding varint_at
varint-exact = blamed-exact (digits-exact 9)

-- A signed varint.
pub signed-varint-exact : Exact signed_varint_at (Of unzigzag (λ i. Spells))
unfolding signed_varint_at
signed-varint-exact = map-exact unzigzag varint-exact

-- A signed number of w bytes.
pub signed-exact : (w : ℕ) → Exact (signed_at w) (Of (signed (8 * w)) (Fixed w))
unfolding signed_at
signed-exact w = map-exact (signed (8 * w)) (fixed-exact w)

-- Padding.
pub padding-exact : (a : ℕ) → Exact (padding_at a) (Pad P a)
unfolding padding_at
padding-exact a = pad-exact refusals.unpadded P a

-- Counted arrays.
pub counted-at-exact : (w : ℕ) → Exact (counted_at w) (Counted (λ i. Spells) (Fixed w))
unfolding counted_at
counted-at-exact w = counted-exact varint-exact (fixed-exact w)

-- The reader takes what is spelt, and nothing else.
pub varint-iff : (l : List ℕ) (i v j : ℕ) →
    (varint_at l i ≡ got v j) ↔ ((bs : List ℕ) × Spells bs v × (drop i l ≡ bs ++ drop j l) × (j ≡ i + length bs))
varint-iff l i v j =
    let e = exact-iff varint-exact l i v j in (
      λ h. let r = e.0 h in (r.bytes, r.spelt, r.there, r.next),
      λ (bs, s, t, n). e.1 record { bytes = bs; spelt = s; there = t; next = n },
    )

-- Bytes spell at most one number.
pub spells_one : (bs : List ℕ) (v w : ℕ) → Spells bs v → Spells bs w → v ≡ w
spells_one bs v w a b = unique varint-exact bs 0 bs bs [] [] v w a b (sym (append-nil bs)) (sym (append-nil bs))

-- A varint that was read ends inside, further on.
pub varint-in : (l : List ℕ) (i v j : ℕ) → got v j ≡ varint_at l i → (i < j) × (j ≤ length l)
varint-in l i v j e =
    let r = varint-exact.sound l i v j (sym e) in
    let some = digits-some 9 r.bytes v r.spelt in
    let long = ap length r.there in
    (omega (arith, r.next), omega (arith, r.next, length-append r.bytes (drop j l), length-drop i l, length-drop j l))
