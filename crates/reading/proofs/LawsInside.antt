-- What was read lies inside the data, at or behind the place where reading began, and a refusal names no earlier place.
-- Assumes nothing.
use mathlib.Core.Path.{◌≡◌, refl, sym, ap, ◌∙◌}
use Prim.Native.Nat.{ℕ, zero, suc, ◌+◌, ◌-◌, ◌*◌, ◌≤◌}
use native.Mathlib.Omega.{arith}
use native.Mathlib.Decide.{dec_lt}
use mathlib.Core.List.{List, [], ◌∷◌}
use lib.ListN.{length, drop, replicate, length-append, length-drop}
use Rattle.exact.specs.Got.{Got, got, stop, follow}
use Rattle.exact.specs.Exact.{Parser, Lang, Exact}
use Rattle.exact.specs.Basic.{byte, pure}
use Rattle.exact.specs.Sequence.{bind, mapped}
use Rattle.exact.specs.Repeat.{times, counted}
use Rattle.exact.specs.Fixed.{raw, little, fixed}
use Rattle.exact.specs.Padding.{literal, broke, blamed, here, gap, pad}
use Rattle.exact.proofs.LawsExact.{stop-not-got, got-next, stop-place}
use Rattle.exact.proofs.LawsFixed.{raw-exact, fixed-exact}
use Rattle.exact.proofs.LawsRepeat.{times-exact}
use Rattle.exact.proofs.LawsSteps.{byte_at, byte-end, raw_at, raw-end, fixed-at, fixed-end}
use Rattle.enums.specs.Container.{P}
use Rattle.enums.specs.Refusals as refusals
use Rattle.encoding.specs.Signed.{unzigzag, signed}
use Rattle.reading.specs.Numbers.{digits, varint_at, signed_varint_at, signed_at, padding_at, counted_at, placed, items_at}
use Rattle.reading.proofs.LawsNumbers.{varint-exact}
use Rattle.reading.proofs.LawsPlaced.{placed-stop}

-- What is read exactly takes no more bytes than are left, and the next place is not before the first.
pub exact-inside : {A : Type 0} {p : Parser A} {R : Lang A} → Exact p R → (l : List ℕ) (i : ℕ) (v : A) (j : ℕ) →
    p l i ≡ got v j → (i ≤ j) × (j - i ≤ length l - i)
exact-inside x l i v j e =
    let r = x.sound l i v j e in
    let long = ap length r.there in (
      omega (arith, r.next),
      omega (arith, r.next, length-append r.bytes (drop j l), length-drop i l, length-drop j l),
    )

-- A byte that was read is followed by a place inside ..
pub byte-in : (l : List ℕ) (i v j : ℕ) → got v j ≡ byte l i → (j ≡ i + 1) × (j ≤ length l)
byte-in l i v j e =
    elim (dec_lt i (length l)) [
      | yes h ↦ let n : j ≡ i + 1 = got-next (e ∙ byte_at l i h) in (n, omega arith)
      | no h ↦ absurd (stop-not-got (sym (e ∙ byte-end l i (omega arith))))
    ]

-- .. and so is a number of w bytes.
pub fixed_in : (w : ℕ) (l : List ℕ) (i v j : ℕ) → 1 ≤ w → got v j ≡ fixed w l i → (j ≡ i + w) × (j ≤ length l)
fixed_in w l i v j p e =
    elim (dec_lt (length l - i) w) [
      | yes h ↦ absurd (stop-not-got (sym (e ∙ fixed-end w l i h)))
      | no h ↦ let n : j ≡ i + w = got-next (e ∙ fixed-at w l i (omega arith)) in (n, omega arith)
    ]

-- A parser's refusals name no place before the one where it began.
abbrev pub Ahead : {A : Type 0} → Parser A → Type 0
Ahead p = (l : List ℕ) (i c k : ℕ) → p l i ≡ stop c k → i ≤ k

pub byte-ahead : Ahead byte
byte-ahead l i c k e =
    elim (dec_lt i (length l)) [
      | yes h ↦ absurd (stop-not-got (sym e ∙ byte_at l i h))
      | no h ↦ omega (arith, stop-place (sym e ∙ byte-end l i (omega arith)))
    ]

pub raw-ahead : (n : ℕ) → Ahead (raw n)
raw-ahead n l i c k e =
    elim (dec_lt (length l - i) n) [
      | yes h ↦ omega (arith, stop-place (sym e ∙ raw-end n l i h))
      | no h ↦ absurd (stop-not-got (sym e ∙ raw_at n l i (omega arith)))
    ]

-- What is refused as a whole is refused where it began.
broke-place : {A : Type 0} (g : Got A) (i c k : ℕ) → broke g i ≡ stop c k → k ≡ i
unfolding broke
broke-place (got v j) i c k e = absurd (stop-not-got (sym e))
broke-place (stop d m) i c k e = sym (stop-place e)

pub blamed-ahead : {A : Type 0} (p : Parser A) → Ahead (blamed p)
unfolding blamed
blamed-ahead p l i c k e = omega (arith, broke-place (p l i) i c k e)

pure-ahead : {A : Type 0} (w : A) → Ahead (pure w)
unfolding pure
pure-ahead w l i c k e = absurd (stop-not-got (sym e))

module _ {A B : Type 0} {p : Parser A} {R : Lang A} (x : Exact p R) (a : Ahead p) where
  go-on : (f : A → Parser B) → ((v : A) → Ahead (f v)) → (l : List ℕ) (i c k : ℕ) (g : Got A) → p l i ≡ g →
      follow g (λ v j. f v l j) ≡ stop c k → i ≤ k
  unfolding follow
  go-on f b l i c k (got v j) h e = omega (arith, (exact-inside x l i v j h).0, b v l j c k e)
  go-on f b l i c k (stop d m) h e = omega (arith, a l i d m h, stop-place e)

  -- One after another.
  pub bind-ahead : (f : A → Parser B) → ((v : A) → Ahead (f v)) → Ahead (bind p f)
  unfolding bind
  bind-ahead f b l i c k e = go-on f b l i c k (p l i) refl e

  -- A function of what was read.
  pub map-ahead : (g : A → B) → Ahead (mapped g p)
  unfolding mapped
  map-ahead g = bind-ahead (λ v. pure (g v)) (λ v. pure-ahead (g v))

-- Numbers of a fixed width, ..
pub fixed-ahead : (w : ℕ) → Ahead (fixed w)
unfolding fixed
fixed-ahead w = map-ahead (raw-exact w) (raw-ahead w) little

-- .. n of them, ..
pub times-ahead : (n w : ℕ) → Ahead (times n (fixed w))
unfolding times
times-ahead zero w = pure-ahead []
times-ahead (suc n) w =
    bind-ahead (fixed-exact w) (fixed-ahead w) (λ v. mapped (λ vs. v ∷ vs) (times n (fixed w)))
    (λ v. map-ahead (times-exact n (fixed-exact w)) (times-ahead n w) (λ vs. v ∷ vs))

-- .. and signed ones.
pub signed-ahead : (w : ℕ) → Ahead (signed_at w)
unfolding signed_at
signed-ahead w = map-ahead (fixed-exact w) (fixed-ahead w) (signed (8 * w))

-- Varints.
pub varint-place : (l : List ℕ) (i c k : ℕ) → varint_at l i ≡ stop c k → k ≡ i
unfolding varint_at blamed
varint-place l i c k e = broke-place (digits 9 l i) i c k e

pub varint-ahead : Ahead varint_at
unfolding varint_at
varint-ahead = blamed-ahead (digits 9)

pub signed-varint-ahead : Ahead signed_varint_at
unfolding signed_varint_at
signed-varint-ahead = map-ahead varint-exact varint-ahead unzigzag

-- Padding.
pub padding-ahead : (a : ℕ) → Ahead (padding_at a)
unfolding padding_at pad
padding-ahead a = blamed-ahead (here (λ i. literal refusals.unpadded (replicate (gap a i) P)))

-- What is read with its place.
pub placed-ahead : {A : Type 0} (p : Parser A) → Ahead p → Ahead (placed p)
placed-ahead p a l i c k e = a l i c k (placed-stop p l i c k e)

-- Counted arrays.
pub counted-ahead : (w : ℕ) → Ahead (counted_at w)
unfolding counted_at counted
counted-ahead w = bind-ahead varint-exact varint-ahead (λ n. times n (fixed w)) (λ n. times-ahead n w)

pub items-ahead : (w : ℕ) → Ahead (items_at w)
unfolding items_at
items-ahead w =
    bind-ahead varint-exact varint-ahead (λ n. placed (times n (fixed w)))
    (λ n. placed-ahead (times n (fixed w)) (times-ahead n w))
