-- The items of payloads are read exactly. Assumes nothing.
use mathlib.Core.Path.{◌≡◌, sym, subst, refl}
use Prim.Native.Nat.{ℕ, ◌+◌}
use native.Mathlib.Decide.{ℕ_discrete}
use mathlib.Core.Bool.{Bool, true, false}
use mathlib.Core.List.{List}
use lib.ListN.{length, length-replicate}
use Rattle.exact.specs.Exact.{Parser, Lang, Exact}
use Rattle.exact.specs.Basic.{byte, One, one, Is, is}
use Rattle.exact.specs.Sequence.{mapped, Then, then, Of, of}
use Rattle.exact.specs.Choice.{If, so, else}
use Rattle.exact.specs.Repeat.{Many, nil, cons, Counted, counted_of}
use Rattle.exact.specs.Fixed.{raw_of, Fixed}
use Rattle.exact.specs.Padding.{Pad, gap, literal_of}
use Rattle.exact.proofs.LawsExact.{same-exact}
use Rattle.exact.proofs.LawsBasic.{byte-exact, pure-exact}
use Rattle.exact.proofs.LawsSequence.{bind-exact, map-exact}
use Rattle.exact.proofs.LawsChoice.{choose-exact, choose_yes, choose_no}
use Rattle.exact.proofs.LawsRepeat.{times-exact, counted-exact, many-length}
use Rattle.exact.proofs.LawsFixed.{fixed-exact}
use Rattle.enums.specs.Container.{P}
use Rattle.reading.specs.Numbers.{counted_at}
use Rattle.reading.proofs.LawsNumbers.{varint-exact, padding-exact, counted-at-exact}
use Rattle.format.specs.Items.{Number, Byte, byte_of, Field, there, absent, Array, Indices, Padded, padded, truth, Truth, truth_of}
use Rattle.format.specs.DecodeTables.{field_at, indices_at, padded_at}

-- What stands for a value does not depend on the place.
abbrev pub Anywhere : {A : Type 0} → Lang A → Type 0
Anywhere {A = A} R = (i j : ℕ) (bs : List ℕ) (v : A) → R i bs v → R j bs v

many-anywhere : {A : Type 0} {R : Lang A} → Anywhere R → (n i j : ℕ) (bs : List ℕ) (vs : List A) → Many R n i bs vs → Many R n j bs vs
many-anywhere h n i j bs vs nil = nil
many-anywhere h n i j bs vs (cons {n = m} {bs = b} {cs = c} {v = v} {vs = ws} r t) =
    cons (h i j b v r) (many-anywhere h m (i + length b) (j + length b) c ws t)

counted-anywhere : {A : Type 0} {C : Lang ℕ} {R : Lang A} → Anywhere C → Anywhere R → Anywhere (Counted C R)
counted-anywhere g h i j bs vs (counted_of {c = c} {bs = b} s m) =
    counted_of (g i j c (length vs) s) (many-anywhere h (length vs) (i + length c) (j + length c) b vs m)

number-anywhere : Anywhere Number
number-anywhere i j bs v s = s

pub fixed-anywhere : (w : ℕ) → Anywhere (Fixed w)
fixed-anywhere w i j bs v (of (raw_of e)) = of (raw_of e)

-- A counted array.
pub array-exact : (w : ℕ) → Exact (counted_at w) (λ i. Array w)
array-exact w =
    same-exact (counted-at-exact w)
    (λ i bs v. (
      counted-anywhere number-anywhere (fixed-anywhere w) i 0 bs v,
      counted-anywhere number-anywhere (fixed-anywhere w) 0 i bs v,
    ))

-- Counted varints.
pub indices-exact : Exact indices_at (λ i. Indices)
unfolding indices_at
indices-exact =
    same-exact (counted-exact varint-exact varint-exact)
    (λ i bs v. (counted-anywhere number-anywhere number-anywhere i 0 bs v, counted-anywhere number-anywhere number-anywhere 0 i bs v))

to-byte : (i : ℕ) (bs : List ℕ) (v : ℕ) → One i bs v → Byte bs v
to-byte i bs v one = byte_of

of-byte : (i : ℕ) (bs : List ℕ) (v : ℕ) → Byte bs v → One i bs v
of-byte i bs v byte_of = one

-- A byte.
pub one-byte-exact : Exact byte (λ i. Byte)
one-byte-exact = same-exact byte-exact (λ i bs v. (to-byte i bs v, of-byte i bs v))

module _ {Q : Type 0} {R : List ℕ → ℕ → Type 0} where
  to-field : (i : ℕ) (bs : List ℕ) (v : ℕ) → If Q (λ i. R) (Is 0) i bs v → Field Q R bs v
  to-field i bs v (so q r) = there q r
  to-field i bs v (else n is) = absent n

  of_field : (i : ℕ) (bs : List ℕ) (v : ℕ) → Field Q R bs v → If Q (λ i. R) (Is 0) i bs v
  of_field i bs v (there q r) = so q r
  of_field i bs v (absent n) = else n is

-- A field that may be absent.
pub field-exact : {Q : Type 0} (d : Dec Q) {p : Parser ℕ} {R : List ℕ → ℕ → Type 0} → Exact p (λ i. R) →
    Exact (field_at d p) (λ i. Field Q R)
unfolding field_at
field-exact d x = same-exact (choose-exact d x (pure-exact 0)) (λ i bs v. (to-field i bs v, of_field i bs v))

module _ {R : List ℕ → ℕ → Type 0} where
  to-truth : (i : ℕ) (bs : List ℕ) (v : ℕ) → Of truth (λ i. R) i bs v → Truth R bs v
  to-truth i bs v (of r) = truth_of r

  of-truth : (i : ℕ) (bs : List ℕ) (v : ℕ) → Truth R bs v → Of truth (λ i. R) i bs v
  of-truth i bs v (truth_of r) = of r

-- Whether a number is nonzero.
pub truth-exact : {p : Parser ℕ} {R : List ℕ → ℕ → Type 0} → Exact p (λ i. R) → Exact (mapped truth p) (λ i. Truth R)
truth-exact x = same-exact (map-exact truth x) (λ i bs v. (to-truth i bs v, of-truth i bs v))

abbrev PaddedChain : ℕ → ℕ → Lang (List ℕ)
PaddedChain w a = Then Number (λ n. Then (Pad P a) (λ u. Many (Fixed w) n))

to-padded : (w a i : ℕ) (bs vs : List ℕ) → PaddedChain w a i bs vs → Padded w a i bs vs
to-padded w a i bs vs (then {bs = c} {v = n} s (then literal_of (m))) =
    let q : n ≡ length vs = many-length n _ _ vs m in
    let z : Many (Fixed w) n (i + length c + gap a (i + length c)) _ vs = rw length-replicate at m in
    padded (rw q at s) (rw q at z)

of-padded : (w a i : ℕ) (bs vs : List ℕ) → Padded w a i bs vs → PaddedChain w a i bs vs
of-padded w a i bs vs (padded {count = c} {numbers = b} s m) =
    let g : ℕ = gap a (i + length c) in
    then s (then literal_of (subst (λ k. Many (Fixed w) (length vs) (i + length c + k) b vs) (sym (length-replicate g P)) m))

-- A padded array.
pub padded-exact : (w a : ℕ) → Exact (padded_at w a) (Padded w a)
unfolding padded_at
padded-exact w a =
    same-exact (bind-exact varint-exact (λ n. bind-exact (padding-exact a) (λ u. times-exact n (fixed-exact w))))
    (λ i bs v. (to-padded w a i bs v, of-padded w a i bs v))

-- A flag is 0 or 1.
pub truth-zero : (v : ℕ) → v ≡ 0 → 0 ≡ truth v
unfolding truth
truth-zero v h = sym (choose_yes (ℕ_discrete v 0) 0 1 h)

pub truth-one : (v : ℕ) → ¬ (v ≡ 0) → 1 ≡ truth v
unfolding truth
truth-one v h = sym (choose_no (ℕ_discrete v 0) 0 1 h)

-- A test that is not passed has failed.
pub not-true : (b : Bool) → ¬ (b ≡ true) → b ≡ false
not-true true n = absurd (n refl)
not-true false n = refl
