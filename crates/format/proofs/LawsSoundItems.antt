-- What numbers, arrays and optional fields of a file's bytes can be: numbers fit their wire width, and there are no more
-- of them than bytes. Assumes nothing.
use mathlib.Core.Path.{◌≡◌, refl}
use mathlib.Core.Logic.{inl, inr}
use Prim.Native.Nat.{ℕ, zero, suc, ◌+◌, ◌*◌, ◌^◌, ◌≤◌, ◌<◌}
use native.Mathlib.Decide.{ℕ_discrete}
use native.Mathlib.Nat.{pow-suc}
use native.Mathlib.Omega.{arith}
use mathlib.Core.List.{List, [], ◌∷◌, ◌++◌}
use lib.ListN.{length, get_or, replicate, length-append}
use Rattle.exact.specs.Sequence.{of}
use Rattle.exact.specs.Choice.{choose}
use Rattle.exact.specs.Repeat.{Many, nil, cons, counted_of}
use Rattle.exact.specs.Fixed.{little, raw_of, Fixed}
use Rattle.encoding.specs.Varint.{Spells}
use Rattle.encoding.proofs.LawsVarint.{spells-below, digits-some}
use Rattle.format.specs.Items.{
  Number,
  Byte,
  byte_of,
  Field,
  there,
  absent,
  Array,
  Indices,
  Truth,
  truth,
  truth_of,
}
use Rattle.format.specs.Sound.{All, Fits, OnlyIf}
use Rattle.format.proofs.LawsImageItems.{all-front, all_back}

-- Bytes.
abbrev pub Bytes : List ℕ → Type 0
Bytes = All (Fits 8)

pub bytes-front : (xs ys : List ℕ) → Bytes (xs ++ ys) → Bytes xs
bytes-front = all-front (Fits 8)

pub bytes_back : (xs ys : List ℕ) → Bytes (xs ++ ys) → Bytes ys
bytes_back = all_back (Fits 8)

-- The elements of a slice of bytes are bytes ..
pub known_bytes : (l : List ℕ) → ((i : ℕ) → get_or l i 0 < 256) → Bytes l
known_bytes [] h = tt
known_bytes (x ∷ l) h = (h 0, known_bytes l (λ i. h (suc i)))

-- .. and so are zeros.
pub zeros-fit : (n : ℕ) → Bytes (replicate n 0)
zeros-fit zero = tt
zeros-fit (suc n) = (omega arith, zeros-fit n)

little-below : (bs : List ℕ) → Bytes bs → little bs < 256 ^ length bs
unfolding little
little-below [] h = omega arith
little-below (b ∷ bs) h =
    let l = little-below bs h.1 in
    let k : b < 256 = h.0 in
    rw pow-suc (omega arith)

-- A number of w bytes fits them.
pub fixed-below : (w i : ℕ) (bs : List ℕ) (v : ℕ) → Fixed w i bs v → Bytes bs → v < 256 ^ w
fixed-below w i bs v (of (raw_of e)) h = rw (← e) (little-below bs h)

-- Numbers of w bytes fit them, and take w bytes each.
pub numbers-below : (w n i : ℕ) (bs vs : List ℕ) → Many (Fixed w) n i bs vs → Bytes bs → All (λ v. v < 256 ^ w) vs
numbers-below w n i bs vs nil h = tt
numbers-below w n i bs vs (cons {n = m} {i = k} {bs = b} {cs = c} {v = v} {vs = us} f t) h =
    (fixed-below w k b v f (bytes-front b c h), numbers-below w m _ c us t (bytes_back b c h))

pub numbers-length : (w n i : ℕ) (bs vs : List ℕ) → Many (Fixed w) n i bs vs → length bs ≡ w * length vs
numbers-length w n i bs vs nil = omega arith
numbers-length w n i bs vs (cons {n = m} {bs = b} {cs = c} {vs = us} (of (raw_of e)) t) =
    rw (length-append, numbers-length w m _ c us t) (omega arith)

-- A varint takes one byte at least.
pub spells-some : (bs : List ℕ) (v : ℕ) → Spells bs v → 1 ≤ length bs
spells-some bs v s = digits-some 9 bs v s

-- Varints fit 64 bits, and are not more than their bytes.
pub varints-below : (n i : ℕ) (bs vs : List ℕ) → Many Number n i bs vs → All (Fits 64) vs
varints-below n i bs vs nil = tt
varints-below n i bs vs (cons {n = m} {bs = b} {cs = c} {v = v} {vs = us} s t) = (spells-below b v s, varints-below m _ c us t)

pub varints-length : (n i : ℕ) (bs vs : List ℕ) → Many Number n i bs vs → length vs ≤ length bs
varints-length n i bs vs nil = omega arith
varints-length n i bs vs (cons {n = m} {bs = b} {cs = c} {v = v} {vs = us} s t) =
    rw length-append (omega (arith, spells-some b v s, varints-length m _ c us t))

-- What a list of numbers in a type entry is: its count and numbers fit, and take a byte each at least.
pub record Listed (w : ℕ) (bs vs : List ℕ) : Type 0 where
  pub count : Fits 64 (length vs)
  pub each : All (λ v. v < 256 ^ w) vs
  pub size : 1 + length vs ≤ length bs

pub array-listed : (w : ℕ) (bs vs : List ℕ) → Array (suc w) bs vs → Bytes bs → Listed (suc w) bs vs
array-listed w bs vs (counted_of {c = c} {bs = b} s m) h =
    record {
      count = spells-below c (length vs) s;
      each = numbers-below (suc w) (length vs) _ b vs m (bytes_back c b h);
      size = rw length-append (omega (arith, spells-some c (length vs) s, numbers-length (suc w) (length vs) _ b vs m));
    }

pub indices-listed : (bs vs : List ℕ) → Indices bs vs → Listed 8 bs vs
indices-listed bs vs (counted_of {c = c} {bs = b} s m) =
    record {
      count = spells-below c (length vs) s;
      each = varints-below (length vs) _ b vs m;
      size = rw length-append (omega (arith, spells-some c (length vs) s, varints-length (length vs) _ b vs m));
    }

-- A field is absent or there.
pub field-only : {Q : Type 0} {R : List ℕ → ℕ → Type 0} (bs : List ℕ) (v : ℕ) → Field Q R bs v → OnlyIf Q v
field-only bs v (there q r) = inl q
field-only bs v (absent n) = inr refl

pub varint-field : {Q : Type 0} (bs : List ℕ) (v : ℕ) → Field Q Spells bs v → Fits 64 v
varint-field bs v (there q r) = spells-below bs v r
varint-field bs v (absent n) = omega arith

pub byte-below : {Q : Type 0} (bs : List ℕ) (v : ℕ) → Field Q Byte bs v → Bytes bs → Fits 8 v
byte-below bs v (there q byte_of) h = h.0
byte-below bs v (absent n) h = omega arith

-- Nonzero means 1.
pub truth-below : (v : ℕ) → truth v < 2
unfolding truth choose
truth-below v = go (ℕ_discrete v 0)
  where
    go : (d : Dec (v ≡ 0)) → choose d 0 1 < 2
    go (yes e) = omega arith
    go (no n) = omega arith

pub truth-field : {Q : Type 0} {R : List ℕ → ℕ → Type 0} (bs : List ℕ) (v : ℕ) → Field Q (Truth R) bs v → v < 2
truth-field bs v (there q (truth_of {v = u} r)) = truth-below u
truth-field bs v (absent n) = omega arith
