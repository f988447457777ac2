-- Writing and then reading at the same place returns what was written and the place behind it: one law for whatever is
-- read exactly, and its instance for each kind. Assumes nothing.
use mathlib.Core.Path.{◌≡◌, refl, ap, ◌∙◌, subst}
use Prim.Native.Nat.{ℕ, zero, suc, ◌+◌, ◌*◌, ◌-◌, ◌^◌, ◌≤◌, ◌<◌}
use native.Mathlib.Nat.{pow-suc}
use native.Mathlib.Omega.{arith}
use mathlib.Core.List.{List, [], ◌∷◌, ◌++◌}
use lib.IntN.{ℤ}
use lib.Signed.{mag}
use lib.ListN.{length, take, drop, replicate, length-replicate}
use lib.Seq.{drop_at, length-take-le}
use Rattle.exact.specs.Got.{got}
use Rattle.exact.specs.Exact.{Parser, Lang, Exact}
use Rattle.exact.specs.Basic.{byte, one}
use Rattle.exact.specs.Sequence.{Of, of}
use Rattle.exact.specs.Repeat.{Many, nil, cons, counted_of}
use Rattle.exact.specs.Fixed.{raw, raw_of, bytes_of, fixed, Fixed}
use Rattle.exact.specs.Padding.{gap, literal_of}
use Rattle.exact.proofs.LawsBasic.{byte-exact}
use Rattle.exact.proofs.LawsFixed.{raw-exact, fixed-exact, length-bytes_of, fixed_of}
use Rattle.enums.specs.Container.{P}
use Rattle.encoding.specs.Varint.{Spells, spelling}
use Rattle.encoding.specs.Signed.{zigzag, unzigzag, pattern, signed}
use Rattle.encoding.specs.Out.{Room, put, flat, counted_bytes}
use Rattle.encoding.proofs.LawsOut.{put-room}
use Rattle.encoding.proofs.LawsSigned.{unzigzag-zigzag, zigzag-fits, pattern-fits, signed-pattern}
use Rattle.encoding.proofs.LawsVarint.{spelling-spells}
use Rattle.reading.specs.Numbers.{varint_at, signed_varint_at, signed_at, padding_at, counted_at}
use Rattle.reading.proofs.LawsNumbers.{varint-exact, signed-varint-exact, signed-exact, padding-exact, counted-at-exact}

-- What was put at a place is there.
put-there : (out : List ℕ) (at : ℕ) (bs : List ℕ) → Room out at bs → drop at (put out at bs) ≡ bs ++ drop (at + length bs) out
put-there out at bs h =
    ap (drop at) (put-room out at bs h) ∙
    drop_at (take at out) (bs ++ drop (at + length bs) out) at (length-take-le at out (omega arith))

-- Whatever is read exactly is read back.
pub read_back : {A : Type 0} {p : Parser A} {R : Lang A} → Exact p R → (out : List ℕ) (at : ℕ) (bs : List ℕ) (v : A) → R at bs v →
    Room out at bs → p (put out at bs) at ≡ got v (at + length bs)
read_back x out at bs v r h = x.complete (put out at bs) at bs (drop (at + length bs) out) v r (put-there out at bs h)

-- A byte.
pub byte-back : (out : List ℕ) (at b : ℕ) → at + 1 ≤ length out → byte (put out at (b ∷ [])) at ≡ got b (at + 1)
byte-back out at b h = read_back byte-exact out at (b ∷ []) b one h

-- A run of bytes.
pub run-back : (out : List ℕ) (at : ℕ) (bs : List ℕ) → Room out at bs → raw (length bs) (put out at bs) at ≡ got bs (at + length bs)
run-back out at bs h = read_back (raw-exact (length bs)) out at bs bs (raw_of refl) h

-- A varint.
pub varint-back : (out : List ℕ) (at v : ℕ) → v < 2 ^ 64 → Room out at (spelling v) →
    varint_at (put out at (spelling v)) at ≡ got v (at + length (spelling v))
varint-back out at v f h = read_back varint-exact out at (spelling v) v (spelling-spells v f) h

-- A signed varint.
pub signed-varint-back : (out : List ℕ) (at : ℕ) (z : ℤ) → mag z < 2 ^ 63 → Room out at (spelling (zigzag z)) →
    signed_varint_at (put out at (spelling (zigzag z))) at ≡ got z (at + length (spelling (zigzag z)))
signed-varint-back out at z f h =
    let bs : List ℕ = spelling (zigzag z) in
    let r : Of unzigzag (λ i. Spells) at bs (unzigzag (zigzag z)) = of (spelling-spells (zigzag z) ((zigzag-fits z).0 f)) in
    read_back signed-varint-exact out at bs z (subst (Of unzigzag (λ i. Spells) at bs) (unzigzag-zigzag z) r) h

-- A number of w bytes.
pub fixed_back : (w : ℕ) (out : List ℕ) (at n : ℕ) → n < 256 ^ w → at + w ≤ length out →
    fixed w (put out at (bytes_of w n)) at ≡ got n (at + w)
fixed_back w out at n f h =
    let e : length (bytes_of w n) ≡ w = length-bytes_of w n in
    read_back (fixed-exact w) out at (bytes_of w n) n (fixed_of w at n f) (omega arith) ∙ ap (λ k. got n (at + k)) e

bits-bytes : (w : ℕ) → 2 ^ (8 * w) ≡ 256 ^ w
bits-bytes zero = refl
bits-bytes (suc w) =
    let e : 8 * suc w ≡ suc (suc (suc (suc (suc (suc (suc (suc (8 * w)))))))) = omega arith in
    rw (e, pow-suc 2, pow-suc 2, pow-suc 2, pow-suc 2, pow-suc 2, pow-suc 2, pow-suc 2, pow-suc 2, pow-suc 256)
    (omega (arith, bits-bytes w))

-- A signed number of w bytes.
pub signed_back : (w : ℕ) (out : List ℕ) (at : ℕ) (z : ℤ) → 1 ≤ w → mag z < 2 ^ (8 * w - 1) → at + w ≤ length out →
    signed_at w (put out at (bytes_of w (pattern (8 * w) z))) at ≡ got z (at + w)
signed_back w out at z p f h =
    let n : ℕ = pattern (8 * w) z in
    let l : n < 256 ^ w = omega (arith, pattern-fits (8 * w) (omega arith) z f, bits-bytes w) in
    let e : length (bytes_of w n) ≡ w = length-bytes_of w n in
    let r : Of (signed (8 * w)) (Fixed w) at (bytes_of w n) (signed (8 * w) n) = of (fixed_of w at n l) in
    read_back (signed-exact w) out at (bytes_of w n) z
    (subst (Of (signed (8 * w)) (Fixed w) at (bytes_of w n)) (signed-pattern (8 * w) (omega arith) z f) r) (omega arith) ∙
    ap (λ k. got z (at + k)) e

-- Padding.
pub padding-back : (out : List ℕ) (at a : ℕ) → at + gap a at ≤ length out →
    padding_at a (put out at (replicate (gap a at) P)) at ≡ got tt (at + gap a at)
padding-back out at a h =
    let e : length (replicate (gap a at) P) ≡ gap a at = length-replicate (gap a at) P in
    read_back (padding-exact a) out at (replicate (gap a at) P) tt literal_of (omega arith) ∙ ap (λ k. got tt (at + k)) e

-- Every number of a list fits w bytes.
abbrev pub AllFit : ℕ → List ℕ → Type 0
AllFit w [] = Unit
AllFit w (v ∷ vs) = (v < 256 ^ w) × AllFit w vs

many-spelt : (w i : ℕ) (vs : List ℕ) → AllFit w vs → Many (Fixed w) (length vs) i (flat w vs) vs
many-spelt w i [] f = nil
many-spelt w i (v ∷ vs) f = cons (fixed_of w i v f.0) (many-spelt w (i + length (bytes_of w v)) vs f.1)

-- A counted array.
pub counted_back : (w : ℕ) (out : List ℕ) (at : ℕ) (vs : List ℕ) → length vs < 2 ^ 64 → AllFit w vs → Room out at (counted_bytes w vs) →
    counted_at w (put out at (counted_bytes w vs)) at ≡ got vs (at + length (counted_bytes w vs))
counted_back w out at vs n f h =
    let c : List ℕ = spelling (length vs) in
    read_back (counted-at-exact w) out at (counted_bytes w vs) vs
    (counted_of (spelling-spells (length vs) n) (many-spelt w (at + length c) vs f)) h
