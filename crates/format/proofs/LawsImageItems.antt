-- What the writer writes for numbers, arrays, optional fields and offset tables stands for them. Assumes nothing.
use mathlib.Core.Path.{refl, ap, ◌∙◌}
use mathlib.Core.Logic.{inl, inr}
use Prim.Native.Nat.{ℕ, ◌+◌, ◌^◌, ◌<◌}
use mathlib.Core.List.{List, [], ◌∷◌, ◌++◌, map, append_assoc}
use lib.ListN.{length, replicate}
use Rattle.exact.specs.Exact.{Lang}
use Rattle.exact.specs.Choice.{choose}
use Rattle.exact.specs.Repeat.{Many, nil, cons, counted_of}
use Rattle.exact.specs.Fixed.{bytes_of, Fixed}
use Rattle.exact.specs.Padding.{gap}
use Rattle.exact.specs.Tiling.{join, sums}
use Rattle.exact.specs.Entries.{Each, Entries}
use Rattle.exact.proofs.LawsFixed.{fixed_of}
use Rattle.exact.proofs.LawsTiling.{length-sums}
use Rattle.enums.specs.Container.{P}
use Rattle.encoding.specs.Varint.{spelling}
use Rattle.encoding.specs.Out.{flat, counted_bytes}
use Rattle.encoding.proofs.LawsVarint.{spelling-spells}
use Rattle.format.specs.Items.{Number, Byte, byte_of, Field, there, absent, Array, Indices, Padded, padded, Bit0}
use Rattle.format.specs.Sound.{All, Fits, OnlyIf}
use Rattle.format.specs.Tests.{bit0?}
use Rattle.format.specs.Image.{varints, counted_varints, only_where, optional_byte, padded_numbers, offset_table}

module _ {A : Type 0} (Q : A → Type 0) where
  -- What holds of all holds of the first ones ..
  pub all-front : (xs ys : List A) → All Q (xs ++ ys) → All Q xs
  all-front [] ys h = tt
  all-front (x ∷ xs) ys h = (h.0, all-front xs ys h.1)

  -- .. and of the last ones.
  pub all_back : (xs ys : List A) → All Q (xs ++ ys) → All Q ys
  all_back [] ys h = h
  all_back (x ∷ xs) ys h = all_back xs ys h.1

  -- What holds of the first and of the last holds of all.
  pub all_both : (xs ys : List A) → All Q xs → All Q ys → All Q (xs ++ ys)
  all_both [] ys h k = k
  all_both (x ∷ xs) ys h k = (h.0, all_both xs ys h.1 k)

-- What follows from two things that hold of each holds of each.
pub all-zip : {A : Type 0} (Q R S : A → Type 0) → ((v : A) → Q v → R v → S v) → (vs : List A) → All Q vs → All R vs → All S vs
all-zip Q R S f [] h k = tt
all-zip Q R S f (v ∷ vs) h k = (f v h.0 k.0, all-zip Q R S f vs h.1 k.1)

-- What holds of each value of f holds of each, through f.
pub all-unmap : {A B : Type 0} (Q : B → Type 0) (f : A → B) (vs : List A) → All Q (map f vs) → All (λ v. Q (f v)) vs
all-unmap Q f [] h = tt
all-unmap Q f (v ∷ vs) h = (h.0, all-unmap Q f vs h.1)

-- Numbers of w bytes each.
pub fixed-all : (w i : ℕ) (vs : List ℕ) → All (λ v. v < 256 ^ w) vs → Many (Fixed w) (length vs) i (flat w vs) vs
fixed-all w i [] h = nil
fixed-all w i (v ∷ vs) h = cons (fixed_of w i v h.0) (fixed-all w (i + length (bytes_of w v)) vs h.1)

-- Varints.
pub varints-all : (i : ℕ) (vs : List ℕ) → All (Fits 64) vs → Many Number (length vs) i (varints vs) vs
unfolding varints
varints-all i [] h = nil
varints-all i (v ∷ vs) h = cons (spelling-spells v h.0) (varints-all (i + length (spelling v)) vs h.1)

-- A counted array.
pub array_of : (w : ℕ) (vs : List ℕ) → Fits 64 (length vs) → All (λ v. v < 256 ^ w) vs → Array w (counted_bytes w vs) vs
array_of w vs n h = counted_of (spelling-spells (length vs) n) (fixed-all w _ vs h)

-- Counted varints.
pub indices-of : (vs : List ℕ) → Fits 64 (length vs) → All (Fits 64) vs → Indices (counted_varints vs) vs
unfolding counted_varints
indices-of vs n h = counted_of (spelling-spells (length vs) n) (varints-all _ vs h)

-- A field that is there or not.
pub field_of : {Q : Type 0} {R : List ℕ → ℕ → Type 0} (d : Dec Q) (bs : List ℕ) (v : ℕ) → OnlyIf Q v → R bs v → Field Q R (only_where d bs) v
unfolding only_where choose
field_of (yes q) bs v h r = there q r
field_of (no n) bs v (inl q) r = absurd (n q)
field_of (no n) bs v (inr e) r = rw e (absent n)

-- An optional byte.
pub byte-field : (flags b : ℕ) → OnlyIf (Bit0 flags) b → Field (Bit0 flags) Byte (optional_byte flags b) b
unfolding optional_byte
byte-field flags b h = field_of (bit0? flags) (b ∷ []) b h byte_of

-- A count, padding, and numbers.
pub padded-of : (w a i : ℕ) (vs : List ℕ) → Fits 64 (length vs) → All (λ v. v < 256 ^ w) vs → Padded w a i (padded_numbers w a i vs) vs
unfolding padded_numbers
padded-of w a i vs n h = padded (spelling-spells (length vs) n) (fixed-all w _ vs h)

-- Where the entries of an offset table stand.
abbrev pub entry_places : ℕ → ℕ → ℕ → ℕ → List (List ℕ) → List ℕ
entry_places w a o i es =
    let count = spelling (length es) in
    let pads = replicate (gap a (i + length count)) P in
    sums (o + i + length count + length pads + length (flat w (sums 0 es)) + 0) es

-- An offset table.
pub entries-of : {A : Type 0} {R : Lang A} (w a o i : ℕ) (es : List (List ℕ)) (vs : List A) → Fits 64 (length es) →
    All (λ v. v < 256 ^ w) (sums 0 es) → Each R es vs →
    Entries Number P w a o R i (offset_table w a i es) (record { at = entry_places w a o i es; values = vs })
unfolding offset_table padded_numbers
entries-of w a o i es vs n h e =
    let count = spelling (length es) in
    let pads = replicate (gap a (i + length count)) P in
    let starts = flat w (sums 0 es) in
    record {
      parts = es;
      table =
          record {
            count = count;
            pads = pads;
            starts = starts;
            before = [];
            whole = rw length-sums (append_assoc count (pads ++ starts) (join es) ∙ ap (λ x. count ++ x) (append_assoc pads starts (join es)));
            counted = spelling-spells (length es) n;
            padded = refl;
            started = rw (← length-sums 0 es) (fixed-all w _ (sums 0 es) h);
          };
      placed = refl;
      read = e;
    }
