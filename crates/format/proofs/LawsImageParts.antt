-- The sections of an image that fits: each can be a section of a file, and stands for its table. Assumes nothing.
use mathlib.Core.Path.{◌≡◌, refl}
use mathlib.Core.Bool.{true, false, true≢false, false≢true}
use Prim.Native.Nat.{ℕ, ◌+◌, ◌^◌, ◌≤◌, ◌<◌}
use native.Mathlib.Decide.{ℕ_discrete, dec_lt}
use native.Mathlib.Omega.{arith}
use mathlib.Core.List.{List, [], ◌∷◌}
use mathlib.Core.Option.{Option, none, some}
use lib.ListN.{length}
use Rattle.exact.specs.Exact.{Lang}
use Rattle.exact.specs.Tiling.{join}
use Rattle.exact.specs.Upto.{Whole, whole_of}
use Rattle.exact.specs.Entries.{Each, none_left, entry_of, Rows}
use Rattle.format.specs.Tables.{Tables}
use Rattle.format.specs.Strings.{OffsetTable, filled}
use Rattle.format.specs.Decode.{most_bytes}
use Rattle.format.specs.Sound.{All, Fits}
use Rattle.format.specs.Tests.{both?, all?, not?, fits?}
use Rattle.format.specs.Image.{
  Part,
  offset_table,
  has_rows,
  string_part,
  producer_part,
  type_part,
  constant_part,
  global_part,
  function_part,
  debug_part,
  parts_of,
}
use Rattle.format.proofs.LawsImageItems.{all-zip, entries-of}
use Rattle.format.proofs.LawsImageSections.{GoodAlignment, GoodPart, NoId}
use Rattle.format.proofs.LawsImageSizes.{sums-below, table-le}

-- A question whose test says yes holds.
abbrev pub SaysYes : {P : Type 0} → Dec P → Type 0
SaysYes (yes p) = Unit
SaysYes (no n) = ⊥

pub said-yes : {P : Type 0} (d : Dec P) → SaysYes d → P
said-yes (yes p) u = p
said-yes (no n) u = absurd u

-- No part of these has this id, by their ids.
abbrev pub no_id? : (id : ℕ) (ps : List Part) → Dec (NoId id ps)
no_id? id = all? (λ s. not? (ℕ_discrete s.id id))

alignment? : (a : Option ℕ) → Dec (GoodAlignment a)
alignment? none = yes tt
alignment? (some a) = fits? 64 a

-- Id and alignment are those of a section.
abbrev Named : Part → Type 0
Named s = (s.id < 128) × (¬ (s.id ≡ 0) × GoodAlignment s.alignment)

named? : (s : Part) → Dec (Named s)
named? s = both? (dec_lt s.id 128) (both? (not? (ℕ_discrete s.id 0)) (alignment? s.alignment))

parts-named : (t : Tables) → All Named (parts_of t)
unfolding parts_of string_part producer_part type_part constant_part global_part function_part debug_part all? both? not? fits? named? alignment? ℕ_discrete dec_lt
parts-named t = said-yes (all? named? (parts_of t)) tt

-- The payload, if it is written, fits an image.
abbrev pub Small : Part → Type 0
Small s = s.present ≡ true → length s.payload ≤ most_bytes

pub parts-good : (t : Tables) → All Small (parts_of t) → All (λ s. s.present ≡ true → GoodPart s) (parts_of t)
parts-good t h =
    all-zip Named Small (λ s. s.present ≡ true → GoodPart s)
    (λ s n m e.
    let k = m e in
    record { small = n.0; not_end = n.1.0; aligned = n.1.1; sized = omega arith })
    (parts_of t) (parts-named t) h

pub rows_none : {A : Type 0} (xs : List A) → has_rows xs ≡ false → [] ≡ xs
unfolding has_rows
rows_none [] e = refl
rows_none (x ∷ xs) e = absurd (true≢false e)

pub rows-some : {A : Type 0} (xs : List A) → has_rows xs ≡ true → 1 ≤ length xs
unfolding has_rows
rows-some [] e = absurd (false≢true e)
rows-some (x ∷ xs) e = omega arith

-- Entries that are their bytes.
pub whole_each : (es : List (List ℕ)) → Each Whole es es
whole_each [] = none_left
whole_each (e ∷ es) = entry_of whole_of (whole_each es)

-- An offset table whose payload fits an image.
pub table_of : {A : Type 0} {R : Lang A} (w a o : ℕ) (es : List (List ℕ)) (vs : List A) → most_bytes < 256 ^ w → Fits 64 (length es) → 1 ≤ length vs →
    length (offset_table w a 0 es) ≤ most_bytes → Each R es vs → (v : Rows A) × OffsetTable w a o R 0 (offset_table w a 0 es) v × (v.values ≡ vs)
table_of w a o es vs m n k l e =
    let b : 0 + length (join es) < 256 ^ w = omega (arith, table-le w a 0 es) in
    (_, filled (entries-of w a o 0 es vs n (sums-below (256 ^ w) 0 es b) e) k, refl)
