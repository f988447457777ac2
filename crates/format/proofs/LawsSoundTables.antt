-- What the payloads of a file's bytes stand for, payload by payload: well-formed rows, and no more than the bytes allow.
-- Assumes nothing.
use mathlib.Core.Path.{◌≡◌, refl, ap, subst}
use Prim.Native.Nat.{ℕ, suc, ◌+◌, ◌^◌, ◌≤◌, ◌<◌}
use native.Mathlib.Omega.{arith}
use mathlib.Core.List.{List, [], ◌∷◌, ◌++◌, map}
use lib.ListN.{length, replicate, length-append}
use Rattle.exact.specs.Sequence.{of}
use Rattle.exact.specs.Padding.{gap}
use Rattle.exact.specs.Tiling.{join, Tiled}
use Rattle.exact.specs.Upto.{Whole}
use Rattle.exact.specs.Entries.{Rows}
use Rattle.exact.proofs.LawsTiling.{length-sums}
use Rattle.exact.proofs.LawsEntries.{whole_same}
use Rattle.enums.specs.declared.VersionClass.{VersionClass}
use Rattle.enums.specs.Container.{P}
use Rattle.format.specs.Tables.{TypeRow, Global, Function}
use Rattle.format.specs.Items.{Padded, padded}
use Rattle.format.specs.Strings.{OffsetTable}
use Rattle.format.specs.Types.{TypeEntry, Types}
use Rattle.format.specs.Globals.{GlobalRow, Globals}
use Rattle.format.specs.Functions.{FunctionRow, Functions}
use Rattle.format.specs.Debug.{DebugTables, AttributeEntry, Debug, debug}
use Rattle.format.specs.Sheet.{function_row_of, type_words, global_words, function_words, attribute_words, list_words}
use Rattle.format.specs.Sound.{All, Fits}
use Rattle.format.proofs.LawsImageItems.{all-front, all_back}
use Rattle.format.proofs.LawsImageTypes.{GoodType}
use Rattle.format.proofs.LawsImageRows.{GoodGlobal, GoodFunction, GoodAttribute}
use Rattle.format.proofs.LawsSoundItems.{Bytes, bytes-front, bytes_back, numbers-below, numbers-length}
use Rattle.format.proofs.LawsSoundTypes.{type-sized}
use Rattle.format.proofs.LawsSoundRows.{
  Sized,
  each-sized,
  sized-below,
  counted-sized,
  global-sized,
  function-sized,
  sized-apart,
  attribute-sized,
  entries-parted,
  table-parted,
}

-- Runs of bytes, not more than n of them and not more than n bytes in all.
pub record Runs (n : ℕ) (es : List (List ℕ)) : Type 0 where
  pub bytes : Bytes (join es)
  pub size : length (join es) ≤ n
  pub count : length es ≤ n

-- Strings and constants.
pub runs-of-table : (w a o n : ℕ) (bs : List ℕ) (v : Rows (List ℕ)) → OffsetTable (suc w) a o Whole 0 bs v → Bytes bs → length bs ≤ n →
    Runs n v.values
runs-of-table w a o n bs v t b l =
    let p = table-parted w a o 0 bs v t b in
    let e = whole_same p.parts v.values p.read in
    subst (Runs n) e (record { bytes = p.bytes; size = omega (arith, p.small); count = omega (arith, p.count) })

-- Types.
pub types-sized : (c : VersionClass) (o n : ℕ) (bs : List ℕ) (ts : List TypeRow) → Types c o 0 bs ts → Bytes bs → length bs ≤ n →
    Sized type_words (GoodType c) n ts
types-sized c o n bs ts (of {v = v} t) b l =
    let p = table-parted 3 4 o 0 bs v t b in
    sized-below type_words (GoodType c) _ n ts (omega (arith, p.small))
    (each-sized type_words (GoodType c) (TypeEntry c) (type-sized c 0) p.parts ts p.read p.bytes)

-- Globals.
pub globals-sized : (c : VersionClass) (o n : ℕ) (bs : List ℕ) (gs : List Global) → Globals c o 0 bs gs → Bytes bs → length bs ≤ n →
    Sized global_words (GoodGlobal c) n gs
globals-sized c o n bs gs u b l =
    sized-below global_words (GoodGlobal c) _ n gs l (counted-sized global_words (GoodGlobal c) (GlobalRow c) (global-sized c) 0 bs gs u b)

-- Functions: their rows, and their bodies.
pub functions-sized : (o n : ℕ) (bs : List ℕ) (v : Rows Function) → Functions o 0 bs v → Bytes bs → length bs ≤ n →
    Sized (λ f. function_words (function_row_of f)) GoodFunction n v.values × Sized (λ f. f.body) (λ f. Bytes f.body) n v.values
functions-sized o n bs v (of {v = xs} u) b l =
    let f : Function → List ℕ = λ f. function_words (function_row_of f) in
    let g : Function → List ℕ = λ f. f.body in
    let q : Function → Type 0 = λ f. Bytes f.body in (
      sized-apart f GoodFunction n xs
          (sized-below (λ x. f x.value) (λ x. GoodFunction x.value) _ n xs l
          (counted-sized (λ x. f x.value) (λ x. GoodFunction x.value) (FunctionRow o) (λ i y x r h. (function-sized o i y x r h).0) 0 bs xs u b)),
      sized-apart g q n xs
          (sized-below (λ x. g x.value) (λ x. q x.value) _ n xs l
          (counted-sized (λ x. g x.value) (λ x. q x.value) (FunctionRow o) (λ i y x r h. (function-sized o i y x r h).1) 0 bs xs u b)),
    )

-- Padded numbers.
record Numbered (w n : ℕ) (vs : List ℕ) : Type 0 where
  each : All (λ v. v < 256 ^ w) vs
  count : length vs ≤ n

padded-numbered : (w a i : ℕ) (bs vs : List ℕ) → Padded (suc w) a i bs vs → Bytes bs → Numbered (suc w) (length bs) vs
padded-numbered w a i bs vs (padded {i = k} {count = c} {numbers = x} s m) b =
    let pads = replicate (gap a (k + length c)) P in
    record {
      each = numbers-below (suc w) (length vs) _ x vs m (bytes_back pads x (bytes_back c (pads ++ x) b));
      count = simp length-append (omega (arith, numbers-length (suc w) (length vs) _ x vs m));
    }

-- The ids of a list fit.
abbrev pub GoodList : List ℕ → Type 0
GoodList = All (Fits 64)

lists-good : (ls : List (List ℕ)) → All (Fits 64) (join ls) → All GoodList ls
lists-good [] a = tt
lists-good (l ∷ ls) a = (all-front (Fits 64) l (join ls) a, lists-good ls (all_back (Fits 64) l (join ls) a))

lists-words : (ls : List (List ℕ)) → length (join (map list_words ls)) ≡ length ls + length (join ls)
lists-words [] = refl
lists-words (l ∷ ls) = rw (length-append, length-append) (omega (arith, lists-words ls))

lists-sized : (n : ℕ) (starts ids : List ℕ) (ls : List (List ℕ)) → Tiled starts ids ls → Numbered 4 n starts → Numbered 8 n ids →
    Sized list_words GoodList n ls
lists-sized n starts ids ls t s i =
    let k = ap length t.whole in
    let j = length-append t.gap (join ls) in
    let c = ap length t.starts in
    let d = length-sums (length t.gap) ls in
    let e : length (join ls) ≤ n = omega (arith, i.count) in
    let a : All (Fits 64) (join ls) = all_back (Fits 64) t.gap (join ls) (subst (All (Fits 64)) t.whole i.each) in
    record {
      each = lists-good ls a;
      size = omega (arith, lists-words ls, s.count);
      count = omega (arith, s.count);
    }

-- Debug.
pub debug-sized : (n : ℕ) (bs : List ℕ) (d : DebugTables) → Debug 0 bs d → Bytes bs → length bs ≤ n →
    Sized attribute_words GoodAttribute n d.attributes × Sized list_words GoodList n d.lists
debug-sized n bs d (debug {start_bytes = x} {id_bytes = y} {attribute_bytes = z} {starts = ss} {ids = ds} {lists = ls} {attributes = r} p q e t) b l =
    let k : length (x ++ (y ++ z)) ≡ length x + (length y + length z) = simp length-append in
    let b₁ = bytes_back x (y ++ z) b in
    let m = entries-parted 3 4 0 _ z r e (bytes_back y z b₁) in
    let u = padded-numbered 3 4 0 x ss p (bytes-front x (y ++ z) b) in
    let v = padded-numbered 7 8 _ y ds q (bytes-front y z b₁) in (
      sized-below attribute_words GoodAttribute _ n r.values (omega (arith, m.small))
          (each-sized attribute_words GoodAttribute AttributeEntry (attribute-sized 0) m.parts r.values m.read m.bytes),
      lists-sized n ss ds ls t (record { each = u.each; count = omega (arith, u.count) })
          (record { each = v.each; count = omega (arith, v.count) }),
    )
