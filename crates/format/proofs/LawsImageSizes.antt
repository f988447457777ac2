-- An image is at least as long as each of its payloads, and a payload as what it holds. Assumes nothing.
use mathlib.Core.Path.{◌≡◌}
use mathlib.Core.Bool.{Bool, true, false, cond, false≢true}
use Prim.Native.Nat.{ℕ, suc, ◌+◌, ◌≤◌, ◌<◌}
use native.Mathlib.Omega.{arith}
use mathlib.Core.List.{List, [], ◌∷◌, ◌++◌}
use lib.ListN.{length, length-append}
use Rattle.exact.specs.Tiling.{join, sums}
use Rattle.exact.proofs.LawsFixed.{length-bytes_of}
use Rattle.encoding.specs.Varint.{spelling}
use Rattle.encoding.specs.Out.{flat}
use Rattle.format.specs.Sound.{All}
use Rattle.format.specs.Image.{Part, alignment_bytes, padded_numbers, offset_table, debug_bytes, part_bytes, parts_from}

-- A list is not shorter than one of its parts.
front-le : (xs ys : List ℕ) → length xs ≤ length (xs ++ ys)
front-le xs ys = rw length-append (omega arith)

pub back-le : (xs ys : List ℕ) → length ys ≤ length (xs ++ ys)
back-le xs ys = rw length-append (omega arith)

part-le : (i : ℕ) (s : Part) → length s.payload ≤ length (part_bytes i s)
unfolding part_bytes
part-le i s =
    let size = spelling (length s.payload) in
    let a = alignment_bytes s.alignment (i + 1 + length size) in
    omega (arith, back-le a s.payload, back-le size (a ++ s.payload))

-- Each payload that is written is at most as long as the sections that it stands among.
pub parts-small : (n i : ℕ) (ps : List Part) → length (parts_from i ps) ≤ n → All (λ s. s.present ≡ true → length s.payload ≤ n) ps
unfolding parts_from
parts-small n i [] h = tt
parts-small n i (s ∷ ps) h = go (λ j. parts-small n j ps) s.present h
  where
    go : ((j : ℕ) → length (parts_from j ps) ≤ n → All (λ s. s.present ≡ true → length s.payload ≤ n) ps) → (w : Bool) →
        length (cond w (part_bytes i s ++ parts_from (i + length (part_bytes i s)) ps) (parts_from i ps)) ≤ n →
        (w ≡ true → length s.payload ≤ n) × All (λ s. s.present ≡ true → length s.payload ≤ n) ps
    go next true k =
        let rest = parts_from (i + length (part_bytes i s)) ps in
        let a : length s.payload ≤ n = omega (arith, part-le i s, front-le (part_bytes i s) rest) in
        let b : length rest ≤ n = omega (arith, back-le (part_bytes i s) rest) in
        (λ e. a, next (i + length (part_bytes i s)) b)
    go next false k = (λ e. absurd (false≢true e), next i k)

-- Starts are at most the length of what they cut.
pub sums-below : {A : Type 0} (k n : ℕ) (es : List (List A)) → n + length (join es) < k → All (λ v. v < k) (sums n es)
sums-below k n [] h = tt
sums-below k n (e ∷ es) h =
    let g = length-append e (join es) in
    let a : n < k = omega arith in
    let b : n + length e + length (join es) < k = omega arith in
    (a, sums-below k (n + length e) es b)

-- Numbers are at least as many bytes.
flat-le : (w : ℕ) (vs : List ℕ) → length vs ≤ length (flat (suc w) vs)
flat-le w [] = omega arith
flat-le w (v ∷ vs) = rw length-append (omega (arith, length-bytes_of (suc w) v, flat-le w vs))

-- The entries of an offset table are not longer than it.
pub table-le : (w a i : ℕ) (es : List (List ℕ)) → length (join es) ≤ length (offset_table w a i es)
unfolding offset_table
table-le w a i es = back-le (padded_numbers w a i (sums 0 es)) (join es)

numbers-le : (w a i : ℕ) (vs : List ℕ) → length vs ≤ length (padded_numbers (suc w) a i vs)
unfolding padded_numbers
numbers-le w a i vs = simp length-append (omega (arith, flat-le w vs))

-- The ids and the attributes are not longer than Debug.
pub debug-le : (lists : List (List ℕ)) (es : List (List ℕ)) →
    (length (join lists) ≤ length (debug_bytes lists es)) × (length (join es) ≤ length (debug_bytes lists es))
unfolding debug_bytes
debug-le lists es =
    let starts = padded_numbers 4 4 0 (sums 0 lists) in
    let ids = padded_numbers 8 8 (length starts) (join lists) in
    let table = offset_table 4 4 (length starts + length ids) es in
    let a = back-le starts (ids ++ table) in
    let b = front-le ids table in
    let c = back-le ids table in
    (omega (arith, numbers-le 7 8 (length starts) (join lists)), omega (arith, table-le 4 4 (length starts + length ids) es))
