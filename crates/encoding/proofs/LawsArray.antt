-- What an array's bytes are, number by number: once over the width and what a number's pattern is. Assumes nothing.
use mathlib.Core.Path.{◌≡◌, sym, ap, ◌∙◌}
use mathlib.Core.List.{List, [], ◌∷◌, map}
use Prim.Native.Nat.{ℕ, suc, ◌+◌, ◌-◌, ◌*◌, ◌≤◌, ◌<◌}
use native.Mathlib.Nat.{add-mul, suc-mul, zero-mul}
use native.Mathlib.Numerals.{add-one}
use native.Mathlib.Omega.{arith}
use lib.ListN.{length, get_or, drop, length-append, length-drop, length-map, drop_of_length-le}
use lib.Seq.{drop-cons}
use Rattle.exact.specs.Fixed.{bytes_of}
use Rattle.exact.proofs.LawsFixed.{length-bytes_of}
use Rattle.encoding.specs.Out.{put, flat}
use Rattle.encoding.proofs.LawsOut.{put-nil, put-append}

-- An array has its numbers' widths for length.
pub length-flat : (w : ℕ) (vs : List ℕ) → length (flat w vs) ≡ length vs * w
length-flat w [] = sym (zero-mul w)
length-flat w (v ∷ vs) =
    rw length-append (omega (arith, length-bytes_of w v, length-flat w vs, suc-mul (length vs) w))

module _ {A : Type 0} (w : ℕ) (f : A → ℕ) where
  -- One turn of a loop that puts numbers: the next of them, and the place behind it.
  pub array-turn : (out out' : List ℕ) (xs : List A) (at next i v : ℕ) (x : A) → i < length xs → next ≡ at + i * w →
      at + length xs * w ≤ length out → v ≡ f (get_or xs i x) → out' ≡ put out next (bytes_of w v) →
      put out next (flat w (map f (drop i xs))) ≡ put out' (next + w) (flat w (map f (drop (i + 1) xs)))
  array-turn out out' xs at next i v x h p r e o =
      let rest = map f (drop (suc i) xs) in
      let k = length xs - suc i in
      let l : length rest ≡ k = length-map (drop (suc i) xs) f ∙ length-drop (suc i) xs in
      let n : length (flat w rest) ≡ k * w = length-flat w rest ∙ ap (λ (m : ℕ). m * w) l in
      let b : length (bytes_of w v) ≡ w = length-bytes_of w v in
      let s : length xs ≡ i + suc k = omega arith in
      let m : length xs * w ≡ i * w + (k * w + w) =
      ap (λ (m : ℕ). m * w) s ∙ add-mul i (suc k) w ∙ ap (λ (m : ℕ). i * w + m) (suc-mul k w) in
      rw (add-one i, drop-cons xs i x h, ← e)
      (put-append (bytes_of w v) (flat w rest) out next (omega arith) ∙ rw (← o, b))

  -- Nothing is left past the last number.
  pub array-done : (out : List ℕ) (xs : List A) (at i : ℕ) → length xs ≤ i →
      put out at (flat w (map f (drop i xs))) ≡ out
  array-done out xs at i h = rw (drop_of_length-le xs h) (put-nil out at)
