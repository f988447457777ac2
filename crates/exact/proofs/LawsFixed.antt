-- Runs of bytes and numbers of a fixed width are read exactly; little-endian facts, once over the width. Assumes nothing.
use mathlib.Core.Path.{◌≡◌, refl, sym, ap, ◌∙◌, subst}
use Prim.Native.Nat.{ℕ, zero, suc, ◌+◌, ◌*◌, ◌/◌, ◌^◌, ◌≤◌, ◌<◌}
use native.Mathlib.Nat.{pow-suc}
use native.Mathlib.Omega.{arith}
use native.Mathlib.Decide.{dec_le}
use mathlib.Core.List.{List, ◌++◌}
use lib.ListN.{length, take, drop, length-append, take-append-drop}
use lib.Seq.{drop-drop, take-append_seam, length-take-le}
use Rattle.exact.specs.Got.{got, stop, ended}
use Rattle.exact.specs.Exact.{Reads, Exact}
use Rattle.exact.specs.Sequence.{of}
use Rattle.exact.specs.Choice.{choose}
use Rattle.exact.specs.Fixed.{raw, Raw, raw_of, little, bytes_of, fixed, Fixed, nums}
use Rattle.exact.proofs.LawsExact.{stop-not-got, reads_as}
use Rattle.exact.proofs.LawsSequence.{map-exact}
use Rattle.exact.proofs.LawsChoice.{choose_yes}

raw-sound : (n : ℕ) (l : List ℕ) (i : ℕ) (v : List ℕ) (j : ℕ) (d : Dec (n ≤ length (drop i l))) →
    choose d (got (take n (drop i l)) (i + n)) (stop ended i) ≡ got v j → Reads (Raw n) l i v j
unfolding choose
raw-sound n l i v j (yes h) e =
    let f : length (take n (drop i l)) ≡ n = length-take-le n (drop i l) h in
    reads_as
    record {
      bytes = take n (drop i l);
      spelt = raw_of f;
      there = rw (← drop-drop n i l) (sym (take-append-drop n (drop i l)));
      next = omega arith;
    } e
raw-sound n l i v j (no h) e = absurd (stop-not-got e)

raw-complete : (n : ℕ) (l : List ℕ) (i : ℕ) (bs rest v : List ℕ) → Raw n i bs v → drop i l ≡ bs ++ rest →
    raw n l i ≡ got v (i + length bs)
unfolding raw
raw-complete n l i bs rest v (raw_of f) d =
    let h : n ≤ length (drop i l) = rw (d, length-append) (omega arith) in
    choose_yes (dec_le n (length (drop i l))) _ _ h ∙ rw (d, ← f) (rw take-append_seam)

-- A run of n bytes is read exactly.
pub raw-exact : (n : ℕ) → Exact (raw n) (Raw n)
unfolding raw
raw-exact n = record { sound = λ l i v j e. raw-sound n l i v j (dec_le n (length (drop i l))) e; complete = raw-complete n }

-- A number of w bytes is read exactly.
pub fixed-exact : (w : ℕ) → Exact (fixed w) (Fixed w)
unfolding fixed
fixed-exact w = map-exact little (raw-exact w)

-- The bytes of a number are as many as its width.
pub length-bytes_of : (w n : ℕ) → length (bytes_of w n) ≡ w
unfolding bytes_of
length-bytes_of zero n = refl
length-bytes_of (suc w) n = ap suc (length-bytes_of w (n / 256))

-- The bytes of a number that fits its width are that number.
pub little-bytes_of : (w n : ℕ) → n < 256 ^ w → little (bytes_of w n) ≡ n
unfolding bytes_of little
little-bytes_of zero n h = omega arith
little-bytes_of (suc w) n h =
    let k : n < 256 ^ w * 256 = rw pow-suc at h in
    let q : n / 256 < 256 ^ w = omega arith in
    rw (little-bytes_of w (n / 256) q) (omega arith)

-- So they stand for it.
pub fixed_of : (w i n : ℕ) → n < 256 ^ w → Fixed w i (bytes_of w n) n
fixed_of w i n h =
    let o : Fixed w i (bytes_of w n) (little (bytes_of w n)) = of (raw_of (length-bytes_of w n)) in
    subst (Fixed w i (bytes_of w n)) (little-bytes_of w n h) o

-- As many numbers as were asked for.
pub length-nums : (n w : ℕ) (s : List ℕ) → length (nums n w s) ≡ n
unfolding nums
length-nums zero w s = refl
length-nums (suc n) w s = ap suc (length-nums n w (drop w s))
