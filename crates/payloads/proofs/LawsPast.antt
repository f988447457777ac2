-- Words past the end of a store. Assumes nothing.
use mathlib.Core.Path.{◌≡◌, refl}
use Prim.Native.Nat.{ℕ, ◌+◌, ◌*◌, ◌/◌, ◌≤◌, ◌<◌}
use native.Mathlib.Omega.{arith}
use mathlib.Core.List.{List, [], ◌∷◌}
use lib.ListN.{length}
use Rattle.exact.specs.Fixed.{bytes_of}
use Rattle.exact.proofs.LawsFixed.{length-bytes_of}
use Rattle.encoding.proofs.LawsOut.{put_full}
use lib.ListN.{length-append}
use Rattle.sheet.proofs.LawsStore.{put_words-append}
use Rattle.payloads.proofs.LawsWords.{word-before}
use Rattle.sheet.specs.Store.{put_word, put_words}

-- A store that has no word i has none behind it either: it stays as it is.
pub put_words-past : (ws s : List ℕ) (i : ℕ) → length s / 8 ≤ i → put_words s i ws ≡ s
unfolding put_words put_word
put_words-past [] s i h = refl
put_words-past (w ∷ ws) s i h =
    let k : length s < i * 8 + length (bytes_of 8 w) = omega (arith, length-bytes_of 8 w) in
    rw (put_full s (i * 8) (bytes_of 8 w) k) (put_words-past ws s (i + 1) (omega arith))

-- Words behind words.
pub ruleset words_behind = (put_words-append, length-append, word-before)
