-- `put_row` puts the three words of a row. Assumes nothing.
use mathlib.Core.Path.{◌≡◌, ◌∙◌}
use Prim.Native.Nat.{ℕ, ◌+◌}
use native.Mathlib.Omega.{arith}
use mathlib.Core.List.{List, [], ◌∷◌}
use Rattle.sheet.specs.Store.{put_word, put_words}
use Rattle.cache.proofs.put_row.Goals as goal

-- Three words, one behind the other.
three : (s x y z : List ℕ) (k a b c : ℕ) → x ≡ put_word s k a → y ≡ put_word x (k + 1) b → z ≡ put_word y (k + 2) c →
    z ≡ put_words s k (a ∷ b ∷ c ∷ [])
unfolding put_words
three s x y z k a b c e f g =
    let n : k + 2 ≡ k + 1 + 1 = omega arith in
    g ∙ rw (f, e, n)

pub returns : goal.returns
returns c = three _ _ _ _ _ _ _ _ c.put_word.ensures c.put_word-2.ensures c.put_word-3.ensures
