-- What words and runs put into a store leave there. Assumes nothing.
use mathlib.Core.Path.{◌≡◌, refl, sym, ap, ap₂, subst, ◌∙◌}
use Prim.Native.Nat.{ℕ, suc, ◌+◌, ◌-◌, ◌*◌, ◌≤◌, ◌<◌}
use native.Mathlib.Nat.{add-zero}
use native.Mathlib.Omega.{arith}
use mathlib.Core.List.{List, [], ◌∷◌, ◌++◌, append_assoc, append-nil}
use lib.ListN.{length, take, drop, length-append, length-drop, take-append-drop, drop_of_length-le}
use lib.Seq.{take_at, drop_at, drop-drop, length-take-le}
use Rattle.exact.specs.Fixed.{bytes_of}
use Rattle.exact.specs.Tiling.{join}
use Rattle.exact.proofs.LawsFixed.{length-bytes_of}
use Rattle.encoding.specs.Out.{put, flat}
use Rattle.encoding.proofs.LawsArray.{length-flat}
use Rattle.encoding.proofs.LawsOut.{by-room, put-room, put_full, put-nil, put-append, length-put}
use Rattle.sheet.specs.Store.{put_word, put_words, put_runs}

-- Bytes that fill a part of a store are put into the store where the part begins.
pub put-part : (s x y : List ℕ) (a k : ℕ) → a + k ≤ length s → length x ≡ k → y ≡ put (take k (drop a s)) 0 x →
    take a s ++ (y ++ drop k (drop a s)) ≡ put s a x
put-part s x y a k h e f =
    let d : length (drop a s) ≡ length s - a = length-drop a s in
    let n : length (take k (drop a s)) ≡ k = length-take-le k (drop a s) (omega arith) in
    let m : drop (0 + length x) (take k (drop a s)) ≡ [] = drop_of_length-le (take k (drop a s)) {i = 0 + length x} (omega arith) in
    let q : a + length x ≡ a + k = omega arith in
    let r : y ≡ x = f ∙ put-room (take k (drop a s)) 0 x (omega arith) ∙ ap (λ l. x ++ l) m ∙ append-nil x in
    rw r (sym (put-room s a x (omega arith) ∙ rw (q, drop-drop)))

-- Words are put one list after the other.
pub put_words-append : (a b s : List ℕ) (i : ℕ) → put_words s i (a ++ b) ≡ put_words (put_words s i a) (i + length a) b
unfolding put_words
put_words-append [] b s i = rw add-zero
put_words-append (w ∷ a) b s i =
    let e : i + 1 + length a ≡ i + suc (length a) = omega arith in
    put_words-append a b (put_word s i w) (i + 1) ∙ rw e

-- Words that all have room are put as one run of bytes.
pub put_words-run : (ws s : List ℕ) (i : ℕ) → 8 * (i + length ws) ≤ length s → put_words s i ws ≡ put s (i * 8) (flat 8 ws)
unfolding put_words put_word
put_words-run [] s i h =
    sym (put-nil s (i * 8))
put_words-run (w ∷ ws) s i h =
    let n = length-bytes_of 8 w in
    let m : 8 * (i + 1 + length ws) ≤ length (put s (i * 8) (bytes_of 8 w)) = rw length-put (omega arith) in
    let e : (i + 1) * 8 ≡ i * 8 + length (bytes_of 8 w) = omega arith in
    let r : i * 8 + (length (bytes_of 8 w) + length (flat 8 ws)) ≤ length s = omega (arith, length-flat 8 ws) in
    put_words-run ws (put s (i * 8) (bytes_of 8 w)) (i + 1) m ∙ rw e (sym (put-append (bytes_of 8 w) (flat 8 ws) s (i * 8) r))

-- A store of no bytes stays so.
pub put_words-empty : (ws : List ℕ) (i : ℕ) → put_words [] i ws ≡ []
unfolding put_words put_word
put_words-empty [] i = refl
put_words-empty (w ∷ ws) i =
    let k : length {A = ℕ} [] < i * 8 + length (bytes_of 8 w) = omega (arith, length-bytes_of 8 w) in
    rw (put_full [] (i * 8) (bytes_of 8 w) k) (put_words-empty ws (i + 1))

-- Words keep the store's length.
pub length-put_words : (ws s : List ℕ) (i : ℕ) → length (put_words s i ws) ≡ length s
unfolding put_words put_word
length-put_words [] s i = refl
length-put_words (w ∷ ws) s i = length-put_words ws (put s (i * 8) (bytes_of 8 w)) (i + 1) ∙ length-put s (i * 8) (bytes_of 8 w)

-- Runs are put one list after the other.
pub put_runs-append : (a b : List (List ℕ)) (s : List ℕ) (at : ℕ) →
    put_runs s at (a ++ b) ≡ put_runs (put_runs s at a) (at + length (join a)) b
unfolding put_runs
put_runs-append [] b s at = rw add-zero
put_runs-append (r ∷ a) b s at =
    let e : at + length r + length (join a) ≡ at + length (r ++ join a) = omega (arith, length-append r (join a)) in
    put_runs-append a b (put s at r) (at + length r) ∙ rw e

-- Runs that all have room are put as one.
pub put_runs-run : (rs : List (List ℕ)) (s : List ℕ) (at : ℕ) → at + length (join rs) ≤ length s → put_runs s at rs ≡ put s at (join rs)
unfolding put_runs
put_runs-run [] s at h = sym (put-nil s at)
put_runs-run (r ∷ rs) s at h =
    let n = length-append r (join rs) in
    let m : at + length r + length (join rs) ≤ length (put s at r) = rw length-put (omega arith) in
    put_runs-run rs (put s at r) (at + length r) m ∙ sym (put-append r (join rs) s at (omega arith))

-- Runs keep the pool's length.
pub length-put_runs : (rs : List (List ℕ)) (s : List ℕ) (at : ℕ) → length (put_runs s at rs) ≡ length s
unfolding put_runs
length-put_runs [] s at = refl
length-put_runs (r ∷ rs) s at = length-put_runs rs (put s at r) (at + length r) ∙ length-put s at r

-- Bytes take the place of as many.
put-at : (x m r b : List ℕ) (i : ℕ) → length x ≡ i → length m ≡ length b → put (x ++ (m ++ r)) i b ≡ x ++ (b ++ r)
put-at x m r b i e n =
    let l = length-append x (m ++ r) in
    let k = length-append m r in
    let h : i + length b ≤ length (x ++ (m ++ r)) = omega arith in
    let o : length (x ++ m) ≡ i + length b = length-append x m ∙ ap₂ (λ u v. u + v) e n in
    put-room (x ++ (m ++ r)) i b h ∙
    ap₂ (λ u v. u ++ (b ++ v)) (take_at x (m ++ r) i e)
    (ap (λ u. drop (i + length b) u) (sym (append_assoc x m r)) ∙ drop_at (x ++ m) r (i + length b) o)

-- Bytes at one place and bytes behind them, in either order.
module _ (x m y n z a b : List ℕ) (i j : ℕ) (e : length x ≡ i) (f : length m ≡ length a) (g : i + length a + length y ≡ j)
    (h : length n ≡ length b) where
  past : (c t : List ℕ) → (x ++ (c ++ y)) ++ t ≡ x ++ (c ++ (y ++ t))
  past c t = append_assoc x (c ++ y) t ∙ ap (λ u. x ++ u) (append_assoc c y t)

  long : (c : List ℕ) → length c ≡ length a → length (x ++ (c ++ y)) ≡ j
  long c q = omega (arith, length-append x (c ++ y), length-append c y)

  behind : (c : List ℕ) → length c ≡ length a → put (x ++ (c ++ (y ++ (n ++ z)))) j b ≡ x ++ (c ++ (y ++ (b ++ z)))
  behind c q =
      ap (λ u. put u j b) (sym (past c (n ++ z))) ∙ put-at (x ++ (c ++ y)) n z b j (long c q) h ∙ past c (b ++ z)

  put_both : put (put (x ++ (m ++ (y ++ (n ++ z)))) i a) j b ≡ put (put (x ++ (m ++ (y ++ (n ++ z)))) j b) i a
  put_both =
      ap (λ u. put u j b) (put-at x m (y ++ (n ++ z)) a i e f) ∙ behind a refl ∙
      sym (ap (λ u. put u i a) (behind m f) ∙ put-at x m (y ++ (b ++ z)) a i e f)

put-swap : (out : List ℕ) (i : ℕ) (a : List ℕ) (j : ℕ) (b : List ℕ) → i + length a ≤ j →
    put (put out i a) j b ≡ put (put out j b) i a
put-swap out i a j b h =
    by-room out j b
    (λ k.
    let rest = drop (length a) (drop i out) in
    let far = j - (i + length a) in
    let x : length (take i out) ≡ i = length-take-le i out (omega arith) in
    let p : length (drop i out) ≡ length out - i = length-drop i out in
    let m : length (take (length a) (drop i out)) ≡ length a = length-take-le (length a) (drop i out) (omega arith) in
    let q : length rest ≡ length (drop i out) - length a = length-drop (length a) (drop i out) in
    let y : length (take far rest) ≡ far = length-take-le far rest (omega arith) in
    let o : length (drop far rest) ≡ length rest - far = length-drop far rest in
    let n : length (take (length b) (drop far rest)) ≡ length b = length-take-le (length b) (drop far rest) (omega arith) in
    let g : i + length a + length (take far rest) ≡ j = omega arith in
    subst (λ l. put (put l i a) j b ≡ put (put l j b) i a) (parts i (length a) far (length b))
    (put_both (take i out) (take (length a) (drop i out)) (take far rest) (take (length b) (drop far rest))
    (drop (length b) (drop far rest)) a b i j x m g n))
    (λ k.
    let r : length (put out i a) < j + length b = rw length-put k in
    put_full (put out i a) j b r ∙ ap (λ l. put l i a) (sym (put_full out j b k)))
  where
    parts : (p q r s : ℕ) →
        take p out ++
        (take q (drop p out) ++
        (take r (drop q (drop p out)) ++ (take s (drop r (drop q (drop p out))) ++ drop s (drop r (drop q (drop p out)))))) ≡
        out
    parts p q r s =
        rw (take-append-drop s (drop r (drop q (drop p out))), take-append-drop r (drop q (drop p out)), take-append-drop q (drop p out))
        (take-append-drop p out)

put-before : (b s : List ℕ) (i w j : ℕ) → i < j → put_words (put_word s i w) j b ≡ put_word (put_words s j b) i w
unfolding put_words put_word
put-before [] s i w j h = refl
put-before (v ∷ b) s i w j h =
    let n = length-bytes_of 8 w in
    let k : i * 8 + length (bytes_of 8 w) ≤ j * 8 = omega arith in
    let l : i < j + 1 = omega arith in
    ap (λ t. put_words t (j + 1) b) (put-swap s (i * 8) (bytes_of 8 w) (j * 8) (bytes_of 8 v) k) ∙
    put-before b (put s (j * 8) (bytes_of 8 v)) i w (j + 1) l

-- Words and words behind them, in either order.
pub put_words-swap : (a b s : List ℕ) (i j : ℕ) → i + length a ≤ j →
    put_words (put_words s i a) j b ≡ put_words (put_words s j b) i a
unfolding put_words
put_words-swap [] b s i j h = refl
put_words-swap (w ∷ a) b s i j h =
    let k : i + 1 + length a ≤ j = omega arith in
    let l : i < j = omega arith in
    put_words-swap a b (put_word s i w) (i + 1) j k ∙ ap (λ t. put_words t (i + 1) a) (put-before b s i w j l)
