-- Words of a store that are put in another order. Assumes nothing.
use mathlib.Core.Path.{◌≡◌, refl, sym, ap, ◌∙◌}
use mathlib.Core.Logic.{◌⊎◌, inl, inr}
use Prim.Native.Nat.{ℕ, ◌+◌, ◌-◌, ◌*◌, ◌≤◌, ◌<◌}
use native.Mathlib.Omega.{arith}
use native.Mathlib.Decide.{dec_le, dec_lt}
use mathlib.Core.List.{List, [], ◌∷◌, ◌++◌}
use lib.ListN.{length, take, drop, get_or, get_or-append}
use lib.Seq.{length-take-le, get_or-append-add, ext_get_or}
use Rattle.exact.specs.Fixed.{bytes_of}
use Rattle.exact.proofs.LawsFixed.{length-bytes_of}
use Rattle.encoding.specs.Out.{put}
use Rattle.encoding.proofs.LawsOut.{put-room, put_full, put_other, length-put}
use Rattle.sheet.specs.Store.{put_word, put_words}

-- A word keeps the store's length.
pub length-put_word : (s : List ℕ) (i w : ℕ) → length (put_word s i w) ≡ length s
unfolding put_word
length-put_word s i w = length-put s (i * 8) (bytes_of 8 w)

-- A byte of a run that was put.
put_in : (s x : List ℕ) (a i : ℕ) → a + length x ≤ length s → a ≤ i → i < a + length x → get_or (put s a x) i 0 ≡ get_or x (i - a) 0
put_in s x a i h p q =
    let t : length (take a s) ≡ a = length-take-le a s (omega arith) in
    let e : i ≡ length (take a s) + (i - a) = omega arith in
    let d = drop (a + length x) s in
    ap (λ l. get_or l i 0) (put-room s a x h) ∙ ap (λ j. get_or (take a s ++ (x ++ d)) j 0) e ∙
    get_or-append-add (take a s) (x ++ d) (i - a) 0 ∙ get_or-append x d 0 (i - a) (omega arith)

outside : (a n i : ℕ) → ¬ ((a ≤ i) × (i < a + n)) → (i < a) ⊎ (a + n ≤ i)
outside a n i h =
    elim (dec_lt i a) [ yes p ↦ inl p | no p ↦ elim (dec_lt i (a + n)) [ yes q ↦ absurd (h (omega arith, q)) | no q ↦ inr (omega arith) ] ]

inside : (a n i : ℕ) → Dec ((a ≤ i) × (i < a + n))
inside a n i =
    elim (dec_le a i) [
      | yes p ↦ elim (dec_lt i (a + n)) [ yes q ↦ yes (p, q) | no q ↦ no (λ h. q h.1) ]
      | no p ↦ no (λ h. p h.0)
    ]

module _ (s x y : List ℕ) (a b : ℕ) (beside : a + length x ≤ b) (room : b + length y ≤ length s) where
  put-each : (i : ℕ) → get_or (put (put s b y) a x) i 0 ≡ get_or (put (put s a x) b y) i 0
  put-each i =
      elim (inside a (length x) i) [
        | yes p ↦
            put_in (put s b y) x a i (omega (arith, length-put s b y)) p.0 p.1 ∙
            sym (put_other (put s a x) b y i (inl (omega (arith, p.1))) ∙ put_in s x a i (omega arith) p.0 p.1)
        | no p ↦
            put_other (put s b y) a x i (outside a (length x) i p) ∙
            elim (inside b (length y) i) [
              | yes q ↦
                  put_in s y b i room q.0 q.1 ∙ sym (put_in (put s a x) y b i (omega (arith, length-put s a x)) q.0 q.1)
              | no q ↦
                  put_other s b y i (outside b (length y) i q) ∙
                  sym (put_other (put s a x) b y i (outside b (length y) i q) ∙ put_other s a x i (outside a (length x) i p))
            ]
      ]

-- Two runs side by side may be put in any order.
pub put-swap : (s x y : List ℕ) (a b : ℕ) → a + length x ≤ b → put (put s b y) a x ≡ put (put s a x) b y
put-swap s x y a b h =
    elim (dec_le (b + length y) (length s)) [
      | yes r ↦
          ext_get_or 0 _ _ (length-put (put s b y) a x ∙ length-put s b y ∙ sym (length-put (put s a x) b y ∙ length-put s a x))
          (λ i k. put-each s x y a b h r i)
      | no r ↦
          ap (λ l. put l a x) (put_full s b y (omega arith)) ∙ sym (put_full (put s a x) b y (omega (arith, length-put s a x)))
    ]

-- A word may be put after the words behind it.
pub word-before : (ws s : List ℕ) (i j w : ℕ) → i < j → put_word (put_words s j ws) i w ≡ put_words (put_word s i w) j ws
unfolding put_words put_word
word-before [] s i j w h = refl
word-before (v ∷ ws) s i j w h =
    word-before ws (put s (j * 8) (bytes_of 8 v)) i (j + 1) w (omega arith) ∙
    ap (λ l. put_words l (j + 1) ws)
    (put-swap s (bytes_of 8 w) (bytes_of 8 v) (i * 8) (j * 8) (omega (arith, length-bytes_of 8 w)))
