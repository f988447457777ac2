-- What was put before the names, step by step. Assumes nothing.
use Rattle.std.proofs.Common.{◌≡◌, ℕ, ◌+◌, ◌%◌, ◌^◌, List, [], ◌∷◌, ◌++◌, map, length, get_or, sym, refl, ap, ◌∙◌, arith}
use Rattle.format.specs.Kinds.{a_tile, a_tensor_view, a_strided_view}
use Rattle.format.specs.Names.{ascii, joined, i64, dimension, tile_dims}
use Rattle.text.specs.Text.{Put}
use Rattle.text.specs.Counted.{counted, after_list}
use Rattle.text.specs.Numbers.{low32, between}
use Rattle.text.specs.declared.Pen.{Pen}
use Rattle.text.specs.declared.numbers.Number.TheVariants.{I32, I64, Dynamic}
use Rattle.text.proofs.LawsText.{put_then, put_as}
use Rattle.text.proofs.LawsCounted.{word_next, same-counted, length-counted}
use Rattle.text.proofs.LawsNumbers.{i32s-joined, i64s-joined, dimensions-joined}
use Rattle.kinds.specs.Parts.{shaped, opening}
use Rattle.kinds.proofs.LawsIndices.{passed_on}

-- The dims of a tile of rank 0, and of another one.
no-dims : (dims : List ℕ) → length dims ≡ 0 → joined "x" (map i64 dims) ≡ tile_dims dims
no-dims [] z = refl
no-dims (d ∷ ds) z = absurd (omega arith)

some-dims : (dims : List ℕ) → ¬ (length dims ≡ 0) → joined "x" (map i64 dims) ++ ascii "x" ≡ tile_dims dims
some-dims [] n = absurd (n refl)
some-dims (d ∷ ds) n = refl

module _ (ws : List ℕ) (tag at rank : ℕ) {p : Pen} {out : List ℕ} where
  -- A tile of rank 0 ..
  pub tile-scalar : (count : ℕ) {q r : Pen} {mid out' : List ℕ} → rank ≡ (at + 2) % 2 ^ 64 → Put (ascii "tile<") p out mid q →
      Put (between I64 120 (counted ws rank)) q mid out' r → count ≡ get_or ws rank 0 → count ≡ 0 → Put (opening a_tile tag ws at) p out out' r
  unfolding opening
  tile-scalar count e x y c z =
      let n : length (counted ws (at + 2)) ≡ 0 = length-counted ws (at + 2) ∙ sym (word_next ws rank (at + 2) e) ∙ sym c ∙ z in
      put_then x
      (put_as (no-dims (counted ws (at + 2)) n)
      (put_as (ap (λ vs. joined "x" (map i64 vs)) (same-counted ws rank (at + 2) e)) (i64s-joined 120 "x" refl (counted ws rank) y)))

  -- .. and another one.
  pub tile-ranked : (count : ℕ) {q r t : Pen} {mid out1 out' : List ℕ} → rank ≡ (at + 2) % 2 ^ 64 → Put (ascii "tile<") p out mid q →
      Put (between I64 120 (counted ws rank)) q mid out1 r → count ≡ get_or ws rank 0 → ¬ (count ≡ 0) → Put (ascii "x") r out1 out' t →
      Put (opening a_tile tag ws at) p out out' t
  unfolding opening
  tile-ranked count e x y c z v =
      let n : ¬ (length (counted ws (at + 2)) ≡ 0) = λ l. z (c ∙ word_next ws rank (at + 2) e ∙ sym (length-counted ws (at + 2)) ∙ l) in
      let d = put_as (ap (λ vs. joined "x" (map i64 vs)) (same-counted ws rank (at + 2) e)) (i64s-joined 120 "x" refl (counted ws rank) y) in
      put_then x (put_as (some-dims (counted ws (at + 2)) n) (put_then d v))

  pub tensor-view-opening : {q r t : Pen} {mid out1 out' : List ℕ} → rank ≡ (at + 3) % 2 ^ 64 → Put (ascii "tensor_view<") p out mid q →
      Put (between Dynamic 120 (counted ws rank)) q mid out1 r → Put (ascii "x") r out1 out' t → Put (opening a_tensor_view tag ws at) p out out' t
  unfolding opening
  tensor-view-opening e x y z =
      put_then x
      (put_then
      (put_as (ap (λ vs. joined "x" (map dimension vs)) (same-counted ws rank (at + 3) e)) (dimensions-joined 120 "x" refl (counted ws rank) y)) z)

  pub strided-view-opening : (place : ℕ) {q r t u : Pen} {mid out1 out2 out' : List ℕ} → Put (shaped (ascii "strided_view<tile=(") ws at) p out mid q →
      Put (ascii "), traversal_strides=[") q mid out1 r → rank ≡ (at + 2) % 2 ^ 64 → place ≡ after_list ws rank % 2 ^ 64 →
      Put (between I32 44 (counted ws place)) r out1 out2 t → Put (ascii "], tv=") t out2 out' u → Put (opening a_strided_view tag ws at) p out out' u
  unfolding opening
  strided-view-opening place x y e w z v =
      let f = passed_on ws (at + 2) rank place e w in
      let d = put_as (ap (λ vs. joined "," (map low32 vs)) (same-counted ws place (after_list ws (at + 2)) f))
      (i32s-joined 44 "," refl (counted ws place) z) in
      put_then x (put_then y (put_then d v))

-- The kind of a view and the shape of its tile.
pub shape-put : (ws : List ℕ) (at rank : ℕ) (kind : List ℕ) {p q r : Pen} {out mid out' : List ℕ} → rank ≡ (at + 2) % 2 ^ 64 →
    Put kind p out mid q → Put (between I32 120 (counted ws rank)) q mid out' r → Put (shaped kind ws at) p out out' r
shape-put ws at rank kind e x y =
    put_then x (put_as (ap (λ vs. joined "x" (map low32 vs)) (same-counted ws rank (at + 2) e)) (i32s-joined 120 "x" refl (counted ws rank) y))
