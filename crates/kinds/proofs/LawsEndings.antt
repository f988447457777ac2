-- What was put behind the names, step by step. Assumes nothing.
use Rattle.std.proofs.Common.{◌≡◌, ℕ, ◌+◌, ◌%◌, ◌^◌, ◌<◌, List, ◌++◌, map, get_or, sym, refl, ap, ◌∙◌}
use Rattle.exact.proofs.LawsChoice.{choose_yes, choose_no}
use Rattle.format.specs.Tests.{bit0?}
use Rattle.format.specs.Kinds.{a_tensor_view, a_gather_scatter_view, a_strided_view}
use Rattle.format.specs.Names.{ascii, decimal, dimension, joined, if_bit0}
use Rattle.text.specs.Text.{Put}
use Rattle.text.specs.Counted.{word, counted, after_list}
use Rattle.text.specs.Numbers.{between}
use Rattle.text.specs.declared.Pen.{Pen}
use Rattle.text.specs.declared.numbers.Number.TheVariants.{I32, Dynamic}
use Rattle.text.proofs.LawsText.{put_then, put_as}
use Rattle.text.proofs.LawsCounted.{word_next, word-here, same_word, same-counted}
use Rattle.text.proofs.LawsNumbers.{i32s-joined, dimensions-joined}
use Rattle.kinds.specs.Parts.{closed, ending}
use Rattle.kinds.proofs.LawsIndices.{passed_on}

-- The end of a text, without what is optional ..
module _ (ws : List ℕ) (at place : ℕ) (name : List ℕ) (first flags : ℕ) (e : first ≡ (at + 1) % 2 ^ 64) (f : flags ≡ get_or ws first 0) where
  flags-here : flags ≡ word ws (at + 1)
  flags-here = f ∙ word_next ws first (at + 1) e

  pub closed-bare : {p q : Pen} {out out' : List ℕ} → ¬ (flags % 2 ≡ 1) → Put (ascii ">") p out out' q → Put (closed ws at name place) p out out' q
  unfolding closed
  closed-bare h x =
      put_as
      (ap (λ t. t ++ ascii ">") (sym (choose_no (bit0? flags) (name ++ decimal (word ws place)) _ h)) ∙
      ap (λ a. if_bit0 a (name ++ decimal (word ws place)) ++ ascii ">") flags-here) x

  -- .. and with it.
  pub closed-named : (value : ℕ) {p q r t : Pen} {out out1 out2 out' : List ℕ} → place < 2 ^ 64 → flags % 2 ≡ 1 → Put name p out out1 q →
      value ≡ get_or ws place 0 → Put (decimal value) q out1 out2 r → Put (ascii ">") r out2 out' t → Put (closed ws at name place) p out out' t
  unfolding closed
  closed-named value b h x v y z =
      put_as
      (ap (λ t. t ++ ascii ">") (sym (choose_yes (bit0? flags) (name ++ decimal (word ws place)) _ h)) ∙
      ap (λ a. if_bit0 a (name ++ decimal (word ws place)) ++ ascii ">") flags-here)
      (put_then (put_then x (put_as (ap decimal (v ∙ word-here ws place b)) y)) z)

-- The place of the value, counted modulo 2^64.
pub closed_at : (ws : List ℕ) (at i j : ℕ) (name : List ℕ) {p q : Pen} {out out' : List ℕ} → j ≡ i % 2 ^ 64 →
    Put (closed ws at name j) p out out' q → Put (closed ws at name i) p out out' q
unfolding closed
closed_at ws at i j name e x = put_as (ap (λ v. if_bit0 (word ws (at + 1)) (name ++ decimal v) ++ ascii ">") (same_word ws j i e)) x

module _ (ws : List ℕ) (at behind : ℕ) where
  pub tensor-view-ending : (place last : ℕ) {p q t u w : Pen} {out out1 out2 out3 out' : List ℕ} → place ≡ after_list ws behind % 2 ^ 64 →
      Put (ascii ", strides=[") p out out1 q → Put (between Dynamic 44 (counted ws place)) q out1 out2 t → Put (ascii "]") t out2 out3 u →
      last ≡ after_list ws place % 2 ^ 64 → Put (closed ws at (ascii ", ptr_attr=") last) u out3 out' w →
      Put (ending a_tensor_view ws at behind) p out out' w
  unfolding ending
  tensor-view-ending place last a x y z b c =
      let strides = after_list ws behind in
      let l = passed_on ws strides place last a b in
      let d = put_as (ap (λ vs. joined "," (map dimension vs)) (same-counted ws place strides a)) (dimensions-joined 44 "," refl (counted ws place) y) in
      put_then x (put_then d (put_then z (closed_at ws at (after_list ws strides) last (ascii ", ptr_attr=") l c)))

  pub gather-scatter-view-ending : (first next : ℕ) {p q t u : Pen} {out out1 out2 out' : List ℕ} → behind < 2 ^ 64 →
      Put (ascii ", sparse_dim=") p out out1 q → first ≡ get_or ws behind 0 → Put (decimal first) q out1 out2 t →
      next ≡ (behind + 1) % 2 ^ 64 → Put (closed ws at (ascii ", padding=") next) t out2 out' u →
      Put (ending a_gather_scatter_view ws at behind) p out out' u
  unfolding ending
  gather-scatter-view-ending first next b x w y n c =
      put_then x
      (put_then (put_as (ap decimal (w ∙ word-here ws behind b)) y) (closed_at ws at (behind + 1) next (ascii ", padding=") n c))

  pub strided-view-ending : (last : ℕ) {p q t u w : Pen} {out out1 out2 out3 out' : List ℕ} → Put (ascii ", dim_map=[") p out out1 q →
      Put (between I32 44 (counted ws behind)) q out1 out2 t → Put (ascii "]") t out2 out3 u → last ≡ after_list ws behind % 2 ^ 64 →
      Put (closed ws at (ascii ", padding=") last) u out3 out' w → Put (ending a_strided_view ws at behind) p out out' w
  unfolding ending
  strided-view-ending last x y z a c =
      put_then x
      (put_then (i32s-joined 44 "," refl (counted ws behind) y)
      (put_then z (closed_at ws at (after_list ws behind) last (ascii ", padding=") a c)))
