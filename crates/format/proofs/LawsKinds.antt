-- Which tags are plain. Assumes nothing.
use mathlib.Core.Path.{◌≡◌, refl, sym, ap, ◌∙◌}
use Prim.Native.Nat.{ℕ}
use mathlib.Core.Bool.{true, false, false≢true}
use borrow.Author.Tests.{ne_eqb}
use Rattle.enums.specs.Types.{tag_pointer, tag_tile, tag_tensor_view, tag_partition_view, tag_func, tag_gather_scatter_view, tag_strided_view}
use Rattle.format.specs.Types.{plain_tags, among}
use Rattle.format.specs.Kinds.{kind_of, a_plain}

-- A tag that no arm names is plain ..
pub kind-plain : (tag : ℕ) → ¬ (tag ≡ tag_pointer) → ¬ (tag ≡ tag_tile) → ¬ (tag ≡ tag_tensor_view) → ¬ (tag ≡ tag_partition_view) →
    ¬ (tag ≡ tag_func) → ¬ (tag ≡ tag_gather_scatter_view) → ¬ (tag ≡ tag_strided_view) → kind_of tag ≡ a_plain
unfolding kind_of
kind-plain tag n1 n2 n3 n4 n5 n6 n7 =
    rw (
      ne_eqb tag tag_pointer n1,
      ne_eqb tag tag_tile n2,
      ne_eqb tag tag_tensor_view n3,
      ne_eqb tag tag_partition_view n4,
      ne_eqb tag tag_func n5,
      ne_eqb tag tag_gather_scatter_view n6,
      ne_eqb tag tag_strided_view n7,
    )

-- .. and so is a scalar's or Token's.
pub plain-kind : (tag : ℕ) → among tag plain_tags ≡ true → kind_of tag ≡ a_plain
plain-kind tag h =
    kind-plain tag (not tag_pointer refl) (not tag_tile refl) (not tag_tensor_view refl) (not tag_partition_view refl) (not tag_func refl)
    (not tag_gather_scatter_view refl) (not tag_strided_view refl)
  where
    not : (k : ℕ) → among k plain_tags ≡ false → ¬ (tag ≡ k)
    not k f e = false≢true (sym f ∙ ap (λ t. among t plain_tags) (sym e) ∙ h)
