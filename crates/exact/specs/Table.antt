-- The offset table, over the count's spelling, the width of a start, the padding before the starts and the refusals.
use Rattle.std.specs.Prelude.{◌≡◌, ℕ, ◌+◌, List, ◌++◌, length, replicate}
use Rattle.exact.specs.Exact.{Parser, Lang}
use Rattle.exact.specs.Sequence.{bind}
use Rattle.exact.specs.Repeat.{times, Many}
use Rattle.exact.specs.Fixed.{fixed, Fixed}
use Rattle.exact.specs.Padding.{gap, pad}
use Rattle.exact.specs.Rest.{finish}
use Rattle.exact.specs.Tiling.{join, sums, cuts}

-- What tables of one format share: how a count is read, the padding byte, the refusals of a wrong one and of bad starts.
pub record Shape : Type 0 where
  pub number : Parser ℕ
  pub fill : ℕ
  pub unpadded : ℕ
  pub untiled : ℕ

-- A count, padding to a multiple of a, as many starts of w bytes, and the data that they cut.
unfoldable pub table : Shape → ℕ → ℕ → Parser (List (List ℕ))
table f w a =
    bind f.number (λ n. bind (pad f.unpadded f.fill a) (λ u. bind (times n (fixed w)) (λ ss. finish f.untiled (cuts ss))))

-- At i stand the count, padding by x up to a multiple of a, the starts of w bytes each, any gap, and the entries.
pub record Table (C : Lang ℕ) (x w a i : ℕ) (bs : List ℕ) (es : List (List ℕ)) : Type 0 where
  pub count : List ℕ
  pub pads : List ℕ
  pub starts : List ℕ
  pub before : List ℕ
  pub whole : bs ≡ count ++ (pads ++ (starts ++ (before ++ join es)))
  pub counted : C i count (length es)
  pub padded : pads ≡ replicate (gap a (i + length count)) x
  pub started : Many (Fixed w) (length es) (i + length count + length pads) starts (sums (length before) es)
