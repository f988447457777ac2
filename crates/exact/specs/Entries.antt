-- The entries of an offset table, each read as a payload of its own: first all starts, then, entry by entry, its
-- bounds and after them its fields.
use Rattle.std.specs.Prelude.{◌≡◌, ℕ, ◌+◌, List, [], ◌∷◌, length, drop}
use Rattle.std.proofs.Math.Decide.{dec_le}
use Rattle.std.proofs.Math.Option.{Option, none, some}
use Rattle.exact.specs.Got.{Got, got, stop, follow}
use Rattle.exact.specs.Exact.{Parser, Lang}
use Rattle.exact.specs.Sequence.{bind}
use Rattle.exact.specs.Choice.{choose}
use Rattle.exact.specs.Repeat.{times}
use Rattle.exact.specs.Fixed.{fixed}
use Rattle.exact.specs.Padding.{pad}
use Rattle.exact.specs.Tiling.{cut, end_of, sums}
use Rattle.exact.specs.Table.{Shape, Table}

-- An answer about a payload that begins at n, in the places of what it stands in.
unfoldable pub raised : {A : Type 0} → ℕ → Got A → Got A
raised n (got v j) = got v (n + j)
raised n (stop c k) = stop c (n + k)

-- What d has from s up to e, if that is a part of d of at least m elements.
unfoldable pub cut_least : ℕ → ℕ → ℕ → List ℕ → Option (List ℕ)
cut_least m s e d = choose (dec_le (s + m) e) (cut s e d) none

-- An entry that begins at b, read by p; refusal c of the payload's first byte where its bounds are bad.
unfoldable pub entry : {A : Type 0} → ℕ → Parser A → ℕ → Option (List ℕ) → Got A
entry c p b none = stop c 0
entry c p b (some x) = raised b (p x 0)

-- The entries that the starts cut out of the data d, which begins at b and ends at n: each of m bytes at least.
unfoldable pub entries_of : {A : Type 0} → ℕ → ℕ → Parser A → List ℕ → ℕ → ℕ → List ℕ → Got (List A)
entries_of c m p [] b n d = got [] n
entries_of c m p (s ∷ ss) b n d =
    follow (entry c p (b + s) (cut_least m s (end_of ss d) d))
    (λ v j. follow (entries_of c m p ss b n d) (λ vs k. got (v ∷ vs) k))

-- Each entry, as a payload of its own, stands for its value.
pub data Each {A : Type 0} (R : ℕ → List ℕ → A → Type 0) : List (List ℕ) → List A → Type 0 where
  none_left : Each R [] []
  entry_of : {e : List ℕ} {es : List (List ℕ)} {v : A} {vs : List A} → R 0 e v → Each R es vs → Each R (e ∷ es) (v ∷ vs)

-- Values, and the place of each.
pub record Rows (A : Type 0) : Type 0 where
  pub at : List ℕ
  pub values : List A

-- Each start, counted from b.
abbrev pub from : ℕ → List ℕ → List ℕ
from b [] = []
from b (s ∷ ss) = (b + s) ∷ from b ss

-- All that is left is the data of the entries; the places count from o bytes before the payload.
unfoldable pub rows : {A : Type 0} → ℕ → ℕ → ℕ → Parser A → List ℕ → Parser (Rows A)
rows o c m p ss l i =
    follow (entries_of c m p ss i (length l) (drop i l)) (λ vs j. got (record { at = from (o + i) ss; values = vs }) j)

-- Padding to a multiple of a, n starts of w bytes, and the entries, each of m bytes at least and read by p.
unfoldable pub entries : {A : Type 0} → Shape → ℕ → ℕ → ℕ → ℕ → Parser A → ℕ → Parser (Rows A)
entries f w a o m p n =
    bind (pad f.unpadded f.fill a) (λ u. bind (times n (fixed w)) (λ ss. rows o f.untiled m p ss))

-- An offset table whose entries are of R: the places of the values are the running sums of the entries' lengths from
-- the place of the first entry, which stands behind count, padding, starts and gap.
pub record Entries {A : Type 0} (C : Lang ℕ) (x w a o : ℕ) (R : Lang A) (i : ℕ) (bs : List ℕ) (v : Rows A) : Type 0 where
  pub parts : List (List ℕ)
  pub table : Table C x w a i bs parts
  pub placed : v.at ≡
      sums (o + i + length table.count + length table.pads + length table.starts + length table.before) parts
  pub read : Each R parts v.values
