-- A list cut into entries by where they start: the tiling that the starts describe, and the judge that finds it.
use Rattle.std.specs.Prelude.{◌≡◌, ℕ, ◌+◌, List, [], ◌∷◌, ◌++◌, length, take, drop}
use Rattle.std.proofs.Math.Decide.{dec_le}
use Rattle.std.proofs.Math.Option.{Option, none, some}
use Rattle.exact.specs.Choice.{choose}

module _ {A : Type 0} where
  -- All entries, one right behind the other.
  abbrev pub join : List (List A) → List A
  join [] = []
  join (e ∷ es) = e ++ join es

  -- Where each entry begins, the first at n: the running sums of their lengths.
  abbrev pub sums : ℕ → List (List A) → List ℕ
  sums n [] = []
  sums n (e ∷ es) = n ∷ sums (n + length e) es

  -- The data d is a gap and then the entries, which begin at the starts.
  pub record Tiled (ss : List ℕ) (d : List A) (es : List (List A)) : Type 0 where
    pub gap : List A
    pub whole : d ≡ gap ++ join es
    pub starts : ss ≡ sums (length gap) es

  -- What d has from s up to e, if that is a part of d.
  unfoldable pub cut : ℕ → ℕ → List A → Option (List A)
  cut s e d = choose (dec_le s e) (choose (dec_le e (length d)) (some (drop s (take e d))) none) none

  -- An entry ends where the next starts, and the last where the data ends.
  abbrev pub end_of : List ℕ → List A → ℕ
  end_of [] d = length d
  end_of (t ∷ ss) d = t

  -- One more entry before others, if all are there.
  unfoldable pub consed : Option (List A) → Option (List (List A)) → Option (List (List A))
  consed none o = none
  consed (some e) none = none
  consed (some e) (some es) = some (e ∷ es)

  -- The entries that the starts cut out of d, if each start is at most its end and each end inside.
  unfoldable pub cuts : List ℕ → List A → Option (List (List A))
  cuts [] d = some []
  cuts (s ∷ ss) d = consed (cut s (end_of ss d) d) (cuts ss d)
