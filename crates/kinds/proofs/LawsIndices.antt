-- Lists that are passed, and indices that are found behind them. Assumes nothing.
use Rattle.std.proofs.Common.{◌≡◌, ℕ, ◌+◌, ◌%◌, ◌^◌, List, ap, ◌∙◌, ap₂, arith}
use Rattle.text.specs.Counted.{after_list}
use Rattle.text.proofs.LawsCounted.{same_word, same_after}
use Rattle.kinds.specs.Indices.{from, counted_from}

module _ (ws : List ℕ) where
  -- A list is passed by a place that was counted modulo 2^64 ..
  pub passed_on : (i j next : ℕ) → j ≡ i % 2 ^ 64 → next ≡ after_list ws j % 2 ^ 64 → next ≡ after_list ws i % 2 ^ 64
  passed_on i j next e n = n ∙ same_after ws j i e

  -- .. and its numbers stand behind the count.
  pub counted-on : (i j : ℕ) → j ≡ i % 2 ^ 64 → counted_from ws j ≡ counted_from ws i
  unfolding counted_from
  counted-on i j e =
      let g : (j + 1) % 2 ^ 64 ≡ (i + 1) % 2 ^ 64 = omega arith in
      ap₂ (λ (a : ℕ) (n : ℕ). record { word = a; count = n }) g (same_word ws j i e)

-- So many indices from a place on.
pub found : (i j n : ℕ) → j ≡ i % 2 ^ 64 → record { word = j; count = n } ≡ from i n
found i j n e = ap (λ (a : ℕ). record { word = a; count = n }) e
