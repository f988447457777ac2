-- How the code follows the model of Producer. Assumes nothing.
use mathlib.Core.Path.{◌≡◌, sym, ap, ◌∙◌}
use Prim.Native.Nat.{ℕ, ◌≤◌, ◌<◌}
use native.Mathlib.Omega.{arith}
use native.Mathlib.Decide.{dec_lt}
use mathlib.Core.Option.{some}
use mathlib.Core.List.{List}
use lib.ListN.{length}
use Rattle.exact.specs.Got.{got, stop, follow}
use Rattle.exact.specs.Exact.{Parser}
use Rattle.exact.specs.Basic.{pure, fail}
use Rattle.exact.specs.Sequence.{bind, mapped}
use Rattle.exact.specs.Choice.{such}
use Rattle.exact.specs.Padding.{broke, blamed}
use Rattle.exact.specs.Upto.{upto}
use Rattle.exact.proofs.LawsChoice.{choose_yes, choose_no}
use Rattle.exact.proofs.LawsSequence.{bind-got, bind-stop}
use Rattle.enums.specs.Refusals as refusals
use Rattle.reading.specs.Numbers.{varint_at}
use Rattle.reading.proofs.LawsInside.{varint-place}
use Rattle.format.specs.DecodeTables.{producer_at}

-- The index that has to be below n.
abbrev index : ℕ → Parser ℕ
index n = such refusals.no_producer (λ k. dec_lt k n) varint_at

module _ (n : ℕ) (l : List ℕ) where
  index_in : (v j : ℕ) → varint_at l 0 ≡ got v j → v < n → index n l 0 ≡ got v j
  unfolding such pure
  index_in v j e h = bind-got varint_at _ l 0 v j (sym e) ∙ ap (λ (p : Parser ℕ). p l j) (choose_yes (dec_lt v n) _ _ h)

  index-out : (v j : ℕ) → varint_at l 0 ≡ got v j → ¬ (v < n) → index n l 0 ≡ stop refusals.no_producer j
  unfolding such fail
  index-out v j e h = bind-got varint_at _ l 0 v j (sym e) ∙ ap (λ (p : Parser ℕ). p l j) (choose_no (dec_lt v n) _ _ h)

  index-stop : (c k : ℕ) → varint_at l 0 ≡ stop c k → index n l 0 ≡ stop c k
  unfolding such
  index-stop c k e = bind-stop varint_at _ l 0 c k (sym e)

  -- The index is refused ..
  pub producer-stop : (c k : ℕ) → varint_at l 0 ≡ stop c k → stop c k ≡ producer_at n l 0
  unfolding producer_at upto mapped blamed broke bind follow
  producer-stop c k e = rw (index-stop c k e, varint-place l 0 c k e)

  -- .. inside ..
  pub producer-in : (v j : ℕ) → varint_at l 0 ≡ got v j → v < n → got (some v) (length l) ≡ producer_at n l 0
  unfolding producer_at upto mapped blamed broke bind follow pure
  producer-in v j e h = rw (index_in v j e h)

  -- .. or outside.
  pub producer-out : (v j : ℕ) → varint_at l 0 ≡ got v j → n ≤ v → stop refusals.no_producer 0 ≡ producer_at n l 0
  unfolding producer_at upto mapped blamed broke bind follow
  producer-out v j e h = let o : ¬ (v < n) = omega arith in rw (index-out v j e o)
