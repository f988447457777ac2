-- A section is its first byte, its length, alignment and padding, and its payload: how the code follows the reader of
-- items. Assumes nothing.
use mathlib.Core.Path.{◌≡◌, refl, sym, ap}
use Prim.Native.Nat.{ℕ, ◌%◌, ◌<◌, ◌≤◌}
use native.Mathlib.Omega.{arith}
use native.Mathlib.Decide.{ℕ_discrete, dec_lt}
use mathlib.Core.List.{List}
use lib.ListN.{length}
use lib.Bits.{and_mask}
use Rattle.std.specs.Prelude.{bit_and}
use Rattle.exact.specs.Got.{Got, got, stop, follow}
use Rattle.exact.specs.Exact.{Parser}
use Rattle.exact.specs.Basic.{pure}
use Rattle.exact.specs.Sequence.{bind, mapped}
use Rattle.exact.specs.Choice.{choose}
use Rattle.exact.specs.Fixed.{raw, Raw, raw_of}
use Rattle.exact.specs.Padding.{here}
use Rattle.exact.proofs.LawsChoice.{choose_yes, choose_no}
use Rattle.exact.proofs.LawsFixed.{raw-exact}
use Rattle.enums.specs.Container.{end_of_bytecode}
use Rattle.reading.specs.Numbers.{varint_at, padding_at, placed}
use Rattle.reading.proofs.LawsPlaced.{placed-got}
use Rattle.format.specs.DecodeContainer.{alignment_at}

module _ (first : ℕ) (l : List ℕ) (i : ℕ) where
  -- Without the top bit there is no alignment ..
  pub alignment_none : first < 128 → alignment_at first l i ≡ got tt i
  unfolding alignment_at pure
  alignment_none h = ap (λ p. p l i) (choose_yes (dec_lt first 128) (pure tt) (bind varint_at padding_at) h)

  -- .. and with it a varint, which may be refused, and padding.
  pub alignment_some : 128 ≤ first → alignment_at first l i ≡ bind varint_at padding_at l i
  unfolding alignment_at
  alignment_some h = ap (λ p. p l i) (choose_no (dec_lt first 128) (pure tt) (bind varint_at padding_at) (omega arith))

-- The id is in the low seven bits of the first byte.
pub low_seven : (first : ℕ) → bit_and first 127 ≡ first % 128
low_seven first = and_mask first 7

module _ (A : Type 0) (id : ℕ) (p q : Parser A) (l : List ℕ) (i : ℕ) where
  -- The end marker is read ..
  pub end_marker : id ≡ end_of_bytecode → choose (ℕ_discrete id end_of_bytecode) p q l i ≡ p l i
  end_marker h = ap (λ x. x l i) (choose_yes (ℕ_discrete id end_of_bytecode) p q h)

  -- .. or another id.
  pub no_end_marker : ¬ (id ≡ end_of_bytecode) → choose (ℕ_discrete id end_of_bytecode) p q l i ≡ q l i
  no_end_marker h = ap (λ x. x l i) (choose_no (ℕ_discrete id end_of_bytecode) p q h)

-- A run is what is read of it with its place.
plain : (n i : ℕ) (g : Got (List ℕ)) → g ≡ follow (follow {A = List ℕ} {B = ℕ × List ℕ} g (λ v j. got (i, v) j)) (λ x j. got x.1 j)
unfolding follow
plain n i (got v j) = refl
plain n i (stop c k) = refl

pub raw_placed : (n : ℕ) (l : List ℕ) (i : ℕ) → raw n l i ≡ follow (placed (raw n) l i) (λ x j. got x.1 j)
unfolding placed here mapped bind follow pure
raw_placed n l i = plain n i (raw n l i)

-- A run that was read stands where its reader was, and is as long as it was asked for.
pub run-met : (n : ℕ) (l : List ℕ) (i start : ℕ) (bs : List ℕ) (next : ℕ) → got (start, bs) next ≡ placed (raw n) l i →
    (start ≡ i) × (raw n l i ≡ got bs next) × (length bs ≡ n)
run-met n l i start bs next e =
    let (a, run) = placed-got (raw n) l i start bs next (sym e) in
    let r = (raw-exact n).sound l i bs next run in
    (a, run, run_length r.spelt)
  where
    run_length : {n i : ℕ} {bs v : List ℕ} → Raw n i bs v → length v ≡ n
    run_length (raw_of e) = e
