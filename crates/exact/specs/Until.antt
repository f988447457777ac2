-- Items up to an end marker.
use Rattle.std.specs.Prelude.{ℕ, zero, suc, ◌+◌, ◌-◌, List, [], ◌∷◌, ◌++◌, length}
use Rattle.std.proofs.Math.Option.{Option, none, some}
use Rattle.exact.specs.Got.{ended}
use Rattle.exact.specs.Exact.{Parser}
use Rattle.exact.specs.Basic.{pure, fail}
use Rattle.exact.specs.Sequence.{bind, mapped}

-- After the end marker nothing more; after an item, what q reads.
unfoldable pub go_on : {A : Type 0} → Option A → Parser (List A) → Parser (List A)
go_on none q = pure []
go_on (some v) q = mapped (λ vs. v ∷ vs) q

-- Items by p until it answers none, where n bytes are left; each item takes one at least.
unfoldable pub until_from : {A : Type 0} → ℕ → Parser (Option A) → Parser (List A)
until_from zero p = fail ended
until_from (suc n) p = bind p (λ o. go_on o (until_from n p))

-- Items by p until it answers none.
unfoldable pub until : {A : Type 0} → Parser (Option A) → Parser (List A)
until p l i = until_from (length l - i) p l i

-- Items of R, one right behind the other, and the end marker.
pub data Until {A : Type 0} (R : ℕ → List ℕ → Option A → Type 0) : ℕ → List ℕ → List A → Type 0 where
  end : {i : ℕ} {bs : List ℕ} → R i bs none → Until R i bs []
  item : {i : ℕ} {bs cs : List ℕ} {v : A} {vs : List A} → R i bs (some v) → Until R (i + length bs) cs vs →
      Until R i (bs ++ cs) (v ∷ vs)
