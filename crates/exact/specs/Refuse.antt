-- A refusal of a place that was passed, as of a tag or index that turns out to be wrong.
use Rattle.std.specs.Prelude.{ℕ, List, [], ◌∷◌}
use Rattle.std.proofs.Math.Decide.{ℕ_discrete}
use Rattle.exact.specs.Got.{stop}
use Rattle.exact.specs.Exact.{Parser}
use Rattle.exact.specs.Choice.{choose}
use Rattle.exact.specs.Kinds.{Case}

-- A refusal with number c of the place k.
unfoldable pub refuse : {A : Type 0} → ℕ → ℕ → Parser A
refuse c k l i = stop c k

-- The parser of the kind with tag t; refusal c of the place k where no kind has it.
unfoldable pub pick_at : {A : Type 0} → ℕ → ℕ → List (Case A) → ℕ → Parser A
pick_at c k [] t = refuse c k
pick_at c k (x ∷ xs) t = choose (ℕ_discrete t x.tag) x.run (pick_at c k xs t)
