-- A refusal of a passed place reads nothing, and a table of kinds with it is read exactly if each kind is. Assumes
-- nothing.
use Prim.Native.Nat.{ℕ}
use native.Mathlib.Decide.{ℕ_discrete}
use mathlib.Core.List.{List, [], ◌∷◌}
use Rattle.exact.specs.Exact.{Exact}
use Rattle.exact.specs.Basic.{Never}
use Rattle.exact.specs.Kinds.{Case, OneOf, AllExact}
use Rattle.exact.specs.Refuse.{refuse, pick_at}
use Rattle.exact.proofs.LawsExact.{stop-not-got}
use Rattle.exact.proofs.LawsChoice.{choose-exact}

-- What refuses is exact for the empty language.
pub refuse-exact : {A : Type 0} (c k : ℕ) → Exact (refuse {A = A} c k) Never
unfolding refuse
refuse-exact c k = record { sound = λ l i v j e. absurd (stop-not-got e); complete = λ l i bs rest v n. absurd n }

-- The kind with tag t.
pub pick-at-exact : {A : Type 0} (c k : ℕ) (xs : List (Case A)) → AllExact xs → (t : ℕ) → Exact (pick_at c k xs t) (OneOf xs t)
unfolding pick_at
pick-at-exact c k [] h t = refuse-exact c k
pick-at-exact c k (x ∷ xs) h t = choose-exact (ℕ_discrete t x.tag) h.0 (pick-at-exact c k xs h.1 t)
