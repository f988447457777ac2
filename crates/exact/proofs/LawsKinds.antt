-- A table of kinds is read exactly if each kind is. Assumes nothing.
use Prim.Native.Nat.{ℕ}
use native.Mathlib.Decide.{ℕ_discrete}
use mathlib.Core.List.{List, [], ◌∷◌}
use Rattle.exact.specs.Exact.{Exact}
use Rattle.exact.specs.Kinds.{Case, pick_case, OneOf, AllExact}
use Rattle.exact.proofs.LawsBasic.{fail-exact}
use Rattle.exact.proofs.LawsChoice.{choose-exact}

-- The kind with tag t.
pub pick-exact : {A : Type 0} (c : ℕ) (ks : List (Case A)) → AllExact ks → (t : ℕ) → Exact (pick_case c ks t) (OneOf ks t)
unfolding pick_case
pick-exact c [] x t = fail-exact c
pick-exact c (k ∷ ks) x t = choose-exact (ℕ_discrete t k.tag) x.0 (pick-exact c ks x.1 t)
