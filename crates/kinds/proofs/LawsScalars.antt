-- The scalars alone have names: one computed test over their table, and the rule at each other tag. Assumes nothing.
use Rattle.std.proofs.Common.{◌≡◌, ℕ, ◌<◌, Bool, true, false, ◌&&◌, ◌||◌, eqb, ltb, List, [], ◌∷◌, sym, refl, ◌∙◌, arith, le-ltb, ne_eqb}
use native.Mathlib.Decide.{ℕ_discrete}
use Prim.Native.String.{String}
use mathlib.Core.Bool.{and-eq-true_iff, false≢true}
use Rattle.enums.specs.Types.{tag_f8e5m3fnu}
use Rattle.exact.proofs.LawsChoice.{choose_no}
use Rattle.format.specs.Names.{scalar_names, name_of_tag}

-- All tags that have a name are among these ..
abbrev known? : ℕ → Bool
known? t = ltb t 23 || eqb t tag_f8e5m3fnu

abbrev all-known? : List (ℕ × String) → Bool
all-known? [] = true
all-known? (n ∷ ns) = known? n.0 && all-known? ns

unnamed : (ns : List (ℕ × String)) → all-known? ns ≡ true → (t : ℕ) → known? t ≡ false → name_of_tag ns t ≡ []
unfolding name_of_tag
unnamed [] e t h = refl
unnamed (n ∷ ns) e t h =
    let b = (and-eq-true_iff (known? n.0) (all-known? ns)).0 e in
    choose_no (ℕ_discrete t n.0) _ _ (λ q. false≢true (sym h ∙ rw q b.0)) ∙ unnamed ns b.1 t h

-- .. so that no other tag has one.
pub no_name : (t : ℕ) → 22 < t → ¬ (t ≡ tag_f8e5m3fnu) → [] ≡ name_of_tag scalar_names t
no_name t h n =
    let k : known? t ≡ false = rw (le-ltb t 23 h, ne_eqb t tag_f8e5m3fnu n) in
    sym (unnamed scalar_names refl t k)
