-- The tests of well-formed rows as the code makes them: their answers as numbers compared. Assumes nothing.
use mathlib.Core.Path.{◌≡◌, refl, sym, ◌∙◌}
use Prim.Native.Nat.{ℕ, ◌+◌, ◌%◌, ◌^◌, ◌<◌}
use native.Mathlib.Decide.{dec_lt, ℕ_discrete}
use native.Mathlib.Omega.{arith}
use mathlib.Core.Bool.{true, not, ◌||◌, ◌&&◌}
use mathlib.Core.List.{List, [], ◌∷◌}
use lib.Dec.{eqb, ltb, leb}
use borrow.Author.Tests.{lt-ltb, le-ltb, le-leb, lt-leb, eq-eqb, ne_eqb}
use Rattle.enums.specs.declared.VersionClass.{VersionClass}
use Rattle.enums.specs.declared.VersionClass.TheVariants.{Below13_3, From13_3, From13_4}
use Rattle.enums.specs.Version.{since13_3, since13_4}
use Rattle.format.specs.Tests.{same?, both?, either?, not?, all?, only_if?, since3?, since4?, bit0?, fits?}
use Rattle.judge.specs.Steps.{holds, all_up_to}

-- A test on two tests.
pub holds_same : {P Q : Type 0} (f : P → Q) (g : Q → P) (d : Dec P) → holds (same? f g d) ≡ holds d
unfolding holds same?
holds_same f g (yes h) = refl
holds_same f g (no h) = refl

pub holds-both : {P Q : Type 0} (d : Dec P) (e : Dec Q) → holds (both? d e) ≡ (holds d && holds e)
unfolding holds both?
holds-both (yes h) (yes k) = refl
holds-both (yes h) (no k) = refl
holds-both (no h) e = refl

pub holds-either : {P Q : Type 0} (d : Dec P) (e : Dec Q) → holds (either? d e) ≡ (holds d || holds e)
unfolding holds either?
holds-either (yes h) e = refl
holds-either (no h) (yes k) = refl
holds-either (no h) (no k) = refl

pub holds_not : {P : Type 0} (d : Dec P) → holds (not? d) ≡ not (holds d)
unfolding holds not?
holds_not (yes h) = refl
holds_not (no h) = refl

-- Numbers compared.
lt_by : (a b : ℕ) (d : Dec (a < b)) → holds d ≡ ltb a b
unfolding holds
lt_by a b (yes h) = sym (lt-ltb a b h)
lt_by a b (no h) = sym (le-ltb a b (omega arith))

pub holds-lt : (a b : ℕ) → holds (dec_lt a b) ≡ ltb a b
holds-lt a b = lt_by a b (dec_lt a b)

eq-by : (a b : ℕ) (d : Dec (a ≡ b)) → holds d ≡ eqb a b
unfolding holds
eq-by a b (yes h) = sym (eq-eqb a b h)
eq-by a b (no h) = sym (ne_eqb a b h)

pub holds-eq : (a b : ℕ) → holds (ℕ_discrete a b) ≡ eqb a b
holds-eq a b = eq-by a b (ℕ_discrete a b)

pub holds_fits : (w v : ℕ) → holds (fits? w v) ≡ ltb v (2 ^ w)
unfolding fits?
holds_fits w v = holds-lt v (2 ^ w)

pub holds-bit0 : (flags : ℕ) → holds (bit0? flags) ≡ eqb (flags % 2) 1
unfolding bit0?
holds-bit0 flags = holds-eq (flags % 2) 1

pub holds-only : {P : Type 0} (d : Dec P) (v : ℕ) → holds (only_if? d v) ≡ (holds d || eqb v 0)
unfolding only_if?
holds-only d v = simp (holds-either, holds-eq)

-- The version classes.
pub holds-since3 : (c : VersionClass) → holds (since3? c) ≡ since13_3 c
unfolding holds since3?
holds-since3 Below13_3 = refl
holds-since3 From13_3 = refl
holds-since3 From13_4 = refl

pub holds-since4 : (c : VersionClass) → holds (since4? c) ≡ since13_4 c
unfolding holds since4?
holds-since4 Below13_3 = refl
holds-since4 From13_3 = refl
holds-since4 From13_4 = refl

-- All numbers of a list.
up-to-by : (v m : ℕ) → ltb v (m + 1) ≡ leb v m
up-to-by v m =
    elim (dec_lt v (m + 1)) [
      | yes h ↦ lt-ltb v (m + 1) h ∙ sym (le-leb v m (omega arith))
      | no h ↦ le-ltb v (m + 1) (omega arith) ∙ sym (lt-leb v m (omega arith))
    ]

pub holds-small : (vs : List ℕ) → holds (all? (fits? 32) vs) ≡ all_up_to 4294967295 vs
unfolding all? all_up_to holds
holds-small [] = refl
holds-small (v ∷ vs) =
    holds-both (fits? 32 v) (all? (fits? 32) vs) ∙ simp (holds_fits, holds-small vs, up-to-by v 4294967295)

pub holds-zeros : (vs : List ℕ) → holds (all? (λ v. ℕ_discrete v 0) vs) ≡ all_up_to 0 vs
unfolding all? all_up_to holds
holds-zeros [] = refl
holds-zeros (v ∷ vs) =
    holds-both (ℕ_discrete v 0) (all? (λ v. ℕ_discrete v 0) vs) ∙ simp (holds-eq, holds-zeros vs, zero-only v)
  where
    zero-only : (v : ℕ) → eqb v 0 ≡ leb v 0
    zero-only v =
        elim (ℕ_discrete v 0) [
          | yes e ↦ eq-eqb v 0 e ∙ sym (le-leb v 0 (omega arith))
          | no n ↦ ne_eqb v 0 n ∙ sym (lt-leb v 0 (omega arith))
        ]

-- A test of what holds.
pub holds-yes : {P : Type 0} (d : Dec P) → P → holds d ≡ true
unfolding holds
holds-yes (yes h) p = refl
holds-yes (no h) p = absurd (h p)
