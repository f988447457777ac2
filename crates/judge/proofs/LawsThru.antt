-- Readers and steps in one form: what is read, one thing after the other, and behind it the tests. Assumes nothing.
use mathlib.Core.Path.{◌≡◌, refl, ◌∙◌}
use Prim.Native.Nat.{ℕ}
use mathlib.Core.Bool.{Bool, true, false, ◌&&◌}
use mathlib.Core.List.{List}
use Rattle.exact.specs.Got.{Got, got, stop, follow}
use Rattle.exact.specs.Exact.{Parser}
use Rattle.exact.specs.Basic.{pure, fail}
use Rattle.exact.specs.Sequence.{bind}
use Rattle.exact.specs.Sequence as sequence
use Rattle.exact.specs.Choice.{choose, such}
use Rattle.std.specs.Prelude.{Option, Some, None, option_and_then}
use Rattle.judge.specs.declared.steps.Place.{Place}
use Rattle.judge.specs.Steps.{thru, only, holds, checked, place, kept}

module _ {X : Type 0} (z : X) where
  thru-follow : {A B : Type 0} (g : Got A) (f : A → ℕ → Got B) (k : B → ℕ → X) →
      thru z (follow g f) k ≡ thru z g (λ v j. thru z (f v j) k)
  unfolding follow thru
  thru-follow (got v j) f k = refl
  thru-follow (stop c i) f k = refl

  -- One thing after the other ..
  pub thru-bind : {A B : Type 0} (p : Parser A) (f : A → Parser B) (l : List ℕ) (i : ℕ) (k : B → ℕ → X) →
      thru z (bind p f l i) k ≡ thru z (p l i) (λ v j. thru z (f v l j) k)
  unfolding bind
  thru-bind p f l i k = thru-follow (p l i) (λ v j. f v l j) k

  -- .. a function of what is read ..
  pub thru-map : {A B : Type 0} (f : A → B) (p : Parser A) (l : List ℕ) (i : ℕ) (k : B → ℕ → X) →
      thru z (sequence.mapped f p l i) k ≡ thru z (p l i) (λ v j. k (f v) j)
  unfolding sequence.mapped pure thru
  thru-map f p l i k = thru-bind p (λ v. pure (f v)) l i k

  pub thru-pure : {A : Type 0} (v : A) (l : List ℕ) (i : ℕ) (k : A → ℕ → X) → thru z (pure v l i) k ≡ k v i
  unfolding pure thru
  thru-pure v l i k = refl

  pub chosen : {A P : Type 0} (c : ℕ) (d : Dec P) (v : A) (l : List ℕ) (j : ℕ) (k : A → ℕ → X) →
      thru z (choose d (pure v) (fail c) l j) k ≡ only z (holds d) (k v j)
  unfolding choose thru pure fail only holds
  chosen c (yes h) v l j k = refl
  chosen c (no h) v l j k = refl

  -- .. and what has to pass a test.
  pub thru-such : {A : Type 0} {P : A → Type 0} (c : ℕ) (d : (v : A) → Dec (P v)) (p : Parser A) (l : List ℕ) (i : ℕ) (k : A → ℕ → X) →
      thru z (such c d p l i) k ≡ thru z (p l i) (λ v j. only z (holds (d v)) (k v j))
  unfolding such
  thru-such c d p l i k = thru-bind p (λ v. choose (d v) (pure v) (fail c)) l i k ∙ simp chosen

  passed : {A : Type 0} (c : ℕ) (b : Bool) (v : A) (l : List ℕ) (j : ℕ) (k : A → ℕ → X) →
      thru z (only (fail c) b (pure v) l j) k ≡ only z b (k v j)
  unfolding thru pure fail only
  passed c true v l j k = refl
  passed c false v l j k = refl

  pub thru-checked : {A : Type 0} (t : A → Bool) (p : Parser A) (l : List ℕ) (i : ℕ) (k : A → ℕ → X) →
      thru z (checked t p l i) k ≡ thru z (p l i) (λ v j. only z (t v) (k v j))
  unfolding checked
  thru-checked t p l i k = thru-bind p _ l i k ∙ simp passed

  -- A test goes behind what is read after it ..
  pub only-thru : {A : Type 0} (b : Bool) (g : Got A) (k : A → ℕ → X) → only z b (thru z g k) ≡ thru z g (λ v j. only z b (k v j))
  unfolding only thru
  only-thru true g k = refl
  only-thru false (got v j) k = refl
  only-thru false (stop c i) k = refl

  -- .. and two tests are one after the other.
  pub only-and : (a b : Bool) (x : X) → only z (a && b) x ≡ only z a (only z b x)
  unfolding only
  only-and true b x = refl
  only-and false b x = refl

-- A step from where something was read ..
pub then-thru : {A B C : Type 0} (f : B → Option C) (g : Got A) (k : A → ℕ → Option B) →
    option_and_then f (thru None g k) ≡ thru None g (λ v j. option_and_then f (k v j))
unfolding thru
then-thru f (got v j) k = refl
then-thru f (stop c i) k = refl

-- .. and from where a test was passed.
pub then-only : {B C : Type 0} (f : B → Option C) (b : Bool) (o : Option B) →
    option_and_then f (only None b o) ≡ only None b (option_and_then f o)
unfolding only
then-only f true o = refl
then-only f false o = refl

pub kept_at : {A : Type 0} (p : Parser A) (l : List ℕ) (at : Place) → kept p l at ≡ thru None (p l at.word) (λ v j. Some (place j at.left))
unfolding kept
kept_at p l at = refl

pub only_none : {A : Type 0} (b : Bool) → only {X = Option A} None b None ≡ None
unfolding only
only_none true = refl
only_none false = refl
