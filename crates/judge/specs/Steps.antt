-- What the steps over the words of a sheet answer (document 01, "The sheet"), over the parsers of words that judge it.
use Rattle.std.specs.Prelude.{ℕ, ◌-◌, ◌%◌, ◌^◌, Bool, true, false, ◌||◌, ◌&&◌, List, [], ◌∷◌, eqb, ltb, leb, take, drop, get_or, Option, Some, None, option_and_then}
use Rattle.exact.specs.Got.{Got, got, stop}
use Rattle.exact.specs.Exact.{Parser}
use Rattle.exact.specs.Basic.{pure, fail}
use Rattle.exact.specs.Sequence.{bind}
use Rattle.enums.specs.Refusals as refusals
use Rattle.enums.specs.declared.VersionClass.{VersionClass}
use Rattle.format.specs.Tables.{TypeRow}
use Rattle.format.specs.Tests.{type?}
use Rattle.format.specs.Judge.{word, list_at}
use Rattle.judge.specs.declared.steps.Place.{Place}

-- Goes on with a value and the place behind it; z where there is a refusal.
unfoldable pub thru : {A X : Type 0} → X → Got A → (A → ℕ → X) → X
thru z (got v j) k = k v j
thru z (stop c i) k = z

-- Goes on from the place where a step ended, as `?` does.
infixl 10 ◌>>=◌
abbrev pub ◌>>=◌ : {A B : Type 0} → Option A → (A → Option B) → Option B
o >>= f = option_and_then f o

-- x if a test was passed, else z.
unfoldable pub only : {X : Type 0} → X → Bool → X → X
only z true x = x
only z false x = z

-- Whether a question is answered with yes.
unfoldable pub holds : {P : Type 0} → Dec P → Bool
holds (yes h) = true
holds (no h) = false

-- What p reads, if it passes a test.
unfoldable pub checked : {A : Type 0} → (A → Bool) → Parser A → Parser A
checked t p = bind p (λ v. only (fail refusals.unsound) (t v) (pure v))

-- The place at word i, with so much left.
abbrev pub place : ℕ → ℕ → Place
place i left = record { word = i; left = left }

-- A step by p: where it ends. What is left of the pool's length stays.
unfoldable pub kept : {A : Type 0} → Parser A → List ℕ → Place → Option Place
kept p l at = thru None (p l at.word) (λ v j. Some (place j at.left))

-- A step by p whose value has a length, which is taken from what is left.
unfoldable pub spent : {A : Type 0} → Parser A → (A → ℕ) → List ℕ → Place → Option Place
spent p f l at = thru None (p l at.word) (λ v j. only None (leb (f v) at.left) (Some (place j (at.left - f v))))

-- The word at a place; 0 where there is none.
abbrev pub value_at : List ℕ → Place → ℕ
value_at l at = get_or l at.word 0

-- The words from one place up to another, and how many these are.
abbrev pub between : List ℕ → Place → Place → List ℕ
between l at end = take (end.word - at.word) (drop at.word l)

abbrev pub distance : Place → Place → ℕ
distance at end = end.word - at.word

-- Whether all are at most this one.
unfoldable pub all_up_to : ℕ → List ℕ → Bool
all_up_to most [] = true
all_up_to most (w ∷ ws) = leb w most && all_up_to most ws

-- A list of numbers that fit 32 bits.
unfoldable pub small_list : Parser (List ℕ)
small_list = checked (all_up_to (2 ^ 32 - 1)) list_at

-- A field that is 0 unless bit 0 of the flags is set, and fits a byte unless it may be wide.
unfoldable pub optional : ℕ → Bool → Parser ℕ
optional flags wide = checked (λ v. (eqb (flags % 2) 1 || eqb v 0) && (wide || ltb v 256)) word

-- A type's fields that are well-formed.
unfoldable pub sound_type : VersionClass → Parser TypeRow → Parser TypeRow
sound_type c p = checked (λ r. holds (type? c r)) p
