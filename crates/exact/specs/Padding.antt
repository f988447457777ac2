-- Bytes that are known beforehand, padding to a multiple, and a refusal that names where its item began.
use Rattle.std.specs.Prelude.{ℕ, ◌-◌, ◌%◌, List, [], ◌∷◌, replicate}
use Rattle.std.proofs.Math.Decide.{dec_lt, ℕ_discrete}
use Rattle.exact.specs.Got.{Got, got, stop}
use Rattle.exact.specs.Exact.{Parser, Lang}
use Rattle.exact.specs.Basic.{byte, pure, fail}
use Rattle.exact.specs.Sequence.{bind}
use Rattle.exact.specs.Choice.{choose}

-- These bytes, one by one; the first that differs is refusal c.
unfoldable pub literal : ℕ → List ℕ → Parser (Unit {0})
literal c [] = pure tt
literal c (b ∷ bs) = bind byte (λ x. choose (ℕ_discrete x b) (literal c bs) (fail c))

-- These bytes and no others.
pub data Literal (s : List ℕ) : ℕ → List ℕ → Unit {0} → Type 0 where
  literal_of : {i : ℕ} → Literal s i s tt

-- A refusal is said of the place i.
unfoldable pub broke : {A : Type 0} → Got A → ℕ → Got A
broke (got v j) i = got v j
broke (stop c k) i = stop c i

-- The parser p, whose refusals name the first byte of what it was to read.
unfoldable pub blamed : {A : Type 0} → Parser A → Parser A
blamed p l i = broke (p l i) i

-- A parser that depends on where it stands.
unfoldable pub here : {A : Type 0} → (ℕ → Parser A) → Parser A
here f l i = f i l i

-- How many bytes of padding take the place i to a multiple of a: none where a is below 2.
unfoldable pub gap : ℕ → ℕ → ℕ
gap a i = choose (dec_lt a 2) 0 ((a - i % a) % a)

-- Padding by the byte x to a multiple of a; another byte is refusal c.
unfoldable pub pad : ℕ → ℕ → ℕ → Parser (Unit {0})
pad c x a = blamed (here (λ i. literal c (replicate (gap a i) x)))

-- As many bytes x as take the place to a multiple of a.
abbrev pub Pad : ℕ → ℕ → Lang (Unit {0})
Pad x a i = Literal (replicate (gap a i) x) i
