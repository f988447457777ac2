-- Which refusals a parser can give.
use Rattle.std.specs.Prelude.{ℕ, List, [], ◌∷◌}
use Rattle.exact.specs.Got.{Got, got, stop}
use Rattle.exact.specs.Exact.{Parser}
use Rattle.exact.specs.Kinds.{Case}

-- If this is a refusal, its number has P.
pub data Says {A : Type 0} (P : ℕ → Type 0) : Got A → Type 0 where
  no_refusal : {v : A} {j : ℕ} → Says P (got v j)
  such_refusal : {c k : ℕ} → P c → Says P (stop c k)

-- The parser gives no refusal but such.
pub record Only {A : Type 0} (P : ℕ → Type 0) (p : Parser A) : Type 0 where
  pub each : (l : List ℕ) (i : ℕ) → Says P (p l i)

-- The same of each kind's parser.
abbrev pub AllOnly : {A : Type 0} → (ℕ → Type 0) → List (Case A) → Type 0
AllOnly P [] = Unit
AllOnly P (x ∷ xs) = Only P x.run × AllOnly P xs
