-- Parsers, the languages that they read, and what it means that a parser reads exactly a language.
use Rattle.std.specs.Prelude.{◌≡◌, ℕ, ◌+◌, List, ◌++◌, length, drop}
use Rattle.exact.specs.Got.{Got, got}

-- A parser looks at a payload from a place on.
abbrev pub Parser : Type 0 → Type 0
Parser A = List ℕ → ℕ → Got A

-- A language says which bytes, standing at which place of a payload, stand for which value. It does not walk.
abbrev pub Lang : Type 0 → Type 1
Lang A = ℕ → List ℕ → A → Type 0

-- In the payload l, the bytes from i up to j are of the language R, and stand for v.
pub record Reads {A : Type 0} (R : Lang A) (l : List ℕ) (i : ℕ) (v : A) (j : ℕ) : Type 0 where
  pub bytes : List ℕ
  pub spelt : R i bytes v
  pub there : drop i l ≡ bytes ++ drop j l
  pub next : j ≡ i + length bytes

-- The parser takes what is of the language (complete), and nothing else (sound).
pub record Exact {A : Type 0} (p : Parser A) (R : Lang A) : Type 0 where
  pub sound : (l : List ℕ) (i : ℕ) (v : A) (j : ℕ) → p l i ≡ got v j → Reads R l i v j
  pub complete : (l : List ℕ) (i : ℕ) (bs rest : List ℕ) (v : A) → R i bs v → drop i l ≡ bs ++ rest →
      p l i ≡ got v (i + length bs)

-- The same of a parser that takes all that is left of its payload.
pub record Ends {A : Type 0} (p : Parser A) (R : Lang A) : Type 0 where
  pub sound : (l : List ℕ) (i : ℕ) (v : A) (j : ℕ) → p l i ≡ got v j → R i (drop i l) v × (j ≡ length l)
  pub complete : (l : List ℕ) (i : ℕ) (v : A) → R i (drop i l) v → p l i ≡ got v (length l)
