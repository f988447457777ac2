-- The smallest parsers and their languages: one byte, no bytes, and nothing at all.
use Rattle.std.specs.Prelude.{ℕ, suc, List, [], ◌∷◌, drop}
use Rattle.exact.specs.Got.{Got, got, stop, ended}
use Rattle.exact.specs.Exact.{Parser, Lang}

-- The first of the bytes that are left at i.
unfoldable pub byte_of : List ℕ → ℕ → Got ℕ
byte_of [] i = stop ended i
byte_of (b ∷ bs) i = got b (suc i)

-- One byte.
unfoldable pub byte : Parser ℕ
byte l i = byte_of (drop i l) i

-- One byte stands for itself.
pub data One : ℕ → List ℕ → ℕ → Type 0 where
  one : {i b : ℕ} → One i (b ∷ []) b

-- A value that takes no bytes.
unfoldable pub pure : {A : Type 0} → A → Parser A
pure v l i = got v i

-- No bytes stand for w.
pub data Is {A : Type 0} (w : A) : ℕ → List ℕ → A → Type 0 where
  is : {i : ℕ} → Is w i [] w

-- A refusal with number c, here.
unfoldable pub fail : {A : Type 0} → ℕ → Parser A
fail c l i = stop c i

-- Nothing stands for anything.
abbrev pub Never : {A : Type 0} → Lang A
Never i bs v = ⊥
