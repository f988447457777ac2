-- The words that stand from a place of a sheet on, and the lists among them (document 01, "The sheet": counts before
-- lists), of any words: a place is counted modulo 2^64, and a word that the sheet does not have is 0. Assumes nothing.
use Rattle.std.specs.Prelude.{ℕ, zero, suc, ◌+◌, ◌%◌, ◌^◌, List, [], ◌∷◌, slice_index}

-- The word at a place.
unfoldable pub word : List ℕ → ℕ → ℕ
word ws i = slice_index ws (i % 2 ^ 64)

-- So many words from a place on ..
unfoldable pub words_from : List ℕ → ℕ → ℕ → List ℕ
words_from ws i zero = []
words_from ws i (suc n) = word ws i ∷ words_from ws (i + 1) n

-- .. those of a list, whose count stands at a place ..
unfoldable pub counted : List ℕ → ℕ → List ℕ
counted ws i = words_from ws (i + 1) (word ws i)

-- .. and the place behind it.
unfoldable pub after_list : List ℕ → ℕ → ℕ
after_list ws i = i + 1 + word ws i
