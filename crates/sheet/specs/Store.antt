-- A store of bytes that holds little-endian words of eight bytes (document 01, "The sheet": across the C boundary the list
-- is lent as bytes, little-endian; a store counts its whole words).
use Rattle.std.specs.Prelude.{ℕ, ◌+◌, ◌*◌, ◌/◌, List, [], ◌∷◌, length}
use Rattle.exact.specs.Fixed.{bytes_of, nums}
use Rattle.encoding.specs.Out.{put}

-- The whole words of a store.
unfoldable pub words_in : List ℕ → List ℕ
words_in s = nums (length s / 8) 8 s

-- The store with w as its word i; as it was where it has none.
unfoldable pub put_word : List ℕ → ℕ → ℕ → List ℕ
put_word s i w = put s (i * 8) (bytes_of 8 w)

-- The store with the words ws from word i on, each where it has one.
unfoldable pub put_words : List ℕ → ℕ → List ℕ → List ℕ
put_words s i [] = s
put_words s i (w ∷ ws) = put_words (put_word s i w) (i + 1) ws

-- The pool with the runs rs one behind the other from a place on, each where it has room.
unfoldable pub put_runs : List ℕ → ℕ → List (List ℕ) → List ℕ
put_runs s at [] = s
put_runs s at (r ∷ rs) = put_runs (put s at r) (at + length r) rs
