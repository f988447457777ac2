-- What the steps that copy words of the sheet and runs of the pool into the output answer and leave there (document 01,
-- "The sheet" and "The container").
use Rattle.std.specs.Prelude.{◌≡◌, ℕ, ◌+◌, ◌^◌, ◌<◌, Bool, cond, List, [], ◌∷◌, ◌++◌, map, length}
use Rattle.exact.specs.Fixed.{bytes_of}
use Rattle.exact.specs.Tiling.{join}
use Rattle.encoding.specs.Varint.{spelling}
use Rattle.format.specs.Sheet.{counted_words}
use Rattle.sheet.specs.Store.{words_in}
use Rattle.sheet.specs.Lies.{Lies}
use Rattle.images.specs.Put.{Puts, Lent}
use Rattle.images.specs.declared.fields.Number.{Number}
use Rattle.images.specs.declared.fields.Number.TheVariants.{Varint, Byte, I32, I64}
use Rattle.images.specs.declared.fields.Pen.{Pen}

-- The bytes of a number, by how it stands in the file.
unfoldable pub bytes_as : Number → ℕ → List ℕ
bytes_as Varint v = spelling v
bytes_as Byte v = bytes_of 1 v
bytes_as I32 v = bytes_of 4 v
bytes_as I64 v = bytes_of 8 v

-- Those of numbers, one behind the other.
unfoldable pub many_as : Number → List ℕ → List ℕ
many_as k vs = join (map (bytes_as k) vs)

-- At the pen p the sheet s has the words ws next and the pool has the run next, and no place reaches 2^64.
pub record Ready (ws run bs s pool : List ℕ) (p : Pen) (out : List ℕ) : Type 0 where
  pub words : Lies (words_in s) p.word ws
  pub lent : Lent pool p.run run out
  pub words_fit : p.word + length ws < 2 ^ 64
  pub run_fits : p.run + length run < 2 ^ 64
  pub bytes_fit : p.at + length bs < 2 ^ 64

-- The bytes bs were put, and the pen q is behind the words, the run and the bytes.
pub record Moved (ws run bs : List ℕ) (p : Pen) (out out' : List ℕ) (q : Pen) : Type 0 where
  pub word : q.word ≡ p.word + length ws
  pub run_end : q.run ≡ p.run + length run
  pub puts : Puts bs p.at out out' q.at

-- Words and a run were copied as the bytes bs.
pub record Copied (ws run bs s pool : List ℕ) (p : Pen) (out out' : List ℕ) (q : Pen) : Type 0 where
  pub moved : Ready ws run bs s pool p out → Moved ws run bs p out out' q

-- The next word was copied, whatever it is ..
pub record NumberCopied (k : Number) (s : List ℕ) (p : Pen) (out out' : List ℕ) (q : Pen) : Type 0 where
  pub each : (pool : List ℕ) (v : ℕ) → Copied (v ∷ []) [] (bytes_as k v) s pool p out out' q

-- .. or it was where a test holds, and passed over elsewhere, ..
pub record NumberCopiedWhere (b : Bool) (k : Number) (s : List ℕ) (p : Pen) (out out' : List ℕ) (q : Pen) : Type 0 where
  pub each : (pool : List ℕ) (v : ℕ) → Copied (v ∷ []) [] (cond b (bytes_as k v) []) s pool p out out' q

-- .. the next n words ..
pub record NumbersCopied (k : Number) (n : ℕ) (s : List ℕ) (p : Pen) (out out' : List ℕ) (q : Pen) : Type 0 where
  pub each : (pool vs : List ℕ) → length vs ≡ n → Copied vs [] (many_as k vs) s pool p out out' q

-- .. or were passed over, whatever is lent ..
pub record WordsSkipped (n : ℕ) (p q : Pen) : Type 0 where
  pub each : (s pool vs out : List ℕ) → length vs ≡ n → Copied vs [] [] s pool p out out q

-- .. or a count and as many words.
pub record ListCopied (k : Number) (s : List ℕ) (p : Pen) (out out' : List ℕ) (q : Pen) : Type 0 where
  pub each : (pool vs : List ℕ) → Copied (counted_words vs) [] (spelling (length vs) ++ many_as k vs) s pool p out out' q
