-- The marked table of document 01, (a) to (l): what is asked and what is answered, and what a row claims by the
-- definitions of writing, reading, converting and laying out.
use Rattle.std.specs.Prelude.{◌≡◌, ℕ, ◌+◌, ◌-◌, ◌*◌, ◌^◌, ◌<◌, List, [], ◌∷◌, ◌++◌, ℤ, negsuc, length}
use Rattle.std.proofs.Math.Option.{none, some}
use Rattle.exact.specs.Got.{got, stop}
use Rattle.enums.specs.Container.{magic, P, end_of_bytecode, string_id}
use Rattle.float8.specs.Magnitude.{magnitude64, infinity64}
use Rattle.float8.specs.Formats as formats
use Rattle.encoding.specs.Varint.{spelling}
use Rattle.encoding.specs.Signed.{zigzag}
use Rattle.reading.specs.Numbers.{varint_at}
use Rattle.format.specs.Tables.{Tables}
use Rattle.format.specs.Sheet.{sheet_of, pool_of}
use Rattle.format.specs.Sound.{All}
use Rattle.format.specs.Judge.{tables_of}
use Rattle.format.specs.Image.{image}
use Rattle.format.specs.Write.{writes, written}
use Rattle.format.specs.Explains.{Explains}
use Rattle.format.specs.Read.{accepted}
use Rattle.format.specs.Decode.{decode}

-- A float of the table, none negative: `over n k` is n / 2^k.
pub data Float : Type 0 where
  over : (n k : ℕ) → Float
  +infinity : Float

-- These are the 64 bits of that f64. Magnitudes are counted in 2 ^ -1074.
abbrev pub IsFloat : Float → ℕ → Type 0
IsFloat (over n k) bits = (bits < infinity64) × (magnitude64 bits * 2 ^ k ≡ n * 2 ^ 1074)
IsFloat +infinity bits = bits ≡ infinity64

pub data Format : Type 0 where
  E4M3FN : Format
  E5M2 : Format

-- A conversion: the format, the float, its 64 bits, and its code.
pub data Conversion : Type 0 where
  becomes : Format → Float → (bits code : ℕ) → Conversion

abbrev pub Becomes : Format → ℕ → ℕ → Type 0
Becomes E4M3FN = formats.E4M3FN
Becomes E5M2 = formats.E5M2

abbrev pub Converts : Conversion → Type 0
Converts (becomes format float bits code) = IsFloat float bits × Becomes format bits code

-- Tables, their sheet and pool, and the file that the writer makes of these.
pub record Case : Type 0 where
  pub tables : Tables
  pub sheet : List ℕ
  pub pool : List ℕ
  pub file : List ℕ

-- A case is true: the sheet and the pool are the tables', and they are judged to be; the writer gives the file, which
-- is the tables' image; its bytes stand for the tables, and it is read as them.
pub record True (c : Case) : Type 0 where
  pub its_sheet : sheet_of c.tables ≡ c.sheet
  pub its_pool : pool_of c.tables ≡ c.pool
  pub judged : tables_of c.sheet c.pool ≡ some c.tables
  pub its_image : image c.tables ≡ c.file
  pub is_written : written c.sheet c.pool ≡ writes c.file
  pub is_read : decode c.file ≡ accepted c.tables
  pub explained : Explains c.file c.tables

pub data Row : Type 0 where
  -- a number, and the bytes that it writes as a varint
  number_writes : ℕ → List ℕ → Row
  -- bytes, and the number that they are read as, up to the last one
  bytes_read : List ℕ → ℕ → Row
  -- bytes, and the number of the refusal that reading them gives, at the first one
  bytes_refused : List ℕ → ℕ → Row
  -- a signed number, and its zigzag
  zigzags : ℤ → ℕ → Row
  -- conversions to 8-bit floats
  converts : List Conversion → Row
  -- a whole case, and how many bytes its file has
  a_whole_case : Case → ℕ → Row

-- What a row claims.
abbrev pub Holds : Row → Type 0
Holds (number_writes n bytes) = spelling n ≡ bytes
Holds (bytes_read bytes n) = varint_at bytes 0 ≡ got n (length bytes)
Holds (bytes_refused bytes number) = varint_at bytes 0 ≡ stop number 0
Holds (zigzags z n) = zigzag z ≡ n
Holds (converts conversions) = All Converts conversions
Holds (a_whole_case c size) = True c × (length c.file ≡ size)

-- A byte nine times, then another.
abbrev pub nine-then : ℕ → ℕ → List ℕ
nine-then b last = b ∷ b ∷ b ∷ b ∷ b ∷ b ∷ b ∷ b ∷ b ∷ last ∷ []

-- The strings "a" and "bc" of version 13.1, and nothing else.
abbrev pub whole_case : Case
whole_case =
    record {
      tables = record {
        version = record { major = 13; minor = 1; tag = 0 };
        producer = none;
        strings = (0x61 ∷ []) ∷ (0x62 ∷ 0x63 ∷ []) ∷ [];
        types = [];
        constants = [];
        globals = [];
        functions = [];
        attributes = [];
        lists = [];
      };
      sheet = 13 ∷ 1 ∷ 0 ∷ 0 ∷ 3 ∷ 19 ∷ 2 ∷ 21 ∷ 0 ∷ 21 ∷ 0 ∷ 21 ∷ 0 ∷ 21 ∷ 0 ∷ 21 ∷ 0 ∷ 21 ∷ 0 ∷ 1 ∷ 2 ∷ [];
      pool = 0x61 ∷ 0x62 ∷ 0x63 ∷ [];
      file =
          magic ++ (0x0D ∷ 0x01 ∷ 0x00 ∷ 0x00 ∷ (string_id + 0x80) ∷ 0x0F ∷ 0x04 ∷ P ∷ 0x02 ∷ P ∷ P ∷ P ∷
          0x00 ∷ 0x00 ∷ 0x00 ∷ 0x00 ∷ 0x01 ∷ 0x00 ∷ 0x00 ∷ 0x00 ∷ 0x61 ∷ 0x62 ∷ 0x63 ∷ end_of_bytecode ∷ []);
    }

abbrev pub marked : List Row
marked =
    -- (a) 300 writes AC 02
    number_writes 300 (0xAC ∷ 0x02 ∷ []) ∷
    -- (b) 80 00 reads 0
    bytes_read (0x80 ∷ 0x00 ∷ []) 0 ∷
    -- (c) nine FF then 01 reads 2^64 - 1
    bytes_read (nine-then 0xFF 0x01) (2 ^ 64 - 1) ∷
    -- (d) nine 80 then 7F reads 2^63
    bytes_read (nine-then 0x80 0x7F) (2 ^ 63) ∷
    -- (e) nine FF then 81: refusal 3
    bytes_refused (nine-then 0xFF 0x81) 3 ∷
    -- (f) -1 zigzags to 1
    zigzags (negsuc 0) 1 ∷
    -- (g) E4M3FN of 3 * 2^-10 is 02
    converts (becomes E4M3FN (over 3 10) 0x3F68_0000_0000_0000 0x02 ∷ []) ∷
    -- (h) of 2^-10 is 00
    converts (becomes E4M3FN (over 1 10) 0x3F50_0000_0000_0000 0x00 ∷ []) ∷
    -- (i) of 1.1875, which is 19 / 16, is 3A
    converts (becomes E4M3FN (over 19 4) 0x3FF3_0000_0000_0000 0x3A ∷ []) ∷
    -- (j) E4M3FN of +infinity 7E, E5M2 of it 7C
    converts
    (becomes E4M3FN +infinity 0x7FF0_0000_0000_0000 0x7E ∷ becomes E5M2 +infinity 0x7FF0_0000_0000_0000 0x7C ∷ []) ∷
    -- (k) E5M2 of 57344 is 7B, of 61440 is 7C
    converts
    (becomes E5M2 (over 57344 0) 0x40EC_0000_0000_0000 0x7B ∷
    becomes E5M2 (over 61440 0) 0x40EE_0000_0000_0000 0x7C ∷ []) ∷
    -- (l) the whole case: 32 bytes
    a_whole_case whole_case 32 ∷ []
