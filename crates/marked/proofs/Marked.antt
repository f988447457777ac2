-- The marked table of document 01: each of its twelve rows holds, by computation. Assumes nothing.
use mathlib.Core.Path.{◌≡◌, refl}
use native.Mathlib.Decide.{dec_le, dec_lt, ℕ_discrete}
use native.Mathlib.Omega.{arith}
use Rattle.exact.specs.Got.{follow}
use Rattle.exact.specs.Basic.{byte_of, byte, pure, fail}
use Rattle.exact.specs.Sequence.{bind, mapped}
use Rattle.exact.specs.Choice.{choose, such}
use Rattle.exact.specs.Repeat.{times, counted}
use Rattle.exact.specs.Fixed.{raw, little, fixed}
use Rattle.exact.specs.Padding.{literal, broke, blamed, here, gap, pad}
use Rattle.exact.specs.Tiling.{cut, consed, cuts}
use Rattle.exact.specs.Upto.{upto, whole, place}
use Rattle.exact.specs.Until.{go_on, until_from, until}
use Rattle.exact.specs.Entries.{raised, cut_least, entry, entries_of, rows, entries}
use Rattle.enums.specs.Version.{class_of}
use Rattle.float8.specs.Magnitude.{steps}
use Rattle.float8.proofs.Rows.{tested}
use Rattle.encoding.specs.Varint.{shortest}
use Rattle.reading.specs.Numbers.{digits, varint_at, padding_at}
use Rattle.format.specs.Sound.{All}
use Rattle.format.specs.Tests.{same?, both?, all?, fits?}
use Rattle.format.specs.Write.{starts32?, imaged, written, writes}
use Rattle.format.specs.Read.{at_stage, map_read, accepted}
use Rattle.format.specs.DecodeContainer.{magic_at, header_at, alignment_at, section_at, item_at, sections_at, later, last_with, place_of, places_of, in_section}
use Rattle.format.specs.DecodeTables.{padded_at, offset_table_at, strings_at}
use Rattle.format.specs.Decode.{payloads, read_placed, placed, decode}
use Rattle.format.proofs.WholeCase.{whole-sheet, whole-pool, whole-image, whole-judged}
use Rattle.format.proofs.Decoded.{decode-sound}
use Rattle.marked.specs.Marked.{Holds, True, whole_case, marked}

-- The file of the whole case is read as its tables.
whole-read : decode whole_case.file ≡ accepted whole_case.tables
unfolding follow byte_of byte pure fail bind mapped choose such times counted raw little fixed literal broke blamed here gap pad
    cut consed cuts upto whole place go_on until_from until raised cut_least entry entries_of rows entries
    digits varint_at padding_at class_of at_stage map_read dec_le dec_lt ℕ_discrete
    magic_at header_at alignment_at section_at item_at sections_at later last_with place_of places_of in_section
    padded_at offset_table_at strings_at payloads read_placed placed decode
whole-read = refl

-- The writer gives the file of the whole case.
whole-written : written whole_case.sheet whole_case.pool ≡ writes whole_case.file
unfolding written imaged starts32? choose same? both? all? fits? dec_le dec_lt
whole-written = rw (whole-judged, whole-image)

whole-true : True whole_case
whole-true =
    record {
      its_sheet = whole-sheet;
      its_pool = whole-pool;
      judged = whole-judged;
      its_image = whole-image;
      is_written = whole-written;
      is_read = whole-read;
      explained = decode-sound whole_case.file whole_case.tables whole-read;
    }

-- One row, and the rows behind it.
infixr 5 ◌and◌
◌and◌ : {A B : Type 0} → A → B → A × B
a and b = (a, b)

-- Every row of the marked table holds: (a) to (f); (g), (h), (i); (j); (k); (l).
pub all-marked : All Holds marked
unfolding shortest digits varint_at blamed broke follow byte_of byte pure fail bind mapped choose dec_lt steps
all-marked =
    refl and refl and refl and refl and refl and refl
    and (((omega arith, refl), tested _ _ _ _ _ _ refl) and tt)
    and (((omega arith, refl), tested _ _ _ _ _ _ refl) and tt)
    and (((omega arith, refl), tested _ _ _ _ _ _ refl) and tt)
    and ((refl, tested _ _ _ _ _ _ refl) and (refl, tested _ _ _ _ _ _ refl) and tt)
    and (((omega arith, refl), tested _ _ _ _ _ _ refl) and ((omega arith, refl), tested _ _ _ _ _ _ refl) and tt)
    and (whole-true, refl)
    and tt
