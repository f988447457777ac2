-- What the container writer answers (document 01, "Refusal numbers": "Writing: 1 for sheet and pool, 12, 13, 1 for the
-- image, 11"). 11 is a matter of the output that it is lent.
use Rattle.std.specs.Prelude.{ℕ, ◌^◌, List, map, length, replicate}
use Rattle.std.proofs.Math.Decide.{dec_le}
use Rattle.std.proofs.Math.Option.{Option, none, some}
use Rattle.exact.specs.Choice.{choose}
use Rattle.exact.specs.Tiling.{sums}
use Rattle.enums.specs.Refusals as refusals
use Rattle.format.specs.Tables.{Tables}
use Rattle.format.specs.Explains.{class}
use Rattle.format.specs.Decode.{most_bytes}
use Rattle.format.specs.Sheet.{Frame, pool_length}
use Rattle.format.specs.Tests.{same?, both?, all?, fits?}
use Rattle.format.specs.Judge.{judged, cutting, tables_of}
use Rattle.format.specs.Image.{type_bytes, attribute_bytes, image, Starts32}

-- The image, or a refusal number.
pub data Writing : Type 0 where
  writes : List ℕ → Writing
  refuses : ℕ → Writing

-- A sheet has at most 2^26 words.
abbrev pub most_words : ℕ
most_words = 2 ^ 26

unfoldable pub starts32? : (t : Tables) → Dec (Starts32 t)
starts32? t =
    same? (λ x. record { strings = x.0; types = x.1.0; lists = x.1.1.0; attributes = x.1.1.1 })
    (λ s. (s.strings, (s.types, (s.lists, s.attributes))))
    (both? (all? (fits? 32) (sums 0 t.strings))
    (both? (all? (fits? 32) (sums 0 (map (type_bytes (class t.version)) t.types)))
    (both? (all? (fits? 32) (sums 0 t.lists)) (all? (fits? 32) (sums 0 (map attribute_bytes t.attributes))))))

-- 12 where there are no tables, 13 where a u32 start does not fit, 1 where the image does not.
unfoldable pub imaged : Option Tables → Writing
imaged none = refuses refusals.unsound
imaged (some t) =
    choose (starts32? t) (choose (dec_le (length (image t)) most_bytes) (writes (image t)) (refuses refusals.limit))
    (refuses refusals.start_too_large)

-- A handed sheet with its pool.
unfoldable pub written : List ℕ → List ℕ → Writing
written sheet pool =
    choose (dec_le (length sheet) most_words)
    (choose (dec_le (length pool) most_bytes) (imaged (tables_of sheet pool)) (refuses refusals.limit))
    (refuses refusals.limit)

-- The tables of a frame with a pool of zeros, which is as good as any where only lengths count.
unfoldable pub blank : Option Frame → Option Tables
blank none = none
blank (some r) = some (cutting r (replicate (pool_length r) 0))

-- A handed sheet, for a call lent no pool.
unfoldable pub written_alone : List ℕ → Writing
written_alone sheet = choose (dec_le (length sheet) most_words) (imaged (blank (judged sheet))) (refuses refusals.limit)
