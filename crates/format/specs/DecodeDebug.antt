-- The reader of Debug, in reading order (document 01, "The container"): all starts and ids, then the attributes one
-- by one, bounds and then fields, and then the lists.
use Rattle.std.specs.Prelude.{ℕ, List, length, get_or}
use Rattle.std.proofs.Math.Decide.{dec_lt}
use Rattle.std.proofs.Math.Option.{Option, none, some}
use Rattle.exact.specs.Got.{got, stop}
use Rattle.exact.specs.Exact.{Parser}
use Rattle.exact.specs.Basic.{byte}
use Rattle.exact.specs.Sequence.{bind, mapped}
use Rattle.exact.specs.Choice.{choose}
use Rattle.exact.specs.Repeat.{times}
use Rattle.exact.specs.Padding.{here}
use Rattle.exact.specs.Tiling.{cuts}
use Rattle.exact.specs.Refuse.{refuse}
use Rattle.exact.specs.Upto.{upto}
use Rattle.exact.specs.Entries.{Rows, entries}
use Rattle.enums.specs.Refusals as refusals
use Rattle.enums.specs.Debug.{field_counts}
use Rattle.reading.specs.Numbers.{varint_at}
use Rattle.format.specs.Tables.{Attribute}
use Rattle.format.specs.Debug.{attribute_of, DebugTables}
use Rattle.format.specs.DecodeTables.{padded_at, shape}

-- An attribute; a tag that is not known is refused at its byte.
unfoldable pub attribute_at : Parser Attribute
attribute_at =
    upto (here (λ k. bind byte
    (λ t. choose (dec_lt t (length field_counts)) (mapped (attribute_of t) (times (get_or field_counts t 0) varint_at))
    (refuse refusals.debug_tag k))))

-- The attributes, each of one byte at least.
unfoldable pub attributes_at : Parser (Rows Attribute)
attributes_at = bind varint_at (entries shape 4 4 0 1 attribute_at)

-- The lists, if their bounds are good, beside the attributes.
unfoldable pub lists_at : Rows Attribute → Option (List (List ℕ)) → Parser DebugTables
lists_at rows none l i = stop refusals.bounds 0
lists_at rows (some lists) l i = got (record { attributes = rows.values; lists = lists }) i

unfoldable pub debug_at : Parser DebugTables
debug_at =
    bind (padded_at 4 4)
    (λ starts. bind (padded_at 8 8)
    (λ ids. bind attributes_at
    (λ rows. lists_at rows (cuts starts ids))))
