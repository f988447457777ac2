-- Reading a file, with refusal number, stage and place (document 01, "The container" and "Refusal numbers"): limits,
-- header, sections, then the payloads String, Producer, Type, Constant, Global, Func, Debug.
use Rattle.std.specs.Prelude.{ℕ, ◌^◌, List, [], length}
use Rattle.std.proofs.Math.Decide.{dec_le}
use Rattle.std.proofs.Math.Option.{Option, none}
use Rattle.exact.specs.Choice.{choose}
use Rattle.exact.specs.Entries.{Rows}
use Rattle.enums.specs.Container.{string_id, func_id, debug_id, constant_id, type_id, global_id, producer_id, section_ids}
use Rattle.enums.specs.Refusals as refusals
use Rattle.format.specs.Tables.{Version, TypeRow, Global, Function, Tables}
use Rattle.format.specs.Sections.{Section}
use Rattle.format.specs.Strings.{no_rows}
use Rattle.format.specs.Debug.{DebugTables, no_debug}
use Rattle.format.specs.Explains.{Placed, class}
use Rattle.format.specs.Read.{Read, accepted, refused, at_stage, map_read}
use Rattle.format.specs.DecodeContainer.{header_at, sections_at, last_with, places_of, in_section}
use Rattle.format.specs.DecodeTables.{strings_at, constants_at, producer_at}
use Rattle.format.specs.DecodeTypes.{types_at}
use Rattle.format.specs.DecodeRows.{globals_at, functions_at}
use Rattle.format.specs.DecodeDebug.{debug_at}

-- A file has at most 2^30 bytes.
abbrev pub most_bytes : ℕ
most_bytes = 2 ^ 30

-- What the payloads stand for, and where their rows stand.
abbrev pub gathered : Version → List Section → Rows (List ℕ) → Option ℕ → List TypeRow → Rows (List ℕ) → List Global →
    Rows Function → DebugTables → Placed
gathered v ss strings producer types constants globals functions debug =
    record {
      tables = record {
        version = v;
        producer = producer;
        strings = strings.values;
        types = types;
        constants = constants.values;
        globals = globals;
        functions = functions.values;
        attributes = debug.attributes;
        lists = debug.lists;
      };
      places = record {
        strings = strings.at;
        constants = constants.at;
        bodies = functions.at;
        sections = places_of ss section_ids;
      };
    }

-- The payloads, in reading order.
unfoldable pub payloads : Version → List Section → Read Placed
payloads v ss =
    at_stage refusals.at_string (in_section (last_with string_id ss) strings_at no_rows)
    (λ strings _. at_stage refusals.at_producer
    (in_section (last_with producer_id ss) (λ o. producer_at (length strings.values)) none)
    (λ producer _. at_stage refusals.at_type (in_section (last_with type_id ss) (types_at (class v)) [])
    (λ types _. at_stage refusals.at_constant (in_section (last_with constant_id ss) constants_at no_rows)
    (λ constants _. at_stage refusals.at_global (in_section (last_with global_id ss) (globals_at (class v)) [])
    (λ globals _. at_stage refusals.at_func (in_section (last_with func_id ss) functions_at no_rows)
    (λ functions _. at_stage refusals.at_debug (in_section (last_with debug_id ss) (λ o. debug_at) no_debug)
    (λ debug _. accepted (gathered v ss strings producer types constants globals functions debug))))))))

-- Header, sections, payloads, whatever the file's size.
unfoldable pub read_placed : List ℕ → Read Placed
read_placed file =
    at_stage refusals.at_header (header_at file 0)
    (λ v j. at_stage refusals.at_sections (sections_at file j) (λ ss _. payloads v ss))

-- The tables of a file and the places of their rows.
unfoldable pub placed : List ℕ → Read Placed
placed file = choose (dec_le (length file) most_bytes) (read_placed file) (refused refusals.limit refusals.at_limits 0)

-- The tables alone.
abbrev pub only_tables : Placed → Tables
only_tables x = x.tables

-- The tables of a file.
unfoldable pub decode : List ℕ → Read Tables
decode file = map_read only_tables (placed file)
