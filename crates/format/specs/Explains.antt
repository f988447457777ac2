-- What a file's bytes stand for (document 01, "The container"), item beside item, and where its rows stand. The parts are
-- in Header, Sections, Strings (String, Constant, Producer), Types, Globals, Functions, Debug and Items; none of them reads.
use Rattle.std.specs.Prelude.{◌≡◌, ℕ, List, [], ◌++◌, length}
use Rattle.std.proofs.Math.Option.{none}
use Rattle.enums.specs.Container.{string_id, func_id, debug_id, constant_id, type_id, global_id, producer_id, section_ids}
use Rattle.enums.specs.Version.{class_of}
use Rattle.enums.specs.declared.VersionClass.{VersionClass}
use Rattle.format.specs.Tables.{Version, Tables}
use Rattle.format.specs.Header.{Header}
use Rattle.format.specs.Sections.{Section, Sections, Payload, Place, PlacesOf}
use Rattle.format.specs.Strings.{no_rows, Strings, Constants, Producer}
use Rattle.format.specs.Types.{Types}
use Rattle.format.specs.Globals.{Globals}
use Rattle.format.specs.Functions.{Functions}
use Rattle.format.specs.Debug.{no_debug, Debug}

-- File offsets: of each string, constant and body, and of the payload that counts for each section id.
pub record Places : Type 0 where
  pub strings : List ℕ
  pub constants : List ℕ
  pub bodies : List ℕ
  pub sections : List Place

-- Tables, and where their rows stand in a file.
pub record Placed : Type 0 where
  pub tables : Tables
  pub places : Places

-- The file is a header of version v, these sections with the end marker, and any bytes after it.
pub record Container (file : List ℕ) (v : Version) (sections : List Section) : Type 0 where
  pub header : List ℕ
  pub walked : List ℕ
  pub after : List ℕ
  pub whole : file ≡ header ++ (walked ++ after)
  pub headed : Header header v
  pub laid : Sections (length header) walked sections

-- The class of a version.
abbrev pub class : Version → VersionClass
class v = class_of v.major v.minor

-- The file is laid out so: each table is what its section's payload stands for.
pub record Layout (file : List ℕ) (x : Placed) : Type 0 where
  pub sections : List Section
  pub container : Container file x.tables.version sections
  pub strings : Payload string_id sections Strings no_rows
      (record { at = x.places.strings; values = x.tables.strings })
  pub producer : Payload producer_id sections (λ o. Producer (length x.tables.strings)) none x.tables.producer
  pub types : Payload type_id sections (Types (class x.tables.version)) [] x.tables.types
  pub constants : Payload constant_id sections Constants no_rows
      (record { at = x.places.constants; values = x.tables.constants })
  pub globals : Payload global_id sections (Globals (class x.tables.version)) [] x.tables.globals
  pub functions : Payload func_id sections Functions no_rows
      (record { at = x.places.bodies; values = x.tables.functions })
  pub debug : Payload debug_id sections (λ o. Debug) no_debug
      (record { attributes = x.tables.attributes; lists = x.tables.lists })
  pub placed : PlacesOf sections section_ids x.places.sections

-- The file's bytes stand for these tables.
pub record Explains (file : List ℕ) (t : Tables) : Type 0 where
  pub places : Places
  pub layout : Layout file (record { tables = t; places = places })
