-- One pass over the payloads of a file, in reading order (document 01, "The container" and "The sheet": the contents in
-- words 5 to 18, the rows from word 19 on, the pool).
use Rattle.std.specs.Prelude.{◌≡◌, ℕ, ◌+◌, ◌*◌, ◌^◌, ◌≤◌, true, false, List, [], ◌∷◌, ◌++◌, map, length, take, drop, get_or, Result, Ok, Err}
use Rattle.std.specs.Prelude as std
use Rattle.std.proofs.Math.Bool.{Bool-discrete}
use Rattle.std.proofs.Math.Option.{none}
use Rattle.exact.specs.Got.{Got, got}
use Rattle.exact.specs.Choice.{choose}
use Rattle.exact.specs.Tiling.{join}
use Rattle.exact.specs.Entries.{raised}
use Rattle.enums.specs.Numbered.{stage_number, id_of}
use Rattle.enums.specs.Refusals as refusals
use Rattle.enums.specs.declared.VersionClass.{VersionClass}
use Rattle.enums.specs.declared.Section.{Section}
use Rattle.enums.specs.declared.Section.TheVariants as section
use Rattle.enums.specs.declared.Stage.{Stage}
use Rattle.enums.specs.declared.Stage.TheVariants as stage
use Rattle.format.specs.Tables.{Version}
use Rattle.format.specs.Explains.{class}
use Rattle.format.specs.Debug.{DebugTables, no_debug}
use Rattle.format.specs.Read.{Read, accepted, refused, at_stage, map_read}
use Rattle.format.specs.Views.{and_then}
use Rattle.format.specs.Sheet.{attribute_words, list_words, producer_word}
use Rattle.format.specs.DecodeTables.{strings_at, constants_at, producer_at}
use Rattle.format.specs.DecodeTypes.{types_at}
use Rattle.format.specs.DecodeRows.{globals_at, functions_at}
use Rattle.format.specs.DecodeDebug.{debug_at}
use Rattle.container.specs.declared.sections.Container.{Container}
use Rattle.container.specs.declared.sections.SectionPlace.{SectionPlace}
use Rattle.container.specs.declared.sections.Stopped.{Stopped}
use Rattle.container.specs.Container.{version_of, nowhere}
use Rattle.container.specs.Shown.{read_of}
use Rattle.sheet.specs.Store.{put_words, put_runs}
use Rattle.payloads.specs.Fill.{Rows}
use Rattle.payloads.specs.Tables.{filling}
use Rattle.payloads.specs.Rows.{global_rows, function_rows}
use Rattle.payloads.specs.TypeRows.{type_rows}
use Rattle.payloads.specs.declared.Need.{Need}
use Rattle.payloads.specs.declared.answers.Filled.{Filled}
use Rattle.payloads.specs.declared.source.Payload.{Payload}
use Rattle.payloads.specs.declared.pass.Table.{Table}
use Rattle.payloads.specs.declared.pass.Table.TheVariants.{Strings, Types, Constants, Globals, Functions}

-- The table of an absent section.
abbrev pub no_rows : Rows
no_rows = record { rows = 0; words = []; runs = [] }

-- What a table's payload gives.
unfoldable pub table_in : Table → VersionClass → List ℕ → Got Rows
table_in Strings c l = filling (strings_at 0 l 0)
table_in Types c l = type_rows (types_at c 0 l 0)
table_in Constants c l = filling (constants_at 0 l 0)
table_in Globals c l = global_rows (globals_at c 0 l 0)
table_in Functions c l = function_rows (functions_at 0 l 0)

-- Its number among the tables of the sheet.
unfoldable pub number_of : Table → ℕ
number_of Strings = 0
number_of Types = 1
number_of Constants = 2
number_of Globals = 3
number_of Functions = 4

-- Its section.
abbrev pub section_of : Table → Section
section_of Strings = section.String
section_of Types = section.Type
section_of Constants = section.Constant
section_of Globals = section.Global
section_of Functions = section.Func

-- The stage at which it is read.
abbrev pub stage_of : Table → Stage
stage_of Strings = stage.String
stage_of Types = stage.Type
stage_of Constants = stage.Constant
stage_of Globals = stage.Global
stage_of Functions = stage.Func

-- The payload at a place of the file.
abbrev pub payload_in : List ℕ → SectionPlace → List ℕ
payload_in file p = take p.len (drop p.start file)

-- The place lies in the file.
abbrev pub Inside : List ℕ → SectionPlace → Type 0
Inside file p = p.start + p.len ≤ length file

-- What the code takes at a place of the file: nothing where no section is present, else the payload.
abbrev pub Stands : List ℕ → SectionPlace → std.Option Payload → Type 0
Stands file p std.None = p.presence ≡ false
Stands file p (std.Some q) = (p.presence ≡ true) × (q.start ≡ p.start) × (q.bytes.now ≡ payload_in file p)

-- What is read of the payload at a place, with places in the file; e where the section is absent.
unfoldable pub in_place : {A : Type 0} → List ℕ → SectionPlace → (List ℕ → Got A) → A → Got A
in_place file p f e =
    choose (Bool-discrete p.presence true) (raised p.start (f (payload_in file p))) (got e 0)

-- All words and all runs of tables.
unfoldable pub all_words : List Rows → List ℕ
all_words ts = join (map (λ t. t.words) ts)

unfoldable pub all_runs : List Rows → List (List ℕ)
all_runs ts = join (map (λ t. t.runs) ts)

-- Start word and row count of each table, from word n on.
unfoldable pub contents_of : ℕ → List Rows → List ℕ
contents_of n [] = []
contents_of n (t ∷ ts) = n ∷ t.rows ∷ contents_of (n + length t.words) ts

-- The sheet with the contents of these tables from word 5 on, and their rows from word 19 on.
unfoldable pub filled_sheet : List ℕ → List Rows → List ℕ
filled_sheet s ts = put_words (put_words s 5 (contents_of 19 ts)) 19 (all_words ts)

-- How far a pass has come: the tables so far, and what the last step found besides: how many rows its table has, or the
-- producer's word.
pub record Begun : Type 0 where
  pub tables : List Rows
  pub value : ℕ

-- The same as the code has it: how far the stores are filled, and what the last step found; or the refusal.
abbrev pub Pass : Type 0
Pass = Result (Filled × ℕ) Stopped

abbrev pub filled_of : List Rows → Filled
filled_of ts = record { words = 19 + length (all_words ts); bytes = length (join (all_runs ts)) }

abbrev pub pass_of : Read Begun → Read (Filled × ℕ)
pass_of = map_read (λ x. (filled_of x.tables, x.value))

-- What each step answers, as a pass: how many rows its table has, the producer's word, and the two tables of Debug.
abbrev pub table_found : Result (ℕ × Filled) Stopped → Pass
table_found (Ok (rows, at)) = Ok (at, rows)
table_found (Err x) = Err x

abbrev pub word_found : Filled → Result ℕ Stopped → Pass
word_found at (Ok word) = Ok (at, word)
word_found at (Err x) = Err x

abbrev pub debug_found : Result Filled Stopped → Pass
debug_found (Ok at) = Ok (at, 0)
debug_found (Err x) = Err x

-- n tables of payloads of at most 2^30 bytes: at most eight words, and fewer bytes of the pool, for each byte.
pub record Small (n : ℕ) (ts : List Rows) : Type 0 where
  pub count : length ts ≡ n
  pub words : length (all_words ts) ≤ n * 2 ^ 33
  pub bytes : length (join (all_runs ts)) ≤ n * 2 ^ 33

-- After n tables a pass that began with the stores s and p has the stores s' and p', and answers r to what the model
-- has read, b.
pub record Progress (n : ℕ) (b : Read Begun) (s s' p p' : List ℕ) (r : Pass) : Type 0 where
  pub answer : read_of r ≡ pass_of b
  pub small : (x : Begun) → b ≡ accepted x → Small n x.tables
  pub sheet : (x : Begun) → b ≡ accepted x → s' ≡ filled_sheet s x.tables
  pub pool : (x : Begun) → b ≡ accepted x → p' ≡ put_runs p 0 (all_runs x.tables)

-- A step from n tables to m, which reads k.
pub record Goes (n m : ℕ) (k : Begun → Read Begun) (from : Pass) (s s' p p' : List ℕ) (r : Pass) : Type 0 where
  pub on : (b : Read Begun) (s₀ p₀ : List ℕ) → Progress n b s₀ s p₀ p from → Progress m (and_then b k) s₀ s' p₀ p' r

-- One table more.
unfoldable pub with_table : ℕ → Got Rows → Begun → Read Begun
with_table stage g x = at_stage stage g (λ t _. accepted (record { tables = x.tables ++ (t ∷ []); value = t.rows }))

-- The producer, which is one of the strings that were read last.
unfoldable pub with_producer : List ℕ → SectionPlace → Begun → Read Begun
with_producer file p x =
    at_stage refusals.at_producer (in_place file p (λ l. producer_at x.value l 0) none)
    (λ producer _. accepted (record { tables = x.tables; value = producer_word producer }))

-- The two tables of Debug.
abbrev pub attribute_table : DebugTables → Rows
attribute_table t =
    record { rows = length t.attributes; words = join (map attribute_words t.attributes); runs = [] }

abbrev pub list_table : DebugTables → Rows
list_table t = record { rows = length t.lists; words = join (map list_words t.lists); runs = [] }

unfoldable pub with_debug : Got DebugTables → Begun → Read Begun
with_debug g x =
    at_stage refusals.at_debug g
    (λ t _. accepted (record { tables = x.tables ++ (attribute_table t ∷ list_table t ∷ []); value = 0 }))

-- Nothing is read yet.
abbrev pub begun : Begun
begun = record { tables = []; value = 0 }

-- The place of a section's payload.
abbrev pub place_at : Container → Section → SectionPlace
place_at k s = get_or k.sections.places (id_of s) nowhere

module _ (file : List ℕ) (k : Container) where
  -- A table behind what is read.
  abbrev pub table_step : Table → Begun → Read Begun
  table_step t =
      with_table (stage_number (stage_of t)) (in_place file (place_at k (section_of t)) (table_in t (class (version_of k.version))) no_rows)

  -- String and Producer ..
  unfoldable pub named : Read Begun
  named = and_then (table_step Strings begun) (with_producer file (place_at k section.Producer))

  -- .. and then Type, Constant, Global, Func and Debug.
  unfoldable pub passed : Read Begun
  passed =
      and_then
      (and_then (and_then (and_then (and_then named (table_step Types)) (table_step Constants)) (table_step Globals)) (table_step Functions))
      (with_debug (in_place file (place_at k section.Debug) (λ l. debug_at l 0) no_debug))

-- Words 0 to 4.
abbrev pub head_words : Version → ℕ → ℕ → List ℕ
head_words v producer bytes = v.major ∷ v.minor ∷ v.tag ∷ producer ∷ bytes ∷ []

-- How many words and bytes a pass has filled; or its refusal.
abbrev pub need_in : Read Begun → Read Need
need_in = map_read (λ x. record { words = 19 + length (all_words x.tables); bytes = length (join (all_runs x.tables)) })

-- The producer's word, of a pass that has found it last.
unfoldable pub value_of : Read Begun → ℕ
value_of (accepted x) = x.value
value_of (refused c n i) = 0

-- The whole pass over the payloads of the file, from the stores s and p to s' and p'.
pub record Passes (l : List ℕ) (k : Container) (s s' p p' : List ℕ) (r : Result Need Stopped) : Type 0 where
  pub answer : read_of r ≡ need_in (passed l k)
  pub sheet : (x : Begun) → passed l k ≡ accepted x →
      s' ≡
      put_words (filled_sheet s x.tables) 0
      (head_words (version_of k.version) (value_of (named l k)) (length (join (all_runs x.tables))))
  pub pool : (x : Begun) → passed l k ≡ accepted x → p' ≡ put_runs p 0 (all_runs x.tables)
