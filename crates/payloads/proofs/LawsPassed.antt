-- A pass over the places that header and walk hold reads what the model reads of the sections. Assumes nothing.
use mathlib.Core.Path.{◌≡◌, refl, ap, ◌∙◌}
use Prim.Native.Nat.{ℕ}
use native.Mathlib.Omega.{arith}
use mathlib.Core.Option.{Option, none}
use mathlib.Core.List.{List, [], ◌∷◌, ◌++◌, map}
use lib.ListN.{length}
use Rattle.exact.specs.Got.{Got, got, stop, follow}
use Rattle.exact.specs.Tiling.{join}
use Rattle.exact.specs.Entries as table
use Rattle.enums.specs.Container.{string_id, func_id, debug_id, constant_id, type_id, global_id, producer_id}
use Rattle.enums.specs.Numbered.{stage_number}
use Rattle.enums.specs.declared.Section.TheVariants as section
use Rattle.enums.specs.Refusals as refusals
use Rattle.enums.specs.declared.VersionClass.{VersionClass}
use Rattle.format.specs.Tables.{TypeRow, Global, Function, Tables}
use Rattle.format.specs.Strings as strings
use Rattle.format.specs.Debug.{DebugTables, no_debug}
use Rattle.format.specs.Explains.{Placed, class}
use Rattle.format.specs.Read.{Read, accepted, refused, at_stage, map_read}
use Rattle.format.specs.Views.{and_then}
use Rattle.format.specs.DecodeContainer.{last_with, in_section}
use Rattle.format.specs.DecodeTables.{strings_at, constants_at, producer_at}
use Rattle.format.specs.DecodeTypes.{types_at}
use Rattle.format.specs.DecodeRows.{globals_at, functions_at}
use Rattle.format.specs.DecodeDebug.{debug_at}
use Rattle.format.specs.Decode.{gathered, payloads}
use Rattle.format.specs.Sheet.{type_words, global_words, producer_word}
use Rattle.format.proofs.Decoded.{accepted-value, stage-inv}
use Rattle.container.specs.declared.sections.Container.{Container}
use Rattle.container.specs.Container.{held_container, Opened, opened}
use Rattle.payloads.specs.Fill.{Rows}
use Rattle.payloads.specs.Tables.{run_rows, filling}
use Rattle.payloads.specs.Rows.{global_rows, bodied, function_rows}
use Rattle.payloads.specs.TypeRows.{type_rows}
use Rattle.payloads.specs.declared.pass.Table.{Table}
use Rattle.payloads.specs.declared.pass.Table.TheVariants.{Strings, Types, Constants, Globals, Functions}
use Rattle.payloads.specs.Pass.{
  no_rows,
  table_in,
  section_of,
  stage_of,
  in_place,
  Begun,
  value_of,
  with_table,
  with_producer,
  attribute_table,
  list_table,
  with_debug,
  begun,
  place_at,
  table_step,
  named,
  passed,
}
use Rattle.payloads.proofs.LawsHeld.{mapped, held-read, strings-moved, constants-moved, types-moved, functions-moved}

-- The rows of types and of globals.
abbrev pub typed : List TypeRow → Rows
typed vs = record { rows = length vs; words = join (map type_words vs); runs = [] }

abbrev pub globals_of : List Global → Rows
globals_of vs = record { rows = length vs; words = join (map global_words vs); runs = [] }

abbrev pub debug_of : Tables → DebugTables
debug_of t = record { attributes = t.attributes; lists = t.lists }

-- The seven tables of the sheet.
abbrev pub seven_of : Tables → List Rows
seven_of t =
    run_rows t.strings ∷ typed t.types ∷ run_rows t.constants ∷ globals_of t.globals ∷ bodied t.functions ∷
    attribute_table (debug_of t) ∷ list_table (debug_of t) ∷ []

-- What a pass has found that has read all.
abbrev pub all_of : Placed → Begun
all_of y = record { tables = seven_of y.tables; value = 0 }

then-then : {A B C : Type 0} (r : Read A) (f : A → Read B) (g : B → Read C) →
    and_then (and_then r f) g ≡ and_then r (λ x. and_then (f x) g)
unfolding and_then
then-then (accepted v) f g = refl
then-then (refused c n i) f g = refl

module _ {A : Type 0} (stage : ℕ) (k : A → Read Placed) (f : A → Rows) (x : Begun) (m : Begun → Read Begun)
    (h : (v : A) → m (record { tables = x.tables ++ (f v ∷ []); value = (f v).rows }) ≡ map_read all_of (k v)) where
  step-got : (g : Got A) →
      and_then (with_table stage (mapped f g) x) m ≡ map_read all_of (at_stage stage g (λ v _. k v))
  unfolding with_table and_then at_stage map_read follow
  step-got (got v j) = h v
  step-got (stop c i) = refl

  -- One table more, and then m, as the model reads g and then k.
  step-table : (g : Got A) (r : Got Rows) → r ≡ mapped f g →
      and_then (with_table stage r x) m ≡ map_read all_of (at_stage stage g (λ v _. k v))
  step-table g r e = ap (λ z. and_then (with_table stage z x) m) e ∙ step-got g

-- The producer, and then m.
found-producer : (k : Option ℕ → Read Placed) (ts : List Rows) (m : Begun → Read Begun) (g : Got (Option ℕ)) →
    ((v : Option ℕ) → m (record { tables = ts; value = producer_word v }) ≡ map_read all_of (k v)) →
    and_then (at_stage refusals.at_producer (mapped (λ v. v) g) (λ v _. accepted (record { tables = ts; value = producer_word v }))) m ≡
    map_read all_of (at_stage refusals.at_producer g (λ v _. k v))
unfolding and_then at_stage map_read follow
found-producer k ts m (got v j) h = h v
found-producer k ts m (stop c i) h = refl

-- Debug is the last.
found-debug : (k : DebugTables → Placed) (x : Begun) (g : Got DebugTables) →
    ((d : DebugTables) →
    ◌≡◌ {A = Begun} (record { tables = x.tables ++ (attribute_table d ∷ list_table d ∷ []); value = 0 }) (all_of (k d))) →
    with_debug (mapped (λ v. v) g) x ≡ map_read all_of (at_stage refusals.at_debug g (λ d _. accepted (k d)))
unfolding with_debug at_stage map_read follow
found-debug k x (got d j) h = ap accepted (h d)
found-debug k x (stop c i) h = refl

mapped-same : {A : Type 0} (g : Got A) → g ≡ mapped (λ v. v) g
unfolding follow
mapped-same (got v j) = refl
mapped-same (stop c k) = refl

module _ (file : List ℕ) (x : Opened) (e : opened file ≡ accepted x) where
  abbrev c : VersionClass
  c = class x.version

  abbrev held : Container
  held = held_container x

  -- What the model reads of each section.
  abbrev strings_in : Got (table.Rows (List ℕ))
  strings_in = in_section (last_with string_id x.sections) strings_at strings.no_rows

  abbrev producer_in : table.Rows (List ℕ) → Got (Option ℕ)
  producer_in s = in_section (last_with producer_id x.sections) (λ o. producer_at (length s.values)) none

  abbrev types_in : Got (List TypeRow)
  types_in = in_section (last_with type_id x.sections) (types_at c) []

  abbrev constants_in : Got (table.Rows (List ℕ))
  constants_in = in_section (last_with constant_id x.sections) constants_at strings.no_rows

  abbrev globals_in : Got (List Global)
  globals_in = in_section (last_with global_id x.sections) (globals_at c) []

  abbrev functions_in : Got (table.Rows Function)
  functions_in = in_section (last_with func_id x.sections) functions_at strings.no_rows

  abbrev debug_in : Got DebugTables
  debug_in = in_section (last_with debug_id x.sections) (λ o. debug_at) no_debug

  -- The table at the place of its section.
  abbrev table_at : Table → Got Rows
  table_at t = in_place file (place_at held (section_of t)) (table_in t c) no_rows

  strings-held : table_at Strings ≡ mapped (λ v. run_rows v.values) strings_in
  unfolding table_in filling
  strings-held = held-read file x e (λ v. run_rows v.values) strings_at (table_in Strings c) strings.no_rows strings-moved string_id (omega arith)

  types-held : table_at Types ≡ mapped typed types_in
  unfolding table_in type_rows
  types-held = held-read file x e typed (types_at c) (table_in Types c) [] (types-moved c) type_id (omega arith)

  constants-held : table_at Constants ≡ mapped (λ v. run_rows v.values) constants_in
  unfolding table_in filling
  constants-held =
      held-read file x e (λ v. run_rows v.values) constants_at (table_in Constants c) strings.no_rows constants-moved constant_id (omega arith)

  globals-held : table_at Globals ≡ mapped globals_of globals_in
  unfolding table_in global_rows globals_at
  globals-held = held-read file x e globals_of (globals_at c) (table_in Globals c) [] (λ o l. refl) global_id (omega arith)

  functions-held : table_at Functions ≡ mapped (λ v. bodied v.values) functions_in
  unfolding table_in function_rows
  functions-held =
      held-read file x e (λ v. bodied v.values) functions_at (table_in Functions c) strings.no_rows functions-moved func_id (omega arith)

  producer-held : (s : table.Rows (List ℕ)) →
      in_place file (place_at held section.Producer) (λ l. producer_at (length s.values) l 0) none ≡ mapped (λ v. v) (producer_in s)
  producer-held s =
      held-read file x e (λ v. v) (λ o. producer_at (length s.values)) (λ l. producer_at (length s.values) l 0) none
      (λ o l. mapped-same (producer_at (length s.values) l 0)) producer_id (omega arith)

  debug-held : in_place file (place_at held section.Debug) (λ l. debug_at l 0) no_debug ≡ mapped (λ v. v) debug_in
  debug-held = held-read file x e (λ v. v) (λ o. debug_at) (λ l. debug_at l 0) no_debug (λ o l. mapped-same (debug_at l 0)) debug_id (omega arith)

  -- What the pass has still to read, from each stage on ..
  abbrev from_debug : Begun → Read Begun
  from_debug = with_debug (in_place file (place_at held section.Debug) (λ l. debug_at l 0) no_debug)

  abbrev from_functions : Begun → Read Begun
  from_functions z = and_then (table_step file held Functions z) from_debug

  abbrev from_globals : Begun → Read Begun
  from_globals z = and_then (table_step file held Globals z) from_functions

  abbrev from_constants : Begun → Read Begun
  from_constants z = and_then (table_step file held Constants z) from_globals

  abbrev from_types : Begun → Read Begun
  from_types z = and_then (table_step file held Types z) from_constants

  abbrev from_producer : Begun → Read Begun
  from_producer z = and_then (with_producer file (place_at held section.Producer) z) from_types

  passed-steps : passed file held ≡ and_then (table_step file held Strings begun) from_producer
  unfolding passed named
  passed-steps =
      then-then _ (table_step file held Functions) from_debug ∙
      then-then _ (table_step file held Globals) from_functions ∙
      then-then _ (table_step file held Constants) from_globals ∙
      then-then _ (table_step file held Types) from_constants ∙
      then-then _ (with_producer file (place_at held section.Producer)) from_types

  -- .. and what the model has, behind strings s, producer p, types t, constants k, globals g and functions f.
  abbrev model_debug : table.Rows (List ℕ) → Option ℕ → List TypeRow → table.Rows (List ℕ) → List Global → table.Rows Function → Read Placed
  model_debug s p t k g f =
      at_stage refusals.at_debug debug_in (λ d _. accepted (gathered x.version x.sections s p t k g f d))

  abbrev model_functions : table.Rows (List ℕ) → Option ℕ → List TypeRow → table.Rows (List ℕ) → List Global → Read Placed
  model_functions s p t k g = at_stage refusals.at_func functions_in (λ f _. model_debug s p t k g f)

  abbrev model_globals : table.Rows (List ℕ) → Option ℕ → List TypeRow → table.Rows (List ℕ) → Read Placed
  model_globals s p t k = at_stage refusals.at_global globals_in (λ g _. model_functions s p t k g)

  abbrev model_constants : table.Rows (List ℕ) → Option ℕ → List TypeRow → Read Placed
  model_constants s p t = at_stage refusals.at_constant constants_in (λ k _. model_globals s p t k)

  abbrev model_types : table.Rows (List ℕ) → Option ℕ → Read Placed
  model_types s p = at_stage refusals.at_type types_in (λ t _. model_constants s p t)

  abbrev model_producer : table.Rows (List ℕ) → Read Placed
  model_producer s = at_stage refusals.at_producer (producer_in s) (λ p _. model_types s p)

  -- Stage by stage they agree, from the last on.
  module _ (n : ℕ) (s : table.Rows (List ℕ)) (p : Option ℕ) (t : List TypeRow) (k : table.Rows (List ℕ)) (g : List Global) (f : table.Rows Function) where
    debug-passed :
        from_debug
        (record {
          tables = run_rows s.values ∷ typed t ∷ run_rows k.values ∷ globals_of g ∷ bodied f.values ∷ [];
          value = n;
        }) ≡
        map_read all_of (model_debug s p t k g f)
    debug-passed =
        let z : Begun =
        record {
          tables = run_rows s.values ∷ typed t ∷ run_rows k.values ∷ globals_of g ∷ bodied f.values ∷ [];
          value = n;
        } in
        ap (λ r. with_debug r z) debug-held ∙
        found-debug (gathered x.version x.sections s p t k g f) z debug_in (λ d. refl)

  functions-passed : (n : ℕ) (s : table.Rows (List ℕ)) (p : Option ℕ) (t : List TypeRow) (k : table.Rows (List ℕ)) (g : List Global) →
      from_functions (record { tables = run_rows s.values ∷ typed t ∷ run_rows k.values ∷ globals_of g ∷ []; value = n }) ≡
      map_read all_of (model_functions s p t k g)
  functions-passed n s p t k g =
      step-table refusals.at_func (model_debug s p t k g) (λ v. bodied v.values)
      (record { tables = run_rows s.values ∷ typed t ∷ run_rows k.values ∷ globals_of g ∷ []; value = n }) from_debug
      (λ f. debug-passed _ s p t k g f) functions_in (table_at Functions) functions-held

  globals-passed : (n : ℕ) (s : table.Rows (List ℕ)) (p : Option ℕ) (t : List TypeRow) (k : table.Rows (List ℕ)) →
      from_globals (record { tables = run_rows s.values ∷ typed t ∷ run_rows k.values ∷ []; value = n }) ≡
      map_read all_of (model_globals s p t k)
  globals-passed n s p t k =
      step-table refusals.at_global (model_functions s p t k) globals_of
      (record { tables = run_rows s.values ∷ typed t ∷ run_rows k.values ∷ []; value = n }) from_functions
      (λ g. functions-passed _ s p t k g) globals_in (table_at Globals) globals-held

  constants-passed : (n : ℕ) (s : table.Rows (List ℕ)) (p : Option ℕ) (t : List TypeRow) →
      from_constants (record { tables = run_rows s.values ∷ typed t ∷ []; value = n }) ≡ map_read all_of (model_constants s p t)
  constants-passed n s p t =
      step-table refusals.at_constant (model_globals s p t) (λ v. run_rows v.values)
      (record { tables = run_rows s.values ∷ typed t ∷ []; value = n }) from_globals
      (λ k. globals-passed _ s p t k) constants_in (table_at Constants) constants-held

  types-passed : (n : ℕ) (s : table.Rows (List ℕ)) (p : Option ℕ) →
      from_types (record { tables = run_rows s.values ∷ []; value = n }) ≡ map_read all_of (model_types s p)
  types-passed n s p =
      step-table refusals.at_type (model_constants s p) typed (record { tables = run_rows s.values ∷ []; value = n })
      from_constants (λ t. constants-passed _ s p t) types_in (table_at Types) types-held

  producer-passed : (s : table.Rows (List ℕ)) →
      from_producer (record { tables = run_rows s.values ∷ []; value = length s.values }) ≡ map_read all_of (model_producer s)
  unfolding with_producer
  producer-passed s =
      let after : Option ℕ → ℕ → Read Begun =
      λ v _. accepted (record { tables = run_rows s.values ∷ []; value = producer_word v }) in
      ap (λ z. and_then (at_stage refusals.at_producer z after) from_types) (producer-held s) ∙
      found-producer (model_types s) (run_rows s.values ∷ []) from_types (producer_in s) (λ p. types-passed _ s p)

  -- The pass reads what the model reads: its seven tables, or its refusal.
  pub passed-payloads : passed file held ≡ map_read all_of (payloads x.version x.sections)
  unfolding payloads
  passed-payloads =
      passed-steps ∙
      step-table refusals.at_string model_producer (λ v. run_rows v.values) begun from_producer producer-passed strings_in
      (table_at Strings) strings-held

  -- The producer that the model names is the one that was read.
  kept-producer : (s : table.Rows (List ℕ)) (p : Option ℕ) (y : Placed) → model_types s p ≡ accepted y → p ≡ y.tables.producer
  kept-producer s p y a =
      let (t, i3, h3, e3) = stage-inv _ _ _ y a in
      let (k, i4, h4, e4) = stage-inv _ _ _ y e3 in
      let (g, i5, h5, e5) = stage-inv _ _ _ y e4 in
      let (f, i6, h6, e6) = stage-inv _ _ _ y e5 in
      let (d, i7, h7, e7) = stage-inv _ _ _ y e6 in
      let z : Placed = gathered x.version x.sections s p t k g f d in
      ap (λ q. q.tables.producer) (accepted-value {v = z} e7)

  named-is : (s : table.Rows (List ℕ)) (i : ℕ) (p : Option ℕ) (j : ℕ) → strings_in ≡ got s i → producer_in s ≡ got p j →
      named file held ≡ accepted (record { tables = run_rows s.values ∷ []; value = producer_word p })
  unfolding named with_table with_producer and_then at_stage follow
  named-is s i p j a b =
      ap (λ z. and_then (with_table (stage_number (stage_of Strings)) z begun) (with_producer file (place_at held section.Producer)))
      (strings-held ∙ ap (mapped (λ v. run_rows v.values)) a) ∙
      ap (λ z. at_stage refusals.at_producer z (λ q _. accepted (record { tables = run_rows s.values ∷ []; value = producer_word q })))
      (producer-held s ∙ ap (mapped (λ v. v)) b)

  pub named-producer : (y : Placed) → payloads x.version x.sections ≡ accepted y →
      value_of (named file held) ≡ producer_word y.tables.producer
  unfolding payloads value_of
  named-producer y a =
      let (s, i1, h1, e1) = stage-inv _ _ _ y a in
      let (p, i2, h2, e2) = stage-inv _ _ _ y e1 in
      ap value_of (named-is s i1 p i2 h1 h2) ∙ ap producer_word (kept-producer s p y e2)

  -- The version that the model names is the file's.
  pub kept-version : (y : Placed) → payloads x.version x.sections ≡ accepted y → x.version ≡ y.tables.version
  unfolding payloads
  kept-version y a =
      let (s, i1, h1, e1) = stage-inv _ _ _ y a in
      let (p, i2, h2, e2) = stage-inv _ _ _ y e1 in
      let (t, i3, h3, e3) = stage-inv _ _ _ y e2 in
      let (k, i4, h4, e4) = stage-inv _ _ _ y e3 in
      let (g, i5, h5, e5) = stage-inv _ _ _ y e4 in
      let (f, i6, h6, e6) = stage-inv _ _ _ y e5 in
      let (d, i7, h7, e7) = stage-inv _ _ _ y e6 in
      let z : Placed = gathered x.version x.sections s p t k g f d in
      ap (λ q. q.tables.version) (accepted-value {v = z} e7)
