-- The image of well-formed tables, if it fits, is a file that stands for them; reading it returns them, and equal images
-- come from equal tables. Assumes nothing.
use mathlib.Core.Path.{◌≡◌, refl, sym, ap, subst}
use mathlib.Core.Bool.{true, false, ◌||◌, true≢false, false≢true}
use Prim.Native.Nat.{ℕ, ◌+◌, ◌^◌, ◌≤◌, ◌<◌}
use native.Mathlib.Decide.{ℕ_discrete}
use native.Mathlib.Omega.{arith}
use mathlib.Core.List.{List, [], ◌∷◌, ◌++◌, map, append-nil}
use mathlib.Core.Option.{Option, none, some}
use lib.ListN.{length, take, drop, length-map}
use Rattle.exact.specs.Sequence.{of}
use Rattle.exact.specs.Fixed.{bytes_of}
use Rattle.exact.specs.Tiling.{join}
use Rattle.exact.specs.Entries.{Rows}
use Rattle.exact.proofs.LawsFixed.{fixed_of}
use Rattle.enums.specs.Container.{section_ids, string_id, func_id, debug_id, constant_id, type_id, global_id, producer_id}
use Rattle.encoding.specs.Varint.{spelling}
use Rattle.encoding.proofs.LawsVarint.{spelling-spells}
use Rattle.format.specs.Tables.{Version, Attribute, Tables}
use Rattle.format.specs.Header.{Header}
use Rattle.format.specs.Sections.{Section, Payload}
use Rattle.format.specs.Strings.{Strings, Constants, Producer, producer, no_rows}
use Rattle.format.specs.Types.{TypeEntry, Types}
use Rattle.format.specs.Globals.{Globals}
use Rattle.format.specs.Functions.{Functions}
use Rattle.format.specs.Debug.{Debug, no_debug}
use Rattle.format.specs.Explains.{class, Explains}
use Rattle.format.specs.Read.{accepted}
use Rattle.format.specs.DecodeContainer.{places_of}
use Rattle.format.specs.Decode.{most_bytes, decode}
use Rattle.format.specs.Sheet.{
  frame_of,
  function_row_of,
  function_words,
  global_words,
  attribute_words,
  list_words,
  type_words,
  producer_word,
  sheet_of,
}
use Rattle.format.specs.Sound.{
  All,
  Fits,
  SoundVersion,
  SoundType,
  SoundGlobal,
  SoundFunction,
  SoundAttribute,
  Inside,
  Sound,
}
use Rattle.format.specs.Tests.{both?, all?, not?}
use Rattle.format.specs.Image.{
  Part,
  type_bytes,
  attribute_bytes,
  has_rows,
  is_named,
  producer_bytes,
  string_part,
  producer_part,
  type_part,
  constant_part,
  global_part,
  function_part,
  debug_part,
  parts_of,
  parts_from,
  header_bytes,
  image,
}
use Rattle.format.proofs.LawsImageItems.{all_both, all-zip, all-unmap}
use Rattle.format.proofs.LawsImageTypes.{GoodType, type-of}
use Rattle.format.proofs.LawsImageRows.{each_of, GoodGlobal, globals_of, GoodFunction, functions-of, GoodAttribute, debug-of}
use Rattle.format.proofs.LawsImageSections.{sections_from, laid_out, StandsFor, stands-among}
use Rattle.format.proofs.LawsImageSizes.{parts-small, sums-below, debug-le, back-le}
use Rattle.format.proofs.LawsImageParts.{
  said-yes,
  no_id?,
  Small,
  parts-good,
  rows_none,
  rows-some,
  whole_each,
  table_of,
}
use Rattle.format.proofs.LawsWords.{FrameFits, frame-fits}
use Rattle.format.proofs.LawsLast.{places-sound}
use Rattle.format.proofs.Decoded.{decode-complete, tables-only}
use Rattle.format.proofs.LawsImageLength.{header-size}

not_named : (p : Option ℕ) → is_named p ≡ false → none ≡ p
unfolding is_named
not_named none e = refl
not_named (some index) e = absurd (true≢false e)

-- A producer that is named has a word, its index + 1.
named-producer : (p : Option ℕ) (k : ℕ) → Inside p k → Fits 64 (producer_word p) → is_named p ≡ true → (o : ℕ) →
    (v : Option ℕ) × Producer k 0 (producer_bytes p) v × (v ≡ p)
unfolding is_named producer_bytes producer_word
named-producer none k h f e o = absurd (false≢true e)
named-producer (some index) k h f e o =
    let l : Fits 64 index = omega arith in
    let r : Producer k 0 (spelling index ++ []) (some index) = producer [] (spelling-spells index l) h in
    (some index, rw append-nil at r, refl)

-- Neither table has rows.
neither : (ls : List (List ℕ)) (xs : List Attribute) → (has_rows ls || has_rows xs) ≡ false → no_debug ≡ record { attributes = xs; lists = ls }
unfolding has_rows
neither [] [] e = refl
neither [] (x ∷ xs) e = absurd (true≢false e)
neither (l ∷ ls) xs e = absurd (true≢false e)

-- Ids are words of their rows.
ids-fit : (ls : List (List ℕ)) → All (λ l. All (Fits 64) (list_words l)) ls → All (Fits 64) (join ls)
ids-fit [] h = tt
ids-fit (l ∷ ls) h = all_both (Fits 64) l (join ls) h.0.1 (ids-fit ls h.1)

module _ (t : Tables) (s : Sound t) (n : length (image t) ≤ most_bytes) where
  fits : FrameFits (frame_of t)
  unfolding sheet_of
  fits = frame-fits (frame_of t) s.words

  small : All Small (parts_of t)
  unfolding image
  small = parts-small most_bytes 12 (parts_of t) (omega (arith, back-le (header_bytes t.version) (parts_from 12 (parts_of t))))

  -- The parts before part k, and those behind it.
  abbrev before : ℕ → List Part
  before k = take k (parts_of t)

  abbrev behind : ℕ → List Part
  behind k = drop (k + 1) (parts_of t)

  strings-stand : (i : ℕ) → StandsFor string_id (sections_from i (parts_of t)) Strings no_rows (λ r. r.values) t.strings
  unfolding parts_of string_part producer_part type_part constant_part global_part function_part debug_part all? both? not? ℕ_discrete frame_of
  strings-stand =
      stands-among Strings no_rows (λ r. r.values) t.strings (before 0) (string_part t.strings) (behind 0)
      (said-yes (no_id? string_id (before 0)) tt) (said-yes (no_id? string_id (behind 0)) tt)
      (rows_none t.strings)
      (λ e o. table_of 4 4 o t.strings t.strings (omega arith) (rw (← length-map t.strings length) fits.strings)
      (rows-some t.strings e) (small.0 e) (whole_each t.strings))

  producer-stands : (i : ℕ) → StandsFor producer_id (sections_from i (parts_of t)) (λ o. Producer (length t.strings)) none (λ p. p) t.producer
  unfolding parts_of string_part producer_part type_part constant_part global_part function_part debug_part all? both? not? ℕ_discrete frame_of
  producer-stands =
      stands-among (λ o. Producer (length t.strings)) none (λ p. p) t.producer (before 1) (producer_part t.producer) (behind 1)
      (said-yes (no_id? producer_id (before 1)) tt) (said-yes (no_id? producer_id (behind 1)) tt)
      (not_named t.producer)
      (named-producer t.producer (length t.strings) (subst (Inside t.producer) (length-map t.strings length) s.frame.producer)
      fits.producer)

  types-stand : (i : ℕ) → StandsFor type_id (sections_from i (parts_of t)) (Types (class t.version)) [] (λ v. v) t.types
  unfolding parts_of string_part producer_part type_part constant_part global_part function_part debug_part all? both? not? ℕ_discrete frame_of type_words
  types-stand =
      let c = class t.version in
      let good = all-zip (λ r. All (Fits 64) (type_words r)) (SoundType c) (GoodType c)
      (λ r w h. record { words = w.1; sound = h }) t.types fits.type_rows_fit s.frame.types in
      stands-among (Types c) [] (λ v. v) t.types (before 2) (type_part c t.types) (behind 2)
      (said-yes (no_id? type_id (before 2)) tt) (said-yes (no_id? type_id (behind 2)) tt)
      (rows_none t.types)
      (λ e o.
      let r = table_of 4 4 o (map (type_bytes c) t.types) t.types (omega arith) (rw length-map fits.types) (rows-some t.types e)
      (small.1.1.0 e) (each_of (TypeEntry c) (type_bytes c) (GoodType c) (type-of c) t.types good) in
      (r.0.values, of r.1, r.2))

  constants-stand : (i : ℕ) → StandsFor constant_id (sections_from i (parts_of t)) Constants no_rows (λ r. r.values) t.constants
  unfolding parts_of string_part producer_part type_part constant_part global_part function_part debug_part all? both? not? ℕ_discrete frame_of
  constants-stand =
      stands-among Constants no_rows (λ r. r.values) t.constants (before 3) (constant_part t.constants) (behind 3)
      (said-yes (no_id? constant_id (before 3)) tt) (said-yes (no_id? constant_id (behind 3)) tt)
      (rows_none t.constants)
      (λ e o. table_of 8 8 o t.constants t.constants (omega arith) (rw (← length-map t.constants length) fits.constants)
      (rows-some t.constants e) (small.1.1.1.0 e) (whole_each t.constants))

  globals-stand : (i : ℕ) → StandsFor global_id (sections_from i (parts_of t)) (Globals (class t.version)) [] (λ v. v) t.globals
  unfolding parts_of string_part producer_part type_part constant_part global_part function_part debug_part all? both? not? ℕ_discrete frame_of
  globals-stand =
      let c = class t.version in
      let good = all-zip (λ g. All (Fits 64) (global_words g)) (SoundGlobal c) (GoodGlobal c)
      (λ g w h. record { words = w; sound = h }) t.globals fits.global_rows_fit s.frame.globals in
      stands-among (Globals c) [] (λ v. v) t.globals (before 4) (global_part c t.globals) (behind 4)
      (said-yes (no_id? global_id (before 4)) tt) (said-yes (no_id? global_id (behind 4)) tt)
      (rows_none t.globals) (λ e o. (t.globals, globals_of c o t.globals fits.globals good, refl))

  functions-stand : (i : ℕ) → StandsFor func_id (sections_from i (parts_of t)) Functions no_rows (λ r. r.values) t.functions
  unfolding parts_of string_part producer_part type_part constant_part global_part function_part debug_part all? both? not? ℕ_discrete frame_of
  functions-stand =
      let good = all-zip (λ f. All (Fits 64) (function_words (function_row_of f))) (λ f. SoundFunction (function_row_of f)) GoodFunction
      (λ f w h. record { words = w; sound = h }) t.functions
      (all-unmap (λ r. All (Fits 64) (function_words r)) function_row_of t.functions fits.function_rows_fit)
      (all-unmap SoundFunction function_row_of t.functions s.frame.functions) in
      stands-among Functions no_rows (λ r. r.values) t.functions (before 5) (function_part t.functions) (behind 5)
      (said-yes (no_id? func_id (before 5)) tt) (said-yes (no_id? func_id (behind 5)) tt)
      (rows_none t.functions)
      (λ e o.
      let r = functions-of o t.functions (rw (← length-map t.functions function_row_of) fits.functions) good in
      (record { at = r.0; values = t.functions }, r.1, refl))

  debug-stands : (i : ℕ) → StandsFor debug_id (sections_from i (parts_of t)) (λ o. Debug) no_debug (λ v. v)
      (record { attributes = t.attributes; lists = t.lists })
  unfolding parts_of string_part producer_part type_part constant_part global_part function_part debug_part all? both? not? ℕ_discrete frame_of
  debug-stands =
      let good = all-zip (λ a. All (Fits 64) (attribute_words a)) SoundAttribute GoodAttribute
      (λ a w h. record { words = w; sound = h }) t.attributes fits.attribute_rows_fit s.frame.attributes in
      stands-among (λ o. Debug) no_debug (λ v. v) (record { attributes = t.attributes; lists = t.lists }) (before 6)
      (debug_part t.lists t.attributes) (behind 6)
      (said-yes (no_id? debug_id (before 6)) tt) (said-yes (no_id? debug_id (behind 6)) tt)
      (neither t.lists t.attributes)
      (λ e o.
      let m = small.1.1.1.1.1.1.0 e in
      let k = debug-le t.lists (map attribute_bytes t.attributes) in
      let a : 0 + length (join t.lists) < 2 ^ 32 = omega (arith, k.0) in
      let b : 0 + length (join (map attribute_bytes t.attributes)) < 2 ^ 32 = omega (arith, k.1) in
      let i : Fits 64 (length (join t.lists)) = omega arith in (
        record { attributes = t.attributes; lists = t.lists },
        debug-of t.lists t.attributes fits.lists (sums-below (2 ^ 32) 0 t.lists a) i
            (ids-fit t.lists fits.list_rows_fit) fits.attributes (sums-below (2 ^ 32) 0 (map attribute_bytes t.attributes) b) good,
        refl,
      ))

header_of : (v : Version) → SoundVersion v → Header (header_bytes v) v
unfolding header_bytes
header_of v h = record { tag_bytes = bytes_of 2 v.tag; whole = refl; tag = fixed_of 2 0 v.tag h.tag_half }

-- The section stands for the very value.
very : {A : Type 0} {id : ℕ} {ss : List Section} {R : ℕ → ℕ → List ℕ → A → Type 0} {e b : A} → StandsFor id ss R e (λ v. v) b → Payload id ss R e b
very {id = id} {ss} {R} {e} x = subst (Payload id ss R e) x.shown x.payload

-- The section stands for these rows, at some places.
rowed : {A : Type 0} {id : ℕ} {ss : List Section} {R : ℕ → ℕ → List ℕ → Rows A → Type 0} {e : Rows A} {b : List A} →
    (x : StandsFor id ss R e (λ r. r.values) b) → Payload id ss R e (record { at = x.value.at; values = b })
rowed {id = id} {ss} {R} {e} x = subst (λ vs. Payload id ss R e (record { at = x.value.at; values = vs })) x.shown x.payload

-- The image of well-formed tables stands for them.
pub image-explained : (t : Tables) → Sound t → length (image t) ≤ most_bytes → Explains (image t) t
unfolding image frame_of
image-explained t s n =
    let ps = parts_of t in
    let ss = sections_from 12 ps in
    let strings = strings-stand t s n 12 in
    let constants = constants-stand t s n 12 in
    let functions = functions-stand t s n 12 in
    record {
      places =
          record {
            strings = strings.value.at;
            constants = constants.value.at;
            bodies = functions.value.at;
            sections = places_of ss section_ids;
          };
      layout =
          record {
            sections = ss;
            container =
                record {
                  header = header_bytes t.version;
                  walked = parts_from 12 ps;
                  after = [];
                  whole = ap (λ x. header_bytes t.version ++ x) (sym (append-nil (parts_from 12 ps)));
                  headed = header_of t.version s.frame.version;
                  laid = rw (header-size t.version) (laid_out 12 ps (parts-good t (small t s n)));
                };
            strings = rowed strings;
            producer = very (producer-stands t s n 12);
            types = very (types-stand t s n 12);
            constants = rowed constants;
            globals = very (globals-stand t s n 12);
            functions = rowed functions;
            debug = very (debug-stands t s n 12);
            placed = places-sound ss section_ids;
          };
    }

-- Reading it returns the tables.
pub image-read : (t : Tables) → Sound t → length (image t) ≤ most_bytes → decode (image t) ≡ accepted t
image-read t s n = decode-complete (image t) t (image-explained t s n) n

-- Equal images come from equal tables.
pub image-one : (t u : Tables) → Sound t → Sound u → length (image t) ≤ most_bytes → image t ≡ image u → t ≡ u
image-one t u s r n e =
    tables-only (image t) t u (image-explained t s n) (rw e (image-explained u r (rw (← e) n)))
