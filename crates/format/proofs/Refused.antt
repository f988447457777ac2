-- Every refusal of reading or viewing a file is one that its stage has, and so none has the number 0. Assumes nothing.
use mathlib.Core.Path.{◌≡◌, refl, sym, ◌∙◌, subst}
use mathlib.Core.Bool.{false, true≢false}
use mathlib.Core.Option.{Option, none, some}
use Prim.Native.Nat.{ℕ, zero, suc, ◌<◌}
use native.Mathlib.Omega.{arith}
use native.Mathlib.Decide.{dec_le, dec_lt}
use mathlib.Core.List.{List, [], ◌∷◌}
use lib.ListN.{length, get_or}
use Rattle.exact.specs.Got.{Got}
use Rattle.exact.specs.Choice.{choose}
use Rattle.exact.specs.Entries.{Rows}
use Rattle.exact.specs.Only.{Says, no_refusal, such_refusal}
use Rattle.enums.specs.Container.{string_id, func_id, debug_id, constant_id, type_id, global_id, producer_id, num_sections}
use Rattle.enums.specs.Refusals as refusals
use Rattle.format.specs.Types.{among}
use Rattle.format.specs.Sound.{All}
use Rattle.format.specs.Tables.{Version}
use Rattle.format.specs.Sections.{Section}
use Rattle.format.specs.Strings.{no_rows}
use Rattle.format.specs.Debug.{no_debug}
use Rattle.format.specs.Explains.{Placed, class}
use Rattle.format.specs.Read.{Read, refused, at_stage, map_read}
use Rattle.format.specs.DecodeContainer.{last_with}
use Rattle.format.specs.DecodeTables.{strings_at, constants_at, producer_at}
use Rattle.format.specs.DecodeTypes.{types_at}
use Rattle.format.specs.DecodeRows.{globals_at, functions_at}
use Rattle.format.specs.DecodeDebug.{debug_at}
use Rattle.format.specs.Decode.{most_bytes, payloads, read_placed, placed, only_tables, decode}
use Rattle.format.specs.Views.{and_then, row_span, row_view, payload_span, read_sections, section_view}
use Rattle.format.specs.Refusals.{refusals_by_stage, GivenAt, Listed, not_refused, refused_so}
use Rattle.format.proofs.LawsRefusals.{
  only-header,
  only-sections,
  only-strings,
  only-producer,
  only-types,
  only-constants,
  only-globals,
  only-functions,
  only-debug,
  says-section,
}

-- A stage that gives its own refusals only, and then what goes on.
listed-stage : {A B : Type 0} (n : ℕ) {g : Got A} (k : A → ℕ → Read B) → Says (GivenAt n) g → ((v : A) (j : ℕ) → Listed (k v j)) →
    Listed (at_stage n g k)
unfolding at_stage
listed-stage n k (no_refusal {v} {j}) y = y v j
listed-stage n k (such_refusal x) y = refused_so x

pub listed-choose : {A Q : Type 0} (d : Dec Q) {x y : Read A} → Listed x → Listed y → Listed (choose d x y)
unfolding choose
listed-choose (yes h) a b = a
listed-choose (no h) a b = b

listed-payloads : (v : Version) (ss : List Section) → Listed (payloads v ss)
unfolding payloads
listed-payloads v ss =
    listed-stage refusals.at_string _ (says-section (last_with string_id ss) strings_at no_rows (only-strings refl refl refl refl))
    (λ strings j. listed-stage refusals.at_producer _
    (says-section (last_with producer_id ss) (λ o. producer_at (length strings.values)) none
    (λ k. only-producer refl refl (length strings.values) refl))
    (λ producer j. listed-stage refusals.at_type _
    (says-section (last_with type_id ss) (types_at (class v)) [] (only-types refl refl refl refl (class v) refl))
    (λ types j. listed-stage refusals.at_constant _
    (says-section (last_with constant_id ss) constants_at no_rows (only-constants refl refl refl refl))
    (λ constants j. listed-stage refusals.at_global _
    (says-section (last_with global_id ss) (globals_at (class v)) [] (only-globals refl refl (class v)))
    (λ globals j. listed-stage refusals.at_func _
    (says-section (last_with func_id ss) functions_at no_rows (λ k. only-functions refl refl k refl))
    (λ functions j. listed-stage refusals.at_debug _
    (says-section (last_with debug_id ss) (λ o. debug_at) no_debug (λ k. only-debug refl refl refl refl refl))
    (λ debug j. not_refused)))))))

-- Reading refuses a file only with a number that the stage has.
pub refusals-listed : (file : List ℕ) → Listed (placed file)
unfolding placed read_placed
refusals-listed file =
    listed-choose (dec_le (length file) most_bytes)
    (listed-stage refusals.at_header _ ((only-header refl refl).each file 0)
    (λ v j. listed-stage refusals.at_sections _ ((only-sections refl refl refl).each file j) (λ ss k. listed-payloads v ss)))
    (refused_so refl)

-- What goes on with what was read, or views it, refuses no other way.
pub listed_then : {A B : Type 0} {r : Read A} (f : A → Read B) → Listed r → ((v : A) → Listed (f v)) → Listed (and_then r f)
unfolding and_then
listed_then f (not_refused {v}) y = y v
listed_then f (refused_so x) y = refused_so x

pub listed-map : {A B : Type 0} {r : Read A} (f : A → B) → Listed r → Listed (map_read f r)
unfolding map_read
listed-map f not_refused = not_refused
listed-map f (refused_so x) = refused_so x

pub decode-listed : (file : List ℕ) → Listed (decode file)
unfolding decode
decode-listed file = listed-map only_tables (refusals-listed file)

pub row_listed : (rows_in : Placed → Rows (List ℕ)) (file : List ℕ) (k : ℕ) → Listed (row_view rows_in file k)
unfolding row_view row_span
row_listed rows_in file k =
    listed_then _ (refusals-listed file)
    (λ x. listed-choose (dec_lt k (length (rows_in x).values)) not_refused (refused_so refl))

payload-listed : (o : Option Section) → Listed (payload_span o)
unfolding payload_span
payload-listed none = refused_so refl
payload-listed (some s) = not_refused

pub section-listed : (file : List ℕ) (id : ℕ) → Listed (section_view file id)
unfolding section_view read_sections
section-listed file id =
    listed_then _
    (listed-choose (dec_le (length file) most_bytes)
    (listed-stage refusals.at_header _ ((only-header refl refl).each file 0)
    (λ v j. listed-stage refusals.at_sections _ ((only-sections refl refl refl).each file j) (λ ss k. not_refused)))
    (refused_so refl))
    (λ ss. listed-choose (dec_lt id num_sections) (payload-listed (last_with id ss)) (refused_so refl))

-- No stage has the number 0 ..
none-zero : (xs : List (List ℕ)) → All (λ l. among 0 l ≡ false) xs → (n : ℕ) → among 0 (get_or xs n []) ≡ false
none-zero [] a n = refl
none-zero (x ∷ xs) a zero = a.0
none-zero (x ∷ xs) a (suc n) = none-zero xs a.1 n

some_number : (n c : ℕ) → GivenAt n c → 0 < c
some_number n zero g =
    let f = none-zero refusals_by_stage (refl, (refl, (refl, (refl, (refl, (refl, (refl, (refl, (refl, (refl, (refl, tt))))))))))) n in
    absurd (true≢false (sym g ∙ f))
some_number n (suc c) g = omega arith

given : {A : Type 0} {c n i : ℕ} → Listed {A = A} (refused c n i) → GivenAt n c
given (refused_so g) = g

-- .. so that a refusal is told from an answer by its number.
pub refused-some : {A : Type 0} {r : Read A} {c n i : ℕ} → Listed r → r ≡ refused c n i → 0 < c
refused-some {c = c} {n} x e = some_number n c (given (subst Listed e x))
