-- The reader accepts exactly the files that a layout explains, and a file has one layout. Assumes nothing.
use mathlib.Core.Path.{◌≡◌, refl, sym, ap, ◌∙◌, subst}
use Prim.Native.Nat.{ℕ, ◌+◌, ◌≤◌, ◌<◌}
use native.Mathlib.Nat.{zero-add}
use native.Mathlib.Omega.{arith}
use native.Mathlib.Decide.{dec_le}
use mathlib.Core.Option.{none}
use mathlib.Core.List.{List, [], ◌++◌}
use lib.ListN.{length, drop}
use Rattle.exact.specs.Got.{Got, got, stop}
use Rattle.exact.specs.Choice.{choose}
use Rattle.exact.proofs.LawsExact.{drop_past}
use Rattle.exact.proofs.LawsChoice.{choose_yes, choose_no}
use Rattle.enums.specs.Container.{string_id, func_id, debug_id, constant_id, type_id, global_id, producer_id, section_ids}
use Rattle.enums.specs.Refusals as refusals
use Rattle.format.specs.Tables.{Version, Tables}
use Rattle.format.specs.Sections.{Section, Sections, Place}
use Rattle.format.specs.Strings.{no_rows}
use Rattle.format.specs.Debug.{no_debug}
use Rattle.format.specs.Explains.{Placed, Container, class, Layout, Explains}
use Rattle.format.specs.Read.{Read, accepted, refused, at_stage, map_read}
use Rattle.format.specs.DecodeContainer.{header_at, sections_at}
use Rattle.format.specs.Decode.{most_bytes, gathered, payloads, read_placed, placed, only_tables, decode}
use Rattle.format.proofs.LawsTables.{strings-ends, constants-ends, types-ends, producer-ends}
use Rattle.format.proofs.LawsRows.{globals-ends, functions-ends}
use Rattle.format.proofs.LawsDebug.{debug-ends}
use Rattle.format.proofs.LawsContainer.{header-exact, sections-exact}
use Rattle.format.proofs.LawsLast.{section-sound, section-complete, places-sound, places-complete}

pub accepted-value : {A : Type 0} {v w : A} → accepted v ≡ accepted w → v ≡ w
accepted-value e = cc

pub refused-not-accepted : {A : Type 0} {c n i : ℕ} {v : A} → refused c n i ≡ accepted v → ⊥
refused-not-accepted e = let z : ◌≡◌ {A = ℕ} 0 1 = cc in omega arith

-- An accepted stage has read something ..
pub stage-inv : {A B : Type 0} (n : ℕ) (g : Got A) (k : A → ℕ → Read B) (w : B) → at_stage n g k ≡ accepted w →
    (v : A) × (j : ℕ) × (g ≡ got v j) × (k v j ≡ accepted w)
unfolding at_stage
stage-inv n (got v j) k w e = (v, j, refl, e)
stage-inv n (stop c i) k w e = absurd (refused-not-accepted e)

-- .. and goes on with it.
pub stage-got : {A B : Type 0} (n : ℕ) (g : Got A) (k : A → ℕ → Read B) (v : A) (j : ℕ) (r : Read B) → g ≡ got v j → k v j ≡ r →
    at_stage n g k ≡ r
unfolding at_stage
stage-got n g k v j r e h = rw e h

-- What the header and the walk read is the container ..
pub container-of : (file : List ℕ) (v : Version) (j : ℕ) (ss : List Section) (k : ℕ) → header_at file 0 ≡ got v j →
    sections_at file j ≡ got ss k → Container file v ss
container-of file v j ss k h g =
    let a = header-exact.sound file 0 v j h in
    let b = sections-exact.sound file j ss k g in
    let n : j ≡ length a.bytes = omega (arith, a.next) in
    record {
      header = a.bytes;
      walked = b.bytes;
      after = drop k file;
      whole = a.there ∙ ap (λ r. a.bytes ++ r) b.there;
      headed = a.spelt;
      laid = subst (λ i. Sections i b.bytes ss) n b.spelt;
    }

-- .. and a container is read by what goes on with its version and its sections.
pub container-read : {A : Type 0} (k : Version → List Section → Read A) (file : List ℕ) (v : Version) (ss : List Section) →
    Container file v ss →
    at_stage refusals.at_header (header_at file 0) (λ u j. at_stage refusals.at_sections (sections_at file j) (λ ts _. k u ts)) ≡ k v ss
container-read k file v ss c =
    let h = header-exact.complete file 0 c.header (c.walked ++ c.after) v c.headed c.whole in
    let d : drop (0 + length c.header) file ≡ c.walked ++ c.after = drop_past file 0 c.header (c.walked ++ c.after) c.whole in
    let t : Sections (0 + length c.header) c.walked ss = rw zero-add c.laid in
    let g = sections-exact.complete file (0 + length c.header) c.walked c.after ss t d in
    stage-got _ _ _ _ _ _ h (stage-got _ _ _ _ _ _ g refl)

module _ (file : List ℕ) (x : Placed) where
  payloads-sound : (v : Version) (ss : List Section) → Container file v ss → payloads v ss ≡ accepted x → Layout file x
  unfolding payloads
  payloads-sound v ss box e =
      let (s, i1, h1, e1) = stage-inv _ _ _ x e in
      let (p, i2, h2, e2) = stage-inv _ _ _ x e1 in
      let (t, i3, h3, e3) = stage-inv _ _ _ x e2 in
      let (c, i4, h4, e4) = stage-inv _ _ _ x e3 in
      let (g, i5, h5, e5) = stage-inv _ _ _ x e4 in
      let (f, i6, h6, e6) = stage-inv _ _ _ x e5 in
      let (d, i7, h7, e7) = stage-inv _ _ _ x e6 in
      let y : Placed = gathered v ss s p t c g f d in
      let q : y ≡ x = accepted-value {v = y} e7 in
      subst (Layout file) {x = y} q
      record {
        sections = ss;
        container = box;
        strings = section-sound string_id ss strings-ends no_rows s i1 h1;
        producer = section-sound producer_id ss (λ o. producer-ends (length s.values)) none p i2 h2;
        types = section-sound type_id ss (types-ends (class v)) [] t i3 h3;
        constants = section-sound constant_id ss constants-ends no_rows c i4 h4;
        globals = section-sound global_id ss (globals-ends (class v)) [] g i5 h5;
        functions = section-sound func_id ss functions-ends no_rows f i6 h6;
        debug = section-sound debug_id ss (λ o. debug-ends) no_debug d i7 h7;
        placed = places-sound ss section_ids;
      }

  payloads-complete : (l : Layout file x) → payloads x.tables.version l.sections ≡ accepted x
  unfolding payloads
  payloads-complete l =
      let ss = l.sections in
      let c = class x.tables.version in
      let gather : List Place → Read Placed = λ ps. accepted
      (record {
        tables = x.tables;
        places = record { strings = x.places.strings; constants = x.places.constants; bodies = x.places.bodies; sections = ps };
      }) in
      let (i1, h1) = section-complete string_id ss strings-ends no_rows _ l.strings in
      let (i2, h2) = section-complete producer_id ss (λ o. producer-ends (length x.tables.strings)) none _ l.producer in
      let (i3, h3) = section-complete type_id ss (types-ends c) [] _ l.types in
      let (i4, h4) = section-complete constant_id ss constants-ends no_rows _ l.constants in
      let (i5, h5) = section-complete global_id ss (globals-ends c) [] _ l.globals in
      let (i6, h6) = section-complete func_id ss functions-ends no_rows _ l.functions in
      let (i7, h7) = section-complete debug_id ss (λ o. debug-ends) no_debug _ l.debug in
      stage-got _ _ _ _ i1 _ h1 (stage-got _ _ _ _ i2 _ h2 (stage-got _ _ _ _ i3 _ h3 (stage-got _ _ _ _ i4 _ h4
      (stage-got _ _ _ _ i5 _ h5 (stage-got _ _ _ _ i6 _ h6 (stage-got _ _ _ _ i7 _ h7 (ap gather (places-complete ss section_ids x.places.sections l.placed))))))))

  -- What is read is laid out so ..
  read-sound : read_placed file ≡ accepted x → Layout file x
  unfolding read_placed
  read-sound e =
      let (v, j, h, e1) = stage-inv _ _ _ x e in
      let (ss, k, g, e2) = stage-inv _ _ _ x e1 in
      payloads-sound v ss (container-of file v j ss k h g) e2

  -- .. and what is laid out so is read.
  read-complete : Layout file x → read_placed file ≡ accepted x
  unfolding read_placed
  read-complete l = container-read payloads file x.tables.version l.sections l.container ∙ payloads-complete l

-- A file has one layout: tables and places.
pub layout-only : (file : List ℕ) (x y : Placed) → Layout file x → Layout file y → x ≡ y
layout-only file x y l m = accepted-value (sym (read-complete file x l) ∙ read-complete file y m)

-- A file's bytes stand for at most one tables, whatever its size.
pub tables-only : (file : List ℕ) (t u : Tables) → Explains file t → Explains file u → t ≡ u
tables-only file t u a b = ap only_tables (layout-only file _ _ a.layout b.layout)

limit-inv : (file : List ℕ) (x : Placed) (d : Dec (length file ≤ most_bytes)) →
    choose d (read_placed file) (refused refusals.limit refusals.at_limits 0) ≡ accepted x →
    (length file ≤ most_bytes) × (read_placed file ≡ accepted x)
unfolding choose
limit-inv file x (yes h) e = (h, e)
limit-inv file x (no h) e = absurd (refused-not-accepted e)

-- Accepted tables and places are those of a layout, of a file within the limit ..
pub placed-sound : (file : List ℕ) (x : Placed) → placed file ≡ accepted x → (length file ≤ most_bytes) × Layout file x
unfolding placed
placed-sound file x e =
    let (h, r) = limit-inv file x (dec_le (length file) most_bytes) e in (h, read-sound file x r)

-- .. and the layout of a file within the limit is accepted.
pub placed-complete : (file : List ℕ) (x : Placed) → Layout file x → length file ≤ most_bytes → placed file ≡ accepted x
unfolding placed
placed-complete file x l h = choose_yes (dec_le (length file) most_bytes) _ _ h ∙ read-complete file x l

pub map-inv : {A B : Type 0} (f : A → B) (r : Read A) (w : B) → map_read f r ≡ accepted w → (v : A) × (r ≡ accepted v) × (f v ≡ w)
unfolding map_read
map-inv f (accepted v) w e = (v, refl, accepted-value e)
map-inv f (refused c n i) w e = absurd (refused-not-accepted e)

pub map-refused : {A B : Type 0} (f : A → B) (r : Read A) (c n i : ℕ) → map_read f r ≡ refused c n i → r ≡ refused c n i
unfolding map_read
map-refused f (accepted v) c n i e = absurd (refused-not-accepted (sym e))
map-refused f (refused d m j) c n i e = cc

-- Accepted tables are what the file's bytes stand for ..
pub decode-sound : (file : List ℕ) (t : Tables) → decode file ≡ accepted t → Explains file t
unfolding decode
decode-sound file t e =
    let (x, h, q) = map-inv only_tables (placed file) t e in
    let l : Layout file x = (placed-sound file x h).1 in
    subst (Explains file) q (record { places = x.places; layout = l })

-- .. and what a file within the limit stands for is accepted.
pub decode-complete : (file : List ℕ) (t : Tables) → Explains file t → length file ≤ most_bytes → decode file ≡ accepted t
unfolding decode map_read
decode-complete file t e h = rw (placed-complete file _ e.layout h)

-- So a file within the limit that is refused stands for nothing.
pub decode-refused : (file : List ℕ) (c n i : ℕ) → decode file ≡ refused c n i → length file ≤ most_bytes → (t : Tables) → ¬ Explains file t
decode-refused file c n i e h t x = refused-not-accepted (sym e ∙ decode-complete file t x h)

-- A file over the limit is refused before anything is read.
pub decode-limit : (file : List ℕ) → most_bytes < length file → decode file ≡ refused refusals.limit refusals.at_limits 0
unfolding decode placed map_read
decode-limit file h = rw (choose_no (dec_le (length file) most_bytes) (read_placed file) _ (omega arith))
