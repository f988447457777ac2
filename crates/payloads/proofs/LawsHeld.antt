-- The payloads at the places that header and walk hold are the payloads of the sections that count, and what a table fills
-- in does not depend on where its payload stands. Assumes nothing.
use mathlib.Core.Path.{◌≡◌, refl, sym, ap, subst, ◌∙◌}
use Prim.Native.Nat.{ℕ, zero, suc, ◌+◌, ◌-◌, ◌/◌, ◌%◌, ◌≤◌, ◌<◌}
use native.Mathlib.Omega.{arith}
use native.Mathlib.Decide.{dec_le, dec_lt, ℕ_discrete}
use mathlib.Core.Option.{Option, none, some}
use mathlib.Core.List.{List, ◌∷◌}
use lib.ListN.{length, get_or, take, drop}
use Rattle.exact.specs.Got.{Got, got, stop, follow}
use Rattle.exact.specs.Exact.{Parser}
use Rattle.exact.specs.Basic.{byte, pure}
use Rattle.exact.specs.Sequence as sequence
use Rattle.exact.specs.Choice.{choose}
use Rattle.exact.specs.Repeat.{times, counted}
use Rattle.exact.specs.Fixed.{raw}
use Rattle.exact.specs.Refuse.{refuse}
use Rattle.exact.specs.Upto.{upto, place}
use Rattle.exact.specs.Entries as table
use Rattle.enums.specs.Container.{hints_flag}
use Rattle.enums.specs.Refusals as refusals
use Rattle.enums.specs.declared.VersionClass.{VersionClass}
use Rattle.reading.specs.Numbers.{varint_at}
use Rattle.format.specs.Tables.{Function}
use Rattle.format.specs.Sections.{Section}
use Rattle.format.specs.Functions.{Located, apart}
use Rattle.format.specs.Explains.{Container}
use Rattle.format.specs.Read.{Read, accepted, refused, at_stage, map_read}
use Rattle.format.specs.DecodeContainer.{header_at, sections_at, last_with, place_of, in_section}
use Rattle.format.specs.DecodeTables.{strings_at, constants_at}
use Rattle.format.specs.DecodeTypes.{type_entry_at, types_at}
use Rattle.format.specs.DecodeRows.{body_at, function_at, functions_at}
use Rattle.format.specs.Decode.{most_bytes}
use Rattle.format.proofs.Decoded.{accepted-value, refused-not-accepted, stage-inv, container-of}
use Rattle.format.proofs.LawsLast.{Counts, none_counts, last_counts, last-with}
use Rattle.format.proofs.LawsStands.{stands-bytes}
use Rattle.format.proofs.RowPlaced.{section-placed}
use Rattle.container.specs.declared.sections.Container.{Container as Held}
use Rattle.container.specs.Container.{held_place, nowhere, held_places, Opened, opened, held_container}
use Rattle.container.proofs.LawsOpened.{held-passed}
use Rattle.container.proofs.LawsPlaces.{place_in, held-length, held_at, place-past}
use Rattle.entries.proofs.LawsEntries.{table-values, part_length}
use Rattle.payloads.specs.Tables.{filling}
use Rattle.payloads.specs.Rows.{bodied, function_rows}
use Rattle.payloads.specs.TypeRows.{type_rows}
use Rattle.payloads.proofs.LawsTables.{filling-moved}
use Rattle.payloads.specs.Pass.{payload_in, Inside, in_place}

-- A file that was opened is within the limit, and a container.
abbrev boxed : List ℕ → Read Opened
boxed file =
    at_stage refusals.at_header (header_at file 0)
    (λ v j. at_stage refusals.at_sections (sections_at file j) (λ ss _. accepted (record { version = v; sections = ss })))

boxed-container : (file : List ℕ) (x : Opened) → boxed file ≡ accepted x → Container file x.version x.sections
boxed-container file x e =
    let (v, j, h, f) = stage-inv _ _ _ x e in
    let (ss, k, g, a) = stage-inv _ _ _ x f in
    let q : record { version = v; sections = ss } ≡ x = accepted-value a in
    subst (λ z. Container file z.version z.sections) q (container-of file v j ss k h g)

limit-container : (file : List ℕ) (x : Opened) (d : Dec (length file ≤ most_bytes)) →
    choose d (boxed file) (refused refusals.limit refusals.at_limits 0) ≡ accepted x →
    (length file ≤ most_bytes) × Container file x.version x.sections
unfolding choose
limit-container file x (yes h) e = (h, boxed-container file x e)
limit-container file x (no h) e = absurd (refused-not-accepted e)

pub opened-container : (file : List ℕ) (x : Opened) → opened file ≡ accepted x →
    (length file ≤ most_bytes) × Container file x.version x.sections
unfolding opened
opened-container file x e = limit-container file x (dec_le (length file) most_bytes) e

-- What was read, by a function.
abbrev pub mapped : {A B : Type 0} → (A → B) → Got A → Got B
mapped f g = follow g (λ v j. got (f v) j)

raised-mapped : {A B : Type 0} (f : A → B) (n : ℕ) (g : Got A) → table.raised n (mapped f g) ≡ mapped f (table.raised n g)
unfolding table.raised follow
raised-mapped f n (got v j) = refl
raised-mapped f n (stop c k) = refl

module _ (file : List ℕ) (x : Opened) (e : opened file ≡ accepted x) where
  -- The payload of the section that counts stands where the section says ..
  counts-bytes : (id : ℕ) (o : Option Section) → Counts id x.sections o → (s : Section) → o ≡ some s →
      (payload_in file (place_in s) ≡ s.payload) × Inside file (place_in s)
  counts-bytes id o (none_counts m) s q = absurd (let z : ◌≡◌ {A = ℕ} 0 1 = cc in omega arith)
  counts-bytes id o (last_counts {s = t} r) s q =
      let same : t ≡ s = cc in
      let c = (opened-container file x e).1 in
      subst (λ u. (payload_in file (place_in u) ≡ u.payload) × Inside file (place_in u)) same
      (stands-bytes file t.start t.payload (section-placed file x.version x.sections c id t r))

  counts-inside : (id : ℕ) (o : Option Section) → o ≡ last_with id x.sections → Inside file (held_place (place_of o))
  unfolding place_of
  counts-inside id none q = omega arith
  counts-inside id (some s) q = (counts-bytes id (last_with id x.sections) (last-with id x.sections) s (sym q)).1

  -- .. so each place lies in the file.
  pub held-inside : (id : ℕ) → Inside file (get_or (held_places x.sections) id nowhere)
  held-inside id =
      elim (dec_lt id 8) [
        | yes h ↦ rw (held_at x.sections id h) (counts-inside id (last_with id x.sections) refl)
        | no h ↦
            let k : 8 ≤ id = omega arith in
            rw (← place-past (held_places x.sections) id (held-length x.sections) k) (omega arith)
      ]

  -- What is read there is what is read of the section, by a function that makes no use of where it stands.
  module _ {A B : Type 0} (f : A → B) (p : ℕ → Parser A) (q : List ℕ → Got B) (a : A)
      (moved : (o : ℕ) (l : List ℕ) → q l ≡ mapped f (p o l 0)) where
    counts-read : (id : ℕ) (o : Option Section) → o ≡ last_with id x.sections →
        in_place file (held_place (place_of o)) q (f a) ≡ mapped f (in_section o p a)
    unfolding in_place place_of in_section choose follow
    counts-read id none h = refl
    counts-read id (some s) h =
        let (b, i) = counts-bytes id (last_with id x.sections) (last-with id x.sections) s (sym h) in
        ap (λ l. table.raised s.start (q l)) b ∙ ap (table.raised s.start) (moved s.start s.payload) ∙
        raised-mapped f s.start (p s.start s.payload 0)

    pub held-read : (id : ℕ) → id < 8 →
        in_place file (get_or (held_places x.sections) id nowhere) q (f a) ≡
        mapped f (in_section (last_with id x.sections) p a)
    held-read id h = rw (held_at x.sections id h) (counts-read id (last_with id x.sections) refl)

-- Strings and constants.
pub strings-moved : (o : ℕ) (l : List ℕ) → filling (strings_at 0 l 0) ≡ filling (strings_at o l 0)
unfolding strings_at
strings-moved o l = sym (filling-moved 4 4 o l 0)

pub constants-moved : (o : ℕ) (l : List ℕ) → filling (constants_at 0 l 0) ≡ filling (constants_at o l 0)
unfolding constants_at
constants-moved o l = sym (filling-moved 8 8 o l 0)

-- Types.
pub types-moved : (c : VersionClass) (o : ℕ) (l : List ℕ) → type_rows (types_at c 0 l 0) ≡ type_rows (types_at c o l 0)
unfolding types_at sequence.mapped sequence.bind pure
types-moved c o l = ap type_rows (table-values (type_entry_at c) 4 4 0 l 0 ∙ sym (table-values (type_entry_at c) 4 4 o l 0))

-- Functions: without the places of their bodies.
abbrev valued : Got (Located Function) → Got Function
valued g = mapped (λ v. v.value) g

module _ (at ats : ℕ) (f : List ℕ → Function) where
  run-got : (g : Got (List ℕ)) →
      valued (follow g (λ b j. got (record { at = at; value = f b }) j)) ≡
      valued (follow g (λ b j. got (record { at = ats; value = f b }) j))
  unfolding follow
  run-got (got b j) = refl
  run-got (stop c k) = refl

  run_moved : (p : Parser (List ℕ)) (l : List ℕ) (i : ℕ) →
      valued (sequence.mapped (λ b. record { at = at; value = f b }) p l i) ≡
      valued (sequence.mapped (λ b. record { at = ats; value = f b }) p l i)
  unfolding sequence.mapped sequence.bind pure
  run_moved p l i = run-got (p l i)

module _ {A : Type 0} (p : Parser A) (f g : A → Parser (Located Function)) (l : List ℕ)
    (h : (v : A) (j : ℕ) → valued (f v l j) ≡ valued (g v l j)) where
  follow-moved : (r : Got A) → valued (follow r (λ v j. f v l j)) ≡ valued (follow r (λ v j. g v l j))
  unfolding follow
  follow-moved (got v j) = h v j
  follow-moved (stop c k) = refl

  bind-moved : (i : ℕ) → valued (sequence.bind p f l i) ≡ valued (sequence.bind p g l i)
  unfolding sequence.bind
  bind-moved i = follow-moved (p l i)

body-moved : (o n s f m : ℕ) (l : List ℕ) (i : ℕ) → valued (body_at 0 n s f m l i) ≡ valued (body_at o n s f m l i)
unfolding body_at
body-moved o n s f m l i =
    bind-moved varint_at _ _ l (λ z. bind-moved place _ _ l
    (λ k. run_moved (0 + k) (o + k) (λ b. record { name = n; signature = s; flags = f; location = m; body = b }) (raw z) l)) i

hints-moved : (o n s f m k : ℕ) (l : List ℕ) (i : ℕ) (d : Dec (f / hints_flag % 2 ≡ 0)) →
    valued (choose d (body_at 0 n s f m) (refuse refusals.hints k) l i) ≡
    valued (choose d (body_at o n s f m) (refuse refusals.hints k) l i)
unfolding choose
hints-moved o n s f m k l i (yes h) = body-moved o n s f m l i
hints-moved o n s f m k l i (no h) = refl

function-moved : (o : ℕ) (l : List ℕ) (i : ℕ) → valued (function_at 0 l i) ≡ valued (function_at o l i)
unfolding function_at
function-moved o l i =
    bind-moved varint_at _ _ l
    (λ n. bind-moved varint_at _ _ l
    (λ s. bind-moved place _ _ l
    (λ k. bind-moved byte _ _ l
    (λ f. bind-moved varint_at _ _ l (λ m j. hints-moved o n s f m k l j (ℕ_discrete (f / hints_flag % 2) 0)))))) i

abbrev all_valued : Got (List (Located Function)) → Got (List Function)
all_valued g = mapped (λ vs. (apart vs).values) g

-- One function and then others.
consed : Got (Located Function) → (ℕ → Got (List (Located Function))) → Got (List (Located Function))
consed g k = follow g (λ v j. follow (k j) (λ vs i. got (v ∷ vs) i))

others-moved : (v w : Located Function) (a b : Got (List (Located Function))) → v.value ≡ w.value → all_valued a ≡ all_valued b →
    all_valued (follow a (λ vs i. got (v ∷ vs) i)) ≡ all_valued (follow b (λ vs i. got (w ∷ vs) i))
unfolding follow
others-moved v w (got vs j) (got ws k) e h =
    let q : (apart vs).values ≡ (apart ws).values = cc in
    let n : j ≡ k = cc in
    rw (e, q, n)
others-moved v w (got vs j) (stop c k) e h = absurd (let z : ◌≡◌ {A = ℕ} 0 1 = cc in omega arith)
others-moved v w (stop c k) (got ws j) e h = absurd (let z : ◌≡◌ {A = ℕ} 0 1 = cc in omega arith)
others-moved v w (stop c k) (stop d j) e h = cc

first-moved : (g r : Got (Located Function)) (a b : ℕ → Got (List (Located Function))) → valued g ≡ valued r →
    ((j : ℕ) → all_valued (a j) ≡ all_valued (b j)) → all_valued (consed g a) ≡ all_valued (consed r b)
unfolding follow consed
first-moved (got v j) (got w k) a b e h =
    let q : v.value ≡ w.value = cc in
    let n : j ≡ k = cc in
    rw (← n) (others-moved v w (a j) (b j) q (h j))
first-moved (got v j) (stop c k) a b e h = absurd (let z : ◌≡◌ {A = ℕ} 0 1 = cc in omega arith)
first-moved (stop c k) (got w j) a b e h = absurd (let z : ◌≡◌ {A = ℕ} 0 1 = cc in omega arith)
first-moved (stop c k) (stop d j) a b e h = cc

times-moved : (o n : ℕ) (l : List ℕ) (i : ℕ) → all_valued (times n (function_at 0) l i) ≡ all_valued (times n (function_at o) l i)
unfolding times sequence.mapped sequence.bind pure consed
times-moved o zero l i = refl
times-moved o (suc n) l i =
    first-moved (function_at 0 l i) (function_at o l i) (λ j. times n (function_at 0) l j) (λ j. times n (function_at o) l j)
    (function-moved o l i) (λ j. times-moved o n l j)

-- The rows of functions, by their values.
rows-values : (n : ℕ) (g : Got (List (Located Function))) →
    function_rows (follow (follow g (λ vs j. got vs n)) (λ vs j. got (apart vs) j)) ≡
    follow (all_valued g) (λ fs j. got (bodied fs) n)
unfolding function_rows follow
rows-values n (got vs j) = refl
rows-values n (stop c k) = refl

count-values : (o : ℕ) (l : List ℕ) (g : Got ℕ) →
    function_rows (follow (follow (follow g (λ n j. times n (function_at 0) l j)) (λ vs j. got vs (length l))) (λ vs j. got (apart vs) j)) ≡
    function_rows (follow (follow (follow g (λ n j. times n (function_at o) l j)) (λ vs j. got vs (length l))) (λ vs j. got (apart vs) j))
unfolding follow
count-values o l (got n j) =
    rows-values (length l) (times n (function_at 0) l j) ∙
    ap (λ g. follow g (λ fs k. got (bodied fs) (length l))) (times-moved o n l j) ∙
    sym (rows-values (length l) (times n (function_at o) l j))
count-values o l (stop c k) = refl

pub functions-moved : (o : ℕ) (l : List ℕ) → function_rows (functions_at 0 l 0) ≡ function_rows (functions_at o l 0)
unfolding functions_at sequence.mapped sequence.bind pure upto counted
functions-moved o l = count-values o l (varint_at l 0)

-- A file whose header and walk gave k is within the limit, and each place lies in it.
module _ (file : List ℕ) (k : Held) (read : accepted k ≡ map_read held_container (opened file)) where
  pub source-short : length file ≤ most_bytes
  source-short =
      let (x, e, q) = held-passed (opened file) k read in
      (opened-container file x e).0

  pub source-inside : (id : ℕ) → Inside file (get_or k.sections.places id nowhere)
  source-inside id =
      let (x, e, q) = held-passed (opened file) k read in
      subst (λ k. Inside file (get_or k.sections.places id nowhere)) (sym q) (held-inside file x e id)

-- So a part of it ends within the limit.
pub part-near : (l : List ℕ) (a n : ℕ) → a + n ≤ length l → length l ≤ most_bytes → a + length (take (a + n - a) (drop a l)) ≤ most_bytes
part-near l a n h m = omega (arith, part_length a (a + n) l (omega arith) h)
