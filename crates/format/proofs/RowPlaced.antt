-- The places that a layout gives lie inside their sections, and the file's bytes there are the rows'. Assumes
-- nothing.
use mathlib.Core.Path.{◌≡◌, refl, ap, subst}
use Prim.Native.Nat.{ℕ, zero, suc, ◌+◌, ◌<◌}
use native.Mathlib.Nat.{add-zero, zero-add, not-suc-le-zero, le_of_suc-le-suc}
use native.Mathlib.Omega.{arith}
use mathlib.Core.List.{List, [], ◌∷◌, ◌++◌, map}
use lib.ListN.{length, get_or, length-append}
use Rattle.exact.specs.Sequence.{of}
use Rattle.exact.specs.Repeat.{counted_of}
use Rattle.exact.specs.Upto.{Whole, upto_of}
use Rattle.exact.specs.Entries.{Rows}
use Rattle.enums.specs.Container.{string_id, func_id, constant_id, section_ids}
use Rattle.format.specs.Tables.{Version, Function}
use Rattle.format.specs.Sections.{Section, Last, Payload, absent, present, Place, PlaceOf, nowhere, somewhere, PlacesOf, no_ids, id_placed}
use Rattle.format.specs.Strings.{no_rows, OffsetTable, empty, filled}
use Rattle.format.specs.Functions.{Located, apart, Functions}
use Rattle.format.specs.Explains.{Placed, Container, Layout}
use Rattle.format.specs.Stands.{Stands, RowAt, RowsAt, PayloadAt}
use Rattle.format.specs.Views.{body_of, strings_in, constants_in, bodies_in}
use Rattle.format.proofs.LawsStands.{stands-as, stands-behind, stands-before, stands-in, entries-stand, sections-stand, bodies-stand}

-- The payload of a section that counts stands in the file where the section says.
pub section-placed : (file : List ℕ) (v : Version) (ss : List Section) → Container file v ss → (id : ℕ) (s : Section) → Last id ss s →
    Stands 0 file s.start s.payload
section-placed file v ss c id s r =
    let t : Stands (length c.header) c.walked s.start s.payload =
    sections-stand (length c.header) c.walked ss r.earlier s r.later c.laid r.whole in
    let u : Stands (0 + length c.header) c.walked s.start s.payload = rw zero-add t in
    rw c.whole
    (stands-behind 0 c.header (c.walked ++ c.after) _ _ (stands-before (0 + length c.header) c.walked c.after _ _ u))

-- A row that stands in the payload that counts stands in the file, inside that payload.
row_at : (file : List ℕ) (x : Placed) (l : Layout file x) (id : ℕ) (s : Section) → Last id l.sections s → (k : ℕ) (row : List ℕ) →
    Stands (s.start + 0) s.payload k row → RowAt file l.sections id k row
row_at file x l id s r k row t =
    let u : Stands s.start s.payload k row = rw add-zero at t in
    let n : length s.payload ≡ length u.before + (length row + length u.after) =
    rw (u.whole, length-append, length-append) in
    record {
      section = s;
      counts = r;
      low = omega (arith, u.place);
      high = omega (arith, u.place);
      stands = stands-in 0 file s.start s.payload k row (section-placed file _ _ l.container id s r) u;
    }

table-stand : (w a o i : ℕ) (bs : List ℕ) (v : Rows (List ℕ)) → OffsetTable w a o Whole i bs v → (k : ℕ) → k < length v.values →
    Stands (o + i) bs (get_or v.at k 0) (get_or v.values k [])
table-stand w a o i bs v (empty left s) k h = absurd (not-suc-le-zero h)
table-stand w a o i bs v (filled e n) k h = entries-stand w a o i bs v e k h

payload-row : (file : List ℕ) (x : Placed) (l : Layout file x) (id w a : ℕ) (v : Rows (List ℕ)) →
    Payload id l.sections (λ o. OffsetTable w a o Whole) no_rows v → RowsAt file l.sections id v
payload-row file x l id w a v (absent m) k h = absurd (not-suc-le-zero h)
payload-row file x l id w a v (present {s = s} r t) k h =
    row_at file x l id s r _ _ (table-stand w a s.start 0 s.payload v t k h)

apart-length : {A : Type 0} (xs : List (Located A)) → length (apart xs).values ≡ length xs
apart-length [] = refl
apart-length (x ∷ xs) = ap suc (apart-length xs)

map-length : (fs : List Function) → length (map body_of fs) ≡ length fs
map-length [] = refl
map-length (f ∷ fs) = ap suc (map-length fs)

functions-stand : (o i : ℕ) (bs : List ℕ) (v : Rows Function) → Functions o i bs v → (k : ℕ) → k < length v.values →
    Stands (o + i) bs (get_or v.at k 0) (get_or (map body_of v.values) k [])
functions-stand o i bs v (of (upto_of left (counted_of {c = c} {bs = b} {vs = vs} s m))) k h =
    let q : o + (i + length c) ≡ o + i + length c = omega arith in
    let n : k < length vs = omega (arith, apart-length vs) in
    stands-before (o + i) (c ++ b) left _ _
    (stands-behind (o + i) c b _ _
    (stands-as (o + (i + length c)) (o + i + length c) b _ _ q (bodies-stand o (length vs) (i + length c) b vs m k n)))

payload-body : (file : List ℕ) (x : Placed) (l : Layout file x) (v : Rows Function) →
    Payload func_id l.sections Functions no_rows v →
    RowsAt file l.sections func_id (record { at = v.at; values = map body_of v.values })
payload-body file x l v (absent m) k h = absurd (not-suc-le-zero h)
payload-body file x l v (present {s = s} r t) k h =
    row_at file x l func_id s r _ _
    (functions-stand s.start 0 s.payload v t k (omega (arith, map-length v.values)))

-- Each string, constant and body stands at its place in the file, inside the payload that counts for its section.
pub record RowPlaced (file : List ℕ) (x : Placed) (l : Layout file x) : Type 0 where
  pub string : RowsAt file l.sections string_id (strings_in x)
  pub constant : RowsAt file l.sections constant_id (constants_in x)
  pub body : RowsAt file l.sections func_id (bodies_in x)

pub row-placed : (file : List ℕ) (x : Placed) (l : Layout file x) → RowPlaced file x l
row-placed file x l =
    record {
      string = payload-row file x l string_id 4 4 (strings_in x) l.strings;
      constant = payload-row file x l constant_id 8 8 (constants_in x) l.constants;
      body = payload-body file x l _ l.functions;
    }

-- The place of an id.
place-at : (ss : List Section) (ids : List ℕ) (ps : List Place) → PlacesOf ss ids ps → (k : ℕ) (d : Place) → k < length ids →
    PlaceOf ss (get_or ids k 0) (get_or ps k d)
place-at ss ids ps no_ids k d h = absurd (not-suc-le-zero h)
place-at ss ids ps (id_placed p t) zero d h = p
place-at ss ids ps (id_placed {ids = is} {ps = qs} p t) (suc k) d h = place-at ss is qs t k d (le_of_suc-le-suc h)

there-placed : (file : List ℕ) (x : Placed) (l : Layout file x) (id : ℕ) (p : Place) → PlaceOf l.sections id p → p.presence ≡ 1 →
    PayloadAt file l.sections id p.start p.size
there-placed file x l id p (nowhere m) e = absurd (omega arith)
there-placed file x l id p (somewhere {s = s} r) e =
    record { section = s; counts = r; starts = refl; sized = refl; stands = section-placed file _ _ l.container id s r }

-- The ids are 0 to 7, in order.
ids-are : (id : ℕ) → id < 8 → get_or section_ids id 0 ≡ id
ids-are zero h = refl
ids-are (suc zero) h = refl
ids-are (suc (suc zero)) h = refl
ids-are (suc (suc (suc zero))) h = refl
ids-are (suc (suc (suc (suc zero)))) h = refl
ids-are (suc (suc (suc (suc (suc zero))))) h = refl
ids-are (suc (suc (suc (suc (suc (suc zero)))))) h = refl
ids-are (suc (suc (suc (suc (suc (suc (suc zero))))))) h = refl
ids-are (suc (suc (suc (suc (suc (suc (suc (suc n)))))))) h = absurd (omega arith)

-- The place of a section that is present is the whole payload of the last section with its id.
pub place-placed : (file : List ℕ) (x : Placed) (l : Layout file x) (id : ℕ) (d : Place) → id < 8 →
    (get_or x.places.sections id d).presence ≡ 1 →
    PayloadAt file l.sections id (get_or x.places.sections id d).start (get_or x.places.sections id d).size
place-placed file x l id d h e =
    there-placed file x l id (get_or x.places.sections id d)
    (subst (λ n. PlaceOf l.sections n (get_or x.places.sections id d)) (ids-are id h)
    (place-at l.sections section_ids x.places.sections l.placed id d h)) e
