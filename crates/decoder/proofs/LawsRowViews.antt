-- The views of strings, constants and bodies: how the code follows their model, that it keeps their promise, and that the
-- promise allows one answer only. Assumes nothing.
use mathlib.Core.Path.{◌≡◌, refl, sym, ap, subst, ◌∙◌}
use Prim.Native.Nat.{ℕ, ◌+◌, ◌-◌, ◌≤◌, ◌<◌}
use native.Mathlib.Omega.{arith}
use native.Mathlib.Decide.{dec_lt}
use mathlib.Core.Option.{Option, none, some, none-ne-some, some-injective}
use mathlib.Core.List.{List}
use lib.ListN.{length, take, drop}
use Rattle.std.specs.Prelude as std
use Rattle.std.specs.Prelude.{Result, Ok, Err}
use Rattle.exact.specs.Got.{got, follow}
use Rattle.exact.specs.Exact.{Parser}
use Rattle.exact.specs.Basic.{pure}
use Rattle.exact.specs.Sequence.{bind, mapped}
use Rattle.exact.specs.Choice.{choose}
use Rattle.exact.specs.Entries.{Rows}
use Rattle.exact.proofs.LawsExact.{stop-not-got, got-value}
use Rattle.exact.proofs.LawsChoice.{choose_no}
use Rattle.exact.proofs.LawsEntries.{raised-inv}
use Rattle.reading.specs.declared.Refused.{Refused}
use Rattle.enums.specs.Container.{string_id, constant_id, func_id, num_sections}
use Rattle.enums.specs.Numbered.{id_of}
use Rattle.enums.specs.declared.Section.{Section as Kind}
use Rattle.enums.specs.declared.Section.TheVariants as kind
use Rattle.format.specs.Sections.{Section, Last}
use Rattle.format.specs.Strings.{no_rows}
use Rattle.format.specs.Explains.{Placed, Layout}
use Rattle.format.specs.Read.{Read, accepted, refused, map_read}
use Rattle.format.specs.DecodeContainer.{last_with, in_section}
use Rattle.format.specs.DecodeTables.{strings_at, constants_at}
use Rattle.format.specs.DecodeRows.{functions_at}
use Rattle.format.specs.Decode.{placed, only_tables, decode}
use Rattle.format.specs.Stands.{Stands}
use Rattle.format.specs.Views.{Span, and_then, span_of, row_span, row_view, payload_span, section_view, Viewed}
use Rattle.format.proofs.LawsTables.{strings-ends, constants-ends}
use Rattle.format.proofs.LawsRows.{functions-ends}
use Rattle.format.proofs.LawsLast.{Counts, none_counts, last_counts, last-with, section-complete}
use Rattle.format.proofs.LawsStands.{stands-bytes}
use Rattle.format.proofs.Decoded.{refused-not-accepted, placed-sound}
use Rattle.format.proofs.RowPlaced.{section-placed}
use Rattle.format.proofs.Viewed.{string-viewed, constant-viewed, body-viewed, view-complete}
use Rattle.container.specs.declared.View.{View}
use Rattle.container.specs.declared.sections.Stopped.{Stopped}
use Rattle.container.specs.Views.{view_of}
use Rattle.container.proofs.LawsOpened.{container-opened}
use Rattle.container.proofs.LawsViews.{view_known, view-only}
use Rattle.entries.specs.declared.places.Place.{Place}
use Rattle.entries.specs.Places.{span_in, row_in, got_place, Finds, bodies_of, bodies_at}
use Rattle.payloads.specs.declared.Need.{Need}
use Rattle.payloads.specs.Whole.{need_of}
use Rattle.decoder.specs.Views.{rows_of, rows_at, Accepted, not_there, RowPost}

-- What a call answers of a row.
abbrev Answer : Type 0
Answer = Result (std.Option Place) Refused

-- An answer about the payload l: row n of its rows v, if they are accepted.
abbrev Answers : ℕ → List ℕ → Answer → Rows (List ℕ) → ℕ → Type 0
Answers o l r v n = (j : ℕ) × (got_place o l r ≡ got (span_in v n) j)

-- The rows of a kind that the section o gives, if it is there: they are those that are found in its payload.
record RowsIn (k : Kind) (o : Option Section) (v : Rows (List ℕ)) : Type 0 where
  absent : o ≡ none → length v.values ≡ 0
  present : (s : Section) → o ≡ some s → (n : ℕ) (r : Answer) → Finds (λ o. rows_at k o s.payload 0) s.payload n r →
      Answers s.start s.payload r v n

-- They are rows that f makes of what p reads of the section.
module _ {A : Type 0} (f : A → Rows (List ℕ)) (p : ℕ → Parser A) (e v : A) (k : Kind) (none_of : length (f e).values ≡ 0)
    (read : (o : ℕ) (l : List ℕ) (u : A) (j : ℕ) → p o l 0 ≡ got u j → rows_at k o l 0 ≡ got (f u) j) where
  rows-in : (o : Option Section) → (j : ℕ) × (in_section o p e ≡ got v j) → RowsIn k o (f v)
  unfolding in_section row_in follow
  rows-in none (j, h) =
      record {
        absent = λ q. ap (λ u. length (f u).values) (sym (got-value h)) ∙ none_of;
        present = λ s q n r g. absurd (none-ne-some _ q);
      }
  rows-in (some t) (j, h) =
      record {
        absent = λ q. absurd (none-ne-some _ (sym q));
        present = λ s q n r g. let (i, w) = raised-inv t.start (p t.start t.payload 0) v j h in
            let m = subst (λ u. p u.start u.payload 0 ≡ got v i) (some-injective _ _ q) w in
            (i, g.found s.start ∙ ap (row_in n) (read s.start s.payload v i m));
      }

-- A section that has no rows of bytes gives none.
bare : (k : Kind) (o : Option Section) → ((o : ℕ) (l : List ℕ) → rows_at k o l 0 ≡ got no_rows 0) → RowsIn k o no_rows
unfolding row_in follow
bare k o read =
    record {
      absent = λ q. refl;
      present = λ s q n r g. (0, g.found s.start ∙ ap (row_in n) (read s.start s.payload));
    }

-- So are the rows of a layout.
rows-of : (file : List ℕ) (x : Placed) (l : Layout file x) (k : Kind) →
    RowsIn k (last_with (id_of k) l.sections) (rows_of k x)
unfolding bodies_at mapped bind pure follow
rows-of file x l kind.String =
    rows-in (λ v. v) strings_at no_rows _ kind.String refl (λ o b u j e. e) _
    (section-complete string_id l.sections strings-ends no_rows _ l.strings)
rows-of file x l kind.Constant =
    rows-in (λ v. v) constants_at no_rows _ kind.Constant refl (λ o b u j e. e) _
    (section-complete constant_id l.sections constants-ends no_rows _ l.constants)
rows-of file x l kind.Func =
    rows-in bodies_of functions_at no_rows _ kind.Func refl (λ o b u j e. rw e) _
    (section-complete func_id l.sections functions-ends no_rows _ l.functions)
rows-of file x l kind.Producer = bare kind.Producer _ (λ o b. refl)
rows-of file x l kind.Type = bare kind.Type _ (λ o b. refl)
rows-of file x l kind.Global = bare kind.Global _ (λ o b. refl)
rows-of file x l kind.Debug = bare kind.Debug _ (λ o b. refl)

-- The section that the reader finds counts.
counted : (id : ℕ) (ss : List Section) (o : Option Section) (s : Section) → Counts id ss o → o ≡ some s → Last id ss s
counted id ss o s (none_counts m) e = absurd (none-ne-some _ e)
counted id ss o s (last_counts {s = t} r) e = subst (Last id ss) (some-injective _ _ e) r

-- A place as the answer of a view.
abbrev view_in : Option Span → Read Span
view_in (some s) = accepted s
view_in none = not_there

-- That of a row is the model's ..
view-in : (v : Rows (List ℕ)) (n : ℕ) → view_in (span_in v n) ≡ row_span v n
unfolding span_in row_span choose
view-in v n = go (dec_lt n (length v.values))
  where
    go : (d : Dec (n < length v.values)) → view_in (choose d (some (span_of v n)) none) ≡ choose d (accepted (span_of v n)) not_there
    go (yes h) = refl
    go (no h) = refl

-- .. and where there are no rows none is there.
span_none : (v : Rows (List ℕ)) (n : ℕ) → length v.values ≡ 0 → row_span v n ≡ not_there
unfolding row_span
span_none v n e = choose_no (dec_lt n (length v.values)) (accepted (span_of v n)) not_there (omega arith)

-- Where a section has no rows of bytes none is viewed.
bare-view : (file : List ℕ) (n : ℕ) (s : Span) → row_view (λ x. no_rows) file n ≡ accepted s → ⊥
unfolding row_view and_then
bare-view file n s = go (placed file)
  where
    go : (g : Read Placed) → and_then g (λ x. row_span no_rows n) ≡ accepted s → ⊥
    go (accepted x) e = refused-not-accepted (sym (span_none no_rows n refl) ∙ e)
    go (refused c m i) e = refused-not-accepted e

-- A view of a string, a constant or a body is exactly the row asked for.
row-viewed : (k : Kind) (file : List ℕ) (n : ℕ) (s : Span) → row_view (rows_of k) file n ≡ accepted s →
    Viewed (rows_of k) (id_of k) file n s
row-viewed kind.String = string-viewed
row-viewed kind.Constant = constant-viewed
row-viewed kind.Func = body-viewed
row-viewed kind.Producer = λ file n s e. absurd (bare-view file n s e)
row-viewed kind.Type = λ file n s e. absurd (bare-view file n s e)
row-viewed kind.Global = λ file n s e. absurd (bare-view file n s e)
row-viewed kind.Debug = λ file n s e. absurd (bare-view file n s e)

-- The payload at a place, as the code cuts it out of the file.
abbrev payload_from : List ℕ → View → List ℕ
payload_from file p = take (p.start + p.len - p.start) (drop p.start file)

-- The place of a section's payload ..
abbrev place_in : Section → View
place_in s = record { start = s.start; len = length s.payload }

-- .. has that payload.
payload_of : (file : List ℕ) (p : View) (s : Section) → p ≡ place_in s →
    Stands 0 file s.start s.payload → payload_from file p ≡ s.payload
payload_of file p s e h =
    let n : s.start + length s.payload - s.start ≡ length s.payload = omega arith in
    rw (e, n) (stands-bytes file _ _ h).0

-- Each kind's section has a place.
id_below : (k : Kind) → id_of k < num_sections
id_below kind.String = omega arith
id_below kind.Constant = omega arith
id_below kind.Func = omega arith
id_below kind.Producer = omega arith
id_below kind.Type = omega arith
id_below kind.Global = omega arith
id_below kind.Debug = omega arith

-- A refused file has no row to view ..
pub view-refused : (rows_in : Placed → Rows (List ℕ)) (file : List ℕ) (n c m i : ℕ) →
    refused c m i ≡ map_read need_of (decode file) → refused c m i ≡ row_view rows_in file n
unfolding row_view and_then decode map_read
view-refused rows_in file n c m i = go (placed file)
  where
    go : (g : Read Placed) → refused c m i ≡ map_read need_of (map_read only_tables g) →
        refused c m i ≡ and_then g (λ x. row_span (rows_in x) n)
    go (accepted x) e = absurd (refused-not-accepted e)
    go (refused d j h) e = cc

-- .. and one that is measured is accepted.
pub measured : (file : List ℕ) (w : Need) → accepted w ≡ map_read need_of (decode file) → Accepted file
unfolding decode map_read
measured file w = go (placed file)
  where
    go : (g : Read Placed) → accepted w ≡ map_read need_of (map_read only_tables g) → (x : Placed) × (g ≡ accepted x)
    go (accepted x) e = (x, refl)
    go (refused c m i) e = absurd (refused-not-accepted (sym e))

-- What is known of a file that was measured, and of the view of the section that has the rows.
record Judged (file : List ℕ) (k : Kind) : Type 0 where
  found : Placed
  judged : placed file ≡ accepted found
  layout : Layout file found
  viewed : section_view file (id_of k) ≡ payload_span (last_with (id_of k) layout.sections)

judged_file : (file : List ℕ) (k : Kind) {w : Need} → accepted w ≡ map_read need_of (decode file) → Judged file k
judged_file file k {w} d =
    let (x, e) = measured file w d in
    let (n, l) = placed-sound file x e in
    let o = container-opened file _ _ l.container n in
    record { found = x; judged = e; layout = l; viewed = view_known file (id_of k) _ o (id_below k) }

module _ {file : List ℕ} {k : Kind} (a : Judged file k) where
  -- The file is judged: what is left is the row.
  answered : (n : ℕ) → row_view (rows_of k) file n ≡ row_span (rows_of k a.found) n
  unfolding row_view and_then
  answered n = rw a.judged

  missing : (n c m i : ℕ) (o : Option Section) → RowsIn k o (rows_of k a.found) → refused c m i ≡ payload_span o →
      refused c m i ≡ row_span (rows_of k a.found) n
  unfolding payload_span
  missing n c m i none r e = e ∙ sym (span_none (rows_of k a.found) n (r.absent refl))
  missing n c m i (some s) r e = absurd (refused-not-accepted e)

  -- The section that counts, with the place of its payload.
  record There (p : View) : Type 0 where
    section : Section
    counts : last_with (id_of k) a.layout.sections ≡ some section
    place : p ≡ place_in section
    stands : Stands 0 file section.start section.payload

  there : (p : View) → accepted (record { offset = p.start; size = p.len }) ≡ section_view file (id_of k) → There p
  unfolding payload_span
  there p e = go (last_with (id_of k) a.layout.sections) refl (e ∙ a.viewed)
    where
      go : (o : Option Section) → last_with (id_of k) a.layout.sections ≡ o →
          accepted (record { offset = p.start; size = p.len }) ≡ payload_span o → There p
      go none q h = absurd (refused-not-accepted (sym h))
      go (some s) q h =
          let r = counted (id_of k) a.layout.sections _ s (last-with (id_of k) a.layout.sections) q in
          let same : ◌≡◌ {A = Span} (record { offset = p.start; size = p.len })
          (record { offset = s.start; size = length s.payload }) = cc in
          record {
            section = s;
            counts = q;
            place = ap (λ z. record { start = z.offset; len = z.size }) same;
            stands = section-placed file _ a.layout.sections a.layout.container (id_of k) s r;
          }

-- Without a payload no row is viewed.
pub view-missing : (file : List ℕ) (k : Kind) (n c m i : ℕ) {w : Need} {id : ℕ} →
    accepted w ≡ map_read need_of (decode file) → id ≡ id_of k → refused c m i ≡ section_view file id →
    refused c m i ≡ row_view (rows_of k) file n
view-missing file k n c m i d e h =
    let a = judged_file file k d in
    let g : refused c m i ≡ section_view file (id_of k) = rw e at h in
    missing a n c m i _ (rows-of file a.found a.layout k) (g ∙ a.viewed) ∙ sym (answered a n)

-- The place p of the payload that has rows of this kind, in a file that is accepted.
pub record Asked (file : List ℕ) (k : Kind) (p : View) : Type 0 where
  judged : Judged file k
  there : There judged p

pub asked : (file : List ℕ) (k : Kind) (p : View) {w : Need} {id : ℕ} → accepted w ≡ map_read need_of (decode file) →
    id ≡ id_of k → accepted (record { offset = p.start; size = p.len }) ≡ section_view file id → Asked file k p
asked file k p d e h =
    let a = judged_file file k d in
    let g : accepted (record { offset = p.start; size = p.len }) ≡ section_view file (id_of k) = rw e at h in
    record { judged = a; there = there a p g }

module _ {file : List ℕ} {k : Kind} {p : View} (x : Asked file k p) where
  -- The payload lies in the file.
  pub payload-inside : p.start + p.len ≤ length file
  payload-inside = rw x.there.place (stands-bytes file _ _ x.there.stands).1

  module _ (n : ℕ) (r : Answer) (f : Finds (λ o. rows_at k o (payload_from file p) 0) (payload_from file p) n r) where
    -- The row that is found in it is the answer ..
    found_in : Answers p.start (payload_from file p) r (rows_of k x.judged.found) n
    found_in =
        let w = x.there in
        let s = w.section in
        let q : payload_from file p ≡ s.payload = payload_of file p s w.place w.stands in
        let m : Finds (λ o. rows_at k o s.payload 0) s.payload n r = subst (λ l. Finds (λ o. rows_at k o l 0) l n r) q f in
        let e : p.start ≡ s.start = ap (λ z. z.start) w.place in
        let (j, g) = (rows-of file x.judged.found x.judged.layout k).present s w.counts n r m in
        (j, ap (λ l. got_place p.start l r) q ∙ ap (λ o. got_place o s.payload r) e ∙ g)

    answer : (o : Option Span) (j : ℕ) → got_place p.start (payload_from file p) r ≡ got o j → view_in o ≡ row_view (rows_of k) file n
    answer o j h =
        let (i, g) = found_in in
        ap view_in (got-value (sym h ∙ g)) ∙ view-in (rows_of k x.judged.found) n ∙ sym (answered x.judged n)

    -- .. which is not refused ..
    pub view-judged : (z : Refused) → r ≡ Err z → ⊥
    view-judged z e = let (i, g) = found_in in stop-not-got (sym (ap (got_place p.start (payload_from file p)) e) ∙ g)

    -- .. may not be there ..
    pub view-absent : r ≡ Ok std.None → row_view (rows_of k) file n ≡ not_there
    view-absent e = sym (answer none _ (ap (got_place p.start (payload_from file p)) e))

    module _ (q : Place) (e : r ≡ Ok (std.Some q)) where
      -- .. or has a place.
      pub view-found : accepted (record { offset = p.start + q.start; size = q.len }) ≡ row_view (rows_of k) file n
      view-found =
          answer (some (record { offset = p.start + q.start; size = q.len })) _
          (ap (got_place p.start (payload_from file p)) e)

      -- It begins in the file.
      pub row_inside : p.start + q.start ≤ length file
      row_inside =
          let v = row-viewed k file n _ (sym view-found) in
          omega (arith, (stands-bytes file _ _ v.row.stands).1)

-- All of the promise.
pub row-post : (k : Kind) (file : List ℕ) (n : ℕ) (r : Result View Stopped) → view_of r ≡ row_view (rows_of k) file n →
    RowPost (rows_of k) (id_of k) file n r
row-post k file n r e =
    record {
      answer = e;
      sound = λ s a. row-viewed k file n s (sym e ∙ a);
      complete = λ x l m h. e ∙ view-complete (rows_of k) file x l m n h;
    }

-- The contract of a view allows one answer.
pub row-only : (rows_in : Placed → Rows (List ℕ)) (id : ℕ) (file : List ℕ) (n : ℕ) (r q : Result View Stopped) → RowPost rows_in id file n r →
    RowPost rows_in id file n q → r ≡ q
row-only rows_in id file n r q x y = view-only x.answer y.answer
