-- A view answers the place that the layout gives, and the bytes there are the row's. Assumes nothing.
use mathlib.Core.Path.{◌≡◌, refl, subst}
use Prim.Native.Nat.{ℕ, ◌≤◌, ◌<◌}
use native.Mathlib.Decide.{dec_le, dec_lt}
use mathlib.Core.Option.{Option}
use mathlib.Core.List.{List}
use lib.ListN.{length}
use Rattle.exact.specs.Choice.{choose}
use Rattle.exact.specs.Entries.{Rows}
use Rattle.exact.proofs.LawsChoice.{choose_yes}
use Rattle.enums.specs.Container.{string_id, constant_id, func_id, num_sections}
use Rattle.enums.specs.Refusals as refusals
use Rattle.format.specs.Tables.{Version}
use Rattle.format.specs.Sections.{Section}
use Rattle.format.specs.Explains.{Placed, Container, Layout}
use Rattle.format.specs.Read.{Read, accepted, refused, at_stage}
use Rattle.format.specs.DecodeContainer.{header_at, sections_at, last_with}
use Rattle.format.specs.Decode.{most_bytes, placed}
use Rattle.format.specs.Stands.{RowsAt, PayloadAt}
use Rattle.format.specs.Views.{Span, and_then, strings_in, constants_in, bodies_in, span_of, row_span, row_view, string_view, constant_view, body_view, Viewed, payload_span, read_sections, section_view}
use Rattle.format.proofs.Decoded.{accepted-value, refused-not-accepted, stage-inv, container-of, placed-sound, placed-complete}
use Rattle.format.proofs.RowPlaced.{section-placed, row-placed}
use Rattle.format.proofs.LawsLast.{Counts, none_counts, last_counts, last-with}

pub then-inv : {A B : Type 0} (r : Read A) (f : A → Read B) (w : B) → and_then r f ≡ accepted w → (v : A) × (r ≡ accepted v) × (f v ≡ accepted w)
unfolding and_then
then-inv (accepted v) f w e = (v, refl, e)
then-inv (refused c n i) f w e = absurd (refused-not-accepted e)

span-inv : (r : Rows (List ℕ)) (k : ℕ) (s : Span) → row_span r k ≡ accepted s → (k < length r.values) × (span_of r k ≡ s)
unfolding row_span choose
span-inv r k s = go (dec_lt k (length r.values))
  where
    go : (d : Dec (k < length r.values)) →
        choose d (accepted (span_of r k)) (refused refusals.not_there refusals.at_call 0) ≡ accepted s →
        (k < length r.values) × (span_of r k ≡ s)
    go (yes h) e = (h, accepted-value e)
    go (no h) e = absurd (refused-not-accepted e)

module _ (rows_in : Placed → Rows (List ℕ)) (id : ℕ)
    (placed-so : (file : List ℕ) (x : Placed) (l : Layout file x) → RowsAt file l.sections id (rows_in x)) where
  view-sound : (file : List ℕ) (k : ℕ) (s : Span) → row_view rows_in file k ≡ accepted s → Viewed rows_in id file k s
  unfolding row_view
  view-sound file k s e =
      let (x, p, q) = then-inv (placed file) (λ x. row_span (rows_in x) k) s e in
      let (h, r) = span-inv (rows_in x) k s q in
      let l : Layout file x = (placed-sound file x p).1 in
      let v : Viewed rows_in id file k (span_of (rows_in x) k) =
      record { found = x; layout = l; inside = h; span = refl; row = placed-so file x l k h } in
      subst (Viewed rows_in id file k) r v

-- Strings, constants and bodies.
pub string-viewed : (file : List ℕ) (k : ℕ) (s : Span) → string_view file k ≡ accepted s → Viewed strings_in string_id file k s
string-viewed = view-sound strings_in string_id (λ file x l. (row-placed file x l).string)

pub constant-viewed : (file : List ℕ) (k : ℕ) (s : Span) → constant_view file k ≡ accepted s → Viewed constants_in constant_id file k s
constant-viewed = view-sound constants_in constant_id (λ file x l. (row-placed file x l).constant)

pub body-viewed : (file : List ℕ) (k : ℕ) (s : Span) → body_view file k ≡ accepted s → Viewed bodies_in func_id file k s
body-viewed = view-sound bodies_in func_id (λ file x l. (row-placed file x l).body)

-- A row of a file within the limit is answered.
pub view-complete : (rows_in : Placed → Rows (List ℕ)) (file : List ℕ) (x : Placed) → Layout file x → length file ≤ most_bytes → (k : ℕ) →
    k < length (rows_in x).values → row_view rows_in file k ≡ accepted (span_of (rows_in x) k)
unfolding row_view and_then row_span
view-complete rows_in file x l n k h = rw (placed-complete file x l n) (choose_yes (dec_lt k (length (rows_in x).values)) _ _ h)

sections-sound : (file : List ℕ) (ss : List Section) → read_sections file ≡ accepted ss → (v : Version) × Container file v ss
unfolding read_sections choose
sections-sound file ss = go (dec_le (length file) most_bytes)
  where
    go : (d : Dec (length file ≤ most_bytes)) →
        choose d (at_stage refusals.at_header (header_at file 0) (λ v j. at_stage refusals.at_sections (sections_at file j) (λ ss _. accepted ss)))
        (refused refusals.limit refusals.at_limits 0) ≡ accepted ss → (v : Version) × Container file v ss
    go (yes n) e =
        let (v, j, h, e1) = stage-inv _ _ _ ss e in
        let (ts, k, g, e2) = stage-inv _ _ _ ss e1 in
        (v, subst (Container file v) (accepted-value e2) (container-of file v j ts k h g))
    go (no n) e = absurd (refused-not-accepted e)

payload-viewed : (file : List ℕ) (v : Version) (ss : List Section) → Container file v ss → (id : ℕ) (o : Option Section) → Counts id ss o →
    (s : Span) → payload_span o ≡ accepted s → PayloadAt file ss id s.offset s.size
unfolding payload_span
payload-viewed file v ss c id o (none_counts m) s e = absurd (refused-not-accepted e)
payload-viewed file v ss c id o (last_counts {s = t} r) s e =
    let q = accepted-value e in
    subst (λ z. PayloadAt file ss id z.offset z.size) q
    record { section = t; counts = r; starts = refl; sized = refl; stands = section-placed file v ss c id t r }

-- A section view answers the whole payload that counts.
pub section-viewed : (file : List ℕ) (id : ℕ) (s : Span) → section_view file id ≡ accepted s →
    (v : Version) × (ss : List Section) × Container file v ss × PayloadAt file ss id s.offset s.size
unfolding section_view choose
section-viewed file id s e =
    let (ss, h, f) = then-inv (read_sections file)
    (λ ss. choose (dec_lt id num_sections) (payload_span (last_with id ss)) (refused refusals.not_there refusals.at_call 0)) s e in
    let (v, c) = sections-sound file ss h in
    (v, ss, c, go v ss c (dec_lt id num_sections) f)
  where
    go : (v : Version) (ss : List Section) → Container file v ss → (d : Dec (id < num_sections)) →
        choose d (payload_span (last_with id ss)) (refused refusals.not_there refusals.at_call 0) ≡ accepted s →
        PayloadAt file ss id s.offset s.size
    go v ss c (yes n) f = payload-viewed file v ss c id (last_with id ss) (last-with id ss) s f
    go v ss c (no n) f = absurd (refused-not-accepted f)
