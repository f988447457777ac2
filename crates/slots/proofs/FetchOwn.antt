-- A fetch is of the caller's own file: after any history from an empty cache, instance i is answered what the view of that constant answers
-- of the file of its last accepted put since its drop, in its slot, and the buffer's bytes there are the entry's; or 14, if it has no file.
-- Assumes nothing.
use mathlib.Core.Path.{◌≡◌, sym, ap, ◌∙◌}
use Prim.Native.Nat.{ℕ, ◌+◌, ◌*◌, ◌≤◌}
use native.Mathlib.Omega.{arith}
use mathlib.Core.Option.{Option, none, some}
use mathlib.Core.List.{List, [], ◌++◌}
use lib.ListN.{length, take, drop, get_or, take-append-drop}
use lib.Seq.{drop-drop}
use Rattle.enums.specs.Container.{constant_id}
use Rattle.format.specs.Views.{Span, constants_in, Viewed}
use Rattle.format.proofs.Decoded.{tables-only}
use Rattle.format.proofs.LawsStands.{stands-bytes}
use Rattle.format.proofs.Viewed.{constant-viewed}
use Rattle.slots.specs.Cache.{Slot, free, held}
use Rattle.slots.specs.Lent.{Lent, length_at, slot_size}
use Rattle.slots.specs.Meaning.{cache_of, of_cache}
use Rattle.slots.specs.History.{Call, run, told, Empty, Numbered, last_put, OfOwn}
use Rattle.slots.proofs.LawsTable.{part_bytes}
use Rattle.slots.proofs.LawsCache.{Has, has_file, has_none, fetch-file, fetch-none}
use Rattle.slots.proofs.LawsHistory.{cache-held, cache-once, Holds, empty_holds, run_holds}

-- The constant that a view of the file in slot j has found stands in the buffer, from the slot's start on.
pub slot-bytes : (n i j k : ℕ) (s : Lent) (c : List Slot) (f : List ℕ) (p : Span) → cache_of n s ≡ some c → get_or c j free ≡ held i f →
    (v : Viewed constants_in constant_id f k p) →
    take p.size (drop (j * slot_size n s.buffer + p.offset) s.buffer) ≡ get_or v.found.tables.constants k []
slot-bytes n i j k s c f p e h v =
    let y = (cache-held n s c e i j f h).3 in
    let m : ℕ = length_at s.owners j in
    let at : ℕ = j * slot_size n s.buffer in
    let b : List ℕ = drop at s.buffer in
    let w : p.size ≡ length (get_or v.found.tables.constants k []) = ap (λ u. u.size) v.span in
    let (q, r) = stands-bytes f p.offset _ v.row.stands in
    let d : p.offset + p.size ≤ length f = omega arith in
    ap (take p.size) (sym (drop-drop p.offset at s.buffer)) ∙
    part_bytes b f (drop m b) p.offset p.size (sym (take-append-drop m b) ∙ ap (λ g. g ++ drop m b) y) d ∙
    ap (λ u. take u (drop p.offset f)) w ∙ q

-- A fetch is of the file that its caller has.
fetch-has : (n i k : ℕ) {f : Option (List ℕ)} (s : Lent) → Holds n i f s → OfOwn n i k s f
unfolding of_cache
fetch-has n i k s y = go y.has
  where
    go : {f : Option (List ℕ)} → Has i y.cache f → OfOwn n i k s f
    go (has_none x) = rw y.stands (fetch-none i k y.cache x)
    go (has_file {f} j x) =
        record {
          slot = j;
          inside = (cache-held n s y.cache y.stands i j f x).0;
          answer = rw y.stands (fetch-file i k j f y.cache (cache-once n s y.cache y.stands i) x);
          bytes = λ p t a b.
              let v = constant-viewed f k p a in
              let q = tables-only f v.found.tables t (record { places = v.found.places; layout = v.layout }) b in
              slot-bytes n i j k s y.cache f p y.stands x v ∙ ap (λ u. get_or u.constants k []) q;
        }

-- The theorem.
pub fetch-own : (n : ℕ) (s : Lent) → Empty n s → (h : List Call) → Numbered h → (i k : ℕ) →
    OfOwn n i k (run n s h) (last_put i none (told n s h))
fetch-own n s e h m i k = fetch-has n i k (run n s h) (run_holds n i s h m (empty_holds n i s e))
