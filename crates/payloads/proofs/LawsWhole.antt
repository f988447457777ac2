-- A pass over the payloads of an opened file is a pass over the file, of any lists. Assumes nothing.
use mathlib.Core.Path.{◌≡◌, sym, ap, ap₂, subst, ◌∙◌, refl}
use Prim.Native.Nat.{ℕ, ◌+◌}
use Rattle.std.specs.Prelude.{Result}
use mathlib.Core.List.{List}
use lib.ListN.{length}
use Rattle.exact.specs.Tiling.{join}
use Rattle.format.specs.Tables.{Tables}
use Rattle.format.specs.Explains.{Placed}
use Rattle.format.specs.Read.{Read, accepted, refused, map_read}
use Rattle.format.specs.Views.{and_then}
use Rattle.format.specs.Decode.{payloads, only_tables, decode}
use Rattle.format.specs.Sheet.{sheet_of}
use Rattle.format.proofs.Decoded.{map-inv}
use Rattle.container.specs.Container.{held_container, Opened, opened}
use Rattle.container.specs.declared.sections.Container.{Container}
use Rattle.container.specs.declared.sections.Stopped.{Stopped}
use Rattle.container.specs.Shown.{refused_of}
use Rattle.container.proofs.LawsOpened.{placed-opened, held-stop, held-passed}
use Rattle.sheet.specs.Store.{put_words, put_runs}
use Rattle.payloads.specs.declared.Need.{Need}
use Rattle.payloads.specs.Pass.{all_words, all_runs, filled_sheet, passed, head_words, need_in, Passes}
use Rattle.payloads.specs.Whole.{need_of, runs_of, PassPost}
use Rattle.payloads.proofs.LawsPassed.{seven_of, all_of, passed-payloads, named-producer, kept-version}
use Rattle.payloads.proofs.LawsSheet.{seven_runs, seven-length, seven-bytes, seven-sheet}

-- A file that header and walk refuse is refused ..
pub decode-refused : (l : List ℕ) (x : Stopped) → refused_of x ≡ map_read held_container (opened l) → decode l ≡ refused_of x
unfolding decode and_then map_read
decode-refused l x e =
    ap (map_read only_tables) (placed-opened l ∙ ap (λ o. and_then o (λ x. payloads x.version x.sections)) (held-stop (opened l) _ _ x.at e))

module _ (l : List ℕ) (x : Opened) (e : opened l ≡ accepted x) where
  decode-payloads : decode l ≡ map_read only_tables (payloads x.version x.sections)
  unfolding decode and_then
  decode-payloads = ap (map_read only_tables) (placed-opened l ∙ ap (λ o. and_then o (λ x. payloads x.version x.sections)) e)

  -- .. and of another the pass has the tables.
  found : (t : Tables) → decode l ≡ accepted t → (y : Placed) × (payloads x.version x.sections ≡ accepted y) × (y.tables ≡ t)
  found t d = map-inv only_tables (payloads x.version x.sections) t (sym decode-payloads ∙ d)

  found_passed : (y : Placed) → payloads x.version x.sections ≡ accepted y →
      passed l (held_container x) ≡ accepted (all_of y)
  unfolding map_read
  found_passed y a = passed-payloads l x e ∙ ap (map_read all_of) a

  need-seven : (y : Placed) →
      ◌≡◌ {A = Need}
      (record { words = 19 + length (all_words (seven_of y.tables)); bytes = length (join (all_runs (seven_of y.tables))) })
      (need_of y.tables)
  unfolding need_of
  need-seven y = ap₂ (λ a b. record { words = a; bytes = b }) (seven-length y.tables) (seven-bytes y.tables)

  answered : (g : Read Placed) → need_in (map_read all_of g) ≡ map_read need_of (map_read only_tables g)
  unfolding map_read
  answered (accepted y) = ap accepted (need-seven y)
  answered (refused c n i) = refl

  module _ (s s' p p' : List ℕ) (r : Result Need Stopped) (h : Passes l (held_container x) s s' p p' r) where
    passed-sheet : (t : Tables) → decode l ≡ accepted t → s' ≡ put_words s 0 (sheet_of t)
    passed-sheet t d =
        let (y, a, q) = found t d in
        let b : ℕ = length (join (all_runs (seven_of y.tables))) in
        h.sheet (all_of y) (found_passed y a) ∙
        ap₂ (λ w k. put_words (filled_sheet s (seven_of y.tables)) 0 (head_words w k b)) (kept-version l x e y a) (named-producer l x e y a) ∙
        seven-sheet y.tables s ∙ ap (λ z. put_words s 0 (sheet_of z)) q

    passed-pool : (t : Tables) → decode l ≡ accepted t → p' ≡ put_runs p 0 (runs_of t)
    passed-pool t d =
        let (y, a, q) = found t d in
        h.pool (all_of y) (found_passed y a) ∙ ap (put_runs p 0) (seven_runs y.tables) ∙ ap (λ z. put_runs p 0 (runs_of z)) q

    -- So a pass over the payloads is a pass over the file.
    pass-post : PassPost l s s' p p' r
    pass-post =
        record {
          answer = h.answer ∙ ap need_in (passed-payloads l x e) ∙ answered (payloads x.version x.sections) ∙
              sym (ap (map_read need_of) decode-payloads);
          sheet = passed-sheet;
          pool = passed-pool;
        }

-- The same with what the code holds of header and walk.
pub pass-held : (l : List ℕ) (k : Container) → accepted k ≡ map_read held_container (opened l) → (s s' p p' : List ℕ) (r : Result Need Stopped) →
    Passes l k s s' p p' r → PassPost l s s' p p' r
pass-held l k read s s' p p' r h =
    let (x, e, q) = held-passed (opened l) k read in
    pass-post l x e s s' p p' r (subst (λ k. Passes l k s s' p p' r) q h)
