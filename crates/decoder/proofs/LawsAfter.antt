-- Two calls on files that differ only after the end marker give the same answer and leave the same stores. Assumes nothing.
use mathlib.Core.Path.{◌≡◌, sym, ap, ◌∙◌}
use Prim.Native.Nat.{ℕ}
use mathlib.Core.List.{List}
use Rattle.std.specs.Prelude.{Result}
use Rattle.exact.specs.Entries.{Rows}
use Rattle.format.specs.Explains.{Placed}
use Rattle.format.specs.SameToEnd.{SameToEnd}
use Rattle.format.specs.Read.{map_read}
use Rattle.format.proofs.AfterEnd.{after-end, row-view-after}
use Rattle.format.proofs.Stored.{into-after, sheet-after, pool-after}
use Rattle.container.specs.declared.View.{View}
use Rattle.container.specs.declared.sections.Stopped.{Stopped}
use Rattle.container.proofs.LawsShown.{read-only}
use Rattle.container.proofs.LawsViews.{view-only}
use Rattle.payloads.specs.declared.Need.{Need}
use Rattle.payloads.specs.Whole.{need_of}
use Rattle.decoder.specs.File.{MeasurePost, ReadPost}
use Rattle.decoder.specs.Views.{RowPost}

module _ {file other : List ℕ} (e : SameToEnd file other) where
  -- Two files measured ..
  pub measure-after : (r q : Result Need Stopped) → MeasurePost file r → MeasurePost other q → r ≡ q
  measure-after r q x y = read-only x.answer (y.answer ∙ sym (ap (map_read need_of) (after-end e)))

  -- .. read into equal stores ..
  pub read-after : (s s' s'' p p' p'' : List ℕ) (r q : Result Need Stopped) → ReadPost file s s' p p' r → ReadPost other s s'' p p'' q →
      (r ≡ q) × (s' ≡ s'') × (p' ≡ p'')
  read-after s s' s'' p p' p'' r q x y = (
    read-only x.reads.answer (y.reads.answer ∙ sym (ap (map_read need_of) (into-after e s p))),
    x.reads.sheet ∙ sheet-after e s p ∙ sym y.reads.sheet,
    x.reads.pool ∙ pool-after e s p ∙ sym y.reads.pool,
  )

  -- .. and viewed: a string, a constant or a body.
  pub row-after : (rows_in : Placed → Rows (List ℕ)) (id k : ℕ) (r q : Result View Stopped) → RowPost rows_in id file k r →
      RowPost rows_in id other k q → r ≡ q
  row-after rows_in id k r q x y = view-only x.answer (y.answer ∙ sym (row-view-after e rows_in k))
