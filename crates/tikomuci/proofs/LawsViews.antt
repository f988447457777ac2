-- A view answers what the crate below answered; any two answers that its contract allows are equal, also of two files that
-- differ only after the end marker. Assumes nothing.
use mathlib.Core.Path.{◌≡◌, sym, ap, ◌∙◌}
use Prim.Native.Nat.{ℕ}
use mathlib.Core.List.{List}
use Rattle.std.specs.Prelude.{Result}
use Rattle.container.specs.declared.sections.Stopped.{Stopped}
use Rattle.exact.specs.Entries.{Rows}
use Rattle.format.specs.Explains.{Placed}
use Rattle.format.specs.SameToEnd.{SameToEnd}
use Rattle.format.specs.Views.{row_view, section_view}
use Rattle.format.proofs.Refused.{row_listed, section-listed}
use Rattle.format.proofs.AfterEnd.{row-view-after, section-view-after}
use Rattle.container.specs.Views.{SectionPost, view_of}
use Rattle.container.specs.declared.View.{View}
use Rattle.decoder.specs.Views.{RowPost}
use Rattle.tikomuci.specs.declared.answers.Answer.{Answer}
use Rattle.tikomuci.specs.Views.{view, span_in, SectionViewed, RowViewed}
use Rattle.tikomuci.proofs.LawsBoundary.{told}
use Rattle.tikomuci.proofs.LawsTold.{span-told}

-- A section's view, shown.
pub section-viewed : (file : List ℕ) (id : ℕ) (x : Result View Stopped) (r : Answer) → r ≡ view (view_of x) → SectionPost file id x → SectionViewed file id r
section-viewed file id x r e p =
    record {
      answer = told view e p.answer;
      sound = λ z.
          let a = told view e p.answer in
          p.sound (span_in r) (p.answer ∙ span-told (section_view file id) (section-listed file id) r a z);
      complete = λ s a n i. e ∙ ap view (p.complete s a n i);
    }

-- Its contract allows one answer ..
pub section-viewed-only : {file : List ℕ} {id : ℕ} {r s : Answer} → SectionViewed file id r → SectionViewed file id s → r ≡ s
section-viewed-only p q = p.answer ∙ sym q.answer

-- .. whatever stands after the end marker.
pub section-viewed-after : {file other : List ℕ} → SameToEnd file other → {id : ℕ} {r s : Answer} → SectionViewed file id r →
    SectionViewed other id s → r ≡ s
section-viewed-after e {id} p q = p.answer ∙ ap view (section-view-after e id) ∙ sym q.answer

-- A row's view, shown.
pub row-viewed : (rows_in : Placed → Rows (List ℕ)) (id : ℕ) (file : List ℕ) (k : ℕ) (x : Result View Stopped) (r : Answer) → r ≡ view (view_of x) →
    RowPost rows_in id file k x → RowViewed rows_in id file k r
row-viewed rows_in id file k x r e p =
    record {
      answer = told view e p.answer;
      sound = λ z.
          let a = told view e p.answer in
          p.sound (span_in r) (p.answer ∙ span-told (row_view rows_in file k) (row_listed rows_in file k) r a z);
      complete = λ y l n i. e ∙ ap view (p.complete y l n i);
    }

-- Its contract allows one answer ..
pub row-viewed-only : {rows_in : Placed → Rows (List ℕ)} {id : ℕ} {file : List ℕ} {k : ℕ} {r s : Answer} →
    RowViewed rows_in id file k r → RowViewed rows_in id file k s → r ≡ s
row-viewed-only p q = p.answer ∙ sym q.answer

-- .. whatever stands after the end marker.
pub row-viewed-after : {file other : List ℕ} → SameToEnd file other → {rows_in : Placed → Rows (List ℕ)} {id k : ℕ} {r s : Answer} →
    RowViewed rows_in id file k r → RowViewed rows_in id other k s → r ≡ s
row-viewed-after e {rows_in} {id} {k} p q = p.answer ∙ ap view (row-view-after e rows_in k) ∙ sym q.answer
