-- Measuring and reading answer what the crate below answered; any two results that their contracts allow are equal, also
-- of two files that differ only after the end marker. Assumes nothing.
use mathlib.Core.Path.{◌≡◌, sym, ap, ◌∙◌}
use Prim.Native.Nat.{ℕ}
use mathlib.Core.List.{List}
use Rattle.std.specs.Prelude.{Result}
use Rattle.container.specs.declared.sections.Stopped.{Stopped}
use Rattle.format.specs.SameToEnd.{SameToEnd}
use Rattle.format.specs.Read.{map_read}
use Rattle.format.specs.Decode.{decode}
use Rattle.format.specs.Stores.{read_into}
use Rattle.format.proofs.Refused.{listed-map, decode-listed}
use Rattle.format.proofs.AfterEnd.{after-end}
use Rattle.format.proofs.Stored.{into-listed, into-after, sheet-after, pool-after}
use Rattle.payloads.specs.declared.Need.{Need}
use Rattle.payloads.specs.Whole.{need_of, file_read}
use Rattle.decoder.specs.File.{MeasurePost, ReadPost}
use Rattle.tikomuci.specs.declared.answers.Answer.{Answer}
use Rattle.tikomuci.specs.Files.{needed, size_in, Measured, FileDone}
use Rattle.tikomuci.proofs.LawsBoundary.{told}
use Rattle.tikomuci.proofs.LawsTold.{need-told, need-refused}

-- Measuring, shown.
pub file-measured : (file : List ℕ) (x : Result Need Stopped) (r : Answer) → r ≡ needed (file_read x) → MeasurePost file x → Measured file r
file-measured file x r e p =
    record {
      answer = told needed e p.answer;
      sound = λ z.
          let a = told needed e p.answer in
          p.sound (size_in r) (p.answer ∙ need-told (map_read need_of (decode file)) (listed-map need_of (decode-listed file)) r a z);
      complete = λ t y l. e ∙ ap needed (p.complete t y l);
    }

-- Its contract allows one answer ..
pub measured-only : {file : List ℕ} {r s : Answer} → Measured file r → Measured file s → r ≡ s
measured-only p q = p.answer ∙ sym q.answer

-- .. whatever stands after the end marker.
pub measured-after : {file other : List ℕ} → SameToEnd file other → {r s : Answer} → Measured file r → Measured other s → r ≡ s
measured-after e p q = p.answer ∙ ap (λ d. needed (map_read need_of d)) (after-end e) ∙ sym q.answer

-- Reading, shown.
pub file-done : (file s s' p p' : List ℕ) (x : Result Need Stopped) (r : Answer) → r ≡ needed (file_read x) → ReadPost file s s' p p' x →
    FileDone file s s' p p' r
file-done file s s' p p' x r e q =
    record {
      answer = told needed e q.reads.answer;
      sheet = q.reads.sheet;
      pool = q.reads.pool;
      kept = λ z.
          let (c, n, i, h) = need-refused (map_read need_of (read_into file s p)) r (told needed e q.reads.answer) z in
          q.kept c n i (q.reads.answer ∙ h);
      sound = λ z.
          let a = told needed e q.reads.answer in
          let l = listed-map need_of (into-listed file s p) in
          q.sound (size_in r) (q.reads.answer ∙ need-told (map_read need_of (read_into file s p)) l r a z);
      complete = λ t y l a b. e ∙ ap needed (q.complete t y l a b);
    }

-- The answer and both stores are one ..
pub done-only : (file s p : List ℕ) {s' s'' p' p'' : List ℕ} {r q : Answer} → FileDone file s s' p p' r → FileDone file s s'' p p'' q →
    (r ≡ q) × (s' ≡ s'') × (p' ≡ p'')
done-only file s p x y = (x.answer ∙ sym y.answer, x.sheet ∙ sym y.sheet, x.pool ∙ sym y.pool)

-- .. whatever stands after the end marker.
pub done-after : {file other : List ℕ} → SameToEnd file other → (s p : List ℕ) {s' s'' p' p'' : List ℕ} {r q : Answer} →
    FileDone file s s' p p' r → FileDone other s s'' p p'' q → (r ≡ q) × (s' ≡ s'') × (p' ≡ p'')
done-after e s p x y = (
  x.answer ∙ ap (λ d. needed (map_read need_of d)) (into-after e s p) ∙ sym y.answer,
  x.sheet ∙ sheet-after e s p ∙ sym y.sheet,
  x.pool ∙ pool-after e s p ∙ sym y.pool,
)
