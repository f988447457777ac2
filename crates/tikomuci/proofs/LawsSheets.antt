-- Writing and naming answer and leave what the crates below did; and any two results that a contract allows are equal.
-- Assumes nothing.
use mathlib.Core.Path.{◌≡◌, refl, sym, ap, ◌∙◌}
use Prim.Native.Nat.{ℕ}
use native.Mathlib.Omega.{arith}
use mathlib.Core.List.{List}
use lib.ListN.{length}
use Rattle.std.specs.Prelude.{Result}
use Rattle.enums.specs.declared.Refusal.{Refusal}
use Rattle.format.specs.Read.{Read, accepted, refused, map_read}
use Rattle.images.specs.Written.{image_size}
use Rattle.names.specs.Names.{name_for, with_name, name_read}
use Rattle.writer.specs.Written.{WritePost, ImagePost}
use Rattle.tikomuci.specs.declared.answers.Answer.{Answer}
use Rattle.tikomuci.specs.Sheets.{size, SheetWritten, SheetImaged, TypeNamed}
use Rattle.tikomuci.proofs.LawsTold.{room-told, length-told, size-refused}

-- Writing, shown.
pub sheet-written : (s pool out out' : List ℕ) (x : Result ℕ Refusal) (r : Answer) → r ≡ size (image_size x) → WritePost s pool out out' x →
    SheetWritten s pool out out' r
sheet-written s pool out out' x r e p =
    record {
      answer = e ∙ ap size p.answer;
      output = p.output;
      unchanged = λ z. let (c, n, i, h) = size-refused (image_size x) r e z in p.unchanged c n i h;
      written = λ z. p.written r.first (p.answer ∙ room-told s pool (length out) r (e ∙ ap size p.answer) z);
      complete = λ t h whole words bytes m n k l. e ∙ ap size (p.complete t h whole words bytes m n k l);
    }

pub sheet-written-only : {s pool out out' out'' : List ℕ} {r q : Answer} → SheetWritten s pool out out' r → SheetWritten s pool out out'' q →
    (r ≡ q) × (out' ≡ out'')
sheet-written-only x y = (x.answer ∙ sym y.answer, x.output ∙ sym y.output)

-- Measuring what would be written, shown.
pub sheet-imaged : (s : List ℕ) (x : Result ℕ Refusal) (r : Answer) → r ≡ size (image_size x) → ImagePost s x → SheetImaged s r
sheet-imaged s x r e p =
    record {
      answer = e ∙ ap size p.answer;
      sound = λ z. p.sound r.first (p.answer ∙ length-told s r (e ∙ ap size p.answer) z);
      complete = λ t h whole words m k. e ∙ ap size (p.complete t h whole words m k);
    }

pub sheet-imaged-only : {s : List ℕ} {r q : Answer} → SheetImaged s r → SheetImaged s q → r ≡ q
sheet-imaged-only x y = x.answer ∙ sym y.answer

-- A refusal leaves the buffer of a name as it was.
kept-name : (out : List ℕ) (x : Read (List ℕ)) {c n i : ℕ} → map_read length x ≡ refused c n i → with_name out x ≡ out
unfolding map_read with_name
kept-name out (accepted t) e = absurd (let z : ◌≡◌ {A = ℕ} 0 1 = cc in omega arith)
kept-name out (refused c n i) e = refl

-- Naming a type, shown.
pub type-named : (s : List ℕ) (row : ℕ) (out out' : List ℕ) (x : Result ℕ Refusal) (r : Answer) → r ≡ size (name_read x) →
    (name_read x ≡ map_read length (name_for s row out)) × (out' ≡ with_name out (name_for s row out)) → TypeNamed s row out out' r
type-named s row out out' x r e p =
    record {
      answer = e ∙ ap size p.0;
      output = p.1;
      unchanged =
          λ z.
          let (c, n, i, h) = size-refused (name_read x) r e z in
          p.1 ∙ kept-name out (name_for s row out) (sym p.0 ∙ h);
    }

pub type-named-only : {s : List ℕ} {row : ℕ} {out out' out'' : List ℕ} {r q : Answer} → TypeNamed s row out out' r →
    TypeNamed s row out out'' q → (r ≡ q) × (out' ≡ out'')
type-named-only x y = (x.answer ∙ sym y.answer, x.output ∙ sym y.output)
