-- When a payload reader has answered and filled the stores as the model reads. Assumes nothing.
use mathlib.Core.Path.{◌≡◌, refl, sym, ap, ◌∙◌}
use Prim.Native.Nat.{ℕ}
use native.Mathlib.Omega.{arith}
use mathlib.Core.List.{List}
use Rattle.std.specs.Prelude.{Result, Ok, Err}
use Rattle.exact.specs.Got.{Got, got, stop}
use Rattle.exact.proofs.LawsExact.{stop-not-got, got-value}
use Rattle.reading.specs.Shown.{stop_of}
use Rattle.reading.specs.declared.Refused.{Refused}
use Rattle.sheet.specs.Store.{put_words, put_runs}
use Rattle.payloads.specs.Fill.{counted, refused, Rows, count_of, behind, Fills}
use Rattle.payloads.specs.declared.answers.Filled.{Filled}

module _ (at : Filled) {g : Got Rows} {sheet sheet' pool pool' : List ℕ} {r : Result (ℕ × Filled) Refused} where
  -- Rows were read, answered and filled in.
  pub fills-got : (v : Rows) (j : ℕ) → g ≡ got v j → count_of r ≡ behind at (got v j) →
      sheet' ≡ put_words sheet at.words v.words → pool' ≡ put_runs pool at.bytes v.runs →
      Fills at g sheet sheet' pool pool' r
  fills-got v j e a s p =
      record {
        answer = a ∙ ap (behind at) (sym e);
        words = λ u k f. s ∙ ap (λ x. put_words sheet at.words x.words) (got-value (sym e ∙ f));
        runs = λ u k f. p ∙ ap (λ x. put_runs pool at.bytes x.runs) (got-value (sym e ∙ f));
      }

  -- The rows were refused.
  pub fills-stop : (c k : ℕ) → g ≡ stop c k → count_of r ≡ behind at (stop c k) → Fills at g sheet sheet' pool pool' r
  fills-stop c k e a =
      record {
        answer = a ∙ ap (behind at) (sym e);
        words = λ u j f. absurd (stop-not-got (sym e ∙ f));
        runs = λ u j f. absurd (stop-not-got (sym e ∙ f));
      }

counted-not-refused : {n w b c k : ℕ} → counted n w b ≡ refused c k → ⊥
counted-not-refused e = let z : ◌≡◌ {A = ℕ} 0 1 = cc in omega arith

-- A refusal, whatever the stores are.
pub fills-err : (at : Filled) {g : Got Rows} {sheet sheet' pool pool' : List ℕ} (x : Refused) → g ≡ stop_of x → Fills at g sheet sheet' pool pool' (Err x)
fills-err at x e = fills-stop at _ x.at e refl

-- What was answered tells what the model reads: rows ..
module _ (at : Filled) {sheet sheet' pool pool' : List ℕ} where
  pub fills-read : (g : Got Rows) {n : ℕ} {next : Filled} → Fills at g sheet sheet' pool pool' (Ok (n, next)) →
      (v : Rows) × (j : ℕ) × (g ≡ got v j) × (counted n next.words next.bytes ≡ behind at (got v j))
  fills-read (got v j) x = (v, j, refl, x.answer)
  fills-read (stop c k) x = absurd (counted-not-refused x.answer)

  -- .. or a refusal.
  pub fills-stopped : (g : Got Rows) (x : Refused) → Fills at g sheet sheet' pool pool' (Err x) → g ≡ stop_of x
  fills-stopped (got v j) x f = absurd (counted-not-refused (sym f.answer))
  fills-stopped (stop c k) x f = cc f.answer

  -- It says nothing of the stores.
  pub fills-none : {g : Got Rows} {x : Refused} {t t' q q' : List ℕ} → Fills at g sheet sheet' pool pool' (Err x) → Fills at g t t' q q' (Err x)
  fills-none {g} {x} f = fills-err at x (fills-stopped g x f)
