-- How a loop over rows goes on: whatever the rest of the rows fills in, all of them fill in. Assumes nothing.
use mathlib.Core.Path.{◌≡◌, refl, sym, ap, ◌∙◌}
use Prim.Native.Nat.{ℕ, zero, suc, ◌+◌, ◌-◌, ◌≤◌, ◌<◌}
use native.Mathlib.Nat.{add-zero}
use native.Mathlib.Omega.{arith}
use mathlib.Core.List.{List, [], ◌∷◌, ◌++◌, map, append_assoc}
use lib.ListN.{length, length-append}
use Rattle.exact.specs.Got.{Got, got, stop, follow}
use Rattle.exact.specs.Exact.{Parser}
use Rattle.exact.specs.Basic.{pure}
use Rattle.exact.specs.Sequence as sequence
use Rattle.exact.specs.Repeat.{times}
use Rattle.exact.specs.Tiling.{join}
use Rattle.sheet.specs.Store.{put_words, put_runs}
use Rattle.sheet.proofs.LawsStore.{put_words-append, put_runs-append}
use Rattle.std.specs.Prelude.{Result, Ok, Err}
use Rattle.reading.specs.Shown.{stop_of}
use Rattle.reading.specs.declared.Refused.{Refused}
use Rattle.payloads.specs.Fill.{refused, Rows, Fills, count_of}
use Rattle.payloads.specs.declared.answers.Filled.{Filled}
use Rattle.payloads.proofs.LawsFill.{fills-got, fills-stop}

-- Lists side by side are joined side by side.
pub join-append : {A : Type 0} (xs ys : List (List A)) → join (xs ++ ys) ≡ join xs ++ join ys
join-append [] ys = refl
join-append (x ∷ xs) ys = ap (λ z. x ++ z) (join-append xs ys) ∙ sym (append_assoc x (join xs) (join ys))

-- n values, one by one: none are left, one is refused, or one is read.
module _ {A : Type 0} (q : Parser A) (l : List ℕ) (i : ℕ) where
  pub times_none : (n : ℕ) → n ≤ 0 → times n q l i ≡ got [] i
  unfolding times pure
  times_none zero h = refl
  times_none (suc n) h = let z : ⊥ = omega arith in absurd z

  pub times-stop : (n c k : ℕ) → 0 < n → q l i ≡ stop c k → times n q l i ≡ stop c k
  unfolding times sequence.mapped sequence.bind follow
  times-stop zero c k h e = let z : ⊥ = omega arith in absurd z
  times-stop (suc n) c k h e = rw e

  pub times_more : (n : ℕ) (v : A) (j : ℕ) → 0 < n → q l i ≡ got v j → times n q l i ≡ follow (times (n - 1) q l j) (λ vs k. got (v ∷ vs) k)
  unfolding times sequence.mapped sequence.bind follow pure
  times_more zero v j h e = let z : ⊥ = omega arith in absurd z
  times_more (suc n) v j h e = let k : suc n - 1 ≡ n = omega arith in rw (e, k)

module _ {A : Type 0} (ws : A → List ℕ) (rs : A → List (List ℕ)) where
  -- Rows that are read are put from word w and byte b on, and the answer says that there are m in all; a refusal is
  -- handed out.
  unfoldable pub Filling : ℕ → Got (List A) → ℕ → ℕ → List ℕ → List ℕ → List ℕ → List ℕ → Result (ℕ × Filled) Refused → Type 0
  Filling m (got vs j) w b s s' p p' r =
      (r ≡ Ok (m, record { words = w + length (join (map ws vs)); bytes = b + length (join (join (map rs vs))) })) ×
      (s' ≡ put_words s w (join (map ws vs))) × (p' ≡ put_runs p b (join (map rs vs)))
  Filling m (stop c k) w b s s' p p' r = count_of r ≡ refused c k

  module _ (m w b : ℕ) (s s' p p' : List ℕ) where
    -- None are left ..
    pub filling-none : (g : Got (List A)) (j : ℕ) → g ≡ got [] j → s' ≡ s → p' ≡ p →
        Filling m g w b s s' p p' (Ok (m, record { words = w; bytes = b }))
    unfolding put_words put_runs Filling
    filling-none g j h e f = rw h (rw (add-zero w, add-zero b) refl, e, f)

    -- .. one is refused ..
    pub filling-stop : (g : Got (List A)) (x : Refused) → g ≡ stop_of x → Filling m g w b s s' p p' (Err x)
    unfolding Filling
    filling-stop g x e = rw e refl

    -- .. or one is read and put.
    pub filling-more : (v : A) (s₁ p₁ : List ℕ) (r : Result (ℕ × Filled) Refused) (g h : Got (List A)) → g ≡ follow h (λ vs k. got (v ∷ vs) k) →
        s₁ ≡ put_words s w (ws v) → p₁ ≡ put_runs p b (rs v) →
        Filling m h (w + length (ws v)) (b + length (join (rs v))) s₁ s' p₁ p' r → Filling m g w b s s' p p' r
    unfolding follow Filling
    filling-more v s₁ p₁ r g (got vs k) a e f (x, y, z) =
        let ww : w + length (ws v) + length (join (map ws vs)) ≡ w + length (ws v ++ join (map ws vs)) =
        omega (arith, length-append (ws v) (join (map ws vs))) in
        let jj = ap length (join-append (rs v) (join (map rs vs))) in
        let bb : b + length (join (rs v)) + length (join (join (map rs vs))) ≡ b + length (join (rs v ++ join (map rs vs))) =
        omega (arith, length-append (join (rs v)) (join (join (map rs vs)))) in
        rw a (
          rw (ww, bb) at x,
          y ∙ ap (λ u. put_words u (w + length (ws v)) (join (map ws vs))) e ∙ sym (put_words-append (ws v) (join (map ws vs)) s w),
          z ∙ ap (λ u. put_runs u (b + length (join (rs v))) (join (map rs vs))) f ∙ sym (put_runs-append (rs v) (join (map rs vs)) p b),
        )
    filling-more v s₁ p₁ r g (stop c k) a e f x = rw a x

  -- All rows are filled in: the answer and the stores are as the model says.
  pub filling-fills : (rows : List A → Rows) →
      ((vs : List A) → rows vs ≡ record { rows = length vs; words = join (map ws vs); runs = join (map rs vs) }) → (n : ℕ)
      (at : Filled) (s s' p p' : List ℕ) (r : Result (ℕ × Filled) Refused) (g : Got (List A)) → ((vs : List A) (j : ℕ) → g ≡ got vs j → length vs ≡ n) →
      Filling n g at.words at.bytes s s' p p' r → Fills at (follow g (λ vs j. got (rows vs) j)) s s' p p' r
  unfolding Filling follow
  filling-fills rows e n at s s' p p' r (got vs j) t (a, y, z) =
      fills-got at (record { rows = length vs; words = join (map ws vs); runs = join (map rs vs) }) j (ap (λ v. got v j) (e vs))
      (ap count_of a ∙ rw (t vs j refl) refl) y z
  filling-fills rows e n at s s' p p' r (stop c k) t a = fills-stop at c k refl a

-- Where the rows end says nothing of the answer.
pub fills-upto : {A : Type 0} (rows : A → Rows) (m : ℕ) (at : Filled) (s s' p p' : List ℕ) (r : Result (ℕ × Filled) Refused) (g : Got A) →
    Fills at (follow g (λ v j. got (rows v) j)) s s' p p' r →
    Fills at (follow g (λ v j. got (rows v) m)) s s' p p' r
unfolding follow
fills-upto rows m at s s' p p' r (got v j) x = fills-got at (rows v) m refl x.answer (x.words (rows v) j refl) (x.runs (rows v) j refl)
fills-upto rows m at s s' p p' r (stop c k) x = x
