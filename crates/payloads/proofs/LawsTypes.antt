-- Steps one after the other, and the words of a partition view below 13.3 as those that its steps put. Assumes nothing.
use Rattle.std.specs.Prelude.{Result, Ok, Err}
use Rattle.reading.specs.declared.Refused.{Refused}
use mathlib.Core.Path.{◌≡◌, refl, sym, ap, ◌∙◌}
use Prim.Native.Nat.{ℕ, ◌+◌}
use native.Mathlib.Decide.{ℕ_discrete}
use native.Mathlib.Omega.{arith}
use mathlib.Core.Bool.{Bool, true, false, Bool-discrete}
use borrow.Author.Tests.{eq-eqb, ne_eqb}
use lib.Dec.{eqb}
use mathlib.Core.List.{List, [], ◌∷◌, ◌++◌, append_assoc, append-nil}
use lib.ListN.{length}
use Rattle.exact.specs.Got.{Got, got, stop, follow}
use Rattle.exact.specs.Exact.{Parser}
use Rattle.exact.specs.Basic.{byte, pure}
use Rattle.exact.specs.Sequence.{bind, mapped}
use Rattle.exact.specs.Repeat.{counted}
use Rattle.exact.proofs.LawsExact.{stop-not-got}
use Rattle.reading.specs.Numbers.{varint_at, counted_at}
use Rattle.format.specs.Items.{truth}
use Rattle.format.specs.Tables.{TypeRow, partition_view}
use Rattle.format.specs.Sheet.{field_words}
use Rattle.exact.proofs.LawsChoice.{choose_yes, choose_no}
use Rattle.format.specs.DecodeTables.{field_at}
use Rattle.format.specs.DecodeTypes.{old_partition_view_at}
use Rattle.enums.specs.Types as tags
use Rattle.payloads.specs.declared.fields.Number.{Number}
use Rattle.payloads.specs.declared.fields.Number.TheVariants.{I32}
use Rattle.payloads.specs.declared.fields.Spot.{Spot}
use Rattle.payloads.specs.Fields.{number_at, field_if, as_word, listed, spot_of, Step}
use Rattle.payloads.specs.TypeRows.{place_of}
use Rattle.payloads.proofs.LawsFields.{then, step-then}

-- The words of p's rows are what `end` makes of the value of q, and of ws with the words of q behind.
unfoldable pub Via : (ℕ × List ℕ → Parser (List ℕ)) → List ℕ → Parser TypeRow → Parser (ℕ × List ℕ) → Type 0
Via end ws p q = (l : List ℕ) (i : ℕ) → mapped field_words p l i ≡ bind q (λ a. end (a.0, ws ++ a.1)) l i

module _ {A : Type 0} (end : ℕ × List ℕ → Parser (List ℕ)) (g : A → ℕ × List ℕ) (p : Parser A) (ws : List ℕ) where
  module _ (f : A → Parser TypeRow) (q : ℕ → Parser (ℕ × List ℕ)) (l : List ℕ) (i : ℕ) where
    bind_both : (v : A) (j : ℕ) (a : Got (ℕ × List ℕ)) → p l i ≡ got v j → q (g v).0 l j ≡ a →
        mapped field_words (f v) l j ≡ bind (q (g v).0) (λ a. end (a.0, (ws ++ (g v).1) ++ a.1)) l j →
        mapped field_words (bind p f) l i ≡ bind (then (mapped g p) q) (λ a. end (a.0, ws ++ a.1)) l i
    unfolding mapped bind follow pure then
    bind_both v j (got b k) e d h = let m = rw d at h in rw (e, d) (m ∙ rw append_assoc)
    bind_both v j (stop c k) e d h = let m = rw d at h in rw (e, d) m

    bind-none : (c k : ℕ) → p l i ≡ stop c k → mapped field_words (bind p f) l i ≡ bind (then (mapped g p) q) (λ a. end (a.0, ws ++ a.1)) l i
    unfolding mapped bind follow then
    bind-none c k e = rw e

    bind-any : ((v : A) → Via end (ws ++ (g v).1) (f v) (q (g v).0)) → (a : Got A) → p l i ≡ a →
        mapped field_words (bind p f) l i ≡ bind (then (mapped g p) q) (λ a. end (a.0, ws ++ a.1)) l i
    unfolding Via
    bind-any h (got v j) e = bind_both v j (q (g v).0 l j) e refl (h v l j)
    bind-any h (stop c k) e = bind-none c k e

  via-step : (f : A → Parser TypeRow) (q : ℕ → Parser (ℕ × List ℕ)) → ((v : A) → Via end (ws ++ (g v).1) (f v) (q (g v).0)) →
      Via end ws (bind p f) (then (mapped g p) q)
  unfolding Via
  via-step f q h l i = bind-any f q l i h (p l i) refl

  last-any : (f : A → Parser TypeRow) → ((v : A) (l : List ℕ) (j : ℕ) → mapped field_words (f v) l j ≡ end ((g v).0, ws ++ (g v).1) l j) →
      (l : List ℕ) (i : ℕ) (a : Got A) → p l i ≡ a → mapped field_words (bind p f) l i ≡ bind (mapped g p) (λ a. end (a.0, ws ++ a.1)) l i
  unfolding mapped bind follow pure
  last-any f h l i (got v j) e = rw e (h v l j)
  last-any f h l i (stop c k) e = rw e

  via-last : (f : A → Parser TypeRow) → ((v : A) (l : List ℕ) (j : ℕ) → mapped field_words (f v) l j ≡ end ((g v).0, ws ++ (g v).1) l j) →
      Via end ws (bind p f) (mapped g p)
  unfolding Via
  via-last f h l i = last-any f h l i (p l i) refl

module _ (ws : List ℕ) where
  module _ (end : ℕ × List ℕ → Parser (List ℕ)) where
    -- A number before other fields ..
    pub says-one : (p : Parser ℕ) (f : ℕ → Parser TypeRow) (q : ℕ → Parser (ℕ × List ℕ)) →
        ((v : ℕ) → Via end (ws ++ (v ∷ [])) (f v) (q v)) → Via end ws (bind p f) (then (as_word p) q)
    unfolding as_word
    says-one p f q h = via-step end (λ v. (v, v ∷ [])) p ws f q h

    -- .. a list ..
    pub says-list : (k : Number) (f : List ℕ → Parser TypeRow) (q : ℕ → Parser (ℕ × List ℕ)) →
        ((vs : List ℕ) → Via end (ws ++ (length vs ∷ vs)) (f vs) (q (length vs))) →
        Via end ws (bind (counted varint_at (number_at k)) f) (then (listed k) q)
    unfolding listed
    says-list k f q h = via-step end (λ vs. (length vs, length vs ∷ vs)) (counted varint_at (number_at k)) ws f q h

-- A refusal is a row's.
pub stopped : (r : Result Spot Refused) (c k : ℕ) → spot_of r ≡ stop c k → place_of r ≡ stop c k
unfolding place_of
stopped (Ok t) c k e = absurd (stop-not-got (sym e))
stopped (Err x) c k e = cc

-- Bit 0 of the flags, as it is tested.
bit_test : (a b : ℕ) (p : Parser ℕ) (t : Bool) → t ≡ eqb a b → field_at (Bool-discrete t true) p ≡ field_at (ℕ_discrete a b) p
unfolding field_at
bit_test a b p t e =
    elim (ℕ_discrete a b) [
      | yes h ↦ choose_yes (Bool-discrete t true) _ _ (e ∙ eq-eqb a b h) ∙ sym (choose_yes (ℕ_discrete a b) _ _ h)
      | no h ↦
          choose_no (Bool-discrete t true) _ _ (λ k. let z : ◌≡◌ {A = Bool} false true = sym (ne_eqb a b h) ∙ (sym e ∙ k) in let n : ◌≡◌ {A = ℕ} 0 1 = cc in let o : ⊥ = omega arith in o) ∙
          sym (choose_no (ℕ_discrete a b) _ _ h)
    ]

pub field-if : (a b : ℕ) (p : Parser ℕ) → field_if (eqb a b) p ≡ field_at (ℕ_discrete a b) p
unfolding field_if
field-if a b p = bit_test a b p (eqb a b) refl

-- Steps one after the other, each of which may depend on the value of the one before.
pub data Steps : Type 0 where
  last : Parser (ℕ × List ℕ) → Steps
  first : Parser (ℕ × List ℕ) → (ℕ → Steps) → Steps

abbrev pub run : Steps → Parser (ℕ × List ℕ)
run (last p) = p
run (first p q) = then p (λ v. run (q v))

-- What they answer and leave.
pub record Ran (n : ℕ) (x : Steps) (l : List ℕ) (t : Spot) (s s' : List ℕ) (r : Result Spot Refused) : Type 0 where
  pub step : Step n (run x) l t s s' r

module _ {l s : List ℕ} {n : ℕ} {t : Spot} {p : Parser (ℕ × List ℕ)} where
  pub ran-last : {s' : List ℕ} {r : Result Spot Refused} → Step n p l t s s' r → Ran n (last p) l t s s' r
  ran-last x = record { step = x }

  pub ran_more : {q : ℕ → Steps} {m : ℕ} {s₁ s₂ : List ℕ} {u : Spot} {r : Result Spot Refused} → Step n p l t s s₁ (Ok u) →
      Ran m (q u.value) l u s₁ s₂ r → Ran (n + m) (first p q) l t s s₂ r
  ran_more {q} x y = record { step = step-then p (λ v. run (q v)) x y.step }

-- The rows of partition views below 13.3: the presence stands before what is read before it.
unfoldable pub old_end : ℕ × List ℕ → Parser (List ℕ)
old_end a = mapped (λ u. tags.tag_partition_view ∷ a.0 ∷ (a.1 ++ (u ∷ []))) (field_at (ℕ_discrete a.0 1) varint_at)

-- A number that is read and not put.
unfoldable pub unput : Parser ℕ → Parser (ℕ × List ℕ)
unput p = mapped (λ v. (v, [])) p

abbrev pub old_steps : Steps
old_steps = first (listed I32) (λ _. first (as_word varint_at) (λ _. first (listed I32) (λ _. last (unput (mapped truth byte)))))

old-last : (shape : List ℕ) (view : ℕ) (m : List ℕ) (presence : ℕ) (l : List ℕ) (j : ℕ) →
    (a : Got ℕ) → field_at (ℕ_discrete presence 1) varint_at l j ≡ a →
    mapped field_words (mapped (λ padding. partition_view presence shape view m padding) (field_at (ℕ_discrete presence 1) varint_at)) l j ≡
    old_end (presence, (((([] ++ (length shape ∷ shape)) ++ (view ∷ [])) ++ (length m ∷ m)) ++ [])) l j
unfolding old_end mapped bind follow pure field_words
old-last shape view m presence l j (got u k) e = rw e (ap (λ x. got (tags.tag_partition_view ∷ presence ∷ x) k) (simp (append_assoc, append-nil)))
old-last shape view m presence l j (stop c k) e = rw e

pub old-says : Via old_end [] old_partition_view_at (run old_steps)
unfolding old_partition_view_at counted_at number_at unput
old-says =
    says-list _ _ I32 _ _
    (λ shape. says-one _ _ _ _ _
    (λ view. says-list _ _ I32 _ _
    (λ m. via-last old_end (λ v. (v, [])) (mapped truth byte) _ _
    (λ presence l j. old-last shape view m presence l j (field_at (ℕ_discrete presence 1) varint_at l j) refl))))
