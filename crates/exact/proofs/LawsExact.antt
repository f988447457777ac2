-- What exactness gives: reading is reading as the language says, and at one place there is at most one value.
-- Assumes nothing.
use mathlib.Core.Path.{◌≡◌, refl, sym, ap, ◌∙◌, subst₂}
use mathlib.Core.Logic.{◌↔◌}
use Prim.Native.Nat.{ℕ, ◌+◌}
use native.Mathlib.Omega.{arith}
use mathlib.Core.List.{List, ◌++◌}
use lib.ListN.{length, take, drop}
use lib.Seq.{drop-drop, drop-append_seam, take_at}
use Rattle.exact.specs.Got.{Got, got, stop}
use Rattle.exact.specs.Exact.{Parser, Lang, Reads, Exact, Ends}

-- After the bytes comes the rest.
pub drop_past : (l : List ℕ) (i : ℕ) (bs rest : List ℕ) → drop i l ≡ bs ++ rest → drop (i + length bs) l ≡ rest
drop_past l i bs rest e = sym (drop-drop (length bs) i l) ∙ ap (drop (length bs)) e ∙ drop-append_seam bs rest

-- A refusal is no value.
pub stop-not-got : {A : Type 0} {c k : ℕ} {v : A} {j : ℕ} → stop c k ≡ got v j → ⊥
stop-not-got e = let z : ◌≡◌ {A = ℕ} 0 1 = cc in omega arith

-- Equal answers have equal values.
pub got-value : {A : Type 0} {v w : A} {j k : ℕ} → got v j ≡ got w k → v ≡ w
got-value e = cc

-- Equal answers have equal next places.
pub got-next : {A : Type 0} {v w : A} {j k : ℕ} → got v j ≡ got w k → j ≡ k
got-next e = cc

-- Equal refusals name equal places.
pub stop-place : {A : Type 0} {c d k m : ℕ} → ◌≡◌ {A = Got A} (stop c k) (stop d m) → k ≡ m
stop-place e = cc

-- What was read stays so under an equal answer.
pub reads_as : {A : Type 0} {R : Lang A} {l : List ℕ} {i : ℕ} {v w : A} {j k : ℕ} → Reads R l i v j →
    got v j ≡ got w k → Reads R l i w k
reads_as {R = R} {l} {i} r e = subst₂ (λ v j. Reads R l i v j) (got-value e) (got-next e) r

module _ {A : Type 0} {p : Parser A} {R : Lang A} (x : Exact p R) where
  -- Both directions in one.
  pub exact-iff : (l : List ℕ) (i : ℕ) (v : A) (j : ℕ) → (p l i ≡ got v j) ↔ Reads R l i v j
  exact-iff l i v j =
      (x.sound l i v j, λ r. x.complete l i r.bytes (drop j l) v r.spelt r.there ∙ ap (got v) (sym r.next))

  -- At one place there is at most one value ..
  pub unique : (l : List ℕ) (i : ℕ) (bs cs r s : List ℕ) (v w : A) → R i bs v → R i cs w → drop i l ≡ bs ++ r →
      drop i l ≡ cs ++ s → v ≡ w
  unique l i bs cs r s v w a b e f = got-value (sym (x.complete l i bs r v a e) ∙ x.complete l i cs s w b f)

  -- .. and at most one spelling that the place has room for.
  pub unique-bytes : (l : List ℕ) (i : ℕ) (bs cs r s : List ℕ) (v w : A) → R i bs v → R i cs w → drop i l ≡ bs ++ r →
      drop i l ≡ cs ++ s → bs ≡ cs
  unique-bytes l i bs cs r s v w a b e f =
      let n : length bs ≡ length cs = omega (arith, got-next (sym (x.complete l i bs r v a e) ∙ x.complete l i cs s w b f)) in
      sym (take_at bs r (length bs) refl) ∙ ap (take (length bs)) (sym e ∙ f) ∙ take_at cs s (length bs) (sym n)

  -- A parser refuses where nothing of the language stands ..
  pub refuses : (l : List ℕ) (i : ℕ) → ((v : A) (j : ℕ) → Reads R l i v j → ⊥) → (c : ℕ) × (k : ℕ) × (p l i ≡ stop c k)
  refuses l i h = go (p l i) refl
    where
      go : (g : Got A) → p l i ≡ g → (c : ℕ) × (k : ℕ) × (p l i ≡ stop c k)
      go (got v j) e = absurd (h v j (x.sound l i v j e))
      go (stop c k) e = (c, k, e)

  -- .. and nowhere else.
  pub refused : (l : List ℕ) (i c k : ℕ) → p l i ≡ stop c k → (v : A) (j : ℕ) → Reads R l i v j → ⊥
  refused l i c k e v j r = stop-not-got (sym e ∙ (exact-iff l i v j).1 r)

-- A parser is exact for every language that says the same.
pub same-exact : {A : Type 0} {p : Parser A} {R S : Lang A} → Exact p R →
    ((i : ℕ) (bs : List ℕ) (v : A) → R i bs v ↔ S i bs v) → Exact p S
same-exact x h =
    record {
      sound = λ l i v j e. let r = x.sound l i v j e in
          record { bytes = r.bytes; spelt = (h i r.bytes v).0 r.spelt; there = r.there; next = r.next };
      complete = λ l i bs rest v s d. x.complete l i bs rest v ((h i bs v).1 s) d;
    }

-- The same of parsers that take all that is left.
pub same_ends : {A : Type 0} {p : Parser A} {R S : Lang A} → Ends p R →
    ((i : ℕ) (bs : List ℕ) (v : A) → R i bs v ↔ S i bs v) → Ends p S
same_ends x h =
    record {
      sound = λ l i v j e. let r = x.sound l i v j e in ((h i (drop i l) v).0 r.0, r.1);
      complete = λ l i v s. x.complete l i v ((h i (drop i l) v).1 s);
    }

-- A payload read from its start to its end.
pub ends-whole : {A : Type 0} {p : Parser A} {R : Lang A} → Ends p R → (l : List ℕ) (v : A) →
    (p l 0 ≡ got v (length l)) ↔ R 0 l v
ends-whole x l v = (λ e. (x.sound l 0 v (length l) e).0, x.complete l 0 v)
