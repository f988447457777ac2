-- One step of copying fields after another, and what each step leaves. Assumes nothing.
use mathlib.Core.Path.{◌≡◌, refl, sym, ap, ◌∙◌, subst}
use Prim.Native.Nat.{ℕ, zero, suc, ◌+◌, ◌-◌, ◌≤◌, ◌<◌}
use native.Mathlib.Nat.{add-zero}
use native.Mathlib.Decide.{dec_le}
use native.Mathlib.Omega.{arith}
use mathlib.Core.List.{List, [], ◌∷◌, ◌++◌}
use lib.ListN.{length, length-append}
use Rattle.std.specs.Prelude.{Result, Ok, Err}
use Rattle.exact.specs.Got.{Got, got, stop, ended, follow}
use Rattle.exact.specs.Exact.{Parser}
use Rattle.exact.specs.Basic.{pure}
use Rattle.exact.specs.Sequence.{bind, mapped}
use Rattle.exact.specs.Repeat.{times, counted}
use Rattle.exact.specs.Fixed.{fixed}
use Rattle.exact.specs.Padding.{broke, blamed}
use Rattle.exact.proofs.LawsExact.{stop-not-got, got-value, got-next}
use Rattle.exact.proofs.LawsSequence.{follow-inv, bind-got, bind-stop}
use Rattle.exact.proofs.LawsSteps.{fixed-at, fixed-end}
use Rattle.reading.proofs.LawsNumbers.{varint-in}
use Rattle.reading.proofs.LawsWord.{fixed-one}
use Rattle.reading.specs.Numbers.{digits, varint_at}
use Rattle.reading.specs.Shown.{stop_of}
use Rattle.reading.specs.declared.Refused.{Refused}
use Rattle.sheet.specs.Store.{put_word, put_words}
use Rattle.sheet.proofs.LawsStore.{put_words-append}
use Rattle.payloads.specs.declared.fields.Number.{Number}
use Rattle.payloads.specs.declared.fields.Number.TheVariants.{Varint, Byte, I32, I64}
use Rattle.payloads.specs.declared.fields.Spot.{Spot}
use Rattle.payloads.specs.Fields.{number_at, as_word, listed, several, numbers, Put, Within, Step}

-- What a function of a parser's value answers.
module _ {A B : Type 0} (f : A → B) (p : Parser A) (l : List ℕ) (i : ℕ) where
  pub map-got : (v : A) (j : ℕ) → p l i ≡ got v j → mapped f p l i ≡ got (f v) j
  unfolding mapped pure
  map-got v j e = bind-got p _ l i v j (sym e)

  pub map-stop : (c k : ℕ) → p l i ≡ stop c k → mapped f p l i ≡ stop c k
  unfolding mapped
  map-stop c k e = bind-stop p _ l i c k (sym e)

-- Words that were put, ..
pub put-got : (g : Got (ℕ × List ℕ)) (w : ℕ) (s s' : List ℕ) (t : Spot) → Put g w s s' (Ok t) →
    (vs : List ℕ) × (g ≡ got (t.value, vs) t.pos) × (t.word ≡ w + length vs) × (s' ≡ put_words s w vs)
unfolding Put
put-got (got v j) w s s' t (e, h) =
    let q : t ≡ record { pos = j; word = w + length v.1; value = v.0 } = cc e in
    (v.1, rw q refl, ap (λ t. t.word) q, h)
put-got (stop c k) w s s' t e = absurd (stop-not-got (sym e))

-- .. and a refusal.
refused_as : {A B : Type 0} {c d k m : ℕ} → ◌≡◌ {A = Got A} (stop c k) (stop d m) → ◌≡◌ {A = Got B} (stop d m) (stop c k)
refused_as e = cc

ok-not-err : {A E : Type 0} {a : A} {x : E} → ◌≡◌ {A = Result A E} (Err x) (Ok a) → ⊥
ok-not-err e = let n : ◌≡◌ {A = ℕ} 0 1 = cc in omega arith

pub put-err : (g : Got (ℕ × List ℕ)) (w : ℕ) (s s' : List ℕ) (x : Refused) → Put g w s s' (Err x) → g ≡ stop_of x
unfolding Put
put-err (got v j) w s s' x (e, h) = absurd (ok-not-err e)
put-err (stop c k) w s s' x e = refused_as e

pub put-stop : (g : Got (ℕ × List ℕ)) (w : ℕ) (s s' : List ℕ) (x : Refused) → g ≡ stop_of x → Put g w s s' (Err x)
unfolding Put
put-stop g w s s' x e = subst (λ g. Put g w s s' (Err x)) (sym e) refl

-- One step after another, which may depend on the value of the first.
unfoldable pub then : Parser (ℕ × List ℕ) → (ℕ → Parser (ℕ × List ℕ)) → Parser (ℕ × List ℕ)
then p q = bind p (λ a. mapped (λ b. (b.0, a.1 ++ b.1)) (q a.0))

-- As many words as bytes, and some more, behind as many.
pub within-then : (l : List ℕ) (n m i w : ℕ) (u : Spot) (r : Result Spot Refused) → u.word + i ≤ w + u.pos + n →
    Within l u.pos u.word m r → Within l i w (n + m) r
within-then l n m i w u (Ok t) h x = (x.0, omega (arith, x.1))
within-then l n m i w u (Err y) h x = x

pub within-most : (l : List ℕ) (i w n m : ℕ) (r : Result Spot Refused) → n ≤ m → Within l i w n r → Within l i w m r
within-most l i w n m (Ok t) h x = (x.0, omega (arith, x.1))
within-most l i w n m (Err y) h x = x

module _ (p : Parser (ℕ × List ℕ)) (q : ℕ → Parser (ℕ × List ℕ)) (l s : List ℕ) (t : Spot) where
  module _ (s₁ s₂ : List ℕ) (u : Spot) (r : Result Spot Refused) (vs : List ℕ) (a : p l t.pos ≡ got (u.value, vs) u.pos)
      (b : u.word ≡ t.word + length vs) (h : s₁ ≡ put_words s t.word vs) where
    put-then : (g : Got (ℕ × List ℕ)) → q u.value l u.pos ≡ g → Put g u.word s₁ s₂ r → Put (then p q l t.pos) t.word s s₂ r
    unfolding Put then
    put-then (got v k) f (x, y) =
        let m : then p q l t.pos ≡ got (v.0, vs ++ v.1) k =
        bind-got p _ l t.pos (u.value, vs) u.pos (sym a) ∙ map-got (λ b. (b.0, vs ++ b.1)) (q u.value) l u.pos v k f in
        let e : t.word + length vs + length v.1 ≡ t.word + length (vs ++ v.1) = omega (arith, length-append vs v.1) in
        let z = rw b at x in
        let o = rw (b, h) at y in
        subst (λ g. Put g t.word s s₂ r) (sym m) (rw e at z, o ∙ sym (put_words-append vs v.1 s t.word))
    put-then (stop c k) f x =
        let m : then p q l t.pos ≡ stop c k =
        bind-got p _ l t.pos (u.value, vs) u.pos (sym a) ∙ map-stop (λ b. (b.0, vs ++ b.1)) (q u.value) l u.pos c k f in
        subst (λ g. Put g t.word s s₂ r) (sym m) x

  -- What two steps put is put by one ..
  pub puts-then : (s₁ s₂ : List ℕ) (u : Spot) (r : Result Spot Refused) → Put (p l t.pos) t.word s s₁ (Ok u) →
      Put (q u.value l u.pos) u.word s₁ s₂ r → Put (then p q l t.pos) t.word s s₂ r
  puts-then s₁ s₂ u r x y =
      let (vs, a, b, h) = put-got (p l t.pos) t.word s s₁ u x in
      put-then s₁ s₂ u r vs a b h (q u.value l u.pos) refl y

  -- .. and where the first is refused, both are.
  pub puts-stop : (s₁ s₂ : List ℕ) (x : Refused) → Put (p l t.pos) t.word s s₁ (Err x) → Put (then p q l t.pos) t.word s s₂ (Err x)
  unfolding then
  puts-stop s₁ s₂ x y = put-stop _ t.word s s₂ x (bind-stop p _ l t.pos _ x.at (sym (put-err (p l t.pos) t.word s s₁ x y)))

module _ (p : Parser (ℕ × List ℕ)) (q : ℕ → Parser (ℕ × List ℕ)) {l s : List ℕ} {n : ℕ} {t : Spot} where
  -- Two steps are one ..
  pub step-then : {m : ℕ} {s₁ s₂ : List ℕ} {u : Spot} {r : Result Spot Refused} → Step n p l t s s₁ (Ok u) →
      Step m (q u.value) l u s₁ s₂ r → Step (n + m) (then p q) l t s s₂ r
  step-then {m} {s₁} {s₂} {u} {r} x y =
      record {
        put = puts-then p q l s t s₁ s₂ u r x.put y.put;
        within = within-then l n m t.pos t.word u r x.within.1 y.within;
      }

  -- .. and where the first is refused, both are.
  pub step-stop : {s₁ s₂ : List ℕ} {x : Refused} → Step n p l t s s₁ (Err x) → Step n (then p q) l t s s₂ (Err x)
  step-stop {s₁} {s₂} {x} y = record { put = puts-stop p q l s t s₁ s₂ x y.put; within = y.within }

-- The value to go on with.
abbrev pub value_of : Result Spot Refused → ℕ
value_of (Ok t) = t.value
value_of (Err x) = 0

-- What a step puts from where the step before it has ended: a refusal is handed out ..
abbrev pub Copied : Parser (ℕ × List ℕ) → List ℕ → Result Spot Refused → List ℕ → List ℕ → Result Spot Refused → Type 0
Copied p l (Ok t) s s' r = Put (p l t.pos) t.word s s' r
Copied p l (Err x) s s' r = r ≡ Err x

module _ (p : Parser (ℕ × List ℕ)) (q : ℕ → Parser (ℕ × List ℕ)) (l s s₁ s₂ : List ℕ) (t : Spot) where
  pub copied-then : (r₁ r : Result Spot Refused) → Put (p l t.pos) t.word s s₁ r₁ → Copied (q (value_of r₁)) l r₁ s₁ s₂ r →
      Put (then p q l t.pos) t.word s s₂ r
  copied-then (Ok u) r x y = puts-then p q l s t s₁ s₂ u r x y
  copied-then (Err z) r x y = subst (Put (then p q l t.pos) t.word s s₂) (sym y) (puts-stop p q l s t s₁ s₂ z x)

-- .. and the step itself.
abbrev pub Next : ℕ → Parser (ℕ × List ℕ) → List ℕ → Result Spot Refused → List ℕ → List ℕ → Result Spot Refused → Type 0
Next n p l (Ok t) s s' r = Step n p l t s s' r
Next n p l (Err x) s s' r = r ≡ Err x

-- A step by a parser that answers the same.
pub step-same : {n : ℕ} (p q : Parser (ℕ × List ℕ)) {l s s' : List ℕ} {t : Spot} {r : Result Spot Refused} → p l t.pos ≡ q l t.pos →
    Step n p l t s s' r → Step n q l t s s' r
step-same p q {s = s} {s' = s'} {t = t} {r = r} e x =
    record { put = subst (λ g. Put g t.word s s' r) e x.put; within = x.within }

-- A number that was read takes a byte at least, and ends inside.
fixed_in : (w : ℕ) (l : List ℕ) (i v j : ℕ) → 0 < w → got v j ≡ fixed w l i → (i < j) × (j ≤ length l)
fixed_in w l i v j h e =
    elim (dec_le w (length l - i)) [
      | yes m ↦ let n : j ≡ i + w = got-next (e ∙ fixed-at w l i m) in (omega arith, omega arith)
      | no m ↦ absurd (stop-not-got (sym (fixed-end w l i (omega arith)) ∙ sym e))
    ]

pub number_in : (k : Number) (l : List ℕ) (i v j : ℕ) → got v j ≡ number_at k l i → (i < j) × (j ≤ length l)
unfolding number_at
number_in Varint l i v j e = varint-in l i v j e
number_in Byte l i v j e = fixed_in 1 l i v j (omega arith) (e ∙ fixed-one l i)
number_in I32 l i v j e = fixed_in 4 l i v j (omega arith) e
number_in I64 l i v j e = fixed_in 8 l i v j (omega arith) e

-- A number is refused where it begins.
varint-stop : (l : List ℕ) (i c m : ℕ) (g : Got ℕ) → broke g i ≡ stop c m → m ≡ i
unfolding broke
varint-stop l i c m (got v j) e = absurd (stop-not-got (sym e))
varint-stop l i c m (stop d k) e = cc

fixed-stop : (w : ℕ) (l : List ℕ) (i c m : ℕ) → fixed w l i ≡ stop c m → m ≡ i
fixed-stop w l i c m e =
    elim (dec_le w (length l - i)) [
      | yes h ↦ absurd (stop-not-got (sym e ∙ fixed-at w l i h))
      | no h ↦ let f : ◌≡◌ {A = Got ℕ} (stop c m) (stop ended i) = sym e ∙ fixed-end w l i (omega arith) in cc
    ]

pub number-stop : (k : Number) (l : List ℕ) (i c m : ℕ) → number_at k l i ≡ stop c m → m ≡ i
unfolding number_at varint_at blamed
number-stop Varint l i c m e = varint-stop l i c m (digits 9 l i) e
number-stop Byte l i c m e = fixed-stop 1 l i c m (sym (fixed-one l i) ∙ e)
number-stop I32 l i c m e = fixed-stop 4 l i c m e
number-stop I64 l i c m e = fixed-stop 8 l i c m e

-- One number was put, ..
module _ (p : Parser ℕ) (l s s' : List ℕ) (at : Spot) where
  one-put : (v j : ℕ) (t : Spot) → got v j ≡ p l at.pos → s' ≡ put_word s at.word v →
      t ≡ record { pos = j; word = at.word + 1; value = v } → Put (as_word p l at.pos) at.word s s' (Ok t)
  unfolding put_words Put as_word
  one-put v j t g h q =
      let m : as_word p l at.pos ≡ got (v, v ∷ []) j = map-got (λ v. (v, v ∷ [])) p l at.pos v j (sym g) in
      subst (λ g. Put g at.word s s' (Ok t)) (sym m) (ap Ok q, h)

-- .. or it was refused.
module _ (k : Number) (l s s' : List ℕ) (at : Spot) where
  pub one-there : (v j : ℕ) (t : Spot) → got v j ≡ number_at k l at.pos → s' ≡ put_word s at.word v →
      t ≡ record { pos = j; word = at.word + 1; value = v } → Step 1 (as_word (number_at k)) l at s s' (Ok t)
  one-there v j t g h q =
      let b = ap (λ t. t.pos) q in
      let c = ap (λ t. t.word) q in
      let m = number_in k l at.pos v j g in
      record { put = one-put (number_at k) l s s' at v j t g h q; within = (omega (arith, m.1), omega (arith, m.0)) }

  pub one-stop : (x : Refused) → at.pos ≤ length l → stop_of x ≡ number_at k l at.pos →
      Step 1 (as_word (number_at k)) l at s s' (Err x)
  unfolding as_word
  one-stop x h g =
      record {
        put = put-stop _ at.word s s' x (map-stop (λ v. (v, v ∷ [])) (number_at k) l at.pos _ x.at (sym g));
        within = omega (arith, number-stop k l at.pos _ x.at (sym g));
      }

-- A step that was answered.
bind_inv : {A B : Type 0} (p : Parser A) (f : A → Parser B) (l : List ℕ) (i : ℕ) (w : B) (j : ℕ) → bind p f l i ≡ got w j →
    (v : A) × (k : ℕ) × (p l i ≡ got v k) × (f v l k ≡ got w j)
unfolding bind
bind_inv p f l i w j e = follow-inv (p l i) (λ v k. f v l k) w j e

-- n values are n.
pub times-length : {A : Type 0} (n : ℕ) (p : Parser A) (l : List ℕ) (i : ℕ) (vs : List A) (j : ℕ) → times n p l i ≡ got vs j →
    length vs ≡ n
unfolding times pure mapped
times-length zero p l i vs j e = ap length (sym (got-value e))
times-length (suc n) p l i vs j e =
    let (v, k, a, b) = bind_inv p _ l i vs j e in
    let (us, m, x, y) = bind_inv (times n p) _ l k vs j b in
    sym (ap length (got-value y)) ∙ ap suc (times-length n p l k us m x)

-- How a loop over numbers goes on from a spot where n of them are left: none are ..
module _ (m : ℕ) (k : Number) (l s : List ℕ) (t : Spot) (low : t.pos ≤ length l) where
  pub numbers-done : (n : ℕ) (s' : List ℕ) (u : Spot) → n ≤ 0 → s' ≡ s → u ≡ record { pos = t.pos; word = t.word; value = m } →
      Step 0 (numbers m n k) l t s s' (Ok u)
  unfolding numbers several times Put put_words mapped bind follow pure
  numbers-done zero s' u h e q =
      let a = ap (λ t. t.pos) q in
      let b = ap (λ t. t.word) q in
      record { put = (ap Ok q ∙ rw add-zero refl, e); within = (omega arith, omega arith) }
  numbers-done (suc n) s' u h e q = let z : ⊥ = omega arith in absurd z

  -- .. the next one is refused ..
  pub numbers-stop : (n r : ℕ) (s' : List ℕ) (x : Refused) → n ≡ suc r → stop_of x ≡ number_at k l t.pos →
      Step 0 (numbers m n k) l t s s' (Err x)
  unfolding numbers several times mapped bind follow
  numbers-stop n r s' x more e =
      record {
        put = put-stop _ t.word s s' x (rw (more, ← e) refl);
        within = omega (arith, number-stop k l t.pos _ x.at (sym e));
      }

module _ (m : ℕ) (k : Number) (l s s₁ s' : List ℕ) (r : Result Spot Refused) where
  next-any : (n i w v j : ℕ) (g : Got (List ℕ)) → number_at k l i ≡ got v j → s₁ ≡ put_word s w v →
      times n (number_at k) l j ≡ g → Put (numbers m n k l j) (w + 1) s₁ s' r → Put (numbers m (suc n) k l i) w s s' r
  unfolding numbers several times Put mapped bind follow pure put_words
  next-any n i w v j (got vs e) a h f x =
      let q : w + 1 + length vs ≡ w + suc (length vs) = omega arith in
      let (y, z) = rw f at x in
      rw (a, f) (rw q at y, z ∙ ap (λ t. put_words t (w + 1) vs) h)
  next-any n i w v j (stop c e) a h f x = let y = rw f at x in rw (a, f) y

  -- .. or it was put.
  pub numbers_more : (n b v j z : ℕ) (t u : Spot) → n ≡ suc b → got v j ≡ number_at k l t.pos → s₁ ≡ put_word s t.word v →
      u ≡ record { pos = j; word = t.word + 1; value = z } → Step 0 (numbers m b k) l u s₁ s' r → Step 0 (numbers m n k) l t s s' r
  numbers_more n b v j z t u more e h q x =
      let a = ap (λ u. u.pos) q in
      let c = ap (λ u. u.word) q in
      let y = rw (a, c) at x.put in
      record {
        put = rw more (next-any b t.pos t.word v j (times b (number_at k) l j) (sym e) h refl y);
        within = within-then l 0 0 t.pos t.word u r (omega (arith, number_in k l t.pos v j e)) x.within;
      }

-- A counted list is its count, and then as many numbers.
module _ (k : Number) (l : List ℕ) (i : ℕ) where
  list-rest : (n j : ℕ) → varint_at l i ≡ got n j → (g : Got (List ℕ)) → times n (number_at k) l j ≡ g →
      then (as_word varint_at) (λ n. numbers n n k) l i ≡ listed k l i
  unfolding then as_word numbers several listed counted mapped bind follow pure
  list-rest n j e (got vs m) f =
      let q : length vs ≡ n = times-length n (number_at k) l j vs m f in
      rw (e, f, q)
  list-rest n j e (stop c m) f = rw (e, f)

  list_count : (g : Got ℕ) → varint_at l i ≡ g → then (as_word varint_at) (λ n. numbers n n k) l i ≡ listed k l i
  unfolding then as_word listed counted mapped bind follow
  list_count (got n j) e = list-rest n j e (times n (number_at k) l j) refl
  list_count (stop c m) e = rw e

  pub list_same : then (as_word varint_at) (λ n. numbers n n k) l i ≡ listed k l i
  list_same = list_count (varint_at l i) refl

-- A count and then as many numbers are a list.
pub list-then : (k : Number) {n m : ℕ} {l s s₁ s' : List ℕ} {t u : Spot} {r : Result Spot Refused} → Step n (as_word varint_at) l t s s₁ (Ok u) →
    Step m (numbers u.value u.value k) l u s₁ s' r → Step (n + m) (listed k) l t s s' r
list-then k {l = l} {t = t} x y =
    step-same (then (as_word varint_at) (λ n. numbers n n k)) (listed k) (list_same k l t.pos)
    (step-then (as_word varint_at) (λ n. numbers n n k) x y)
