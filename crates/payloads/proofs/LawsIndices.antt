-- Lists of varints that are copied some numbers at a time: some and then the rest are all of them; a varint of one byte
-- or two; and blocks of them. Assumes nothing.
use Rattle.std.specs.Prelude.{Result, Ok, Err}
use mathlib.Core.Path.{◌≡◌, refl, sym, ap, ◌∙◌, subst}
use Prim.Native.Nat.{ℕ, zero, suc, ◌+◌, ◌-◌, ◌*◌, ◌/◌, ◌%◌, ◌≤◌, ◌<◌}
use native.Mathlib.Decide.{ℕ_discrete}
use native.Mathlib.Nat.{add-mul, zero-mul, suc-mul}
use native.Mathlib.Omega.{arith}
use mathlib.Core.List.{List, [], ◌∷◌, ◌++◌}
use lib.ListN.{length, get_or}
use Rattle.exact.specs.Got.{Got, got, stop, follow}
use Rattle.exact.specs.Exact.{Parser}
use Rattle.exact.specs.Basic.{pure}
use Rattle.exact.specs.Sequence.{bind, mapped}
use Rattle.exact.specs.Repeat.{times}
use Rattle.exact.specs.Fixed.{bytes_of}
use Rattle.exact.proofs.LawsExact.{stop-not-got}
use Rattle.exact.proofs.LawsFixed.{length-bytes_of}
use Rattle.encoding.proofs.LawsOut.{put_full}
use Rattle.reading.specs.Numbers.{varint_at, Word, Begins}
use Rattle.reading.proofs.LawsWord.{byte_word}
use Rattle.reading.proofs.LawsDigits.{varint-one, loop-second, loop-last}
use Rattle.sheet.specs.Store.{put_word}
use Rattle.reading.specs.declared.Refused.{Refused}
use Rattle.payloads.specs.declared.fields.Number.{Number}
use Rattle.payloads.specs.declared.fields.Number.TheVariants.{Varint}
use Rattle.payloads.specs.declared.fields.Spot.{Spot}
use Rattle.payloads.specs.Fields.{number_at, several, numbers, Put, Within, Step}
use Rattle.payloads.specs.Indices.{tops, Spans, Even}
use Rattle.payloads.proofs.LawsFields.{Copied, Next, then, copied-then, within-then, numbers-done, numbers_more}

-- a values and then b more are a + b.
module _ {A : Type 0} (p : Parser A) (l : List ℕ) where
  -- What some values and b more behind them are.
  abbrev both : ℕ → Got (List A) → Got (List A)
  both b g = follow g (λ us j. follow (times b p l j) (λ vs k. got (us ++ vs) k))

  cons-behind : (v : A) (us : List A) (h : Got (List A)) →
      follow h (λ vs k. got (v ∷ (us ++ vs)) k) ≡ follow (follow h (λ vs k. got (us ++ vs) k)) (λ vs k. got (v ∷ vs) k)
  unfolding follow
  cons-behind v us (got vs k) = refl
  cons-behind v us (stop c k) = refl

  cons-both : (b : ℕ) (v : A) (g : Got (List A)) →
      both b (follow g (λ us j. got (v ∷ us) j)) ≡ follow (both b g) (λ vs k. got (v ∷ vs) k)
  unfolding follow
  cons-both b v (got us j) = cons-behind v us (times b p l j)
  cons-both b v (stop c k) = refl

  none_both : (g : Got (List A)) → g ≡ follow g (λ vs k. got ([] ++ vs) k)
  unfolding follow
  none_both (got vs k) = refl
  none_both (stop c k) = refl

  add-first : (a b i : ℕ) (g : Got A) → p l i ≡ g → ((j : ℕ) → times (a + b) p l j ≡ both b (times a p l j)) →
      times (suc (a + b)) p l i ≡ both b (times (suc a) p l i)
  unfolding times bind mapped pure follow
  add-first a b i (got v j) e h = rw (e, h j) (sym (cons-both b v (times a p l j)))
  add-first a b i (stop c k) e h = rw e

  times-add : (a b i : ℕ) → times (a + b) p l i ≡ both b (times a p l i)
  unfolding times pure follow
  times-add zero b i = let e : zero + b ≡ b = omega arith in rw e (none_both (times b p l i))
  times-add (suc a) b i =
      let e : suc a + b ≡ suc (a + b) = omega arith in
      rw e (add-first a b i (p l i) refl (times-add a b))

-- Some numbers, and then the rest, are all of them.
module _ (k : Number) (l : List ℕ) where
  rest-last : (m b j : ℕ) (us : List ℕ) (h : Got (List ℕ)) → times b (number_at k) l j ≡ h →
      mapped {B = ℕ × List ℕ} (λ v. (v.0, us ++ v.1)) (numbers m b k) l j ≡ follow (follow h (λ vs k. got (us ++ vs) k)) (λ vs k. got (m, vs) k)
  unfolding numbers several mapped bind follow pure
  rest-last m b j us (got vs e) f = rw f
  rest-last m b j us (stop d e) f = rw f

  rest-first : (m c a b i : ℕ) (g : Got (List ℕ)) → times a (number_at k) l i ≡ g →
      then (numbers c a k) (λ _. numbers m b k) l i ≡ follow (both (number_at k) l b g) (λ vs k. got (m, vs) k)
  unfolding then numbers several mapped bind follow pure
  rest-first m c a b i (got us j) e = rw e (rest-last m b j us (times b (number_at k) l j) refl)
  rest-first m c a b i (stop d j) e = rw e

  rest-same : (m c a b i : ℕ) → then (numbers c a k) (λ _. numbers m b k) l i ≡ numbers m (a + b) k l i
  unfolding numbers several mapped bind pure
  rest-same m c a b i =
      rest-first m c a b i (times a (number_at k) l i) refl ∙ ap (λ g. follow g (λ vs k. got (m, vs) k)) (sym (times-add (number_at k) l a b i))

  -- Whatever copying the rest leaves, copying them all leaves it ..
  pub numbers-rest : (m n left i w : ℕ) (s s₁ s' : List ℕ) (r₁ r : Result Spot Refused) → n ≤ left →
      Put (numbers n n k l i) w s s₁ r₁ → Copied (numbers m (left - n) k) l r₁ s₁ s' r → Put (numbers m left k l i) w s s' r
  numbers-rest m n left i w s s₁ s' r₁ r h x y =
      let e : n + (left - n) ≡ left = omega arith in
      let t : Spot = record { pos = i; word = w; value = 0 } in
      subst (λ n. Put (numbers m n k l i) w s s' r) e
      (subst (λ g. Put g w s s' r) (rest-same m n n (left - n) i)
      (copied-then (numbers n n k) (λ _. numbers m (left - n) k) l s s₁ s' t r₁ r x y))

-- .. and so the step does.
pub steps-rest : (k : Number) (m n left : ℕ) (l s s₁ s' : List ℕ) (t : Spot) (r₁ r : Result Spot Refused) → n ≤ left →
    Step 0 (numbers n n k) l t s s₁ r₁ → Next 0 (numbers m (left - n) k) l r₁ s₁ s' r → Step 0 (numbers m left k) l t s s' r
steps-rest k m n left l s s₁ s' t (Ok u) r h x y =
    record {
      put = numbers-rest k l m n left t.pos t.word s s₁ s' (Ok u) r h x.put y.put;
      within = within-then l 0 0 t.pos t.word u r x.within.1 y.within;
    }
steps-rest k m n left l s s₁ s' t (Err z) r h x y =
    record {
      put = numbers-rest k l m n left t.pos t.word s s₁ s' (Err z) r h x.put y;
      within = subst (Within l t.pos t.word 0) (sym y) x.within;
    }

-- How many numbers were copied is the answer's value.
value-told : (n w : ℕ) (s s' : List ℕ) (t : Spot) (g : Got (List ℕ)) → Put (follow g (λ vs j. got (n, vs) j)) w s s' (Ok t) → t.value ≡ n
unfolding Put follow
value-told n w s s' t (got vs j) x =
    let e : t ≡ record { pos = j; word = w + length vs; value = n } = cc x.0 in
    ap (λ t. t.value) e
value-told n w s s' t (stop c j) x = absurd (stop-not-got (sym x))

module _ (k : Number) {l s s₁ : List ℕ} {n : ℕ} {t : Spot} where
  pub some-value : {u : Spot} → Step 0 (numbers n n k) l t s s₁ (Ok u) → u.value ≡ n
  unfolding numbers several mapped bind pure
  some-value {u} x = value-told n t.word s s₁ u (times n (number_at k) l t.pos) x.put

  -- The rest are copied behind them ..
  pub some-got : {u : Spot} (m left : ℕ) (s' : List ℕ) (r : Result Spot Refused) → Step 0 (numbers n n k) l t s s₁ (Ok u) → n ≤ left →
      Step 0 (numbers m (left - u.value) k) l u s₁ s' r → Step 0 (numbers m left k) l t s s' r
  some-got {u} m left s' r x h y =
      steps-rest k m n left l s s₁ s' t (Ok u) r h x
      (subst (λ v. Step 0 (numbers m (left - v) k) l u s₁ s' r) (some-value x) y)

  -- .. or one of them was refused.
  pub some-stop : {y : Refused} (m left : ℕ) (s' : List ℕ) → Step 0 (numbers n n k) l t s s₁ (Err y) → n ≤ left →
      Step 0 (numbers m left k) l t s s' (Err y)
  some-stop {y} m left s' x h = steps-rest k m n left l s s₁ s' t (Err y) (Err y) h x refl

-- They were all of them.
pub some-all : (k : Number) (n m : ℕ) {l s s₁ : List ℕ} {t u : Spot} → Step 0 (numbers n n k) l t s s₁ (Ok u) →
    Step 0 (numbers m n k) l t s s₁ (Ok record { pos = u.pos; word = u.word; value = m })
some-all k n m {l} {s₁ = s₁} {u = u} x =
    some-got k m n s₁ (Ok record { pos = u.pos; word = u.word; value = m }) x (omega arith)
    (numbers-done m k l s₁ u x.within.0 (n - u.value) s₁ _ (omega (arith, some-value k x)) refl refl)

-- A varint of one byte is that byte ..
module _ (width : ℕ) (l : List ℕ) (i : ℕ) (x : Spans width l i) where
  pub spans-one : width ≡ 1 → varint_at l i ≡ got (get_or l i 0) (i + width)
  spans-one e =
      let h : i < length l = omega (arith, x.inside) in
      let p : i + width - 1 ≡ i = omega arith in
      let b : get_or l i 0 < 128 = omega (arith, subst (λ j. get_or l j 0 / 128 ≡ 0) p x.last) in
      let w : Word 1 l i (get_or l i 0) = record { value = sym (byte_word l i h); fits = omega arith } in
      rw e (sym (varint-one l i (get_or l i 0) h w b))

  -- .. and one of two bytes has its low bits in the first.
  pub spans-two : ¬ (width ≡ 1) → varint_at l i ≡ got (get_or l i 0 % 128 + 128 * get_or l (i + 1) 0) (i + width)
  spans-two n =
      let e : width ≡ 2 = omega (arith, x.some, x.few) in
      let h : i < length l = omega (arith, x.inside) in
      let k : i + 1 < length l = omega (arith, x.inside) in
      let p : i + width - 1 ≡ i + 1 = omega arith in
      let q : i + width ≡ i + 1 + 1 = omega arith in
      let a = x.more (omega arith) in
      let b : get_or l (i + 1) 0 < 128 = omega (arith, subst (λ j. get_or l j 0 / 128 ≡ 0) p x.last) in
      let u : Word 1 l i (get_or l i 0) = record { value = sym (byte_word l i h); fits = omega arith } in
      let v : Word 1 l (i + 1) (get_or l (i + 1) 0) = record { value = sym (byte_word l (i + 1) k); fits = omega arith } in
      let g : Begins l i (get_or l i 0) = record { inside = h; first = u; more = omega arith } in
      rw q (sym (loop-last l i (i + 1) (get_or l i 0 % 128) 128 (loop-second l i (get_or l i 0) g) (omega arith) k (get_or l (i + 1) 0) v b))

  -- There is one either way.
  spans-some : (v : ℕ) × (varint_at l i ≡ got v (i + width))
  spans-some = elim (ℕ_discrete width 1) [ yes e ↦ (_, spans-one e) | no n ↦ (_, spans-two n) ]

-- The first of some varints of one width, and those behind it.
module _ (width n : ℕ) (l : List ℕ) (i : ℕ) (some : 0 < n) (x : Even width n l i) where
  pub even-first : Spans width l i
  even-first = let e : i + 0 * width ≡ i = omega arith in subst (Spans width l) e (x 0 some)

  pub even-next : Even width (n - 1) l (i + width)
  even-next k h =
      let e : i + (k + 1) * width ≡ i + width + k * width = omega (arith, add-mul k 1 width) in
      subst (Spans width l) e (x (k + 1) (omega arith))

-- A store that has no word i stays as it was.
word_none : (s : List ℕ) (i v : ℕ) → length s / 8 ≤ i → s ≡ put_word s i v
unfolding put_word
word_none s i v h = sym (put_full s (i * 8) (bytes_of 8 v) (omega (arith, length-bytes_of 8 v)))

-- The spot behind n varints of one width.
abbrev pub behind : ℕ → Spot → ℕ → Spot
behind width t n = record { pos = t.pos + n * width; word = t.word + n; value = t.value }

-- One more of them was put ..
module _ (width m : ℕ) (l : List ℕ) (t : Spot) where
  pub even-more : (n i b v : ℕ) (s s₁ s' : List ℕ) (r : Result Spot Refused) → n ≡ suc b → varint_at l (t.pos + i * width) ≡ got v (t.pos + i * width + width) →
      s₁ ≡ put_word s (t.word + i) v → Step 0 (numbers m b Varint) l (behind width t (i + 1)) s₁ s' r →
      Step 0 (numbers m n Varint) l (behind width t i) s s' r
  unfolding number_at
  even-more n i b v s s₁ s' r more e h x =
      let p : t.pos + (i + 1) * width ≡ t.pos + i * width + width = omega (arith, add-mul i 1 width) in
      let q : t.word + (i + 1) ≡ t.word + i + 1 = omega arith in
      numbers_more m Varint l s s₁ s' r n b v _ t.value (behind width t i) (behind width t (i + 1)) more (sym e) h (rw (p, q) refl) x

  -- .. or none is left.
  pub even-done : (n i k : ℕ) (s s' : List ℕ) → n ≤ 0 → i ≡ k → s' ≡ s → t.pos + k * width ≤ length l →
      Step 0 (numbers m n Varint) l (behind width t i) s s' (Ok record { pos = t.pos + k * width; word = t.word + k; value = m })
  even-done n i k s s' h e q low =
      rw (← e) (numbers-done m Varint l s (behind width t i) (rw (← e) at low) n s' _ h q refl)

-- Varints of one width that the sheet has no words for leave it as it was.
pub even-measured : (width m n : ℕ) (l s : List ℕ) (t : Spot) → Even width n l t.pos → length s / 8 ≤ t.word → t.pos + n * width ≤ length l →
    Step 0 (numbers m n Varint) l t s s (Ok record { pos = t.pos + n * width; word = t.word + n; value = m })
unfolding number_at
even-measured width m zero l s t x h low =
    let z : t.pos + zero * width ≡ t.pos = omega arith in
    let y : t.word + zero ≡ t.word = omega arith in
    numbers-done m Varint l s t (omega arith) zero s _ (omega arith) refl (rw (z, y) refl)
even-measured width m (suc n) l s t x h low =
    let some : 0 < suc n = omega arith in
    let k : suc n - 1 ≡ n = omega arith in
    let (v, f) = spans-some width l t.pos (even-first width (suc n) l t.pos some x) in
    let u : Spot = record { pos = t.pos + width; word = t.word + 1; value = 0 } in
    let y : Even width n l u.pos = subst (λ n. Even width n l u.pos) k (even-next width (suc n) l t.pos some x) in
    let p : u.pos + n * width ≡ t.pos + suc n * width = omega (arith, suc-mul n width) in
    let q : u.word + n ≡ t.word + suc n = omega arith in
    let r = rw (p, q) at (even-measured width m n l s u y (omega arith) (omega (arith, p))) in
    numbers_more m Varint l s s s _ (suc n) n v _ 0 t u refl (sym f) (word_none s t.word v h) refl r

-- A varint and others of its width behind it.
even-cons : (width n : ℕ) (l : List ℕ) (i : ℕ) → Spans width l i → Even width n l (i + width) → Even width (suc n) l i
even-cons width n l i x y zero h = let e : i ≡ i + zero * width = omega (arith, zero-mul width) in subst (Spans width l) e x
even-cons width n l i x y (suc k) h =
    let e : i + width + k * width ≡ i + suc k * width = omega (arith, suc-mul k width) in
    subst (Spans width l) e (y k (omega arith))

even-none : (width : ℕ) (l : List ℕ) (i : ℕ) → Even width zero l i
even-none width l i k h = let z : ⊥ = omega arith in absurd z

-- Where no top bit is set each byte is a varint.
pub even-ones : (l : List ℕ) (n i : ℕ) → i + n ≤ length l → tops 1 n l i ≡ 0 → Even 1 n l i
unfolding tops
even-ones l zero i h e = even-none 1 l i
even-ones l (suc n) i h e =
    let f : i + 1 - 1 ≡ i = omega arith in
    let x : Spans 1 l i =
    record {
      some = omega arith;
      few = omega arith;
      inside = omega arith;
      last = rw f (omega arith);
      more = λ m. absurd (omega arith);
    } in
    even-cons 1 n l i x (even-ones l n (i + 1) (omega arith) (omega arith))

-- One byte more, and none.
module _ (step : ℕ) (l : List ℕ) (i : ℕ) where
  pub tops_next : (n b : ℕ) → n ≡ suc b → tops step n l i ≡ get_or l i 0 / 128 + tops step b l (i + step)
  unfolding tops
  tops_next n b h = rw h

  pub tops-none : (n : ℕ) → n ≤ 0 → tops step n l i ≡ 0
  unfolding tops
  tops-none n h = let e : n ≡ 0 = omega arith in rw e

-- The next step of a sum that starts one byte further.
tops-past : (l : List ℕ) (n i : ℕ) → tops 2 n l (i + 1 + 2) ≡ tops 2 n l (i + 2 + 1)
tops-past l n i = let e : i + 1 + 2 ≡ i + 2 + 1 = omega arith in ap (λ j. tops 2 n l j) e

-- The bytes in a row are those at every second place and those between.
tops-halves : (l : List ℕ) (n i : ℕ) → tops 1 (n + n) l i ≡ tops 2 n l i + tops 2 n l (i + 1)
unfolding tops
tops-halves l zero i = refl
tops-halves l (suc n) i =
    let e : suc n + suc n ≡ suc (suc (n + n)) = omega arith in
    let f : i + 1 + 1 ≡ i + 2 = omega arith in
    let h = tops-halves l n (i + 2) in
    let p = tops-past l n i in
    rw (e, f) (omega arith)

module _ (l : List ℕ) (bytes : (k : ℕ) → get_or l k 0 < 256) where
  tops-most : (step n i : ℕ) → tops step n l i ≤ n
  unfolding tops
  tops-most step zero i = omega arith
  tops-most step (suc n) i = omega (arith, bytes i, tops-most step n (i + step))

  -- Where every first byte of a pair has its top bit set, and no second one, each pair is a varint.
  even-twos : (n i : ℕ) → i + 2 * n ≤ length l → tops 2 n l i ≡ n → tops 2 n l (i + 1) ≡ 0 → Even 2 n l i
  unfolding tops
  even-twos zero i h a b = even-none 2 l i
  even-twos (suc n) i h a b =
      let f : i + 2 - 1 ≡ i + 1 = omega arith in
      let m = tops-most 2 n (i + 2) in
      let c = bytes i in
      let p = tops-past l n i in
      let x : Spans 2 l i =
      record {
        some = omega arith;
        few = omega arith;
        inside = omega arith;
        last = rw f (omega arith);
        more = λ _. omega arith;
      } in
      even-cons 2 n l i x (even-twos n (i + 2) (omega arith) (omega arith) (omega arith))

  -- No second one has where as many have as there are pairs.
  pub even-pairs : (n i : ℕ) → i + 2 * n ≤ length l → tops 1 (n + n) l i ≡ n → tops 2 n l i ≡ n → Even 2 n l i
  even-pairs n i h a b = even-twos n i h b (omega (arith, tops-halves l n i))
