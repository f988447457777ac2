-- Items up to an end marker are read exactly, if each takes a byte at least. Assumes nothing.
use mathlib.Core.Path.{◌≡◌, refl, ap, ◌∙◌, subst}
use Prim.Native.Nat.{ℕ, zero, suc, ◌+◌, ◌-◌, ◌≤◌, ◌<◌}
use native.Mathlib.Nat.{add_assoc}
use native.Mathlib.Omega.{arith}
use mathlib.Core.Option.{Option, none, some}
use mathlib.Core.List.{List, [], ◌∷◌, ◌++◌, append_assoc}
use lib.ListN.{length, drop, length-append, length-drop}
use Rattle.exact.specs.Got.{Got, got, stop, ended, follow}
use Rattle.exact.specs.Exact.{Parser, Lang, Reads, Exact}
use Rattle.exact.specs.Basic.{pure, fail}
use Rattle.exact.specs.Sequence.{bind, mapped}
use Rattle.exact.specs.Until.{go_on, until_from, until, Until, end, item}
use Rattle.exact.proofs.LawsExact.{drop_past, stop-not-got, reads_as}
use Rattle.exact.proofs.LawsSequence.{follow-inv}

module _ {A : Type 0} {p : Parser (Option A)} {R : Lang (Option A)} (x : Exact p R) where
  end_reads : (l : List ℕ) (i j k : ℕ) (vs : List A) → Reads R l i none j → got [] j ≡ got vs k → Reads (Until R) l i vs k
  end_reads l i j k vs r e = reads_as record { bytes = r.bytes; spelt = end r.spelt; there = r.there; next = r.next } e

  item-reads : (l : List ℕ) (i j k : ℕ) (v : A) (vs : List A) → Reads R l i (some v) j → Reads (Until R) l j vs k →
      Reads (Until R) l i (v ∷ vs) k
  item-reads l i j k v vs a b =
      record {
        bytes = a.bytes ++ b.bytes;
        spelt = item a.spelt (subst (λ n. Until R n b.bytes vs) a.next b.spelt);
        there = rw append_assoc (a.there ∙ ap (λ r. a.bytes ++ r) b.there);
        next = omega (arith, a.next, b.next, length-append a.bytes b.bytes);
      }

  go-on-sound : (q : Parser (List A)) →
      ((l : List ℕ) (i : ℕ) (vs : List A) (k : ℕ) → q l i ≡ got vs k → Reads (Until R) l i vs k) →
      (l : List ℕ) (i j k : ℕ) (o : Option A) (vs : List A) → Reads R l i o j → go_on o q l j ≡ got vs k → Reads (Until R) l i vs k
  unfolding go_on pure mapped bind
  go-on-sound q h l i j k none vs r e = end_reads l i j k vs r e
  go-on-sound q h l i j k (some v) vs r e =
      let (ws, m, g, y) = follow-inv (q l j) (λ ws m. got (v ∷ ws) m) vs k e in
      reads_as (item-reads l i j m v ws r (h l j ws m g)) y

  from-sound : (n : ℕ) (l : List ℕ) (i : ℕ) (vs : List A) (k : ℕ) → until_from n p l i ≡ got vs k → Reads (Until R) l i vs k
  unfolding until_from fail bind
  from-sound zero l i vs k e = absurd (stop-not-got e)
  from-sound (suc n) l i vs k e =
      let (o, j, g, h) = follow-inv (p l i) (λ o j. go_on o (until_from n p) l j) vs k e in
      go-on-sound (until_from n p) (from-sound n) l i j k o vs (x.sound l i o j g) h

  module _ (some_bytes : (i : ℕ) (bs : List ℕ) (o : Option A) → R i bs o → 1 ≤ length bs) where
    from-complete : (n : ℕ) (l : List ℕ) (i : ℕ) (bs rest : List ℕ) (vs : List A) → Until R i bs vs → length bs ≤ n →
        drop i l ≡ bs ++ rest → until_from n p l i ≡ got vs (i + length bs)
    unfolding until_from bind follow go_on pure mapped
    from-complete zero l i bs rest vs (end r) h d = absurd (omega (arith, some_bytes i bs none r))
    from-complete (suc n) l i bs rest vs (end r) h d = rw (x.complete l i bs rest none r d)
    from-complete zero l i bs rest vs (item {bs = b} {cs = c} {v = v} r u) h d =
        absurd (omega (arith, some_bytes i b (some v) r, length-append b c))
    from-complete (suc n) l i bs rest vs (item {bs = b} {cs = c} {v = v} {vs = ws} r u) h d =
        let d' : drop i l ≡ b ++ (c ++ rest) = d ∙ append_assoc b c rest in
        let m : length c ≤ n = omega (arith, some_bytes i b (some v) r, length-append b c) in
        rw (
          x.complete l i b (c ++ rest) (some v) r d',
          from-complete n l (i + length b) c rest ws u m (drop_past l i b (c ++ rest) d'),
          length-append,
          ← add_assoc,
        )

    -- Items up to the end marker.
    pub until-exact : Exact (until p) (Until R)
    unfolding until
    until-exact =
        record {
          sound = λ l i vs k e. from-sound (length l - i) l i vs k e;
          complete = λ l i bs rest vs u d.
              from-complete (length l - i) l i bs rest vs u
              (omega (arith, length-drop i l, ap length d, length-append bs rest)) d;
        }

  -- What goes on the same way from each item is the same.
  same-on : (q r : Parser (List A)) (l : List ℕ) (i : ℕ) → ((v : A) (j : ℕ) → p l i ≡ got (some v) j → q l j ≡ r l j) →
      (g : Got (Option A)) → p l i ≡ g → follow g (λ o j. go_on o q l j) ≡ follow g (λ o j. go_on o r l j)
  unfolding follow go_on mapped bind
  same-on q r l i h (got none j) e = refl
  same-on q r l i h (got (some v) j) e = rw (h v j e)
  same-on q r l i h (stop c k) e = refl

  module _ (some_bytes : (i : ℕ) (bs : List ℕ) (o : Option A) → R i bs o → 1 ≤ length bs)
      (at-end : (l : List ℕ) (i : ℕ) → length l ≤ i → p l i ≡ stop ended i) where
    less-left : (l : List ℕ) (i : ℕ) (o : Option A) (j : ℕ) → p l i ≡ got o j → length l - j < length l - i
    less-left l i o j e =
        let r = x.sound l i o j e in
        let n : length (drop i l) ≡ length r.bytes + length (drop j l) = rw (r.there, length-append) in
        omega (arith, r.next, some_bytes i r.bytes o r.spelt, length-drop i l, length-drop j l)

    -- As many bytes as are left are enough.
    fuel : (n m : ℕ) (l : List ℕ) (i : ℕ) → length l - i ≤ n → length l - i ≤ m → until_from n p l i ≡ until_from m p l i
    unfolding until_from bind follow fail
    fuel zero zero l i h k = refl
    fuel zero (suc m) l i h k = let f : length l ≤ i = omega arith in rw (at-end l i f)
    fuel (suc n) zero l i h k = let f : length l ≤ i = omega arith in rw (at-end l i f)
    fuel (suc n) (suc m) l i h k =
        same-on (until_from n p) (until_from m p) l i
        (λ v j e. fuel n m l j (omega (arith, less-left l i (some v) j e)) (omega (arith, less-left l i (some v) j e)))
        (p l i) refl

    once : (n : ℕ) (l : List ℕ) (i : ℕ) → length l - i ≤ n → until_from (suc n) p l i ≡ bind p (λ o. go_on o (until p)) l i
    unfolding until_from bind until
    once n l i h =
        same-on (until_from n p) (λ l j. until_from (length l - j) p l j) l i
        (λ v j e. fuel n (length l - j) l j (omega (arith, less-left l i (some v) j e)) (omega arith)) (p l i) refl

    -- The equation that a loop follows: the marker ends it, an item goes on behind itself.
    pub until-step : (l : List ℕ) (i : ℕ) → until p l i ≡ bind p (λ o. go_on o (until p)) l i
    unfolding until bind
    until-step l i =
        fuel (length l - i) (suc (length l - i)) l i (omega arith) (omega arith) ∙ once (length l - i) l i (omega arith)
