-- Which refusals the parsers can give: numbers of their own, and those of the parsers that they are made of.
-- Assumes nothing.
use mathlib.Core.Option.{Option, none, some}
use Prim.Native.Nat.{ℕ, zero, suc, ◌+◌, ◌-◌}
use native.Mathlib.Decide.{dec_le, ℕ_discrete}
use mathlib.Core.List.{List, [], ◌∷◌}
use lib.ListN.{length, drop, replicate}
use Rattle.exact.specs.Got.{Got, got, ended, follow}
use Rattle.exact.specs.Exact.{Parser}
use Rattle.exact.specs.Basic.{byte, byte_of, pure, fail}
use Rattle.exact.specs.Sequence.{bind, mapped}
use Rattle.exact.specs.Choice.{choose, such}
use Rattle.exact.specs.Repeat.{times, counted}
use Rattle.exact.specs.Fixed.{raw, little, fixed}
use Rattle.exact.specs.Padding.{literal, broke, blamed, here, gap, pad}
use Rattle.exact.specs.Refuse.{refuse, pick_at}
use Rattle.exact.specs.Kinds.{Case}
use Rattle.exact.specs.Upto.{upto, whole, place}
use Rattle.exact.specs.Until.{go_on, until_from, until}
use Rattle.exact.specs.Table.{Shape}
use Rattle.exact.specs.Tiling.{end_of}
use Rattle.exact.specs.Entries.{raised, cut_least, entry, entries_of, rows, entries}
use Rattle.exact.specs.Only.{Says, no_refusal, such_refusal, Only, AllOnly}

module _ {P : ℕ → Type 0} where
  says-follow : {A B : Type 0} {g : Got A} (f : A → ℕ → Got B) → Says P g → ((v : A) (j : ℕ) → Says P (f v j)) → Says P (follow g f)
  unfolding follow
  says-follow f (no_refusal {v} {j}) y = y v j
  says-follow f (such_refusal x) y = such_refusal x

  pub says-raised : {A : Type 0} {g : Got A} (n : ℕ) → Says P g → Says P (raised n g)
  unfolding raised
  says-raised n no_refusal = no_refusal
  says-raised n (such_refusal x) = such_refusal x

  says-broke : {A : Type 0} {g : Got A} (i : ℕ) → Says P g → Says P (broke g i)
  unfolding broke
  says-broke i no_refusal = no_refusal
  says-broke i (such_refusal x) = such_refusal x

  says-choose : {A Q : Type 0} (d : Dec Q) {x y : Got A} → Says P x → Says P y → Says P (choose d x y)
  unfolding choose
  says-choose (yes h) a b = a
  says-choose (no h) a b = b

  pub only-choose : {A Q : Type 0} (d : Dec Q) {p q : Parser A} → Only P p → Only P q → Only P (choose d p q)
  unfolding choose
  only-choose (yes h) a b = a
  only-choose (no h) a b = b

  -- Parsers that refuse nothing ..
  pub only-pure : {A : Type 0} (v : A) → Only P (pure v)
  unfolding pure
  only-pure v = record { each = λ l i. no_refusal }

  pub only-place : Only P place
  unfolding place
  only-place = record { each = λ l i. no_refusal }

  pub only-whole : Only P whole
  unfolding whole
  only-whole = record { each = λ l i. no_refusal }

  -- .. those that refuse always ..
  pub only-fail : {A : Type 0} (c : ℕ) → P c → Only P (fail {A = A} c)
  unfolding fail
  only-fail c x = record { each = λ l i. such_refusal x }

  pub only-refuse : {A : Type 0} (c k : ℕ) → P c → Only P (refuse {A = A} c k)
  unfolding refuse
  only-refuse c k x = record { each = λ l i. such_refusal x }

  -- .. and those that are made of others.
  pub only-bind : {A B : Type 0} {p : Parser A} {f : A → Parser B} → Only P p → ((v : A) → Only P (f v)) → Only P (bind p f)
  unfolding bind
  only-bind {f = f} x y = record { each = λ l i. says-follow (λ v j. f v l j) (x.each l i) (λ v j. (y v).each l j) }

  pub only-map : {A B : Type 0} (f : A → B) {p : Parser A} → Only P p → Only P (mapped f p)
  unfolding mapped
  only-map f x = only-bind x (λ v. only-pure (f v))

  pub only-such : {A : Type 0} {Q : A → Type 0} (c : ℕ) (d : (v : A) → Dec (Q v)) {p : Parser A} → P c → Only P p → Only P (such c d p)
  unfolding such
  only-such c d y x = only-bind x (λ v. only-choose (d v) (only-pure v) (only-fail c y))

  pub only-blamed : {A : Type 0} {p : Parser A} → Only P p → Only P (blamed p)
  unfolding blamed
  only-blamed x = record { each = λ l i. says-broke i (x.each l i) }

  pub only_here : {A : Type 0} {f : ℕ → Parser A} → ((k : ℕ) → Only P (f k)) → Only P (here f)
  unfolding here
  only_here x = record { each = λ l i. (x i).each l i }

  pub only-upto : {A : Type 0} {p : Parser A} → Only P p → Only P (upto p)
  unfolding upto
  only-upto x = record { each = λ l i. says-follow (λ v j. got v (length l)) (x.each l i) (λ v j. no_refusal) }

  pub only-times : {A : Type 0} (n : ℕ) {p : Parser A} → Only P p → Only P (times n p)
  unfolding times
  only-times zero x = only-pure []
  only-times (suc n) x = only-bind x (λ v. only-map (λ vs. v ∷ vs) (only-times n x))

  pub only-counted : {A : Type 0} {q : Parser ℕ} {p : Parser A} → Only P q → Only P p → Only P (counted q p)
  unfolding counted
  only-counted y x = only-bind y (λ n. only-times n x)

  pub only-pick : {A : Type 0} (c k : ℕ) (xs : List (Case A)) (t : ℕ) → P c → AllOnly P xs → Only P (pick_at c k xs t)
  unfolding pick_at
  only-pick c k [] t y x = only-refuse c k y
  only-pick c k (z ∷ zs) t y x = only-choose (ℕ_discrete t z.tag) x.0 (only-pick c k zs t y x.1)

  says-entry : {A : Type 0} (c : ℕ) {p : Parser A} (b : ℕ) (o : Option (List ℕ)) → P c → Only P p → Says P (entry c p b o)
  unfolding entry
  says-entry c b none y x = such_refusal y
  says-entry c b (some l) y x = says-raised b (x.each l 0)

  says-entries : {A : Type 0} (c m : ℕ) {p : Parser A} (ss : List ℕ) (b n : ℕ) (d : List ℕ) → P c → Only P p →
      Says P (entries_of c m p ss b n d)
  unfolding entries_of
  says-entries c m [] b n d y x = no_refusal
  says-entries c m (s ∷ ss) b n d y x =
      says-follow _ (says-entry c (b + s) (cut_least m s (end_of ss d) d) y x)
      (λ v j. says-follow _ (says-entries c m ss b n d y x) (λ vs k. no_refusal))

-- Parsers that refuse where the data ends.
module _ {P : ℕ → Type 0} (e : P ended) where
  says-byte : (l : List ℕ) (i : ℕ) → Says P (byte_of l i)
  unfolding byte_of
  says-byte [] i = such_refusal e
  says-byte (b ∷ l) i = no_refusal

  pub only-byte : Only P byte
  unfolding byte
  only-byte = record { each = λ l i. says-byte (drop i l) i }

  pub only-raw : (n : ℕ) → Only P (raw n)
  unfolding raw
  only-raw n = record { each = λ l i. says-choose (dec_le n (length (drop i l))) no_refusal (such_refusal e) }

  pub only-fixed : (w : ℕ) → Only P (fixed w)
  unfolding fixed
  only-fixed w = only-map little (only-raw w)

  only-literal : (c : ℕ) (bs : List ℕ) → P c → Only P (literal c bs)
  unfolding literal
  only-literal c [] y = only-pure tt
  only-literal c (b ∷ bs) y =
      only-bind only-byte (λ x. only-choose (ℕ_discrete x b) (only-literal c bs y) (only-fail c y))

  pub only-pad : (c x a : ℕ) → P c → Only P (pad c x a)
  unfolding pad
  only-pad c x a y = only-blamed (only_here (λ i. only-literal c (replicate (gap a i) x) y))

  only-go-on : {A : Type 0} (o : Option A) {q : Parser (List A)} → Only P q → Only P (go_on o q)
  unfolding go_on
  only-go-on none x = only-pure []
  only-go-on (some v) x = only-map (λ vs. v ∷ vs) x

  only-until-from : {A : Type 0} (n : ℕ) {p : Parser (Option A)} → Only P p → Only P (until_from n p)
  unfolding until_from
  only-until-from zero x = only-fail ended e
  only-until-from (suc n) x = only-bind x (λ o. only-go-on o (only-until-from n x))

  pub only-until : {A : Type 0} {p : Parser (Option A)} → Only P p → Only P (until p)
  unfolding until
  only-until x = record { each = λ l i. (only-until-from (length l - i) x).each l i }

  -- The entries of an offset table.
  pub only-entries : {A : Type 0} (f : Shape) (w a o m : ℕ) {p : Parser A} (n : ℕ) → P f.unpadded → P f.untiled →
      Only P p → Only P (entries f w a o m p n)
  unfolding entries rows
  only-entries f w a o m n y z x =
      only-bind (only-pad f.unpadded f.fill a y)
      (λ u. only-bind (only-times n (only-fixed w))
      (λ ss. record {
        each = λ l i. says-follow _ (says-entries f.untiled m ss i (length l) (drop i l) z x) (λ vs j. no_refusal);
      }))
