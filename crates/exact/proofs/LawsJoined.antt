-- The equations by which loops follow repeated readers: the whole answer is the answer from here, with the values so far.
-- Assumes nothing.
use mathlib.Core.Path.{◌≡◌, refl, sym, ap}
use Prim.Native.Nat.{ℕ, zero, suc, ◌+◌, ◌<◌}
use mathlib.Core.Option.{Option, none, some}
use mathlib.Core.List.{List, [], ◌∷◌, ◌++◌, append_assoc, append-nil}
use lib.ListN.{length, drop, get_or}
use lib.Seq.{drop-cons}
use Rattle.exact.specs.Got.{Got, got, stop, follow}
use Rattle.exact.specs.Exact.{Parser}
use Rattle.exact.specs.Basic.{pure}
use Rattle.exact.specs.Sequence.{bind, mapped}
use Rattle.exact.specs.Repeat.{times}
use Rattle.exact.specs.Tiling.{end_of}
use Rattle.exact.specs.Until.{go_on, until}
use Rattle.exact.specs.Entries.{cut_least, entry, entries_of}
use Rattle.exact.specs.Joined.{joined}

-- At first there are no values ..
pub joined-none : {A : Type 0} (r : Got (List A)) → joined [] r ≡ r
unfolding joined follow
joined-none (got vs j) = refl
joined-none (stop c k) = refl

-- .. at the end no more ..
pub joined_end : {A : Type 0} (done : List A) (j : ℕ) → joined done (got [] j) ≡ got done j
unfolding joined follow
joined_end done j = ap (λ z. got z j) (append-nil done)

-- .. and in between one more.
pub joined-more : {A : Type 0} (done : List A) (v : A) (r : Got (List A)) →
    joined done (follow r (λ vs j. got (v ∷ vs) j)) ≡ joined (done ++ (v ∷ [])) r
unfolding joined follow
joined-more done v (got vs j) = ap (λ z. got z j) (sym (append_assoc done (v ∷ []) vs))
joined-more done v (stop c k) = refl

pub joined-stop : {A : Type 0} (done : List A) (c k : ℕ) → joined done (stop c k) ≡ stop c k
unfolding joined follow
joined-stop done c k = refl

module _ {A : Type 0} (p : Parser A) (done : List A) (l : List ℕ) (i : ℕ) where
  -- The same thing n times: none are left ..
  pub times-none-left : joined done (times zero p l i) ≡ got done i
  unfolding times pure
  times-none-left = joined_end done i

  -- .. one is read ..
  pub times-one-more : (n : ℕ) (v : A) (j : ℕ) → p l i ≡ got v j →
      joined done (times (suc n) p l i) ≡ joined (done ++ (v ∷ [])) (times n p l j)
  unfolding times bind mapped pure follow
  times-one-more n v j e = rw e (joined-more done v (times n p l j))

  -- .. or one is refused.
  pub times-one-stop : (n c k : ℕ) → p l i ≡ stop c k → joined done (times (suc n) p l i) ≡ stop c k
  unfolding times bind follow
  times-one-stop n c k e = rw e (joined-stop done c k)

module _ {A : Type 0} (c m : ℕ) (p : Parser A) (ss : List ℕ) (b n : ℕ) (d : List ℕ) (done : List A) where
  -- The entries of an offset table: none are left ..
  pub entries-none-left : joined done (entries_of c m p [] b n d) ≡ got done n
  unfolding entries_of
  entries-none-left = joined_end done n

  -- .. entry k is read, whose end is the next start or the data's end ..
  pub entries-one-more : (k : ℕ) → k < length ss → (v : A) (j : ℕ) →
      entry c p (b + get_or ss k 0) (cut_least m (get_or ss k 0) (end_of (drop (suc k) ss) d) d) ≡ got v j →
      joined done (entries_of c m p (drop k ss) b n d) ≡ joined (done ++ (v ∷ [])) (entries_of c m p (drop (suc k) ss) b n d)
  unfolding entries_of follow
  entries-one-more k h v j e = rw (drop-cons ss k 0, e) (joined-more done v (entries_of c m p (drop (suc k) ss) b n d))

  -- .. or refused.
  pub entries-one-stop : (k : ℕ) → k < length ss → (x y : ℕ) →
      entry c p (b + get_or ss k 0) (cut_least m (get_or ss k 0) (end_of (drop (suc k) ss) d) d) ≡ stop x y →
      joined done (entries_of c m p (drop k ss) b n d) ≡ stop x y
  unfolding entries_of follow
  entries-one-stop k h x y e = rw (drop-cons ss k 0, e) (joined-stop done x y)

module _ {A : Type 0} (p : Parser (Option A)) (done : List A) (l : List ℕ) (i : ℕ)
    (step : until p l i ≡ bind p (λ o. go_on o (until p)) l i) where
  -- Items up to an end marker: the marker ..
  pub until-marker : (j : ℕ) → p l i ≡ got none j → joined done (until p l i) ≡ got done j
  unfolding bind follow go_on pure
  until-marker j e = rw (step, e) (joined_end done j)

  -- .. an item ..
  pub until-item : (v : A) (j : ℕ) → p l i ≡ got (some v) j → joined done (until p l i) ≡ joined (done ++ (v ∷ [])) (until p l j)
  unfolding bind follow go_on pure mapped
  until-item v j e = rw (step, e) (joined-more done v (until p l j))

  -- .. or a refusal.
  pub until-refused : (c k : ℕ) → p l i ≡ stop c k → joined done (until p l i) ≡ stop c k
  unfolding bind follow
  until-refused c k e = rw (step, e) (joined-stop done c k)
