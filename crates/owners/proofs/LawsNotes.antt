-- How rows are noted while they are judged: what is noted stays, and an instance that no place tells of is new. Assumes
-- nothing.
use mathlib.Core.Path.{◌≡◌, sym, ap, subst, ◌∙◌}
use mathlib.Core.Logic.{inl, inr, ⊎_elim}
use Prim.Native.Nat.{ℕ, ◌+◌, ◌≤◌, ◌<◌}
use native.Mathlib.Omega.{arith}
use native.Mathlib.Decide.{ℕ_discrete, dec_lt}
use mathlib.Core.Bool.{Bool, true}
use mathlib.Core.List.{List}
use lib.ListN.{length, get_or, set, replicate, length-set, length-replicate, get_or-replicate}
use lib.Seq.{get_or-set_same, get_or-set_other}
use lib.Dec.{eqb}
use Rattle.encoding.specs.Out.{Tells}
use Rattle.slots.specs.Lent.{instance_at, length_at, Taken, Rows, Once}
use Rattle.owners.specs.Owners.{RowOf, FirstRow}
use Rattle.owners.specs.Notes.{bucket_of, second_of, Noted, Notes, SoFar, Turn}
use Rattle.owners.proofs.LawsOwners.{tells-equal, first-here, rows_taken}

module _ (notes : List ℕ) (c v : ℕ) (h : c < length notes) (e : get_or notes c 0 < 128) where
  -- Where an empty place is filled, a full one is as it was ..
  kept : (j : ℕ) → 128 ≤ get_or notes j 0 → get_or (set notes c v) j 0 ≡ get_or notes j 0
  kept j f = get_or-set_other notes c j v 0 (λ q. omega (arith, e, f, ap (λ a. get_or notes a 0) q))

  -- .. and so is a row that is noted.
  noted-kept : (i l : ℕ) → Noted notes i l → Noted (set notes c v) i l
  noted-kept i l x =
      let b = kept (bucket_of i) x.full in
      record {
        full = omega (arith, b, x.full);
        told = λ m. ⊎_elim (λ t. inl (b ∙ t)) (λ f. inr (omega (arith, f, kept (second_of i) f))) (x.told m);
      }

-- At the start nothing is noted.
pub no-notes : (owners notes : List ℕ) → notes ≡ replicate 1024 0 → Notes owners notes 0
no-notes owners notes e =
    record {
      size = ap length e ∙ length-replicate {A = ℕ} 1024 0;
      before = λ j h. omega (arith, ap (λ l. get_or l j 0) e, get_or-replicate {A = ℕ} 1024 j 0 0 h);
      each = λ l h. absurd (omega arith);
    }

module _ {owners notes : List ℕ} {k : ℕ} (x : Notes owners notes k) where
  -- A row more, given that it is noted if it is taken, where the earlier ones are still ..
  more : (notes' : List ℕ) → length notes' ≡ 1024 → ((j : ℕ) → j < 1024 → get_or notes' j 0 < 128 + (k + 1)) →
      ((i l : ℕ) → Noted notes i l → Noted notes' i l) → (Taken owners k → Noted notes' (instance_at owners k) k) →
      Notes owners notes' (k + 1)
  more notes' s b keep this = record { size = s; before = b; each = λ l h t. each l (dec_lt l k) h t }
    where
      each : (l : ℕ) → Dec (l < k) → l < k + 1 → Taken owners l → Noted notes' (instance_at owners l) l
      each l (yes j) h t = keep (instance_at owners l) l (x.each l j t)
      each l (no j) h t =
          let q : k ≡ l = omega arith in subst (λ m. Taken owners m → Noted notes' (instance_at owners m) m) q this t

  -- .. so one that is noted already, or is free ..
  pub unnoted : (Taken owners k → Noted notes (instance_at owners k) k) → Notes owners notes (k + 1)
  unnoted this = more notes x.size (λ j h. omega (arith, x.before j h)) (λ i l n. n) this

  -- .. and one that fills an empty place.
  filled : (c v : ℕ) → c < 1024 → get_or notes c 0 < 128 → v < 128 + (k + 1) → Noted (set notes c v) (instance_at owners k) k →
      Notes owners (set notes c v) (k + 1)
  filled c v h e b this =
      more (set notes c v) (length-set notes c v ∙ x.size) (λ j a. bound j a (ℕ_discrete j c)) (noted-kept notes c v inside e)
      (λ t. this)
    where
      inside : c < length notes
      inside = omega (arith, x.size)

      bound : (j : ℕ) → j < 1024 → Dec (j ≡ c) → get_or (set notes c v) j 0 < 128 + (k + 1)
      bound j a (yes q) = omega (arith, ap (λ a. get_or (set notes c v) a 0) q, get_or-set_same notes c v 0 inside)
      bound j a (no n) = omega (arith, get_or-set_other notes c j v 0 n, x.before j a)

  module _ (i : ℕ) where
    -- Where the first place is empty, the instance is new, and its row is noted there ..
    pub first-new : get_or notes (bucket_of i) 0 < 128 → (l : ℕ) → l < k → ¬ RowOf i owners l
    first-new e l h (t, q) = omega (arith, e, (subst (λ j. Noted notes j l) q (x.each l h t)).full)

    pub first-noted : (b v : ℕ) → b ≡ bucket_of i → get_or notes b 0 < 128 → 128 ≤ v → v < 128 + (k + 1) → (k < 128 → v ≡ 128 + k) →
        instance_at owners k ≡ i → Notes owners (set notes b v) (k + 1)
    first-noted b v p e f m w q =
        let inside : b < length notes = omega (arith, x.size, p) in
        let s : get_or (set notes b v) (bucket_of i) 0 ≡ v =
        ap (λ j. get_or (set notes b v) j 0) (sym p) ∙ get_or-set_same notes b v 0 inside in
        filled b v (omega (arith, p)) e m
        (subst (λ j. Noted (set notes b v) j k) (sym q) (record { full = omega (arith, s); told = λ h. inl (s ∙ w h) }))

    module _ (f : 128 ≤ get_or notes (bucket_of i) 0) where
      -- .. and where both are full nothing is noted.
      pub both-full : (k < 128 → 128 ≤ get_or notes (second_of i) 0) → instance_at owners k ≡ i → Notes owners notes (k + 1)
      both-full g q =
          unnoted (λ t. subst (λ j. Noted notes j k) (sym q) (record { full = f; told = λ h. inr (g h) }))

-- The first row that is such is not before k exactly if none is.
pub first-none-tells : {P : ℕ → Type 0} {k r : ℕ} → FirstRow P k r → Tells ((l : ℕ) → l < k → ¬ P l) (eqb r k)
first-none-tells {P} {k} {r} x = tells-equal r k (λ e l h. x.none_before l (omega (arith, e))) back
  where
    back : ((l : ℕ) → l < k → ¬ P l) → r ≡ k
    back none = go (dec_lt r k)
      where
        go : Dec (r < k) → r ≡ k
        go (yes h) = absurd (none r h (x.such h))
        go (no h) = omega (arith, x.inside)

-- Fewer rows are good where more are.
pub fewer-rows : {z m n : ℕ} {owners : List ℕ} → m ≤ n → Rows z owners n → Rows z owners m
fewer-rows h x = record { fits = λ k i. x.fits k (omega arith); once = λ k l i j. x.once k l i (omega arith) }

module _ {z k : ℕ} {owners notes : List ℕ} (x : SoFar z owners notes k) where
  -- A row that fits and whose first place is empty, as the loop has it: its turn is to be noted there.
  pub quick-turn : (i b v : ℕ) (notes' : List ℕ) → i ≡ instance_at owners k → b ≡ bucket_of i → get_or notes b 0 < 128 → length_at owners k ≤ z →
      128 ≤ v → v < 128 + (k + 1) → (k < 128 → v ≡ 128 + k) → notes' ≡ set notes b v → SoFar z owners notes' (k + 1)
  quick-turn i b v notes' e p h fit f m w g =
      let empty : get_or notes (bucket_of i) 0 < 128 = omega (arith, h, ap (λ j. get_or notes j 0) p) in
      record {
        rows = rows_taken x.rows fit (subst (λ j. (l : ℕ) → l < k → ¬ RowOf j owners l) e (first-new x.noted i empty));
        noted = subst (λ n. Notes owners n (k + 1)) (sym g) (first-noted x.noted i b v p h f m w (sym e));
      }

  -- At the end they are all.
  pub all-rows : (n : ℕ) → k ≤ n → n ≤ k → Rows z owners n
  all-rows n h i = let e : k ≡ n = omega arith in subst (Rows z owners) e x.rows

-- After a turn that was good there is a row more.
pub good_turn : {z k : ℕ} {owners notes notes' : List ℕ} {t : Bool} → Turn z owners k notes t → t ≡ true → notes' ≡ notes →
    SoFar z owners notes' (k + 1)
good_turn {z} {k} {owners} x h g = subst (λ n. SoFar z owners n (k + 1)) (sym g) (x.good h)

-- A row of an instance that has no other is its first.
pub only_row : (owners : List ℕ) (i n r : ℕ) → Once owners n → r < n → RowOf i owners r →
    FirstRow (RowOf i owners) n r
only_row owners i n r once h p =
    first-here h p (λ l b q. once l r b h q.0 p.0 (q.1 ∙ sym p.1))
