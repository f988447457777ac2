-- The entries of an offset table as rows of the sheet: how a loop over them follows the model, whatever reads an entry and
-- whatever words its row has. Assumes nothing.
use mathlib.Core.Path.{◌≡◌, refl, sym, ap, ◌∙◌, subst}
use Prim.Native.Nat.{ℕ, suc, ◌+◌, ◌-◌, ◌≤◌, ◌<◌}
use native.Mathlib.Nat.{add-zero}
use native.Mathlib.Omega.{arith}
use mathlib.Core.List.{List, [], ◌∷◌, ◌++◌}
use lib.ListN.{length, take, drop, length-append}
use Rattle.exact.specs.Got.{Got, got, stop, follow}
use Rattle.exact.specs.Exact.{Parser}
use Rattle.exact.specs.Sequence.{mapped}
use Rattle.exact.specs.Entries.{raised}
use Rattle.exact.proofs.LawsExact.{stop-not-got, got-value, got-next}
use Rattle.std.specs.Prelude.{Result, Ok, Err}
use Rattle.reading.specs.Shown.{stop_of}
use Rattle.reading.specs.declared.Refused.{Refused}
use Rattle.sheet.specs.Store.{put_words}
use Rattle.sheet.proofs.LawsStore.{put_words-append}
use Rattle.entries.specs.Starts.{Lies, number_or, end_at}
use Rattle.entries.specs.declared.starts.Starts.{Starts}
use Rattle.entries.proofs.LawsEntries.{run_of, rest_of, rest-is, Before, run-first, part-is, entries_left, left-none, left-bad, left-good}
use Rattle.payloads.specs.declared.fields.Spot.{Spot}
use Rattle.payloads.specs.TypeRows.{place_of, Row, words_of, entries_by}
use Rattle.payloads.proofs.LawsFields.{map-got, map-stop}

-- A refusal as the row's, and words that were put.
pub row-stop : (g : Got (List ℕ)) (w : ℕ) (s s' : List ℕ) (x : Refused) → g ≡ stop_of x → Row g w s s' (Err x)
unfolding Row place_of
row-stop g w s s' x e = subst (λ g. Row g w s s' (Err x)) (sym e) refl

pub row-got : (g : Got (List ℕ)) (w : ℕ) (s s' : List ℕ) (ws : List ℕ) (t : Spot) → g ≡ got ws t.pos → t.word ≡ w + length ws →
    s' ≡ put_words s w ws → Row g w s s' (Ok t)
unfolding Row place_of
row-got g w s s' ws t e n p = subst (λ g. Row g w s s' (Ok t)) (sym e) (ap (λ n. got n t.pos) n, p)

-- What a refused row says, and one that was put.
refused_as : {A : Type 0} {c d k m : ℕ} → ◌≡◌ {A = Got ℕ} (stop c k) (stop d m) → ◌≡◌ {A = Got A} (stop d m) (stop c k)
refused_as e = cc

pub row-refused : (g : Got (List ℕ)) (w : ℕ) (s s' : List ℕ) (x : Refused) → Row g w s s' (Err x) → g ≡ stop_of x
unfolding Row place_of
row-refused (got ws j) w s s' x r = absurd (stop-not-got r.0)
row-refused (stop c k) w s s' x r = refused_as r

pub row_put : (g : Got (List ℕ)) (w : ℕ) (s s' : List ℕ) (t : Spot) → Row g w s s' (Ok t) →
    (ws : List ℕ) × (g ≡ got ws t.pos) × (t.word ≡ w + length ws) × (s' ≡ put_words s w ws)
unfolding Row place_of
row_put (got ws j) w s s' t (x, y) = (ws, ap (got ws) (sym (got-next x)), got-value x, y)
row_put (stop c k) w s s' t x = absurd (stop-not-got (sym x))

-- Words behind words.
pub row_more : (ws us : List ℕ) (j w : ℕ) (s s₁ s' : List ℕ) (r : Result Spot Refused) → s₁ ≡ put_words s w ws →
    Row (got us j) (w + length ws) s₁ s' r → Row (got (ws ++ us) j) w s s' r
unfolding Row
row_more ws us j w s s₁ s' r e (x, y) =
    let n : w + length ws + length us ≡ w + length (ws ++ us) = omega (arith, length-append ws us) in
    (rw n at x, y ∙ ap (λ s. put_words s (w + length ws) us) e ∙ sym (put_words-append ws us s w))

-- A refusal says nothing of the words before it.
pub row-stopped : (c k w v : ℕ) (s t s' : List ℕ) (r : Result Spot Refused) → Row (stop c k) w s s' r → Row (stop c k) v t s' r
unfolding Row
row-stopped c k w v s t s' r x = x

module _ {A : Type 0} (f : A → List ℕ) where
  -- One row before others.
  words-behind : (v : A) (g : Got (List A)) (w : ℕ) (s s₁ s' : List ℕ) (r : Result Spot Refused) → s₁ ≡ put_words s w (f v) →
      Row (words_of f g) (w + length (f v)) s₁ s' r → Row (words_of f (follow g (λ vs k. got (v ∷ vs) k))) w s s' r
  unfolding words_of follow
  words-behind v (got vs k) w s s₁ s' r e x = row_more (f v) _ k w s s₁ s' r e x
  words-behind v (stop c k) w s s₁ s' r e x = row-stopped c k (w + length (f v)) w s₁ s s' r x

  module _ (p : Parser A) (x : List ℕ) (w : ℕ) (s s' : List ℕ) where
    -- What the reader of one entry says: a refusal is the entry's ..
    one-refused : (y : Refused) → Row (mapped f p x 0) w s s' (Err y) → p x 0 ≡ stop_of y
    one-refused y r = go (p x 0) refl
      where
        same : {c d k m : ℕ} → ◌≡◌ {A = Got (List ℕ)} (stop c k) (stop d m) → ◌≡◌ {A = Got A} (stop c k) (stop d m)
        same e = cc

        go : (g : Got A) → p x 0 ≡ g → p x 0 ≡ stop_of y
        go (got v j) e = absurd (stop-not-got (sym (row-refused _ w s s' y r) ∙ map-got f p x 0 v j e))
        go (stop c k) e = e ∙ same (sym (map-stop f p x 0 c k e) ∙ row-refused _ w s s' y r)

    -- .. and a row that was put has its words.
    pub one-put : (t : Spot) → Row (mapped f p x 0) w s s' (Ok t) →
        (v : A) × (p x 0 ≡ got v t.pos) × (t.word ≡ w + length (f v)) × (s' ≡ put_words s w (f v))
    one-put t r =
        let (ws, e, m, q) = row_put _ w s s' t r in
        go (p x 0) refl ws e m q
      where
        go : (g : Got A) → p x 0 ≡ g → (ws : List ℕ) → mapped f p x 0 ≡ got ws t.pos → t.word ≡ w + length ws → s' ≡ put_words s w ws →
            (v : A) × (p x 0 ≡ got v t.pos) × (t.word ≡ w + length (f v)) × (s' ≡ put_words s w (f v))
        go (got v j) h ws e m q =
            let y = sym (map-got f p x 0 v j h) ∙ e in
            (v, h ∙ ap (got v) (got-next y), rw (got-value y) m, rw (got-value y) q)
        go (stop c k) h ws e m q = absurd (stop-not-got (sym (map-stop f p x 0 c k h) ∙ e))

  -- The words of the last k entries.
  module _ (w m : ℕ) (p : Parser A) (run : List ℕ) (b n : ℕ) (d : List ℕ) where
    abbrev pub words_left : ℕ → ℕ → ℕ → Got (List ℕ)
    words_left k s i = words_of f (entries_left w m p run b n d k s i)

    -- None are left ..
    pub words-done : (k s i v x : ℕ) (t t' : List ℕ) → k ≤ 0 → t' ≡ t → Row (words_left k s i) v t t' (Ok record { pos = n; word = v; value = x })
    unfolding words_of follow put_words
    words-done k s i v x t t' h e =
        row-got _ v t t' [] _ (rw (left-none w m p run b n d k s i h)) (sym (add-zero v)) e

    module _ (some_bytes : 0 < w) (k r s i : ℕ) (more : k ≡ suc r) (before : Before w (length d) run k s i) where
      -- .. the bounds of the first are bad ..
      pub words-bad : (y : Refused) → end_at w m (length d) s run i ≡ stop_of y → (v : ℕ) (t t' : List ℕ) →
          Row (words_left k s i) v t t' (Err y)
      unfolding words_of follow
      words-bad y e v t t' =
          row-stop _ v t t' y (rw (left-bad w m p run b n d some_bytes (length d) refl k r s i more before _ y.at e))

      module _ (e j : ℕ) (good : end_at w m (length d) s run i ≡ got e j) (v : ℕ) (t t₁ : List ℕ) where
        part : take (e - s) (drop s d) ≡ drop s (take e d)
        part =
            let (x, l, h, y, z) = left-good w m p run b n d some_bytes (length d) refl k r s i more before e j good in
            part-is s e d (omega arith) h

        next : entries_left w m p run b n d k s i ≡
            follow (raised (b + s) (p (take (e - s) (drop s d)) 0)) (λ v h. follow (entries_left w m p run b n d r e j) (λ vs x. got (v ∷ vs) x))
        next =
            let (x, l, h, y, z) = left-good w m p run b n d some_bytes (length d) refl k r s i more before e j good in
            y ∙ ap (λ x. follow (raised (b + s) (p x 0)) (λ v h. follow (entries_left w m p run b n d r e j) (λ vs x. got (v ∷ vs) x))) (sym part)

        -- .. the first is refused ..
        pub words-stop : (y : Refused) → Row (mapped f p (take (e - s) (drop s d)) 0) v t t₁ (Err y) → (t' : List ℕ) →
            Row (words_left k s i) v t t' (Err record { refusal = y.refusal; at = b + s + y.at })
        unfolding words_of raised follow
        words-stop y x t' = row-stop _ v t t' _ (rw (next, one-refused p _ v t t₁ y x))

        -- .. or its row is put.
        pub words_more : (z : Spot) → Row (mapped f p (take (e - s) (drop s d)) 0) v t t₁ (Ok z) → (t' : List ℕ) (q : Result Spot Refused) →
            Row (words_left r e j) z.word t₁ t' q → Row (words_left k s i) v t t' q
        unfolding raised follow
        words_more z x t' q y =
            let (u, h, l, o) = one-put p _ v t t₁ z x in
            rw (next, h) (words-behind u (entries_left w m p run b n d r e j) v t t₁ t' q o (rw l at y))

  -- The loop begins before all entries.
  pub words-all : (m : ℕ) (p : Parser A) (l : List ℕ) (t : Starts) → Lies 4 l t → (s j : ℕ) →
      got s j ≡ number_or 4 (length (rest_of l t)) (run_of l t) 0 →
      Before 4 (length (rest_of l t)) (run_of l t) t.count s j ×
      (words_left 4 m p (run_of l t) t.data (length l) (rest_of l t) t.count s j ≡ words_of f (entries_by m p l t))
  unfolding entries_by
  words-all m p l t lies s j e =
      let (b, a) = run-first 4 (length (rest_of l t)) l t (omega arith) lies s j e in
      (b, rw (← a, rest-is l t))

pub words-as : (g h : Got (List ℕ)) (w : ℕ) (s s' : List ℕ) (r : Result Spot Refused) → g ≡ h → Row g w s s' r → Row h w s s' r
words-as g h w s s' r e x = subst (λ g. Row g w s s' r) e x
