-- The judge accepts exactly what is tiled, and each entry is what stands between its start and the next.
-- Assumes nothing.
use mathlib.Core.Path.{◌≡◌, refl, sym, ap, ◌∙◌}
use mathlib.Core.Logic.{◌↔◌}
use Prim.Native.Nat.{ℕ, zero, suc, ◌+◌, ◌≤◌, ◌<◌}
use native.Mathlib.Nat.{le_of_suc-le-suc, not-suc-le-zero}
use native.Mathlib.Omega.{arith}
use native.Mathlib.Decide.{dec_le}
use mathlib.Core.Option.{Option, none, some, none-ne-some, some-injective}
use mathlib.Core.List.{List, [], ◌∷◌, ◌++◌, append_assoc, append-nil}
use lib.ListN.{length, take, drop, get_or, length-append, length-drop, take-append-drop}
use lib.Seq.{drop-append_seam, take-append_seam, length-take-le}
use Rattle.exact.specs.Choice.{choose}
use Rattle.exact.specs.Tiling.{join, sums, Tiled, cut, end_of, consed, cuts}
use Rattle.exact.proofs.LawsChoice.{choose_yes}

-- x is the part of d from s up to e.
pub record Cut {A : Type 0} (s e : ℕ) (d x : List A) : Type 0 where
  pub low : s ≤ e
  pub high : e ≤ length d
  pub part : x ≡ drop s (take e d)

module _ {A : Type 0} where
  -- What is cut is a part.
  pub cut-inv : (s e : ℕ) (d x : List A) → cut s e d ≡ some x → Cut s e d x
  unfolding cut choose
  cut-inv s e d x = go (dec_le s e) (dec_le e (length d))
    where
      go : (a : Dec (s ≤ e)) (b : Dec (e ≤ length d)) → choose a (choose b (some (drop s (take e d))) none) none ≡ some x → Cut s e d x
      go (yes a) (yes b) h = record { low = a; high = b; part = sym (some-injective _ _ h) }
      go (yes a) (no b) h = absurd (none-ne-some _ h)
      go (no a) b h = absurd (none-ne-some _ h)

  -- Within bounds the part is cut.
  pub cut-is : (s e : ℕ) (d : List A) → s ≤ e → e ≤ length d → cut s e d ≡ some (drop s (take e d))
  unfolding cut
  cut-is s e d a b = choose_yes (dec_le s e) _ _ a ∙ choose_yes (dec_le e (length d)) _ _ b

  consed-inv : (o : Option (List A)) (p : Option (List (List A))) (zs : List (List A)) → consed o p ≡ some zs →
      (e : List A) × (es : List (List A)) × (o ≡ some e) × (p ≡ some es) × (zs ≡ e ∷ es)
  unfolding consed
  consed-inv none p zs h = absurd (none-ne-some _ h)
  consed-inv (some e) none zs h = absurd (none-ne-some _ h)
  consed-inv (some e) (some es) zs h = (e, es, refl, refl, sym (some-injective _ _ h))

  -- The entry before a tiling ends where the tiling begins.
  pub end-of : (g : List A) (es : List (List A)) → end_of (sums (length g) es) (g ++ join es) ≡ length g
  end-of g [] = rw append-nil
  end-of g (e ∷ es) = refl

  tile : (s : ℕ) (g : List A) (es : List (List A)) → s ≤ length g → Tiled (s ∷ sums (length g) es) (g ++ join es) (drop s g ∷ es)
  tile s g es h =
      let n : length (take s g) ≡ s = length-take-le s g h in
      let m : length (take s g) + length (drop s g) ≡ length g = omega (arith, length-drop s g) in
      record { gap = take s g; whole = rw (← append_assoc, take-append-drop); starts = rw (m, n) }

  -- One more entry before a tiling.
  pub tiled-cons : (s : ℕ) (ss : List ℕ) (d e : List A) (es : List (List A)) → Tiled ss d es → Cut s (end_of ss d) d e →
      Tiled (s ∷ ss) d (e ∷ es)
  tiled-cons s ss d e es t c =
      let g = t.gap in
      let en : end_of ss d ≡ length g = rw (t.starts, t.whole) (end-of g es) in
      let x : e ≡ drop s g = c.part ∙ rw (en, t.whole, take-append_seam) in
      rw (x, t.whole, t.starts) (tile s g es (omega arith))

  cuts-sound : (ss : List ℕ) (d : List A) (zs : List (List A)) → cuts ss d ≡ some zs → Tiled ss d zs
  unfolding cuts
  cuts-sound [] d zs h = rw (← some-injective _ _ h) record { gap = d; whole = sym (append-nil d); starts = refl }
  cuts-sound (s ∷ ss) d zs h =
      let (e, es, p, q, r) = consed-inv (cut s (end_of ss d) d) (cuts ss d) zs h in
      rw r (tiled-cons s ss d e es (cuts-sound ss d es q) (cut-inv s (end_of ss d) d e p))

  -- What stands between two seams is cut out whole.
  pub cut-seam : (g e r : List A) → cut (length g) (length (g ++ e)) (g ++ e ++ r) ≡ some e
  cut-seam g e r =
      let n : length g ≤ length (g ++ e) = rw length-append (omega arith) in
      let m : length (g ++ e) ≤ length (g ++ e ++ r) = rw (length-append (g ++ e) r) (omega arith) in
      cut-is (length g) (length (g ++ e)) (g ++ e ++ r) n m ∙ rw (take-append_seam, drop-append_seam)

  cuts-complete : (es : List (List A)) (g : List A) → cuts (sums (length g) es) (g ++ join es) ≡ some es
  unfolding cuts consed
  cuts-complete [] g = refl
  cuts-complete (e ∷ es) g =
      rw (← append_assoc, ← length-append, end-of (g ++ e) es, cut-seam g e (join es), cuts-complete es (g ++ e))

  -- The judge accepts exactly what is tiled.
  pub cuts-exact : (ss : List ℕ) (d : List A) (es : List (List A)) → (cuts ss d ≡ some es) ↔ Tiled ss d es
  cuts-exact ss d es = (cuts-sound ss d es, λ t. rw (t.whole, t.starts) (cuts-complete es t.gap))

  -- There are as many starts as entries.
  pub length-sums : (n : ℕ) (es : List (List A)) → length (sums n es) ≡ length es
  length-sums n [] = refl
  length-sums n (e ∷ es) = ap suc (length-sums (n + length e) es)

  entry_at : (es : List (List A)) (g : List A) (k : ℕ) → k < length es →
      cut (get_or (sums (length g) es) k 0) (end_of (drop (suc k) (sums (length g) es)) (g ++ join es)) (g ++ join es) ≡ some (get_or es k [])
  entry_at [] g k h = absurd (not-suc-le-zero h)
  entry_at (e ∷ es) g zero h = rw (← append_assoc, ← length-append, end-of (g ++ e) es) (cut-seam g e (join es))
  entry_at (e ∷ es) g (suc k) h = rw (← append_assoc, ← length-append) (entry_at es (g ++ e) k (le_of_suc-le-suc h))

  -- Entry k is what stands between its start and the next.
  pub tiled-at : (ss : List ℕ) (d : List A) (es : List (List A)) → Tiled ss d es → (k : ℕ) → k < length es →
      cut (get_or ss k 0) (end_of (drop (suc k) ss) d) d ≡ some (get_or es k [])
  tiled-at ss d es t k h = rw (t.whole, t.starts) (entry_at es t.gap k h)

  -- Where each start is at most its end and each end inside, the judge accepts.
  pub judge-all : (ss : List ℕ) (d : List A) →
      ((k : ℕ) → k < length ss → (get_or ss k 0 ≤ end_of (drop (suc k) ss) d) × (end_of (drop (suc k) ss) d ≤ length d)) →
      (es : List (List A)) × (cuts ss d ≡ some es)
  unfolding cuts consed
  judge-all [] d h = ([], refl)
  judge-all (s ∷ ss) d h =
      let (es, e) = judge-all ss d (λ k l. h (suc k) (omega arith)) in
      let z = h zero (omega arith) in
      (drop s (take (end_of ss d) d) ∷ es, rw (cut-is s (end_of ss d) d z.0 z.1, e))
