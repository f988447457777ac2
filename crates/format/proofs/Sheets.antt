-- The judge accepts a sheet with its pool exactly if they are those of well-formed tables; lent no pool, it accepts
-- exactly what it would with some pool. Assumes nothing.
use mathlib.Core.Path.{◌≡◌, refl, sym, ap, ◌∙◌}
use mathlib.Core.Logic.{◌↔◌}
use Prim.Native.Nat.{ℕ}
use native.Mathlib.Decide.{ℕ_discrete}
use mathlib.Core.List.{List}
use mathlib.Core.Option.{Option, none, some, none-ne-some}
use lib.ListN.{length}
use Rattle.exact.specs.Choice.{choose}
use Rattle.exact.proofs.LawsChoice.{choose_yes}
use Rattle.format.specs.Tables.{Tables}
use Rattle.format.specs.Sheet.{Frame, frame_of, pool_length, words_of, sheet_of, pool_of}
use Rattle.format.specs.Sound.{All, Fits, Sound}
use Rattle.format.specs.Tests.{both?, all?, fits?}
use Rattle.format.specs.Judge.{judged, cutting, with_pool, tables_of}
use Rattle.format.proofs.LawsFrame.{judged-exact}
use Rattle.format.proofs.LawsPool.{frame-cutting, pool-cutting, cutting-of, pool-length}

-- The pool's length is that of the rows, and it holds bytes.
abbrev Pooled : Frame → List ℕ → Type 0
Pooled r p = (length p ≡ pool_length r) × All (Fits 8) p

with-pool : (p : List ℕ) (r : Frame) (t : Tables) → with_pool p (some r) ≡ some t → Pooled r p × (cutting r p ≡ t)
unfolding with_pool choose
with-pool p r t = go (both? (ℕ_discrete (length p) (pool_length r)) (all? (fits? 8) p))
  where
    go : (d : Dec (Pooled r p)) → choose d (some (cutting r p)) none ≡ some t → Pooled r p × (cutting r p ≡ t)
    go (yes h) e = (h, cc)
    go (no n) e = absurd (none-ne-some _ e)

judge-sound : (s p : List ℕ) (t : Tables) (o : Option Frame) → judged s ≡ o → with_pool p o ≡ some t →
    (s ≡ sheet_of t) × (p ≡ pool_of t) × Sound t
unfolding with_pool sheet_of
judge-sound s p t none j e = absurd (none-ne-some _ e)
judge-sound s p t (some r) j e =
    let x = (judged-exact s r).0 j in
    let w = with-pool p r t e in
    let f : frame_of t ≡ r = rw (← w.1) (frame-cutting r p w.0.0) in
    let q : pool_of t ≡ p = rw (← w.1) (pool-cutting r p w.0.0) in
    let z : s ≡ words_of (frame_of t) = x.0 ∙ ap words_of (sym f) in
    (z, sym q, record { words = rw (← z) x.1; pool = rw q w.0.1; frame = rw f x.2 })

judge-complete : (t : Tables) → Sound t → tables_of (sheet_of t) (pool_of t) ≡ some t
unfolding tables_of with_pool sheet_of
judge-complete t h =
    let j : judged (words_of (frame_of t)) ≡ some (frame_of t) = (judged-exact _ (frame_of t)).1 (refl, h.words, h.frame) in
    rw j
    (choose_yes (both? (ℕ_discrete (length (pool_of t)) (pool_length (frame_of t))) (all? (fits? 8) (pool_of t)))
    (some (cutting (frame_of t) (pool_of t))) none (pool-length t, h.pool)
    ∙ ap some (cutting-of t))

-- The judge accepts a sheet with its pool exactly if they are those of well-formed tables.
pub sheet-judged : (s p : List ℕ) (t : Tables) → (tables_of s p ≡ some t) ↔ ((s ≡ sheet_of t) × (p ≡ pool_of t) × Sound t)
unfolding tables_of
sheet-judged s p t =
    (judge-sound s p t (judged s) refl, λ h. rw (h.0, h.1) (judge-complete t h.2))

-- "A call lent no pool": what it accepts is accepted with every byte pool of the length of word 4 ..
pub judged-pool : (s p : List ℕ) (r : Frame) → judged s ≡ some r → length p ≡ pool_length r → All (Fits 8) p →
    tables_of s p ≡ some (cutting r p)
unfolding tables_of with_pool
judged-pool s p r j l a =
    rw j (choose_yes (both? (ℕ_discrete (length p) (pool_length r)) (all? (fits? 8) p)) (some (cutting r p)) none (l, a))

-- .. and what is accepted with a pool is accepted with none.
pub pool-judged : (s p : List ℕ) (t : Tables) → tables_of s p ≡ some t → judged s ≡ some (frame_of t)
unfolding sheet_of
pool-judged s p t e =
    let h = (sheet-judged s p t).0 e in
    (judged-exact s (frame_of t)).1 (h.0, rw h.0 h.2.words, h.2.frame)
