-- What is known of a sheet that passed: its words are those of its frame, and each table stands where the contents say.
-- Assumes nothing.
use mathlib.Core.Path.{◌≡◌, refl, sym, ap, ◌∙◌}
use Prim.Native.Nat.{ℕ, zero, suc, ◌+◌, ◌*◌, ◌%◌, ◌<◌}
use native.Mathlib.Nat.{add-zero, not-suc-le-zero, le_of_suc-le-suc}
use native.Mathlib.Decide.{ℕ_discrete}
use native.Mathlib.Omega.{arith}
use mathlib.Core.List.{List, [], ◌∷◌, map}
use mathlib.Core.Option.{Option, none, some, none-ne-some}
use lib.ListN.{length, take, drop, get_or, length-append, get_or-append}
use lib.Seq.{drop-drop, drop_at}
use Rattle.exact.specs.Choice.{choose}
use Rattle.exact.specs.Tiling.{join}
use Rattle.format.specs.Read.{accepted}
use Rattle.format.specs.Sheet.{Frame, bodies, contents, pool_length, words_of}
use Rattle.format.specs.Sound.{All, Fits, SoundFrame, class_in}
use Rattle.format.specs.Judge.{judged}
use Rattle.format.proofs.LawsFrame.{judged-exact}
use Rattle.sheet.specs.Store.{words_in}
use Rattle.judge.specs.declared.Judged.{Judged}
use Rattle.std.specs.Prelude as code
use Rattle.std.specs.Prelude.{Some, None}
use Rattle.judge.specs.Judge.{judged_bytes, not_sound, judged_read, summary}

-- Any two answers that the contract of `judge` allows are equal.
pub judge-only : (s : List ℕ) (x y : code.Option Judged) → judged_read x ≡ summary (judged_bytes s) → judged_read y ≡ summary (judged_bytes s) → x ≡ y
judge-only s x y e f = go x y (e ∙ sym f)
  where
    go : (x y : code.Option Judged) → judged_read x ≡ judged_read y → x ≡ y
    go (Some i) (Some j) e = cc
    go (Some i) None e = cc
    go None (Some j) e = cc
    go None None e = refl

-- A store whose sheet passed holds whole words, those of a well-formed frame.
pub record Holds (s : List ℕ) (r : Frame) : Type 0 where
  pub whole : length s % 8 ≡ 0
  pub words : words_in s ≡ words_of r
  pub fits : All (Fits 64) (words_in s)
  pub sound : SoundFrame r

pub judged-holds : (s : List ℕ) (r : Frame) → judged_bytes s ≡ some r → Holds s r
unfolding judged_bytes choose
judged-holds s r = go (ℕ_discrete (length s % 8) 0)
  where
    go : (d : Dec (length s % 8 ≡ 0)) → choose d (judged (words_in s)) none ≡ some r → Holds s r
    go (yes h) e = let x = (judged-exact (words_in s) r).0 e in record { whole = h; words = x.0; fits = x.1; sound = x.2 }
    go (no h) e = absurd (none-ne-some _ e)

-- .. so that the words are judged ..
pub judged-words : (s : List ℕ) (r : Frame) → judged_bytes s ≡ some r → judged (words_in s) ≡ some r
judged-words s r e = let h = judged-holds s r e in (judged-exact (words_in s) r).1 (h.words, h.fits, h.sound)

-- .. and what `judge` tells is of that frame.
pub record Passes (s : List ℕ) (j : Judged) : Type 0 where
  pub frame : Frame
  pub judged : judged_bytes s ≡ some frame
  pub class : j.class ≡ class_in frame
  pub pool : j.pool ≡ pool_length frame

not_refused : {A : Type 0} {j : Judged} → accepted j ≡ not_sound → A
not_refused e = let n : ◌≡◌ {A = ℕ} 0 1 = cc in absurd (omega arith)

pub passed-of : (s : List ℕ) (j : Judged) → accepted j ≡ summary (judged_bytes s) → Passes s j
unfolding summary
passed-of s j = go (judged_bytes s) refl
  where
    go : (o : Option Frame) → judged_bytes s ≡ o → accepted j ≡ summary o → Passes s j
    go none e f = not_refused f
    go (some r) e f =
        let k : j ≡ record { class = class_in r; pool = pool_length r } = cc in
        record { frame = r; judged = e; class = ap (λ j. j.class) k; pool = ap (λ j. j.pool) k }

-- What is refused has no frame.
pub stopped_none : (o : Option Frame) → not_sound ≡ summary o → o ≡ none
unfolding summary
stopped_none none e = refl
stopped_none (some r) e = not_refused (sym e)

-- The contents of tables from word n on: table k starts behind the words of those before it ..
starts : (n : ℕ) (ts : List (List (List ℕ))) (k : ℕ) → k < length ts → get_or (contents n ts) (2 * k) 0 ≡ n + length (join (map join (take k ts)))
unfolding contents
starts n [] k h = absurd (not-suc-le-zero h)
starts n (t ∷ ts) zero h = sym (add-zero n)
starts n (t ∷ ts) (suc k) h =
    let e : 2 * suc k ≡ suc (suc (2 * k)) = omega arith in
    let a = length-append (join t) (join (map join (take k ts))) in
    rw e (starts (n + length (join t)) ts k (le_of_suc-le-suc h) ∙ omega arith)

-- .. and has so many rows.
counts : (n : ℕ) (ts : List (List (List ℕ))) (k : ℕ) → k < length ts → get_or (contents n ts) (2 * k + 1) 0 ≡ length (get_or ts k [])
unfolding contents
counts n [] k h = absurd (not-suc-le-zero h)
counts n (t ∷ ts) zero h = refl
counts n (t ∷ ts) (suc k) h =
    let e : 2 * suc k + 1 ≡ suc (suc (2 * k + 1)) = omega arith in
    rw e (counts (n + length (join t)) ts k (le_of_suc-le-suc h))

behind : (ts : List (List (List ℕ))) (k : ℕ) → drop (length (join (map join (take k ts)))) (join (map join ts)) ≡ join (map join (drop k ts))
behind ts zero = refl
behind [] (suc k) = refl
behind (t ∷ ts) (suc k) =
    rw (length-append (join t) (join (map join (take k ts))), ← drop-drop, drop_at) (behind ts k)

module _ (r : Frame) where
  -- Words 5 to 18 are the contents, and behind them stand the tables.
  pub entry_at : (i : ℕ) → i < 14 → get_or (words_of r) (5 + i) 0 ≡ get_or (contents 19 (bodies r)) i 0
  unfolding words_of bodies contents
  entry_at i m =
      let e : 5 + i ≡ suc (suc (suc (suc (suc i)))) = omega arith in
      rw e (get_or-append (contents 19 (bodies r)) (join (map join (bodies r))) 0 i (omega arith))

  seven : length (bodies r) ≡ 7
  unfolding bodies
  seven = refl

  pub tables-behind : drop 19 (words_of r) ≡ join (map join (bodies r))
  unfolding words_of bodies contents
  tables-behind = refl

  -- From the start word of table k on stand its rows, and behind them the tables after it.
  pub table-words : (k : ℕ) → k < 7 → drop (get_or (words_of r) (5 + 2 * k) 0) (words_of r) ≡ join (map join (drop k (bodies r)))
  table-words k h =
      let s = entry_at (2 * k) (omega arith) ∙ starts 19 (bodies r) k (rw seven h) in
      rw (s, ← drop-drop, tables-behind) (behind (bodies r) k)

  -- The word behind its start is its row count.
  pub table-count : (k : ℕ) → k < 7 → get_or (words_of r) (5 + (2 * k + 1)) 0 ≡ length (get_or (bodies r) k [])
  table-count k h = entry_at (2 * k + 1) (omega arith) ∙ counts 19 (bodies r) k (rw seven h)
