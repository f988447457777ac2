-- String and Constant in the stores, by the model. Assumes nothing.
use mathlib.Core.Path.{◌≡◌, refl, sym, ap, ap₂, ◌∙◌, subst}
use Prim.Native.Nat.{ℕ, zero, suc, ◌+◌, ◌-◌, ◌≤◌, ◌<◌}
use native.Mathlib.Omega.{arith}
use mathlib.Core.List.{List, [], ◌∷◌, ◌++◌, map, append-nil}
use lib.ListN.{length, take, drop, length-drop, take-append-drop, drop_of_length-le}
use lib.Seq.{drop-drop, take_all}
use Rattle.exact.specs.Got.{Got, got, stop, follow}
use Rattle.exact.specs.Upto.{whole}
use Rattle.exact.specs.Tiling.{join}
use Rattle.exact.specs.Entries.{Rows, raised, entries_of}
use Rattle.exact.proofs.LawsExact.{stop-not-got, got-value}
use Rattle.exact.proofs.LawsSequence.{follow-inv}
use Rattle.exact.proofs.LawsFixed.{length-nums}
use Rattle.encoding.specs.Out.{put}
use Rattle.encoding.proofs.LawsOut.{none_before}
use Rattle.enums.specs.Refusals as refusals
use Rattle.format.specs.DecodeTables.{offset_table_at}
use Rattle.format.specs.Sheet.{length_words}
use Rattle.sheet.specs.Store.{put_word, put_words, put_runs}
use Rattle.sheet.proofs.LawsStore.{put_runs-run}
use Rattle.entries.specs.Starts.{numbers_in, Lies, number_or, end_at}
use Rattle.entries.specs.Places.{entries_in}
use Rattle.entries.specs.declared.starts.Starts.{Starts}
use Rattle.entries.proofs.LawsEntries.{
  table-values,
  rows-values,
  entries-count,
  run_of,
  rest_of,
  rest-is,
  Before,
  run-first,
  part-is,
  entries_left,
  left-none,
  left-bad,
  left-good,
}
use Rattle.payloads.specs.Fill as fill
use Rattle.payloads.specs.Fill.{Fills}
use Rattle.payloads.specs.Tables.{run_rows, filling}
use Rattle.payloads.specs.declared.answers.Filled.{Filled}
use Rattle.std.specs.Prelude.{Result, Ok}
use Rattle.reading.specs.declared.Refused.{Refused}
use Rattle.payloads.proofs.LawsFill.{fills-read}
use Rattle.payloads.proofs.LawsFilling.{Filling, filling-more, filling-fills}

-- The word and the run of a row.
abbrev pub run_words : List ℕ → List ℕ
run_words x = length_words (length x)

abbrev pub run_only : List ℕ → List (List ℕ)
run_only x = x ∷ []

lengths-are : (vs : List (List ℕ)) → join (map length_words (map length vs)) ≡ join (map run_words vs)
lengths-are [] = refl
lengths-are (v ∷ vs) = ap (λ ws. run_words v ++ ws) (lengths-are vs)

runs-are : (vs : List (List ℕ)) → vs ≡ join (map run_only vs)
runs-are [] = refl
runs-are (v ∷ vs) = ap (λ ws. v ∷ ws) (runs-are vs)

run-rows : (vs : List (List ℕ)) → run_rows vs ≡ record { rows = length vs; words = join (map run_words vs); runs = join (map run_only vs) }
run-rows vs = rw (lengths-are vs) (ap (λ rs. record { rows = length vs; words = join (map run_words vs); runs = rs }) (runs-are vs))

-- One entry more.
module _ (w : ℕ) (run : List ℕ) (b n : ℕ) (d : List ℕ) (some_bytes : 0 < w) (k r s i : ℕ) (more : k ≡ suc r)
    (before : Before w (length d) run k s i) (e j : ℕ) (good : end_at w 0 (length d) s run i ≡ got e j) where
  abbrev entry_of : List ℕ
  entry_of = take (e - s) (drop s d)

  next : entries_left w 0 whole run b n d k s i ≡ follow (entries_left w 0 whole run b n d r e j) (λ vs x. got (entry_of ∷ vs) x)
  unfolding raised whole follow
  next =
      let (x, l, h, y, z) = left-good w 0 whole run b n d some_bytes (length d) refl k r s i more before e j good in
      let p : entry_of ≡ drop s (take e d) = part-is s e d (omega arith) h in
      rw p y

  pub runs-more : (m v c : ℕ) (t t₁ t' q q₁ q' : List ℕ) (a : Result (ℕ × Filled) Refused) → t₁ ≡ put_word t v (length entry_of) → q₁ ≡ put q c entry_of →
      Filling run_words run_only m (entries_left w 0 whole run b n d r e j) (v + 1) (c + length entry_of) t₁ t' q₁ q' a →
      Filling run_words run_only m (entries_left w 0 whole run b n d k s i) v c t t' q q' a
  unfolding put_words put_runs
  runs-more m v c t t₁ t' q q₁ q' a f g x =
      let l : length entry_of ≡ length (entry_of ++ []) = ap length (sym (append-nil entry_of)) in
      filling-more run_words run_only m v c t t' q q' entry_of t₁ q₁ a _ _ next f g
      (subst (λ o. Filling run_words run_only m (entries_left w 0 whole run b n d r e j) (v + 1) (c + o) t₁ t' q₁ q' a) l x)

-- The last k entries stand one behind the other up to the data's end.
module _ (w : ℕ) (run : List ℕ) (b n : ℕ) (d : List ℕ) (some_bytes : 0 < w) where
  -- Their bytes are the data from the first one on.
  abbrev Tiles : ℕ → ℕ → ℕ → Type 0
  Tiles k s i = (vs : List (List ℕ)) (x : ℕ) → entries_left w 0 whole run b n d k s i ≡ got vs x → (s ≤ length d) × (join vs ≡ drop s d)

  parted : (s e : ℕ) → s ≤ e → take (e - s) (drop s d) ++ drop e d ≡ drop s d
  parted s e h =
      let m : s + (e - s) ≡ e = omega arith in
      ap (λ x. take (e - s) (drop s d) ++ drop x d) (sym m) ∙
      ap (λ x. take (e - s) (drop s d) ++ x) (sym (drop-drop (e - s) s d)) ∙ take-append-drop (e - s) (drop s d)

  tiles_more : (r s i : ℕ) → Before w (length d) run (suc r) s i →
      ((e j : ℕ) → Before w (length d) run r e j → Tiles r e j) → (g : Got ℕ) → end_at w 0 (length d) s run i ≡ g → Tiles (suc r) s i
  tiles_more r s i h rest (got e j) q vs x f =
      let y = next w run b n d some_bytes (suc r) r s i refl h e j q in
      let (c, m, o, _, _) = left-good w 0 whole run b n d some_bytes (length d) refl (suc r) r s i refl h e j q in
      let (us, k, u, v) = follow-inv (entries_left w 0 whole run b n d r e j) (λ vs x. got (take (e - s) (drop s d) ∷ vs) x) vs x (sym y ∙ f) in
      let (a, l) = rest e j c us k u in
      (omega (arith, m, o), ap join (sym (got-value v)) ∙ ap (λ z. take (e - s) (drop s d) ++ z) l ∙ parted s e (omega (arith, m)))
  tiles_more r s i h rest (stop c k) q vs x f =
      absurd (stop-not-got (sym (left-bad w 0 whole run b n d some_bytes (length d) refl (suc r) r s i refl h c k q) ∙ f))

  tiles : (k s i : ℕ) → Before w (length d) run k s i → Tiles k s i
  tiles zero s i h vs x e =
      let q : [] ≡ vs = got-value (sym (left-none w 0 whole run b n d zero s i (omega arith)) ∙ e) in
      (omega (arith, h), ap join (sym q) ∙ sym (drop_of_length-le d {i = s} (omega (arith, h))))
  tiles (suc r) s i h vs x e = tiles_more r s i h (tiles r) (end_at w 0 (length d) s run i) refl vs x e

-- What a table of runs fills in are its values.
filling-values : (g : Got (Rows (List ℕ))) → filling g ≡ follow (follow g (λ v j. got v.values j)) (λ vs j. got (run_rows vs) j)
unfolding filling follow
filling-values (got v j) = refl
filling-values (stop c k) = refl

-- All entries are filled in.
pub runs-filled : (w : ℕ) (l : List ℕ) (t : Starts) → 0 < w → Lies w l t → (s j : ℕ) →
    got s j ≡ number_or w (length (rest_of l t)) (run_of l t) 0 → (at : Filled) (v v' p p' : List ℕ) (a : Result (ℕ × Filled) Refused) →
    Filling run_words run_only t.count (entries_left w 0 whole (run_of l t) t.data (length l) (rest_of l t) t.count s j)
    at.words at.bytes v v' p p' a → Fills at (filling (entries_in 0 w l t)) v v' p p' a
unfolding entries_in
runs-filled w l t some lies s j e at v v' p p' a x =
    let (b, q) = run-first w (length (rest_of l t)) l t some lies s j e in
    let y = rw (← q, rest-is l t) at x in
    subst (λ g. Fills at g v v' p p' a) (sym (filling-values _ ∙ ap (λ g. follow g (λ vs j. got (run_rows vs) j)) (rows-values whole w w 0 l _ _)))
    (filling-fills run_words run_only run_rows run-rows t.count at v v' p p' a _ counts y)
  where
    counts : (vs : List (List ℕ)) (k : ℕ) → entries_of refusals.bounds 0 whole (numbers_in w l t) t.data (length l) (drop t.data l) ≡ got vs k →
        length vs ≡ t.count
    counts vs k h = entries-count _ _ whole _ _ _ _ vs k h ∙ length-nums t.count w (drop t.first l)

-- A table whose entries were passed over with another pool, and then put at once.
module _ (w : ℕ) (l : List ℕ) (t : Starts) (some_bytes : 0 < w) (lies : Lies w l t) (s j : ℕ)
    (first : got s j ≡ number_or w (length (rest_of l t)) (run_of l t) 0) where
  tiled : (vs : List (List ℕ)) (k : ℕ) →
      entries_of refusals.bounds 0 whole (numbers_in w l t) t.data (length l) (drop t.data l) ≡ got vs k →
      (s ≤ length (rest_of l t)) × (join vs ≡ drop s (rest_of l t))
  tiled vs k e =
      let (b, q) = run-first w (length (rest_of l t)) l t some_bytes lies s j first in
      tiles w (run_of l t) t.data (length l) (rest_of l t) some_bytes t.count s j b vs k (rw (← q, rest-is l t) e)

  -- Its runs are the data from the first one on ..
  found : (r : fill.Rows) (k : ℕ) → filling (entries_in 0 w l t) ≡ got r k →
      (s ≤ length (rest_of l t)) × (join r.runs ≡ drop s (rest_of l t))
  unfolding entries_in
  found r k e =
      let g = entries_of refusals.bounds 0 whole (numbers_in w l t) t.data (length l) (drop t.data l) in
      let f = filling-values _ ∙ ap (λ g. follow g (λ vs j. got (run_rows vs) j)) (rows-values whole w w 0 l _ _) in
      let (vs, x, a, b) = follow-inv g (λ vs j. got (run_rows vs) j) r k (sym f ∙ e) in
      let (h, z) = tiled vs x a in
      (h, ap (λ r. join r.runs) (sym (got-value b)) ∙ z)

  -- .. which begins inside of it ..
  pub front-inside : (at : Filled) {v v' q q' : List ℕ} {n : ℕ} {f : Filled} →
      Fills at (filling (entries_in 0 w l t)) v v' q q' (Ok (n, f)) → s ≤ length (rest_of l t)
  front-inside at x = let (y, k, z, a) = fills-read at _ x in (found y k z).0

  -- .. and so one copy puts them, behind the nothing that was lent.
  pub put-at-once : (at : Filled) {v v' q q' : List ℕ} (none p p' : List ℕ) {a : Result (ℕ × Filled) Refused} → length none ≡ 0 →
      at.bytes ≤ length p → length (rest_of l t) ≤ length p - at.bytes → Fills at (filling (entries_in 0 w l t)) v v' q q' a →
      p' ≡ put (none ++ p) at.bytes (take (length (rest_of l t) - s) (drop s (rest_of l t))) →
      Fills at (filling (entries_in 0 w l t)) v v' p p' a
  put-at-once at none p p' n inside room x y =
      record {
        answer = x.answer;
        words = x.words;
        runs = λ r k f.
            let d = rest_of l t in
            let (h, z) = found r k f in
            let c : take (length d - s) (drop s d) ≡ join r.runs = take_all (length d - s) (drop s d) (omega (arith, length-drop s d)) ∙ sym z in
            let m : at.bytes + length (join r.runs) ≤ length p = omega (arith, inside, room, ap length z, length-drop s d) in
            y ∙ ap₂ (λ p b. put p at.bytes b) (none_before none p n) c ∙ sym (put_runs-run r.runs p at.bytes m);
      }

-- A refusal stays one.
pub filling-stop : (g : Got (Rows (List ℕ))) (c k : ℕ) → g ≡ stop c k → filling g ≡ stop c k
unfolding filling follow
filling-stop g c k e = rw e

-- The rows do not depend on where the payload stands.
pub filling-moved : (w a o : ℕ) (l : List ℕ) (i : ℕ) → filling (offset_table_at w a o whole l i) ≡ filling (offset_table_at w a 0 whole l i)
filling-moved w a o l i =
    filling-values _ ∙ ap (λ g. follow g (λ vs j. got (run_rows vs) j)) (table-values whole w a o l i ∙ sym (table-values whole w a 0 l i)) ∙
    sym (filling-values _)
