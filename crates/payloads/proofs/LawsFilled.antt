-- One table more in the sheet that a pass fills. Assumes nothing.
use mathlib.Core.Path.{◌≡◌, refl, sym, ap, ◌∙◌}
use Prim.Native.Nat.{ℕ, ◌+◌, ◌*◌, ◌≤◌}
use native.Mathlib.Nat.{add-zero}
use native.Mathlib.Omega.{arith}
use mathlib.Core.List.{List, [], ◌∷◌, ◌++◌, append-nil, append_assoc}
use lib.ListN.{length, length-append}
use Rattle.sheet.specs.Store.{put_words}
use Rattle.sheet.proofs.LawsStore.{put_words-append, put_words-swap}
use Rattle.payloads.specs.Fill.{Rows}
use Rattle.payloads.specs.Pass.{all_words, all_runs, contents_of, filled_sheet}

-- The words and runs of one table more stand behind the others'.
pub words_more : (ts : List Rows) (t : Rows) → all_words (ts ++ (t ∷ [])) ≡ all_words ts ++ t.words
unfolding all_words
words_more [] t = append-nil t.words
words_more (u ∷ ts) t = ap (λ z. u.words ++ z) (words_more ts t) ∙ sym (append_assoc u.words (all_words ts) t.words)

pub runs-more : (ts : List Rows) (t : Rows) → all_runs (ts ++ (t ∷ [])) ≡ all_runs ts ++ t.runs
unfolding all_runs
runs-more [] t = append-nil t.runs
runs-more (u ∷ ts) t = ap (λ z. u.runs ++ z) (runs-more ts t) ∙ sym (append_assoc u.runs (all_runs ts) t.runs)

-- Two words of the contents for each table.
pub length-contents : (n : ℕ) (ts : List Rows) → length (contents_of n ts) ≡ 2 * length ts
unfolding contents_of
length-contents n [] = refl
length-contents n (t ∷ ts) = omega (arith, length-contents (n + length t.words) ts)

contents-more : (n : ℕ) (ts : List Rows) (t : Rows) →
    contents_of n (ts ++ (t ∷ [])) ≡ contents_of n ts ++ ((n + length (all_words ts)) ∷ t.rows ∷ [])
unfolding contents_of all_words
contents-more n [] t = rw add-zero
contents-more n (u ∷ ts) t =
    let e : n + length u.words + length (all_words ts) ≡ n + length (u.words ++ all_words ts) =
    omega (arith, length-append u.words (all_words ts)) in
    ap (λ z. n ∷ u.rows ∷ z)
    (contents-more (n + length u.words) ts t ∙
    ap (λ k. contents_of (n + length u.words) ts ++ (k ∷ t.rows ∷ [])) e)

-- One table more: its rows behind the others, and then its start word and row count.
pub filled_more : (s : List ℕ) (ts : List Rows) (t : Rows) → 5 + 2 * length ts + 2 ≤ 19 →
    put_words (put_words (filled_sheet s ts) (19 + length (all_words ts)) t.words) (5 + 2 * length ts)
    ((19 + length (all_words ts)) ∷ t.rows ∷ []) ≡
    filled_sheet s (ts ++ (t ∷ []))
unfolding filled_sheet
filled_more s ts t h =
    let c : List ℕ = contents_of 19 ts in
    let k : List ℕ = (19 + length (all_words ts)) ∷ t.rows ∷ [] in
    let e : 5 + 2 * length ts ≡ 5 + length c = ap (λ n. 5 + n) (sym (length-contents 19 ts)) in
    ap (λ z. put_words z (5 + 2 * length ts) k) (sym (put_words-append (all_words ts) t.words (put_words s 5 c) 19)) ∙
    sym (put_words-swap k (all_words ts ++ t.words) (put_words s 5 c) (5 + 2 * length ts) 19 h) ∙
    ap (λ z. put_words z 19 (all_words ts ++ t.words))
    (ap (λ n. put_words (put_words s 5 c) n k) e ∙ sym (put_words-append c k s 5) ∙ ap (λ z. put_words s 5 z) (sym (contents-more 19 ts t))) ∙
    ap (λ z. put_words (put_words s 5 (contents_of 19 (ts ++ (t ∷ [])))) 19 z) (sym (words_more ts t))
