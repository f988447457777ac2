-- The words and runs of the seven tables are the sheet and the pool of the model. Assumes nothing.
use mathlib.Core.Path.{◌≡◌, refl, sym, ap, ◌∙◌}
use Prim.Native.Nat.{ℕ, ◌+◌, ◌≤◌}
use native.Mathlib.Omega.{arith}
use mathlib.Core.List.{List, ◌++◌, map, append-nil}
use lib.ListN.{length, length-append, length-map}
use Rattle.exact.specs.Tiling.{join}
use Rattle.format.specs.Tables.{Tables}
use Rattle.format.specs.Sheet.{
  function_row_of,
  frame_of,
  length_words,
  type_words,
  global_words,
  function_words,
  attribute_words,
  list_words,
  bodies,
  contents,
  producer_word,
  pool_length,
  words_of,
  sheet_of,
  pool_of,
}
use Rattle.format.proofs.LawsPool.{pool-length}
use Rattle.sheet.specs.Store.{put_words}
use Rattle.sheet.proofs.LawsStore.{put_words-append, put_words-swap}
use Rattle.payloads.specs.Whole.{runs_of}
use Rattle.payloads.specs.Pass.{all_words, all_runs, contents_of, filled_sheet, head_words}
use Rattle.payloads.proofs.LawsFilling.{join-append}
use Rattle.payloads.proofs.LawsPassed.{seven_of}

-- Five words, fourteen words and others are put in any order.
put-parts : (s h c w : List ℕ) → length h ≡ 5 → length c ≡ 14 →
    put_words (put_words (put_words s 5 c) 19 w) 0 h ≡ put_words s 0 (h ++ (c ++ w))
put-parts s h c w n m =
    let a : 0 + length h ≤ 19 = omega arith in
    let b : 0 + length h ≤ 5 = omega arith in
    let i : 0 + length h ≡ 5 = omega arith in
    let j : 5 + length c ≡ 19 = omega arith in
    sym (put_words-swap h w (put_words s 5 c) 0 19 a) ∙
    ap (λ z. put_words z 19 w) (sym (put_words-swap h c s 0 5 b)) ∙
    sym
    (put_words-append h (c ++ w) s 0 ∙ ap (λ k. put_words (put_words s 0 h) k (c ++ w)) i ∙
    put_words-append c w (put_words s 0 h) 5 ∙ ap (λ k. put_words (put_words (put_words s 0 h) 5 c) k w) j)

parts-length : (h c w : List ℕ) → length h ≡ 5 → length c ≡ 14 → 19 + length w ≡ length (h ++ (c ++ w))
parts-length h c w n m = omega (arith, length-append h (c ++ w), length-append c w)

module _ (t : Tables) where
  -- The contents ..
  pub seven-contents : contents_of 19 (seven_of t) ≡ contents 19 (bodies (frame_of t))
  unfolding contents_of contents bodies frame_of
  seven-contents =
      rw (
        length-map (map length t.strings) length_words,
        length-map t.strings length,
        length-map t.types type_words,
        length-map (map length t.constants) length_words,
        length-map t.constants length,
        length-map t.globals global_words,
        length-map (map function_row_of t.functions) function_words,
        length-map t.functions function_row_of,
        length-map t.attributes attribute_words,
        length-map t.lists list_words,
      )

  -- .. the words of all rows ..
  pub seven-words : all_words (seven_of t) ≡ join (map join (bodies (frame_of t)))
  unfolding all_words bodies frame_of
  seven-words = refl

  -- .. and the runs.
  pub seven_runs : all_runs (seven_of t) ≡ runs_of t
  unfolding all_runs
  seven_runs = ap (λ z. t.strings ++ (t.constants ++ z)) (append-nil (map (λ f. f.body) t.functions))

  contents-long : length (contents 19 (bodies (frame_of t))) ≡ 14
  unfolding contents bodies
  contents-long = refl

  sheet-parts :
      head_words t.version (producer_word t.producer) (pool_length (frame_of t)) ++
      (contents 19 (bodies (frame_of t)) ++ join (map join (bodies (frame_of t)))) ≡
      sheet_of t
  unfolding sheet_of words_of frame_of
  sheet-parts = refl

  -- So many words ..
  pub seven-length : 19 + length (all_words (seven_of t)) ≡ length (sheet_of t)
  seven-length =
      let h : List ℕ = head_words t.version (producer_word t.producer) (pool_length (frame_of t)) in
      let e = parts-length h (contents 19 (bodies (frame_of t))) (join (map join (bodies (frame_of t)))) refl contents-long in
      ap (λ z. 19 + length z) seven-words ∙ e ∙ ap length sheet-parts

  pub runs-pool : join (runs_of t) ≡ pool_of t
  unfolding pool_of
  runs-pool =
      join-append t.strings (t.constants ++ map (λ f. f.body) t.functions) ∙
      ap (λ z. join t.strings ++ z) (join-append t.constants (map (λ f. f.body) t.functions))

  -- .. and bytes.
  pub seven-bytes : length (join (all_runs (seven_of t))) ≡ length (pool_of t)
  seven-bytes = ap (λ z. length (join z)) seven_runs ∙ ap length runs-pool

  pub seven-pool : length (join (all_runs (seven_of t))) ≡ pool_length (frame_of t)
  seven-pool = seven-bytes ∙ pool-length t

  -- The head, the contents and the rows are the sheet.
  pub seven-sheet : (s : List ℕ) →
      put_words (filled_sheet s (seven_of t)) 0 (head_words t.version (producer_word t.producer) (length (join (all_runs (seven_of t))))) ≡
      put_words s 0 (sheet_of t)
  unfolding filled_sheet
  seven-sheet s =
      let h : List ℕ = head_words t.version (producer_word t.producer) (pool_length (frame_of t)) in
      let c : List ℕ = contents 19 (bodies (frame_of t)) in
      let w : List ℕ = join (map join (bodies (frame_of t))) in
      let e : put_words (put_words (put_words s 5 c) 19 w) 0 h ≡ put_words s 0 (h ++ (c ++ w)) = put-parts s h c w refl contents-long in
      rw (seven-contents, seven-words, seven-pool) (e ∙ ap (put_words s 0) sheet-parts)
