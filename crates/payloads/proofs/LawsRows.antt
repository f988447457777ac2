-- The rows of Global and Func in the stores, by the model. Assumes nothing.
use mathlib.Core.Path.{◌≡◌, refl, sym, ap, ap₂, ◌∙◌, subst}
use Prim.Native.Nat.{ℕ, suc, ◌+◌, ◌-◌, ◌≤◌, ◌<◌}
use native.Mathlib.Nat.{add-zero}
use native.Mathlib.Omega.{arith}
use mathlib.Core.List.{List, [], ◌∷◌, ◌++◌, map, append-nil}
use lib.ListN.{length, get_or, drop, drop_of_length-le}
use lib.Seq.{drop-cons}
use Rattle.exact.specs.Got.{Got, got, stop, follow}
use Rattle.exact.specs.Basic.{pure}
use Rattle.exact.specs.Sequence as sequence
use Rattle.exact.specs.Repeat.{times, counted}
use Rattle.exact.specs.Upto.{upto}
use Rattle.exact.specs.Tiling.{join}
use Rattle.enums.specs.declared.VersionClass.{VersionClass}
use Rattle.encoding.specs.Out.{put}
use Rattle.sheet.specs.Store.{put_word, put_words, put_runs}
use Rattle.reading.specs.Numbers.{varint_at}
use Rattle.format.specs.Tables.{Global, Function}
use Rattle.format.specs.Functions.{Located, apart}
use Rattle.format.specs.DecodeRows.{global_at, globals_at, function_at, functions_at}
use Rattle.format.specs.Sheet.{global_words, function_row_of, function_words}
use Rattle.entries.specs.declared.rows.FuncRow.{FuncRow}
use Rattle.entries.specs.Rows.{bytes_in, located_in}
use Rattle.payloads.specs.Fill.{Rows, Fills}
use Rattle.payloads.specs.declared.answers.Filled.{Filled}
use Rattle.std.specs.Prelude.{Result}
use Rattle.reading.specs.declared.Refused.{Refused}
use Rattle.payloads.specs.Rows.{global_rows, row_of, bodied, located_rows, function_rows}
use Rattle.payloads.proofs.LawsFields.{times-length}
use Rattle.payloads.proofs.LawsFilling.{times_more, Filling, filling-more, filling-fills, fills-upto}

-- The words and runs of a row.
abbrev pub no_runs : Global → List (List ℕ)
no_runs g = []

abbrev pub func_words : Located Function → List ℕ
func_words x = function_words (function_row_of x.value)

abbrev pub func_runs : Located Function → List (List ℕ)
func_runs x = x.value.body ∷ []

pub no-runs : (vs : List Global) → join (map no_runs vs) ≡ []
no-runs [] = refl
no-runs (v ∷ vs) = no-runs vs

func-words : (vs : List (Located Function)) → join (map function_words (map function_row_of (apart vs).values)) ≡ join (map func_words vs)
func-words [] = refl
func-words (v ∷ vs) = ap (λ z. func_words v ++ z) (func-words vs)

func-runs : (vs : List (Located Function)) → map (λ f. f.body) (apart vs).values ≡ join (map func_runs vs)
func-runs [] = refl
func-runs (v ∷ vs) = ap (λ z. v.value.body ∷ z) (func-runs vs)

func-count : (vs : List (Located Function)) → length (apart vs).values ≡ length vs
func-count [] = refl
func-count (v ∷ vs) = ap suc (func-count vs)

pub global-rows : (vs : List Global) →
    ◌≡◌ {A = Rows} (record { rows = length vs; words = join (map global_words vs); runs = [] })
    (record { rows = length vs; words = join (map global_words vs); runs = join (map no_runs vs) })
global-rows vs = rw (no-runs vs)

pub func-rows : (vs : List (Located Function)) →
    bodied (apart vs).values ≡ record { rows = length vs; words = join (map func_words vs); runs = join (map func_runs vs) }
func-rows vs = rw (func-words vs, func-runs vs, func-count vs)

-- One global more.
pub globals-more : (c : VersionClass) (m : ℕ) (l : List ℕ) (i w b : ℕ) (s s' p : List ℕ) (n : ℕ) (v : Global) (j : ℕ) (s₁ : List ℕ)
    (r : Result (ℕ × Filled) Refused) → 0 < n → global_at c l i ≡ got v j → s₁ ≡ put_words s w (global_words v) →
    Filling global_words no_runs m (times (n - 1) (global_at c) l j) (w + 6) b s₁ s' p p r →
    Filling global_words no_runs m (times n (global_at c) l i) w b s s' p p r
unfolding put_runs global_words
globals-more c m l i w b s s' p n v j s₁ r h a e x =
    filling-more global_words no_runs m w b s s' p p v s₁ p r _ _ (times_more (global_at c) l i n v j h a) e refl
    (subst (λ z. Filling global_words no_runs m (times (n - 1) (global_at c) l j) (w + 6) z s₁ s' p p r) (sym (add-zero b)) x)

-- One function more.
module _ (m : ℕ) (l : List ℕ) (i w b : ℕ) (s s' p p' : List ℕ) (n : ℕ) (f : FuncRow) (k : ℕ) (s₁ p₁ : List ℕ) (r : Result (ℕ × Filled) Refused) where
  pub funcs-more : i ≤ length l → 0 < n → function_at 0 l i ≡ got (located_in 0 l f k) k →
      s₁ ≡ put_words s w (function_words (row_of f.head (length (bytes_in l f k)))) → p₁ ≡ put p b (bytes_in l f k) →
      Filling func_words func_runs m (times (n - 1) (function_at 0) l k) (w + 5) (b + length (bytes_in l f k)) s₁ s' p₁ p' r →
      Filling func_words func_runs m (times n (function_at 0) l i) w b s s' p p' r
  unfolding put_runs function_words function_row_of
  funcs-more g h a e d x =
      let y : length (bytes_in l f k) ≡ length ((bytes_in l f k) ++ []) = ap length (sym (append-nil (bytes_in l f k))) in
      filling-more func_words func_runs m w b s s' p p' (located_in 0 l f k) s₁ p₁ r _ _ (times_more (function_at 0) l i n _ k h a) e d
      (subst (λ t. Filling func_words func_runs m (times (n - 1) (function_at 0) l k) (w + 5) (b + t) s₁ s' p₁ p' r) y x)

-- All rows are filled in.
pub globals-filled : (c : VersionClass) (n : ℕ) (l : List ℕ) (i : ℕ) (at : Filled) (s s' p p' : List ℕ) (r : Result (ℕ × Filled) Refused) →
    Filling global_words no_runs n (times n (global_at c) l i) at.words at.bytes s s' p p' r →
    Fills at (global_rows (times n (global_at c) l i)) s s' p p' r
unfolding global_rows
globals-filled c n l i at s s' p p' r x =
    filling-fills global_words no_runs (λ vs. record { rows = length vs; words = join (map global_words vs); runs = [] }) global-rows n
    at s s' p p' r (times n (global_at c) l i) (times-length n (global_at c) l i) x

pub funcs-filled : (n : ℕ) (l : List ℕ) (i : ℕ) (at : Filled) (s s' p p' : List ℕ) (r : Result (ℕ × Filled) Refused) →
    Filling func_words func_runs n (times n (function_at 0) l i) at.words at.bytes s s' p p' r →
    Fills at (located_rows (times n (function_at 0) l i)) s s' p p' r
unfolding located_rows
funcs-filled n l i at s s' p p' r x =
    filling-fills func_words func_runs (λ vs. bodied (apart vs).values) func-rows n at s s' p p' r (times n (function_at 0) l i)
    (times-length n (function_at 0) l i) x

-- The words of a row, one by one: from word k of the row on ..
module _ (ws : List ℕ) (s : List ℕ) (i : ℕ) where
  pub row-begun : put_words s (i + 0) (drop 0 ws) ≡ put_words s i ws
  row-begun = ap (λ i. put_words s i ws) (add-zero i)

  -- .. one more ..
  pub row_more : (k : ℕ) (t : List ℕ) → k < length ws → t ≡ put_word s (i + k) (get_or ws k 0) →
      put_words s (i + k) (drop k ws) ≡ put_words t (i + (k + 1)) (drop (k + 1) ws)
  unfolding put_words
  row_more k t h e =
      let o : suc k ≡ k + 1 = omega arith in
      let m : i + k + 1 ≡ i + (k + 1) = omega arith in
      ap (put_words s (i + k)) (drop-cons ws k 0 h) ∙ ap (λ t. put_words t (i + k + 1) (drop (suc k) ws)) (sym e) ∙
      ap₂ (λ p q. put_words t p (drop q ws)) m o

  -- .. and none behind the last.
  pub row_done : (k : ℕ) → length ws ≤ k → put_words s (i + k) (drop k ws) ≡ s
  unfolding put_words
  row_done k h = ap (put_words s (i + k)) (drop_of_length-le ws h)

-- The section: its count is refused, or its rows follow.
pub globals-stop : (c : VersionClass) (l : List ℕ) (x k : ℕ) → varint_at l 0 ≡ stop x k → global_rows (globals_at c 0 l 0) ≡ stop x k
unfolding global_rows globals_at upto counted sequence.bind follow
globals-stop c l x k e = rw e

globals-end : (c : VersionClass) (l : List ℕ) (n j : ℕ) (g : Got (List Global)) → varint_at l 0 ≡ got n j → times n (global_at c) l j ≡ g →
    global_rows (globals_at c 0 l 0) ≡
    follow g (λ vs k. got (record { rows = length vs; words = join (map global_words vs); runs = [] }) (length l))
unfolding global_rows globals_at upto counted sequence.bind follow
globals-end c l n j (got vs k) e t = rw (e, t)
globals-end c l n j (stop x k) e t = rw (e, t)

pub globals-all : (c : VersionClass) (l : List ℕ) (n j : ℕ) (at : Filled) (s s' p p' : List ℕ) (r : Result (ℕ × Filled) Refused) → varint_at l 0 ≡ got n j →
    Fills at (global_rows (times n (global_at c) l j)) s s' p p' r → Fills at (global_rows (globals_at c 0 l 0)) s s' p p' r
unfolding global_rows
globals-all c l n j at s s' p p' r e x =
    subst (λ g. Fills at g s s' p p' r) (sym (globals-end c l n j (times n (global_at c) l j) e refl))
    (fills-upto (λ vs. record { rows = length vs; words = join (map global_words vs); runs = [] }) (length l) at s s' p p' r _ x)

pub funcs-stop : (l : List ℕ) (x k : ℕ) → varint_at l 0 ≡ stop x k → function_rows (functions_at 0 l 0) ≡ stop x k
unfolding function_rows functions_at upto counted sequence.bind sequence.mapped follow
funcs-stop l x k e = rw e

funcs-end : (l : List ℕ) (n j : ℕ) (g : Got (List (Located Function))) → varint_at l 0 ≡ got n j → times n (function_at 0) l j ≡ g →
    function_rows (functions_at 0 l 0) ≡ follow g (λ vs k. got (bodied (apart vs).values) (length l))
unfolding function_rows functions_at upto counted sequence.bind sequence.mapped pure follow
funcs-end l n j (got vs k) e t = rw (e, t)
funcs-end l n j (stop x k) e t = rw (e, t)

pub funcs-all : (l : List ℕ) (n j : ℕ) (at : Filled) (s s' p p' : List ℕ) (r : Result (ℕ × Filled) Refused) → varint_at l 0 ≡ got n j →
    Fills at (located_rows (times n (function_at 0) l j)) s s' p p' r → Fills at (function_rows (functions_at 0 l 0)) s s' p p' r
unfolding located_rows
funcs-all l n j at s s' p p' r e x =
    subst (λ g. Fills at g s s' p p' r) (sym (funcs-end l n j (times n (function_at 0) l j) e refl))
    (fills-upto (λ vs. bodied (apart vs).values) (length l) at s s' p p' r _ x)
