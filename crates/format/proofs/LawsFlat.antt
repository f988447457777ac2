-- Flattened rows as a language over words, and the readers of a list and of a table, exact for it. Assumes nothing.
use mathlib.Core.Path.{◌≡◌, refl, ap}
use Prim.Native.Nat.{ℕ, suc, ◌+◌}
use native.Mathlib.Decide.{ℕ_discrete}
use mathlib.Core.List.{List, [], ◌∷◌, ◌++◌, map}
use lib.ListN.{length}
use Rattle.exact.specs.Exact.{Parser, Exact}
use Rattle.exact.specs.Basic.{One, one, Is, is, Never}
use Rattle.exact.specs.Sequence.{Then, then}
use Rattle.exact.specs.Choice.{If, so, else}
use Rattle.exact.specs.Repeat.{Many, nil, cons, Counted, counted_of}
use Rattle.exact.specs.Tiling.{join}
use Rattle.exact.proofs.LawsExact.{same-exact}
use Rattle.exact.proofs.LawsBasic.{byte-exact, pure-exact, fail-exact}
use Rattle.exact.proofs.LawsSequence.{bind-exact}
use Rattle.exact.proofs.LawsChoice.{choose-exact}
use Rattle.exact.proofs.LawsRepeat.{times-exact, counted-exact}
use Rattle.exact.proofs.LawsPadding.{here-exact}
use Rattle.enums.specs.Refusals as refusals
use Rattle.format.specs.Sheet.{counted_words, length_words}
use Rattle.format.specs.Sound.{All}
use Rattle.format.specs.Judge.{list_at, starts_here, start_in, count_in, table_at, word}

-- The words that f makes of a value, which is as P says.
pub data Flat {A : Type 0} (f : A → List ℕ) (P : A → Type 0) : ℕ → List ℕ → A → Type 0 where
  flat : {i : ℕ} {v : A} → P v → Flat f P i (f v) v

-- No demand.
abbrev pub Any : {A : Type 0} → A → Type 0
Any v = Unit

-- All are as they are.
pub all_any : {A : Type 0} (vs : List A) → All Any vs
all_any [] = tt
all_any (v ∷ vs) = (tt, all_any vs)

one-flat : (i : ℕ) (ws : List ℕ) (v : ℕ) → One i ws v → Flat length_words Any i ws v
one-flat i ws v one = flat tt

flat-one : (i : ℕ) (ws : List ℕ) (v : ℕ) → Flat length_words Any i ws v → One i ws v
flat-one i ws v (flat u) = one

-- A length is read exactly.
pub length-exact : Exact word (Flat length_words Any)
length-exact = same-exact byte-exact (λ i ws v. (one-flat i ws v, flat-one i ws v))

ones : (n i : ℕ) (ws vs : List ℕ) → Many One n i ws vs → ws ≡ vs
ones n i ws vs nil = refl
ones n i ws vs (cons {n = m} {cs = c} {v = v} {vs = us} one t) = ap (λ x. v ∷ x) (ones m _ c us t)

ones-of : (i : ℕ) (vs : List ℕ) → Many One (length vs) i vs vs
ones-of i [] = nil
ones-of i (v ∷ vs) = cons one (ones-of (i + 1) vs)

list-to : (i : ℕ) (ws vs : List ℕ) → Counted One One i ws vs → Flat counted_words Any i ws vs
list-to i ws vs (counted_of {bs = b} one m) = rw (ones (length vs) _ b vs m) (flat tt)

list-from : (i : ℕ) (ws vs : List ℕ) → Flat counted_words Any i ws vs → Counted One One i ws vs
list-from i ws vs (flat u) = counted_of one (ones-of (i + 1) vs)

-- A count and as many words are read exactly.
pub list-exact : Exact list_at (Flat counted_words Any)
unfolding list_at
list-exact = same-exact (counted-exact byte-exact byte-exact) (λ i ws vs. (list-to i ws vs, list-from i ws vs))

-- A table that starts here, at its start word, and has as many rows as its count: their words, one row after the other.
pub data TableOf {A : Type 0} (f : A → List ℕ) (P : A → Type 0) (start count : ℕ) : ℕ → List ℕ → List A → Type 0 where
  table_of : {i : ℕ} {vs : List A} → i ≡ start → length vs ≡ count → All P vs → TableOf f P start count i (join (map f vs)) vs

module _ {A : Type 0} {f : A → List ℕ} {P : A → Type 0} where
  rows-inv : (n i : ℕ) (ws : List ℕ) (vs : List A) → Many (Flat f P) n i ws vs →
      (ws ≡ join (map f vs)) × (length vs ≡ n) × All P vs
  rows-inv n i ws vs nil = (refl, refl, tt)
  rows-inv n i ws vs (cons {n = m} {cs = c} {v = v} {vs = us} (flat p) t) =
      let h = rows-inv m _ c us t in (ap (λ x. f v ++ x) h.0, ap suc h.1, (p, h.2))

  rows-of : (n i : ℕ) (vs : List A) → length vs ≡ n → All P vs → Many (Flat f P) n i (join (map f vs)) vs
  rows-of n i [] e a = rw (← e) nil
  rows-of n i (v ∷ vs) e a = rw (← e) (cons (flat a.0) (rows-of (length vs) (i + length (f v)) vs refl a.1))

  table_to : (start count i : ℕ) (ws : List ℕ) (vs : List A) →
      Then (λ i. If (i ≡ start) (Is (tt {0})) Never i) (λ u. Many (Flat f P) count) i ws vs → TableOf f P start count i ws vs
  table_to start count i ws vs (then {cs = c} (so e is) m) =
      let h = rows-inv count _ c vs m in rw h.0 (table_of e h.1 h.2)
  table_to start count i _ vs (then {bs = bs} {cs = c} {v = v} (else _ never) m) = elim never [ ]

  table-from : (start count i : ℕ) (ws : List ℕ) (vs : List A) → TableOf f P start count i ws vs →
      Then (λ i. If (i ≡ start) (Is (tt {0})) Never i) (λ u. Many (Flat f P) count) i ws vs
  table-from start count i ws vs (table_of e n a) = then (so e is) (rows-of count (i + 0) vs n a)

  -- A table is read exactly if its rows are.
  pub table-exact : {row : Parser A} (cs : List ℕ) (k : ℕ) → Exact row (Flat f P) →
      Exact (table_at cs k row) (TableOf f P (start_in cs k) (count_in cs k))
  unfolding table_at starts_here
  table-exact cs k x =
      same-exact
      (bind-exact
      (here-exact (λ i. choose-exact (ℕ_discrete i (start_in cs k)) (pure-exact tt) (fail-exact refusals.unsound)))
      (λ u. times-exact (count_in cs k) x))
      (λ i ws vs. (table_to (start_in cs k) (count_in cs k) i ws vs, table-from (start_in cs k) (count_in cs k) i ws vs))
