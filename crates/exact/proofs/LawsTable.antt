-- The offset table is read exactly, once over the width of a start and the padding before the starts. Assumes nothing.
use mathlib.Core.Path.{◌≡◌, refl, ap, ◌∙◌, subst, subst₂}
use mathlib.Core.Logic.{◌↔◌}
use Prim.Native.Nat.{ℕ, ◌+◌}
use mathlib.Core.List.{List, ◌++◌}
use lib.ListN.{length, replicate}
use Rattle.exact.specs.Got.{got}
use Rattle.exact.specs.Exact.{Lang, Exact, Ends}
use Rattle.exact.specs.Sequence.{Then, then}
use Rattle.exact.specs.Repeat.{Many}
use Rattle.exact.specs.Fixed.{Fixed}
use Rattle.exact.specs.Padding.{Pad, gap, literal_of}
use Rattle.exact.specs.Tiling.{Tiled, join, sums}
use Rattle.exact.specs.Table.{Shape, table, Table}
use Rattle.exact.proofs.LawsExact.{same_ends, ends-whole}
use Rattle.exact.proofs.LawsSequence.{bind-ends}
use Rattle.exact.proofs.LawsRepeat.{times-exact, many-length}
use Rattle.exact.proofs.LawsFixed.{fixed-exact}
use Rattle.exact.proofs.LawsPadding.{pad-exact}
use Rattle.exact.proofs.LawsRest.{finish-ends}
use Rattle.exact.proofs.LawsTiling.{cuts-exact, length-sums}

-- The parts of a table, one after the other.
abbrev Chain : Lang ℕ → ℕ → ℕ → ℕ → Lang (List (List ℕ))
Chain C x w a = Then C (λ n. Then (Pad x a) (λ u. Then (Many (Fixed w) n) (λ ss i. Tiled ss)))

module _ {C : Lang ℕ} (x w a i : ℕ) (bs : List ℕ) (es : List (List ℕ)) where
  table-chain : Table C x w a i bs es → Chain C x w a i bs es
  table-chain t =
      let p : Pad x a (i + length t.count) t.pads tt = rw t.padded literal_of in
      let d : Tiled (sums (length t.before) es) (t.before ++ join es) es = record { gap = t.before; whole = refl; starts = refl } in
      rw t.whole (then t.counted (then p (then t.started d)))

chain-table : {C : Lang ℕ} (x w a i : ℕ) (bs : List ℕ) (es : List (List ℕ)) → Chain C x w a i bs es → Table C x w a i bs es
chain-table {C} x w a i bs es (then {bs = c} {v = n} s (then literal_of (then {bs = b} {v = ss} m t))) =
    let p : List ℕ = replicate (gap a (i + length c)) x in
    let q : n ≡ length es = many-length n _ b ss m ∙ ap length t.starts ∙ length-sums (length t.gap) es in
    record {
      count = c;
      pads = p;
      starts = b;
      before = t.gap;
      whole = ap (λ y. c ++ (p ++ (b ++ y))) t.whole;
      counted = subst (C i c) q s;
      padded = refl;
      started = subst₂ (λ k y. Many (Fixed w) k (i + length c + length p) b y) q t.starts m;
    }

-- The reader takes exactly the tables.
pub table-ends : (f : Shape) {C : Lang ℕ} → Exact f.number C → (w a : ℕ) → Ends (table f w a) (Table C f.fill w a)
unfolding table
table-ends f y w a =
    same_ends
    (bind-ends y (λ n. bind-ends (pad-exact f.unpadded f.fill a)
    (λ u. bind-ends (times-exact n (fixed-exact w)) (λ ss. finish-ends f.untiled (cuts-exact ss)))))
    (λ i bs v. (chain-table f.fill w a i bs v, table-chain f.fill w a i bs v))

-- A whole payload is taken exactly where it is a table.
pub table-iff : (f : Shape) {C : Lang ℕ} → Exact f.number C → (w a : ℕ) (l : List ℕ) (es : List (List ℕ)) →
    (table f w a l 0 ≡ got es (length l)) ↔ Table C f.fill w a 0 l es
table-iff f y w a = ends-whole (table-ends f y w a)
