-- The steps of the readers of the rows of Global and Func, by the model. Assumes nothing.
use mathlib.Core.Path.{◌≡◌, refl, sym, ap, ◌∙◌}
use Prim.Native.Nat.{ℕ, ◌+◌, ◌≤◌, ◌<◌}
use native.Mathlib.Omega.{arith}
use mathlib.Core.List.{List, ◌∷◌, ◌++◌}
use lib.ListN.{length, drop, length-append, length-drop}
use Rattle.exact.specs.Got.{got, stop}
use Rattle.exact.specs.Basic.{pure}
use Rattle.exact.specs.Sequence as sequence
use Rattle.exact.specs.Fixed.{raw}
use Rattle.exact.specs.Upto.{place}
use Rattle.exact.proofs.LawsSequence.{bind-got, bind-stop}
use Rattle.enums.specs.declared.VersionClass.{VersionClass}
use Rattle.encoding.proofs.LawsVarint.{digits-some}
use Rattle.reading.specs.Numbers.{varint_at, placed}
use Rattle.reading.proofs.LawsPlaced.{placed-got, placed-stop}
use Rattle.format.specs.Tables.{Global, Function}
use Rattle.format.specs.Globals.{GlobalRow, global}
use Rattle.format.specs.Functions.{Located, FunctionRow, function}
use Rattle.format.specs.DecodeRows.{global_at, body_at, function_at}
use Rattle.format.proofs.LawsRows.{global-exact, function-exact}

-- A row takes bytes.
global-some : (c : VersionClass) (i : ℕ) (bs : List ℕ) (v : Global) → GlobalRow c i bs v → 1 ≤ length bs
global-some c i bs v (global {name_bytes = x} {type_bytes = y} {constant_bytes = z} {alignment_bytes = u} {visibility_bytes = m} {flag_bytes = n} a b d e f g) =
    omega (arith, length-append x (y ++ (z ++ (u ++ (m ++ n)))), digits-some 9 x _ a)

-- A global that was read ends inside, further on.
pub global-in : (c : VersionClass) (l : List ℕ) (i : ℕ) (v : Global) (j : ℕ) → i ≤ length l → global_at c l i ≡ got v j →
    (i < j) × (j ≤ length l)
global-in c l i v j h e =
    let r = (global-exact c).sound l i v j e in
    let long = ap length r.there in
    (omega (arith, r.next, global-some c i r.bytes v r.spelt), omega (arith, r.next, length-append r.bytes (drop j l), length-drop i l, length-drop j l))

-- The body of a function: its length, and its bytes.
module _ (o n s f m : ℕ) (l : List ℕ) (i : ℕ) where
  pub body-got : (z j b k : ℕ) (x : List ℕ) → varint_at l i ≡ got z j → placed (raw z) l j ≡ got (b, x) k →
      body_at o n s f m l i ≡
      got (record { at = o + b; value = record { name = n; signature = s; flags = f; location = m; body = x } }) k
  unfolding body_at place sequence.mapped pure
  body-got z j b k x e d =
      let (q, r) = placed-got (raw z) l j b x k d in
      bind-got varint_at _ l i z j (sym e) ∙ bind-got place _ l j j j refl ∙ bind-got (raw z) _ l j x k (sym r) ∙
      ap (λ a. got (record { at = o + a; value = record { name = n; signature = s; flags = f; location = m; body = x } }) k) (sym q)

  pub body-short : (z j x k : ℕ) → varint_at l i ≡ got z j → placed (raw z) l j ≡ stop x k → body_at o n s f m l i ≡ stop x k
  unfolding body_at place sequence.mapped
  body-short z j x k e d =
      bind-got varint_at _ l i z j (sym e) ∙ bind-got place _ l j j j refl ∙ bind-stop (raw z) _ l j x k (sym (placed-stop (raw z) l j x k d))

-- A function's body ends where the row does, and further on than the row begins.
function-long : (o i : ℕ) (bs : List ℕ) (v : Located Function) → FunctionRow o i bs v →
    (i + o < v.at) × (v.at + length v.value.body ≡ o + (i + length bs))
function-long o i bs v (function {name_bytes = a} {signature_bytes = b} {location_bytes = d} {length_bytes = e} {body = y} {flags = f} n s h l m) = (
  omega (arith, digits-some 9 a _ n),
  omega (arith, length-append a (b ++ (f ∷ (d ++ (e ++ y)))), length-append b (f ∷ (d ++ (e ++ y))), length-append d (e ++ y), length-append e y),
)

pub function-in : (l : List ℕ) (i : ℕ) (v : Located Function) (j : ℕ) → i ≤ length l → function_at 0 l i ≡ got v j →
    (i < v.at) × (v.at + length v.value.body ≡ j) × (j ≤ length l)
function-in l i v j h e =
    let r = (function-exact 0).sound l i v j e in
    let long = ap length r.there in
    let x = function-long 0 i r.bytes v r.spelt in
    (omega (arith, x.0), omega (arith, x.1, r.next), omega (arith, r.next, length-append r.bytes (drop j l), length-drop i l, length-drop j l))
