-- `put_varint` puts the shortest spelling: one digit at once, and more of them digit by digit. Assumes nothing.
use mathlib.Core.Path.{◌≡◌, refl, sym, ◌∙◌}
use mathlib.Core.List.{List, []}
use Prim.Native.Nat.{ℕ, ◌+◌, ◌/◌, ◌%◌, ◌^◌, ◌≤◌, ◌<◌}
use native.Mathlib.Omega.{arith}
use lib.ListN.{length, set, length-set}
use Rattle.encoding.specs.Varint.{spelling}
use Rattle.encoding.specs.Out.{put}
use Rattle.encoding.proofs.LawsVarint.{spelling-last, spelling-more, spelling-some, spelling-size-last, spelling-size-more}
use Rattle.encoding.proofs.LawsOut.{put_next, put-nil}
use Rattle.encoding.proofs.put_varint.Goals as goal

turn : (out : List ℕ) (i rest : ℕ) → rest < 2 ^ 64 → 128 ≤ rest → i + length (spelling rest) ≤ length out →
    put out i (spelling rest) ≡ put (set out i (128 + rest % 128)) (i + 1) (spelling (rest / 128))
turn out i rest h l r = put_next out i (128 + rest % 128) (spelling (rest / 128)) (i + 1) (spelling-more rest h l) refl r

done : (out : List ℕ) (i rest : ℕ) → rest < 128 → i + length (spelling rest) ≤ length out →
    put out i (spelling rest) ≡ set out i rest
done out i rest l r = put_next out i rest [] (i + 1) (spelling-last rest l) refl r ∙ put-nil (set out i rest) (i + 1)

pub bounds-out-at : goal.bounds-out-at
bounds-out-at c = omega (arith, spelling-size-last c.args.value c.if-value-lt128.true)

pub returns-then-value-lt128 : goal.returns-then-value-lt128
returns-then-value-lt128 c =
    let t = c.if-value-lt128.true in
    record {
      place = omega (arith, spelling-size-last c.args.value t);
      output = sym (done _ _ _ t c.requires);
    }

pub bounds-out-i : goal.bounds-out-i
bounds-out-i c =
    let l = c.loop-rest in
    let h : l.rest < 2 ^ 64 = omega arith in
    omega (arith, spelling-some l.rest h)

pub loop-rest-preserved : goal.loop-rest-preserved
loop-rest-preserved c =
    let l = c.loop-rest in
    let h : l.rest < 2 ^ 64 = omega arith in
    let r : l.i + length (spelling l.rest) ≤ length l.out = omega arith in (
      l.invariant.0 ∙ turn _ _ _ h c.loop-rest-test.true r,
      omega (arith, spelling-size-more l.rest h c.loop-rest-test.true),
      omega arith,
      simp length-set l.invariant.3,
    )

pub bounds-out-i-2 : goal.bounds-out-i-2
bounds-out-i-2 c =
    let l = c.loop-rest in
    let h : l.rest < 2 ^ 64 = omega arith in
    omega (arith, spelling-some l.rest h)

pub returns : goal.returns
returns c =
    let l = c.loop-rest in
    let r : l.i + length (spelling l.rest) ≤ length l.out = omega arith in
    let t = c.loop-rest-test.false in
    record {
      place = omega (arith, spelling-size-last l.rest t);
      output = sym (l.invariant.0 ∙ done _ _ _ t r);
    }
