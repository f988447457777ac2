-- `put_numbers` puts the numbers one by one: what the rest puts, all of them put. Assumes nothing.
use mathlib.Core.Path.{◌≡◌, sym, ap, ◌∙◌}
use Prim.Native.Nat.{◌+◌, ◌-◌, ◌*◌}
use native.Mathlib.Omega.{arith}
use lib.ListN.{take, drop}
use Rattle.exact.specs.Fixed.{little}
use Rattle.payloads.proofs.LawsPast.{put_words-past}
use Rattle.payloads.proofs.LawsArrays.{nums-done, nums-more}
use Rattle.payloads.proofs.fields.put_numbers.Goals as goal

pub returns-then-sheet-at : goal.returns-then-sheet-at
returns-then-sheet-at c = sym (put_words-past _ _ _ c.if-sheet-at.true)

pub loop-i-preserved : goal.loop-i-preserved
loop-i-preserved c =
    let i = c.loop-i.i in
    let k = c.args.width in
    let e : i * k + k - i * k ≡ k = omega arith in
    let v = c.number_of.ensures ∙ ap (λ n. little (take n (drop (i * k) c.args.run.now))) e in
    sym (nums-more _ _ _ _ _ _ _ _ _ (omega arith) c.loop-i-test.true v c.put_word.ensures) ∙ c.loop-i.invariant

pub returns : goal.returns
returns c = sym (nums-done _ _ _ _ _ _ c.loop-i-test.false) ∙ c.loop-i.invariant
