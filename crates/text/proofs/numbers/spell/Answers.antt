-- `spell` puts the digits from the last one back: those that are left have room before `at`, and all together are the
-- number's. Assumes nothing.
use Rattle.std.proofs.Common.{◌≡◌, suc, ◌-◌, ◌/◌, ◌^◌, ◌<◌, length, ◌∙◌, subst, arith, length-set}
use Rattle.text.proofs.LawsDigits.{tenth-below, not_first, spelt-more, spelt-one}
use Rattle.text.proofs.numbers.spell.Goals as goal

pub loop-rest-preserved : goal.loop-rest-preserved
loop-rest-preserved c =
    let l = c.loop-rest in
    let i = l.invariant in
    let t = c.loop-rest-test.true in
    let z = not_first l.at l.rest i.2 t in
    let b : l.rest / 10 < 10 ^ suc (l.at - 1) = subst (λ n. l.rest / 10 < 10 ^ n) (let e : l.at ≡ suc (l.at - 1) = omega (arith, z) in e) (tenth-below l.at l.rest i.2) in
    (omega (arith, z, i.0), length-set l.digits l.at _ ∙ i.1, b, spelt-more l.at l.rest l.digits _ z (omega (arith, i.0, i.1)) t i.3)

pub returns : goal.returns
returns c =
    let l = c.loop-rest in
    let i = l.invariant in
    let h : l.at < length l.digits = omega (arith, i.0, i.1) in
    let k : l.rest < 10 = let t = c.loop-rest-test.false in omega (arith, t) in
    (omega (arith, i.0), spelt-one l.at l.rest l.digits _ h k i.3)
