-- `judge_fields` chooses by the tag. Assumes nothing.
use mathlib.Core.Path.{◌≡◌, ap}
use mathlib.Core.Logic.{⊎_elim, ◌⊎◌}
use Prim.Native.Nat.{◌<◌}
use native.Mathlib.Omega.{arith}
use Rattle.format.specs.Types.{plain_tags, among}
use Rattle.judge.proofs.LawsKinds.{plain-steps, unknown-steps}
use Rattle.format.proofs.LawsTags.{plain-low}
use Rattle.judge.proofs.types.judge_fields.Goals as goal

pub returns-in_default : goal.returns-in_default
returns-in_default c =
    let n130 : ¬ (c.args.tag ≡ 130) = grind arith in
    let h : 22 < c.args.tag = grind arith in
    unknown-steps _ _ _ _ h n130

pub returns-in-0-to-11 : goal.returns-in-0-to-11
returns-in-0-to-11 c =
    let tag : (c.args.tag ≡ 22) ⊎ (c.args.tag ≡ 130) = grind arith in
    plain-steps _ _ _ _
    (⊎_elim (λ e. ap (λ t. among t plain_tags) e) (λ e. ap (λ t. among t plain_tags) e) tag)

pub returns-in-0-to-11-2 : goal.returns-in-0-to-11-2
returns-in-0-to-11-2 c =
    let low : c.args.tag < 20 = omega arith in
    plain-steps _ _ _ _
    (plain-low _ low (omega arith) (omega arith) (omega arith) (omega arith) (omega arith))
