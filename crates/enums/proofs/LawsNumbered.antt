-- A number tells the refusal, or the stage, that has it. Assumes nothing.
use mathlib.Core.Path.{◌≡◌, refl, sym, ap, ◌∙◌}
use mathlib.Core.List.{[], ◌∷◌}
use Prim.Native.Nat.{ℕ}
use lib.ListN.{get_or}
use Rattle.enums.specs.Numbered.{number_of, stage_number}
use Rattle.enums.specs.declared.Refusal.{Refusal}
use Rattle.enums.specs.declared.Refusal.TheVariants.{Limit, Short, Overlong, Magic, Padding, Bounds, Producer, TypeTag, DebugTag, Hints, Full, Sheet, Start, Absent, NoSlot}
use Rattle.enums.specs.declared.Stage.{Stage}
use Rattle.enums.specs.declared.Stage.TheVariants as stage

-- The refusal that has a number; between those that one has stands the first.
pub refusal_of : ℕ → Refusal
refusal_of n =
    get_or
    (Limit ∷ Limit ∷ Short ∷ Overlong ∷ Magic ∷ Padding ∷ Bounds ∷ Producer ∷ TypeTag ∷ DebugTag ∷ Hints ∷ Full ∷
    Sheet ∷ Start ∷ Absent ∷ Limit ∷ Limit ∷ Limit ∷ NoSlot ∷ [])
    n Limit

pub refusal-back : (x : Refusal) → refusal_of (number_of x) ≡ x
unfolding refusal_of
refusal-back Limit = refl
refusal-back Short = refl
refusal-back Overlong = refl
refusal-back Magic = refl
refusal-back Padding = refl
refusal-back Bounds = refl
refusal-back Producer = refl
refusal-back TypeTag = refl
refusal-back DebugTag = refl
refusal-back Hints = refl
refusal-back Full = refl
refusal-back Sheet = refl
refusal-back Start = refl
refusal-back Absent = refl
refusal-back NoSlot = refl

pub refusal-only : {x y : Refusal} → number_of x ≡ number_of y → x ≡ y
refusal-only {x} {y} e = sym (refusal-back x) ∙ ap refusal_of e ∙ refusal-back y

-- The stage that has a number.
pub stage_of : ℕ → Stage
stage_of n =
    get_or
    (stage.Limits ∷ stage.Header ∷ stage.Sections ∷ stage.String ∷ stage.Producer ∷ stage.Type ∷ stage.Constant ∷
    stage.Global ∷ stage.Func ∷ stage.Debug ∷ stage.Call ∷ [])
    n stage.Limits

pub stage-back : (x : Stage) → stage_of (stage_number x) ≡ x
unfolding stage_of
stage-back stage.Limits = refl
stage-back stage.Header = refl
stage-back stage.Sections = refl
stage-back stage.String = refl
stage-back stage.Producer = refl
stage-back stage.Type = refl
stage-back stage.Constant = refl
stage-back stage.Global = refl
stage-back stage.Func = refl
stage-back stage.Debug = refl
stage-back stage.Call = refl

pub stage-only : {x y : Stage} → stage_number x ≡ stage_number y → x ≡ y
stage-only {x} {y} e = sym (stage-back x) ∙ ap stage_of e ∙ stage-back y
