-- `put_long_name` counts the name, and puts it where it has room. Assumes nothing.
use Rattle.names.proofs.LawsAnswer.{name-full, left-within, name-put}
use mathlib.Core.Path.{◌≡◌, refl}
use mathlib.Core.Logic.{inl, inr}
use mathlib.Core.List.{[], ◌∷◌}
use Prim.Native.Nat.{ℕ}
use denote.Enum.Declared.{tag_of}
use types.Run.{OneOf}
use Rattle.text.specs.declared.Pen.{Pen}
use Rattle.text.specs.declared.Pen.TheVariants.{At, Counting, Full}
use Rattle.text.specs.contracts.Pen.{the_type as pen-type}
use Rattle.names.proofs.put_long_name.Goals as goal

-- A pen that does not count is at a place or full.
at-or-full : (q : Pen) → ((n : ℕ) → q ≡ Counting n → ⊥) → OneOf (0 ∷ 2 ∷ []) (tag_of pen-type q)
at-or-full (At n) f = inl refl
at-or-full (Counting n) f = absurd (f n refl)
at-or-full Full f = inr refl

pub returns-in_default : goal.returns-in_default
returns-in_default c =
    let a = name-full _ _ c.requires _ _ c.describe_type.ensures (at-or-full _ c.in_default.not-Counting) in
    record { result_value = a.0; out_after = a.1 }

pub overflow_sub-result : goal.overflow_sub-result
overflow_sub-result c = left-within _ _ c.requires _ _ c.describe_type.ensures _ c.in-Counting.is

pub returns : goal.returns
returns c =
    let a = name-put _ _ c.requires _ _ c.describe_type.ensures _ c.in-Counting.is c.describe_type-2.ensures in
    record { result_value = a.0; out_after = a.1 }
