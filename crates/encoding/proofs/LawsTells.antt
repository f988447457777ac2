-- What a test tells that is plainly true or false. Assumes nothing.
use mathlib.Core.Path.{◌≡◌, sym, subst}
use mathlib.Core.Bool.{true, false}
use lib.Dec.{T}
use Rattle.std.specs.Prelude.{Option, None, Some, SomeIff, is_some}
use Rattle.encoding.specs.Out.{Tells}

false-not-true : false ≡ true → ⊥
false-not-true e = subst T (sym e) tt

-- True, of what holds.
pub tells-yes : {P : Type 0} → P → Tells P true
tells-yes p = record { holds = λ e. p; fails = λ e. absurd (false-not-true (sym e)) }

-- False, of what does not.
pub tells-no : {P : Type 0} → ¬ P → Tells P false
tells-no h = record { holds = λ e. absurd (false-not-true e); fails = λ e. h }

-- A value that there is where P holds tells whether it does.
pub tells-some : {T P : Type 0} (v : T) (o : Option T) → SomeIff o P v → Tells P (is_some o)
tells-some v (Some x) h = tells-yes h.0
tells-some v None h = tells-no h
