-- What an answer with its place in the whole, or at a stage, says of the answer of the part. Assumes nothing.
use mathlib.Core.Path.{◌≡◌, refl, sym, ap}
use Prim.Native.Nat.{ℕ, ◌+◌, ◌^◌, ◌<◌}
use native.Mathlib.Omega.{arith}
use Rattle.std.specs.Prelude.{Result, Ok, Err}
use Rattle.std.specs.Result.{IfErr}
use Rattle.enums.specs.declared.Stage.{Stage}
use Rattle.reading.specs.declared.Refused.{Refused}
use Rattle.container.specs.declared.sections.Stopped.{Stopped}
use Rattle.container.specs.Shown.{stopped_at}
use Rattle.payloads.specs.Answers.{raised_answer, staged_answer}

ok-not-err : {T E : Type 0} {v : T} {y : E} → ◌≡◌ {A = Result T E} (Ok v) (Err y) → ⊥
ok-not-err e = let z : ◌≡◌ {A = ℕ} 0 1 = cc in omega arith

module _ {T : Type 0} where
  -- A refusal stands for one ..
  pub raised-err : (n : ℕ) (r : Result T Refused) (y : Refused) → Err y ≡ raised_answer n r →
      (x : Refused) × (r ≡ Err x) × (y ≡ record { refusal = x.refusal; at = n + x.at })
  raised-err n (Ok v) y e = absurd (ok-not-err (sym e))
  raised-err n (Err x) y e = (x, refl, cc e)

  pub staged-err : (n : Stage) (r : Result T Refused) (y : Stopped) → Err y ≡ staged_answer n r → (x : Refused) × (r ≡ Err x) × (y ≡ stopped_at x n)
  staged-err n (Ok v) y e = absurd (ok-not-err (sym e))
  staged-err n (Err x) y e = (x, refl, cc e)

  -- .. and a value for itself.
  pub raised-ok : (n : ℕ) (r : Result T Refused) (v : T) → Ok v ≡ raised_answer n r → r ≡ Ok v
  raised-ok n (Ok w) v e = sym e
  raised-ok n (Err x) v e = absurd (ok-not-err e)

  pub staged-ok : (n : Stage) (r : Result T Refused) (v : T) → Ok v ≡ staged_answer n r → r ≡ Ok v
  staged-ok n (Ok w) v e = ap Ok (cc e)
  staged-ok n (Err x) v e = absurd (ok-not-err e)

-- Where no refusal lies too far, the answer may be raised.
pub raised-fits : {T : Type 0} (n : ℕ) (r : Result T Refused) → ((x : Refused) → r ≡ Err x → n + x.at < 2 ^ 64) → IfErr r (λ x. n + x.at < 2 ^ 64)
raised-fits n (Ok v) h = tt
raised-fits n (Err x) h = h x refl
