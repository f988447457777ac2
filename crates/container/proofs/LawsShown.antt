-- A contract that says what the answer stands for allows one answer only (`*-only`). Assumes nothing.
use mathlib.Core.Path.{◌≡◌, refl, sym, ap, ◌∙◌}
use Prim.Native.Nat.{ℕ}
use Rattle.std.specs.Prelude.{Result, Ok, Err}
use Rattle.enums.specs.Numbered.{number_of, stage_number}
use Rattle.enums.proofs.LawsNumbered.{refusal_of, refusal-back, stage_of, stage-back}
use Rattle.enums.specs.declared.BytecodeVersion.{BytecodeVersion}
use Rattle.exact.specs.Got.{Got}
use Rattle.reading.specs.declared.Reader.{Reader}
use Rattle.reading.specs.declared.Refused.{Refused}
use Rattle.reading.proofs.LawsShown.{only, by-only}
use Rattle.format.specs.Tables.{Version}
use Rattle.format.specs.Read.{Read, accepted, refused}
use Rattle.container.specs.declared.sections.Stopped.{Stopped}
use Rattle.container.specs.Container.{got_header, held_version}
use Rattle.container.specs.Shown.{read_by, read_of}

-- The refusal of a number at a stage.
abbrev pub stopped_of : ℕ → ℕ → ℕ → Stopped
stopped_of c n i = record { refusal = refusal_of c; stage = stage_of n; at = i }

pub stopped-back : (x : Stopped) → stopped_of (number_of x.refusal) (stage_number x.stage) x.at ≡ x
stopped-back x =
    ap (λ y. record { refusal = y; stage = stage_of (stage_number x.stage); at = x.at }) (refusal-back x.refusal) ∙
    ap (λ y. record { refusal = x.refusal; stage = y; at = x.at }) (stage-back x.stage)

module _ {V A : Type 0} (shown : V → A) (back : A → V) (same : (v : V) → back (shown v) ≡ v) where
  abbrev back_by : Read A → Result V Stopped
  back_by (accepted a) = Ok (back a)
  back_by (refused c n i) = Err (stopped_of c n i)

  same_by : (x : Result V Stopped) → back_by (read_by shown x) ≡ x
  same_by (Ok v) = ap Ok (same v)
  same_by (Err x) = ap Err (stopped-back x)

  -- Answers whose values are known by what they stand for.
  pub read_by-only : {r q : Result V Stopped} {g : Read A} → read_by shown r ≡ g → read_by shown q ≡ g → r ≡ q
  read_by-only = only (read_by shown) back_by same_by

-- Answers whose values stand for themselves.
pub read-only : {A : Type 0} {r q : Result A Stopped} {g : Read A} → read_of r ≡ g → read_of q ≡ g → r ≡ q
read-only = read_by-only (λ v. v) (λ v. v) (λ v. refl)

-- Headers.
pub header-only : {r q : Result (BytecodeVersion × Reader) Refused} {g : Got Version} → got_header r ≡ g →
    got_header q ≡ g → r ≡ q
header-only = by-only _ held_version (λ v r. refl)

-- A contract that names the value allows no other: places.
pub value-only : {A : Type 0} {r q v : A} → r ≡ v → q ≡ v → r ≡ q
value-only e f = e ∙ sym f
