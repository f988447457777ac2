-- Any two results that the contract of `type_text` allows are equal: the answer, and what is left in the buffer.
-- Assumes nothing.
use mathlib.Core.Path.{◌≡◌, sym, ap, ◌∙◌}
use Prim.Native.Nat.{ℕ}
use mathlib.Core.List.{List}
use Rattle.names.specs.Names.{name_read}
use Rattle.std.specs.Prelude.{Result, Ok, Err}
use Rattle.enums.specs.declared.Refusal.{Refusal}
use Rattle.enums.specs.Numbered.{number_of}
use Rattle.enums.proofs.LawsNumbered.{refusal-only}
use Rattle.names.proofs.LawsAnswer.{Answered}

told-only : (x y : Result ℕ Refusal) → name_read x ≡ name_read y → x ≡ y
told-only (Ok m) (Ok n) e = cc
told-only (Ok m) (Err r) e = cc
told-only (Err r) (Ok n) e = cc
told-only (Err r) (Err q) e = ap Err (refusal-only (let n : number_of r ≡ number_of q = cc in n))

pub names-only : (s : List ℕ) (row : ℕ) (out : List ℕ) {out' out'' : List ℕ} (x y : Result ℕ Refusal) → Answered s row out out' x → Answered s row out out'' y →
    (x ≡ y) × (out' ≡ out'')
names-only s row out x y a b = (told-only x y (a.0 ∙ sym b.0), a.1 ∙ sym b.1)
