-- `put_more` puts one number behind the other: whatever putting the rest leaves, putting them all leaves it. Assumes
-- nothing.
use Rattle.std.proofs.Common.{◌≡◌, ℕ, ◌-◌, ◌^◌, ◌<◌, List, length}
use Rattle.text.specs.declared.Pen.{Pen}
use Rattle.text.proofs.LawsNumbers.{MorePut}
use Rattle.text.proofs.Pen.put_more.Given as goal

abbrev pub invariant-loop : goal.invariant-loop
invariant-loop l =
    ((out' : List ℕ) (r : Pen) → MorePut l.number l.separator (l.count - l.counter) l.sheet l.word l.pen l.out out' r → MorePut l.number l.separator l.count l.sheet l.initial.word l.initial.pen l.initial.out out' r) ×
    (l.word < 2 ^ 64) × (length l.out ≡ length l.initial.out)
