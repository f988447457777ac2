-- What an answer that is known says of the parser's answer (`told`), and that a contract `got_x r ≡ g` allows one answer
-- only (`*-only`): what an answer stands for gives it back. Assumes nothing.
use mathlib.Core.Path.{◌≡◌, refl, sym, ap, ◌∙◌}
use Prim.Native.Nat.{ℕ}
use mathlib.Core.List.{List}
use lib.ListN.{length, drop}
use Rattle.std.specs.Prelude.{Result, Ok, Err}
use Rattle.enums.specs.Numbered.{number_of}
use Rattle.enums.proofs.LawsNumbered.{refusal_of, refusal-back}
use Rattle.exact.specs.Got.{Got, got, stop}
use Rattle.exact.proofs.LawsFixed.{length-nums}
use Rattle.reading.specs.Shown.{got_by, got_of, got_bytes, got_padding, got_items}
use Rattle.reading.specs.declared.Reader.{Reader}
use Rattle.reading.specs.declared.Refused.{Refused}
use Rattle.reading.specs.declared.Items.{Items}

-- A read that answered x: the parser answers what x stands for.
pub told : {X Y : Type 0} (shown : X → Y) {r x : X} {g : Y} → r ≡ x → shown r ≡ g → g ≡ shown x
told shown e h = sym h ∙ ap shown e

-- Where what is shown gives the answer back, equal shows come from equal answers.
pub only : {X Y : Type 0} (shown : X → Y) (back : Y → X) → ((x : X) → back (shown x) ≡ x) → {r q : X} {g : Y} →
    shown r ≡ g → shown q ≡ g → r ≡ q
only shown back same {r} {q} a b = sym (same r) ∙ ap back (a ∙ sym b) ∙ same q

-- The refusal of a number at a place.
abbrev pub refused_at : ℕ → ℕ → Refused
refused_at c k = record { refusal = refusal_of c; at = k }

pub refused-back : (x : Refused) → refused_at (number_of x.refusal) x.at ≡ x
refused-back x = ap (λ y. record { refusal = y; at = x.at }) (refusal-back x.refusal)

module _ {V A : Type 0} (shown : V → Reader → A) (back : A → V) (same : (v : V) (r : Reader) → back (shown v r) ≡ v) where
  abbrev back_by : Got A → Result (V × Reader) Refused
  back_by (got a j) = Ok (back a, record { pos = j })
  back_by (stop c k) = Err (refused_at c k)

  same_by : (x : Result (V × Reader) Refused) → back_by (got_by shown x) ≡ x
  same_by (Ok (v, r)) = ap (λ y. Ok (y, r)) (same v r)
  same_by (Err x) = ap Err (refused-back x)

  -- Answers whose values are known by what they stand for.
  pub by-only : {r q : Result (V × Reader) Refused} {g : Got A} → got_by shown r ≡ g → got_by shown q ≡ g → r ≡ q
  by-only = only (got_by shown) back_by same_by

module _ {A : Type 0} where
  -- Numbers of any type.
  pub told-of : {r x : Result (A × Reader) Refused} {g : Got A} → r ≡ x → got_of r ≡ g → g ≡ got_of x
  told-of = told got_of

  pub of-only : {r q : Result (A × Reader) Refused} {g : Got A} → got_of r ≡ g → got_of q ≡ g → r ≡ q
  of-only = by-only (λ v r. v) (λ v. v) (λ v r. refl)

pub bytes-only : (s : List ℕ) {r q : Result (ℕ × Reader) Refused} {g : Got (ℕ × List ℕ)} → got_bytes s r ≡ g →
    got_bytes s q ≡ g → r ≡ q
bytes-only s = by-only _ (λ v. v.0) (λ v r. refl)

abbrev back_padding : Got (Unit {0}) → Result Reader Refused
back_padding (got v j) = Ok (record { pos = j })
back_padding (stop c k) = Err (refused_at c k)

same_padding : (x : Result Reader Refused) → back_padding (got_padding x) ≡ x
same_padding (Ok r) = refl
same_padding (Err x) = ap Err (refused-back x)

pub padding-only : {r q : Result Reader Refused} {g : Got (Unit {0})} → got_padding r ≡ g → got_padding q ≡ g → r ≡ q
padding-only = only got_padding back_padding same_padding

-- Counted arrays: the place where the numbers start is part of what they stand for, and so is how many they are.
pub told-items : (w : ℕ) (s : List ℕ) {r x : Result (Items × Reader) Refused} {g : Got (ℕ × List ℕ)} → r ≡ x →
    got_items w s r ≡ g → g ≡ got_items w s x
told-items w s = told (got_items w s)

pub items-only : (w : ℕ) (s : List ℕ) {r q : Result (Items × Reader) Refused} {g : Got (ℕ × List ℕ)} →
    got_items w s r ≡ g → got_items w s q ≡ g → r ≡ q
items-only w s =
    by-only _ (λ v. record { count = length v.1; start = v.0 })
    (λ i r. ap (λ n. record { count = n; start = i.start }) (length-nums i.count w (drop i.start s)))
