-- Known bytes and padding are read exactly, once over the alignment, and padding ends at a multiple of it.
-- Assumes nothing.
use mathlib.Core.Path.{◌≡◌, refl, ap, ◌∙◌}
use Prim.Native.Nat.{ℕ, ◌+◌, ◌-◌, ◌*◌, ◌/◌, ◌%◌, ◌≤◌, ◌<◌}
use native.Mathlib.Nat.{mod-lt, add-mod-mod, mod_self, div-add-mod, mul-add-mod_self_left}
use native.Mathlib.Omega.{arith}
use native.Mathlib.Decide.{dec_lt, ℕ_discrete}
use mathlib.Core.List.{List, [], ◌∷◌}
use lib.ListN.{replicate}
use Rattle.exact.specs.Got.{Got, got, stop}
use Rattle.exact.specs.Exact.{Parser, Lang, Exact}
use Rattle.exact.specs.Basic.{One, one, Is, is, Never}
use Rattle.exact.specs.Sequence.{Then, then}
use Rattle.exact.specs.Choice.{If, so, else}
use Rattle.exact.specs.Padding.{literal, Literal, literal_of, broke, blamed, here, gap, pad, Pad}
use Rattle.exact.proofs.LawsExact.{same-exact, stop-not-got}
use Rattle.exact.proofs.LawsBasic.{byte-exact, pure-exact, fail-exact}
use Rattle.exact.proofs.LawsSequence.{bind-exact}
use Rattle.exact.proofs.LawsChoice.{choose-exact, choose_yes, choose_no}

is-literal : (i : ℕ) (bs : List ℕ) (v : Unit {0}) → Is tt i bs v → Literal [] i bs v
is-literal i bs v is = literal_of

literal-is : (i : ℕ) (bs : List ℕ) (v : Unit {0}) → Literal [] i bs v → Is tt i bs v
literal-is i bs v literal_of = is

then-literal : (b : ℕ) (s : List ℕ) (i : ℕ) (bs : List ℕ) (v : Unit {0}) → Then One (λ x. If (x ≡ b) (Literal s) Never) i bs v →
    Literal (b ∷ s) i bs v
then-literal b s i bs v (then one (so e literal_of)) = rw e literal_of
then-literal b s i _ v (then {cs = cs} {w = w} one (else _ never)) = elim never [ ]

literal-then : (b : ℕ) (s : List ℕ) (i : ℕ) (bs : List ℕ) (v : Unit {0}) → Literal (b ∷ s) i bs v →
    Then One (λ x. If (x ≡ b) (Literal s) Never) i bs v
literal-then b s i bs v literal_of = then one (so refl literal_of)

-- Known bytes are read exactly.
pub literal-exact : (c : ℕ) (s : List ℕ) → Exact (literal c s) (Literal s)
unfolding literal
literal-exact c [] = same-exact (pure-exact tt) (λ i bs v. (is-literal i bs v, literal-is i bs v))
literal-exact c (b ∷ s) =
    same-exact (bind-exact byte-exact (λ x. choose-exact (ℕ_discrete x b) (literal-exact c s) (fail-exact c)))
    (λ i bs v. (then-literal b s i bs v, literal-then b s i bs v))

broke-inv : {A : Type 0} (g : Got A) (i : ℕ) (v : A) (j : ℕ) → broke g i ≡ got v j → g ≡ got v j
unfolding broke
broke-inv (got w k) i v j e = e
broke-inv (stop c k) i v j e = absurd (stop-not-got e)

-- Where a refusal points changes nothing of what is read.
pub blamed-exact : {A : Type 0} {p : Parser A} {R : Lang A} → Exact p R → Exact (blamed p) R
unfolding blamed broke
blamed-exact {p = p} x =
    record {
      sound = λ l i v j e. x.sound l i v j (broke-inv (p l i) i v j e);
      complete = λ l i bs rest v r d. rw (x.complete l i bs rest v r d);
    }

-- A parser that depends on its place is exact if it is so at each.
pub here-exact : {A : Type 0} {f : ℕ → Parser A} {R : ℕ → Lang A} → ((i : ℕ) → Exact (f i) (R i)) → Exact (here f) (λ i. R i i)
unfolding here
here-exact x =
    record {
      sound = λ l i v j e. let r = (x i).sound l i v j e in
          record { bytes = r.bytes; spelt = r.spelt; there = r.there; next = r.next };
      complete = λ l i. (x i).complete l i;
    }

-- Padding is read exactly, whatever the alignment.
pub pad-exact : (c x a : ℕ) → Exact (pad c x a) (Pad x a)
unfolding pad
pad-exact c x a = blamed-exact (here-exact (λ i. literal-exact c (replicate (gap a i) x)))

-- Nothing is padded to an alignment below 2.
pub gap-none : (a i : ℕ) → a < 2 → gap a i ≡ 0
unfolding gap
gap-none a i h = choose_yes (dec_lt a 2) 0 _ h

-- From 2 on it is what is missing to the next multiple.
pub gap-some : (a i : ℕ) → 2 ≤ a → gap a i ≡ (a - i % a) % a
unfolding gap
gap-some a i h = choose_no (dec_lt a 2) 0 _ (omega arith)

-- Padding takes fewer bytes than the alignment ..
pub gap-less : (a i : ℕ) → 0 < a → gap a i < a
gap-less a i h =
    elim (dec_lt a 2) [
      | yes k ↦ rw (gap-none a i k) h
      | no k ↦ let m : 2 ≤ a = omega arith in rw (gap-some a i m) (mod-lt (a - i % a) h)
    ]

-- .. and ends at a multiple of it.
pub gap-even : (a i : ℕ) → 2 ≤ a → (i + gap a i) % a ≡ 0
gap-even a i h =
    let s : i % a < a = mod-lt i (omega arith) in
    let w : i + (a - i % a) ≡ a * (i / a) + a = omega (arith, div-add-mod i a) in
    rw (gap-some a i h) (add-mod-mod i (a - i % a) a ∙ ap (λ n. n % a) w ∙ mul-add-mod_self_left a (i / a) a ∙ mod_self a)
