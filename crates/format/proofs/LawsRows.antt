-- Global and Func are read exactly. Assumes nothing.
use mathlib.Core.Path.{◌≡◌, refl}
use Prim.Native.Nat.{ℕ, ◌+◌, ◌/◌, ◌%◌}
use native.Mathlib.Nat.{add-zero}
use native.Mathlib.Decide.{ℕ_discrete}
use mathlib.Core.Bool.{true, Bool-discrete}
use mathlib.Core.List.{List, ◌∷◌, ◌++◌}
use lib.ListN.{length}
use Rattle.exact.specs.Exact.{Lang, Exact, Ends}
use Rattle.exact.specs.Basic.{One, one, Never}
use Rattle.exact.specs.Sequence.{Then, then, Of, of}
use Rattle.exact.specs.Choice.{If, so, else}
use Rattle.exact.specs.Fixed.{Raw, raw_of}
use Rattle.exact.specs.Upto.{At, at}
use Rattle.exact.proofs.LawsExact.{same-exact}
use Rattle.exact.proofs.LawsBasic.{byte-exact}
use Rattle.exact.proofs.LawsSequence.{bind-exact, map-exact}
use Rattle.exact.proofs.LawsChoice.{choose-exact}
use Rattle.exact.proofs.LawsRepeat.{counted-exact}
use Rattle.exact.proofs.LawsFixed.{raw-exact}
use Rattle.exact.proofs.LawsRefuse.{refuse-exact}
use Rattle.exact.proofs.LawsUpto.{upto-ends, place-exact, map-ends}
use Rattle.enums.specs.Container.{hints_flag}
use Rattle.enums.specs.declared.VersionClass.{VersionClass}
use Rattle.enums.specs.Version.{since13_3}
use Rattle.encoding.specs.Varint.{Spells}
use Rattle.reading.proofs.LawsNumbers.{varint-exact}
use Rattle.format.specs.Tables.{Global, Function}
use Rattle.format.specs.Items.{Number, Byte, Field, Truth}
use Rattle.format.specs.Globals.{GlobalRow, global, Globals}
use Rattle.format.specs.Functions.{Located, apart, NoHints, FunctionRow, function, Functions}
use Rattle.format.specs.DecodeRows.{global_at, globals_at, body_at, function_at, functions_at}
use Rattle.format.proofs.LawsItems.{one-byte-exact, field-exact, truth-exact}

abbrev global_of : ℕ → ℕ → ℕ → ℕ → ℕ → ℕ → Global
global_of n t k a v f = record { name = n; type = t; constant = k; alignment = a; visibility = v; constant_flag = f }

abbrev GlobalChain : VersionClass → Lang Global
GlobalChain c =
    Then Number (λ n. Then Number (λ t. Then Number (λ k. Then Number (λ a. Then (λ i. Field (since13_3 c ≡ true) Byte)
    (λ v. Of (λ f. global_of n t k a v f) (λ i. Field (since13_3 c ≡ true) (Truth Spells)))))))

to-global : (c : VersionClass) (i : ℕ) (bs : List ℕ) (g : Global) → GlobalChain c i bs g → GlobalRow c i bs g
to-global c i bs g (then n (then t (then k (then a (then v (of f)))))) = global n t k a v f

of-global : (c : VersionClass) (i : ℕ) (bs : List ℕ) (g : Global) → GlobalRow c i bs g → GlobalChain c i bs g
of-global c i bs g (global n t k a v f) = then n (then t (then k (then a (then v (of f)))))

pub global-exact : (c : VersionClass) → Exact (global_at c) (GlobalRow c)
unfolding global_at
global-exact c =
    same-exact
    (bind-exact varint-exact (λ n. bind-exact varint-exact (λ t. bind-exact varint-exact (λ k. bind-exact varint-exact
    (λ a. bind-exact (field-exact (Bool-discrete (since13_3 c) true) one-byte-exact)
    (λ v. map-exact (λ f. global_of n t k a v f) (field-exact (Bool-discrete (since13_3 c) true) (truth-exact varint-exact))))))))
    (λ i bs v. (to-global c i bs v, of-global c i bs v))

pub globals-ends : (c : VersionClass) (o : ℕ) → Ends (globals_at c o) (Globals c o)
unfolding globals_at
globals-ends c o = upto-ends (counted-exact varint-exact (global-exact c))

abbrev function_of : ℕ → ℕ → ℕ → ℕ → ℕ → ℕ → List ℕ → Located Function
function_of o k n s f l b = record { at = o + k; value = record { name = n; signature = s; flags = f; location = l; body = b } }

abbrev Body : ℕ → ℕ → ℕ → ℕ → ℕ → Lang (Located Function)
Body o n s f l = Then Number (λ m. Then At (λ k. Of (λ b. function_of o k n s f l b) (Raw m)))

abbrev FunctionChain : ℕ → Lang (Located Function)
FunctionChain o =
    Then Number (λ n. Then Number (λ s. Then At (λ k. Then One (λ f. Then Number (λ l. If (NoHints f) (Body o n s f l) Never)))))

to_function : (o i : ℕ) (bs : List ℕ) (v : Located Function) → FunctionChain o i bs v → FunctionRow o i bs v
to_function o i bs v (then n (then s (then at (then one (then l (so h (then m (then at (of (raw_of e)))))))))) =
    rw add-zero (function n s h l (rw (← e) at m))
to_function o i _ v (then n (then s (then at (then (one {b = b}) (then {cs = cs} {v = w} l (else _ never)))))) = elim never [ ]

of_function : (o i : ℕ) (bs : List ℕ) (v : Located Function) → FunctionRow o i bs v → FunctionChain o i bs v
of_function o i bs v (function {name_bytes = a} {signature_bytes = b} {location_bytes = d} {length_bytes = e} {body = y} {name = u} {signature = w}
    {flags = f} {location = x} n s h l m) =
    let k : ℕ = i + length a + length b + 0 + 1 + length d + length e in
    let t : FunctionChain o i (a ++ (b ++ (f ∷ (d ++ (e ++ y))))) (function_of o k u w f x y) =
    then n (then s (then at (then one (then l (so h (then m (then at (of (raw_of refl))))))))) in
    rw add-zero at t

body-exact : (o n s f l : ℕ) → Exact (body_at o n s f l) (Body o n s f l)
unfolding body_at
body-exact o n s f l = bind-exact varint-exact (λ m. bind-exact place-exact (λ k. map-exact (λ b. function_of o k n s f l b) (raw-exact m)))

pub function-exact : (o : ℕ) → Exact (function_at o) (FunctionRow o)
unfolding function_at
function-exact o =
    same-exact
    (bind-exact varint-exact (λ n. bind-exact varint-exact (λ s. bind-exact place-exact (λ k. bind-exact byte-exact
    (λ f. bind-exact varint-exact
    (λ l. choose-exact (ℕ_discrete (f / hints_flag % 2) 0) (body-exact o n s f l) (refuse-exact _ k)))))))
    (λ i bs v. (to_function o i bs v, of_function o i bs v))

pub functions-ends : (o : ℕ) → Ends (functions_at o) (Functions o)
unfolding functions_at
functions-ends o = map-ends apart (upto-ends (counted-exact varint-exact (function-exact o)))
