-- One byte, no bytes and nothing at all are read exactly. Assumes nothing.
use mathlib.Core.Path.{◌≡◌, refl, sym, ap}
use Prim.Native.Nat.{ℕ, ◌+◌}
use native.Mathlib.Nat.{add-zero}
use native.Mathlib.Numerals.{add-one}
use native.Mathlib.Omega.{arith}
use mathlib.Core.List.{List, [], ◌∷◌, ◌++◌}
use lib.ListN.{length, drop}
use Rattle.exact.specs.Got.{got}
use Rattle.exact.specs.Exact.{Exact, Reads}
use Rattle.exact.specs.Basic.{byte, byte_of, One, one, pure, Is, is, fail, Never}
use Rattle.exact.proofs.LawsExact.{drop_past, stop-not-got, got-value, got-next}

byte-sound : (l : List ℕ) (i v j : ℕ) (s : List ℕ) → drop i l ≡ s → byte_of s i ≡ got v j → Reads One l i v j
unfolding byte_of
byte-sound l i v j [] d e = absurd (stop-not-got e)
byte-sound l i v j (b ∷ bs) d e =
    let past : drop (i + 1) l ≡ bs = drop_past l i (b ∷ []) bs d in
    let n : j ≡ i + 1 = omega (arith, got-next e) in
    record { bytes = v ∷ []; spelt = one; there = cc (got-value e); next = n }

byte-complete : (l : List ℕ) (i : ℕ) (bs rest : List ℕ) (v : ℕ) → One i bs v → drop i l ≡ bs ++ rest →
    byte l i ≡ got v (i + length bs)
unfolding byte byte_of
byte-complete l i bs rest v one d = rw d (ap (got v) (sym (add-one i)))

-- A byte is read exactly.
pub byte-exact : Exact byte One
unfolding byte
byte-exact = record { sound = λ l i v j e. byte-sound l i v j (drop i l) refl e; complete = byte-complete }

pure-complete : {A : Type 0} (w : A) (l : List ℕ) (i : ℕ) (bs rest : List ℕ) (v : A) → Is w i bs v →
    drop i l ≡ bs ++ rest → pure w l i ≡ got v (i + length bs)
unfolding pure
pure-complete w l i bs rest v is d = rw add-zero

-- A value that takes no bytes is read exactly.
pub pure-exact : {A : Type 0} (w : A) → Exact (pure w) (Is w)
unfolding pure
pure-exact w =
    record {
      sound = λ l i v j e.
          record { bytes = []; spelt = rw (← got-value e) is; there = cc (got-next e); next = omega (arith, got-next e) };
      complete = pure-complete w;
    }

-- What always refuses is exact for the empty language.
pub fail-exact : {A : Type 0} (c : ℕ) → Exact (fail {A = A} c) Never
unfolding fail
fail-exact c = record { sound = λ l i v j e. absurd (stop-not-got e); complete = λ l i bs rest v n. absurd n }
