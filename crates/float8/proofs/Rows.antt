-- Rows (g) to (k) of document 01's marked table, of the definition: one test, which antt computes, decides what a
-- pattern of bits becomes. Assumes nothing.
use mathlib.Core.Path.{◌≡◌, refl}
use mathlib.Core.Bool.{Bool, true, cond, ◌&&◌, and-eq-true_iff}
use mathlib.Core.List.{List, [], ◌∷◌}
use Prim.Native.Nat.{ℕ, suc, ◌+◌, ◌-◌, ◌*◌, ◌/◌, ◌%◌, ◌^◌, ◌≤◌, ◌<◌}
use native.Mathlib.Omega.{arith}
use lib.Dec.{eqb, leb, ltb}
use borrow.Author.Tests.{eqb-true, leb-true, lt-ltb, le-ltb, eq-eqb, ne_eqb}
use Rattle.float8.specs.Magnitude.{bias, place, steps, magnitude, magnitude64, infinity64}
use Rattle.float8.specs.Nearest.{Nearest}
use Rattle.float8.specs.Formats.{Converted, E4M3FN, E5M2}
use Rattle.float8.proofs.Neighbours.{nearest}
use Rattle.float8.proofs.Steps.{wide-grows}

-- c is within the format, and x between c's middles with its neighbours
abbrev is_nearest : (ℕ → ℕ) → ℕ → ℕ → ℕ → Bool
is_nearest val top x c =
    leb c top && leb (val (c - 1) + val c + c % 2) (2 * x) && cond (ltb c top) (leb (2 * x + c % 2) (val c + val (suc c))) true

-- code is what bits become
abbrev pub is_converted : (e m top nan bits code : ℕ) → Bool
is_converted e m top nan bits code =
    eqb (code / 2 ^ (e + m)) (bits / 2 ^ 63)
    && cond (ltb infinity64 (bits % 2 ^ 63)) (eqb (code % 2 ^ (e + m)) nan)
    (cond (eqb (bits % 2 ^ 63) infinity64) (eqb (code % 2 ^ (e + m)) top)
    (is_nearest (magnitude e m) top (magnitude64 (bits % 2 ^ 63)) (code % 2 ^ (e + m))))

left : (a b : Bool) → a && b ≡ true → a ≡ true
left a b t = ((and-eq-true_iff a b).0 t).0

right : (a b : Bool) → a && b ≡ true → b ≡ true
right a b t = ((and-eq-true_iff a b).0 t).1

module _ (val : ℕ → ℕ) (step : (c : ℕ) → val c < val (suc c)) (top x c : ℕ) (test : is_nearest val top x c ≡ true) where
  both : leb c top && leb (val (c - 1) + val c + c % 2) (2 * x) ≡ true
  both = left (leb c top && leb (val (c - 1) + val c + c % 2) (2 * x)) _ test

  over : c < top → 2 * x + c % 2 ≤ val c + val (suc c)
  over l = leb-true _ _ (rw (lt-ltb c top l) at (right (leb c top && leb (val (c - 1) + val c + c % 2) (2 * x)) _ test))

  is-nearest : Nearest val top x c
  is-nearest =
      nearest val step top x c (leb-true _ _ (left (leb c top) _ both)) (λ l. leb-true _ _ (right (leb c top) _ both)) over

module _ (e m top nan bits code : ℕ) (test : is_converted e m top nan bits code ≡ true) where
  pub tested : Converted e m top nan bits code
  tested =
      let r = right (eqb (code / 2 ^ (e + m)) (bits / 2 ^ 63)) _ test in
      record {
        sign = eqb-true _ _ (left (eqb (code / 2 ^ (e + m)) (bits / 2 ^ 63)) _ test);
        not_a_number = λ l. eqb-true _ _ (rw (lt-ltb infinity64 (bits % 2 ^ 63) l) at r);
        infinite = λ i.
            eqb-true _ _ (rw (le-ltb infinity64 (bits % 2 ^ 63) (omega arith), eq-eqb (bits % 2 ^ 63) infinity64 i) at r);
        number = λ l.
            is-nearest (magnitude e m) (wide-grows m (place (bias e) m)) top (magnitude64 (bits % 2 ^ 63)) (code % 2 ^ (e + m))
            (rw (le-ltb infinity64 (bits % 2 ^ 63) (omega arith), ne_eqb (bits % 2 ^ 63) infinity64 (λ i. omega arith)) at r);
      }

-- a row: the f64's bits, and what they become
pub data Row : Type 0 where
  in_e4m3fn : ℕ → ℕ → Row
  in_e5m2 : ℕ → ℕ → Row

abbrev pub Said : Row → Type 0
Said (in_e4m3fn bits code) = E4M3FN bits code
Said (in_e5m2 bits code) = E5M2 bits code

abbrev pub passes : Row → Bool
passes (in_e4m3fn bits code) = is_converted 4 3 0x7E 0x7F bits code
passes (in_e5m2 bits code) = is_converted 5 2 0x7C 0x7D bits code

said : (r : Row) → passes r ≡ true → Said r
said (in_e4m3fn bits code) t = tested 4 3 0x7E 0x7F bits code t
said (in_e5m2 bits code) t = tested 5 2 0x7C 0x7D bits code t

abbrev pub AllSaid : List Row → Type 0
AllSaid [] = Unit {0}
AllSaid (r ∷ rows) = Said r × AllSaid rows

abbrev pub all_pass : List Row → Bool
all_pass [] = true
all_pass (r ∷ rows) = passes r && all_pass rows

pub all_said : (rows : List Row) → all_pass rows ≡ true → AllSaid rows
all_said [] t = tt
all_said (r ∷ rows) t = (said r (left (passes r) (all_pass rows) t), all_said rows (right (passes r) (all_pass rows) t))

-- 3 * 2 ^ -10, 2 ^ -10, 1.1875 and infinity; infinity, 57344 and 61440
abbrev pub marked : List Row
marked =
    in_e4m3fn 0x3F68_0000_0000_0000 0x02
    ∷ (in_e4m3fn 0x3F50_0000_0000_0000 0x00
    ∷ (in_e4m3fn 0x3FF3_0000_0000_0000 0x3A
    ∷ (in_e4m3fn 0x7FF0_0000_0000_0000 0x7E
    ∷ (in_e5m2 0x7FF0_0000_0000_0000 0x7C ∷ (in_e5m2 0x40EC_0000_0000_0000 0x7B ∷ (in_e5m2 0x40EE_0000_0000_0000 0x7C ∷ []))))))

pub marked-said : AllSaid marked
unfolding steps
marked-said = all_said marked refl
