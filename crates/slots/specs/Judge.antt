-- Whether a buffer and an owner table stand for a cache can be told. (Any way of telling gives the same answer.)
use Rattle.std.specs.Prelude.{◌≡◌, ℕ, zero, suc, ◌*◌, ◌<◌, List, length}
use Rattle.std.proofs.Common.{subst, arith}
use Rattle.std.proofs.Math.Decide.{ℕ_discrete, dec_le, dec_lt, map_dec}
use Rattle.std.proofs.Math.Logic.Dec
use Rattle.slots.specs.Lent.{Lent, Taken, mark_at, instance_at, length_at, slot_size, Rows, Good}

-- What can be told of a premise and of what follows can be told of both.
implied : {A B : Type 0} → Dec A → Dec B → Dec (A → B)
implied (no h) b = yes (λ a. absurd (h a))
implied (yes a) (yes b) = yes (λ _. b)
implied (yes a) (no h) = no (λ f. h (f a))

-- What can be told of each number can be told of all below n.
up-to : {P : ℕ → Type 0} {n k : ℕ} → P n → ((k : ℕ) → k < n → P k) → k < suc n → Dec (k < n) → P k
up-to p f h (yes l) = f _ l
up-to {P} {n} {k} p f h (no l) = let e : n ≡ k = omega arith in subst P e p

next : {P : ℕ → Type 0} {n : ℕ} → Dec (P n) → Dec ((k : ℕ) → k < n → P k) → Dec ((k : ℕ) → k < suc n → P k)
next (no h) d = no (λ f. h (f _ (omega arith)))
next (yes p) (no h) = no (λ f. h (λ k l. f k (omega arith)))
next (yes p) (yes f) = yes (λ k l. up-to p f l (dec_lt k _))

below : {P : ℕ → Type 0} → ((k : ℕ) → Dec (P k)) → (n : ℕ) → Dec ((k : ℕ) → k < n → P k)
below d zero = yes (λ k h. absurd (omega arith))
below d (suc n) = next (d n) (below d n)

is_taken : (owners : List ℕ) (k : ℕ) → Dec (Taken owners k)
is_taken owners k = dec_lt 0 (mark_at owners k)

is_once : (owners : List ℕ) (k l : ℕ) →
    Dec (Taken owners k → Taken owners l → ¬ (instance_at owners k ≡ instance_at owners l))
is_once owners k l =
    implied (is_taken owners k)
    (implied (is_taken owners l) (Dec.not (ℕ_discrete (instance_at owners k) (instance_at owners l))))

is_rows : (z : ℕ) (owners : List ℕ) (m : ℕ) → Dec (Rows z owners m)
is_rows z owners m =
    map_dec (λ x. record { fits = x.0; once = λ k l h i. x.1 l i k h }) (λ r. (r.fits, λ l i k h. r.once k l h i))
    (Dec.and (below (λ k. implied (is_taken owners k) (dec_le (length_at owners k) z)) m)
    (below (λ l. below (λ k. is_once owners k l) l) m))

pub is_good : (n : ℕ) (s : Lent) → Dec (Good n s)
is_good n s =
    map_dec (λ x. record { slots = x.0; buffer = x.1.0; owners = x.1.1.0; rows = x.1.1.1 })
    (λ g. (g.slots, (g.buffer, (g.owners, g.rows))))
    (Dec.and (dec_lt 0 n)
    (Dec.and (ℕ_discrete (length s.buffer) (n * slot_size n s.buffer))
    (Dec.and (ℕ_discrete (length s.owners) (n * 24)) (is_rows (slot_size n s.buffer) s.owners n))))
