-- Numbers that are taken for varints of one byte or two (document 01, "Numbers on the wire": seven bits a byte, low
-- first, top bit means more).
use Rattle.std.specs.Prelude.{ℕ, zero, suc, ◌+◌, ◌*◌, ◌/◌, ◌%◌, List, [], ◌∷◌, get_or}
use Rattle.payloads.specs.declared.debug.Shorts.{Shorts}

-- What the second byte of a number at i counts: 0 if the number has none, and 2^14 or more if it has a third.
abbrev pub high_at : List ℕ → ℕ → ℕ
high_at d i = 128 * (get_or d i 0 / 128) * get_or d (i + 1) 0

-- n numbers from place i on, in m words, with 0 for those that are not asked for.
unfoldable pub shorts : List ℕ → ℕ → ℕ → ℕ → Shorts
shorts d i n zero = record { end = i; long = 0; words = [] }
shorts d i zero (suc m) =
    let r = shorts d i zero m in record { end = r.end; long = r.long; words = 0 ∷ r.words }
shorts d i (suc n) (suc m) =
    let r = shorts d (i + (1 + get_or d i 0 / 128)) n m in
    record { end = r.end; long = high_at d i / 16384 + r.long; words = (get_or d i 0 % 128 + high_at d i) ∷ r.words }
