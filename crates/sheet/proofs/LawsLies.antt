-- Parts that lie one behind the other. Assumes nothing.
use mathlib.Core.Path.{◌≡◌, refl, sym, ap, ◌∙◌}
use Prim.Native.Nat.{ℕ, ◌+◌, ◌≤◌}
use native.Mathlib.Omega.{arith}
use mathlib.Core.List.{List, [], ◌∷◌, ◌++◌, append_assoc, append-nil}
use lib.ListN.{length, take, drop, get_or, length-append}
use lib.Seq.{take-append_seam, drop_at, get_or_at}
use Rattle.sheet.specs.Lies.{Lies}

-- A list is the whole of itself.
pub whole-lies : (l : List ℕ) → Lies l 0 l
whole-lies l = record { front = []; behind = []; whole = sym (append-nil l); place = refl }

-- A part is a part's front and, behind it, the rest.
pub lies-front : {l : List ℕ} {i : ℕ} (a b : List ℕ) → Lies l i (a ++ b) → Lies l i a
lies-front a b h =
    record {
      front = h.front;
      behind = b ++ h.behind;
      whole = h.whole ∙ ap (λ r. h.front ++ r) (append_assoc a b h.behind);
      place = h.place;
    }

pub lies-back : {l : List ℕ} {i : ℕ} (a b : List ℕ) → Lies l i (a ++ b) → Lies l (i + length a) b
lies-back a b h =
    record {
      front = h.front ++ a;
      behind = h.behind;
      whole =
          h.whole ∙ ap (λ r. h.front ++ r) (append_assoc a b h.behind) ∙ sym (append_assoc h.front a (b ++ h.behind));
      place = length-append h.front a ∙ ap (λ n. n + length a) h.place;
    }

-- The first of a part.
pub lies-first : {l : List ℕ} {i : ℕ} (v : ℕ) (vs : List ℕ) → Lies l i (v ∷ vs) → get_or l i 0 ≡ v
lies-first {l} {i} v vs h = rw h.whole (get_or_at h.front v (vs ++ h.behind) 0 i h.place)

-- A part is inside.
pub lies-inside : {l : List ℕ} {i : ℕ} (part : List ℕ) → Lies l i part → i + length part ≤ length l
lies-inside {l} {i} part h =
    let e = ap length h.whole ∙ length-append h.front (part ++ h.behind) in
    omega (arith, h.place, length-append part h.behind)

pub lies-taken : {l : List ℕ} {i : ℕ} (part : List ℕ) → Lies l i part → take (length part) (drop i l) ≡ part
lies-taken {l} {i} part h =
    rw (h.whole, drop_at h.front (part ++ h.behind) i h.place) (take-append_seam part h.behind)
