-- Texts that are put one behind the other, and texts that have no room. Assumes nothing.
use Rattle.std.proofs.Common.{◌≡◌, ℕ, ◌+◌, ◌-◌, ◌<◌, ◌≤◌, List, [], ◌++◌, length, take, sym, refl, ap, ◌∙◌, subst, ap₂, add-zero, arith, length-append, length-take, take_all}
use native.Mathlib.Decide.{dec_le}
use native.Mathlib.Nat.{sub-zero}
use lib.Seq.{take-nil, take-append-le, take-append-add}
use Rattle.exact.specs.Choice.{choose}
use Rattle.exact.proofs.LawsChoice.{choose_yes, choose_no}
use Rattle.encoding.specs.Out.{put}
use Rattle.encoding.proofs.LawsOut.{put-nil, put_full, put-append, length-put}
use Rattle.text.specs.Text.{behind, filled, Put}
use Rattle.text.specs.declared.Pen.{Pen}
use Rattle.text.specs.declared.Pen.TheVariants.{At, Counting, Full}

-- Any two results of putting one text are equal.
pub put_only : {t : List ℕ} {p : Pen} {out a b : List ℕ} {q r : Pen} → Put t p out a q → Put t p out b r → (a ≡ b) × (q ≡ r)
put_only x y = (x.output ∙ sym y.output, x.pen ∙ sym y.pen)

module _ (size : ℕ) (t : List ℕ) where
  -- A text that has room leaves the place behind it, or the rest of the room ..
  pub behind-room : (i : ℕ) → length t ≤ size - i → behind size (At i) t ≡ At (i + length t)
  unfolding behind
  behind-room i h = choose_yes (dec_le (length t) (size - i)) _ _ h

  pub counted-room : (n : ℕ) → length t ≤ n → behind size (Counting n) t ≡ Counting (n - length t)
  unfolding behind
  counted-room n h = choose_yes (dec_le (length t) n) _ _ h

  -- .. and another one leaves none.
  pub behind-short : (i : ℕ) → size - i < length t → behind size (At i) t ≡ Full
  unfolding behind
  behind-short i h = choose_no (dec_le (length t) (size - i)) _ _ (omega arith)

  pub counted-short : (n : ℕ) → n < length t → behind size (Counting n) t ≡ Full
  unfolding behind
  counted-short n h = choose_no (dec_le (length t) n) _ _ (omega arith)

  -- Where none is left, none is left behind any text.
  pub behind-full : behind size Full t ≡ Full
  unfolding behind
  behind-full = refl

-- What a pen puts: at a place as much as has room there, and else nothing.
module _ (out t : List ℕ) where
  pub filled_at : (i : ℕ) → filled (At i) out t ≡ put out i (take (length out - i) t)
  unfolding filled
  filled_at i = refl

  pub filled-counting : (n : ℕ) → filled (Counting n) out t ≡ out
  unfolding filled
  filled-counting n = refl

  filled-full : filled Full out t ≡ out
  unfolding filled
  filled-full = refl

-- A buffer keeps its length.
length-filled : (p : Pen) (out t : List ℕ) → length (filled p out t) ≡ length out
length-filled (At i) out t = ap length (filled_at out t i) ∙ length-put out i _
length-filled (Counting n) out t = ap length (filled-counting out t n)
length-filled Full out t = ap length (filled-full out t)

pub put-size : {t : List ℕ} {p q : Pen} {out out' : List ℕ} → Put t p out out' q → length out' ≡ length out
put-size {t} {p} {q} {out} x = ap length x.output ∙ length-filled p out t

-- Of a pen that tells by how many bytes of a room it is behind where it began: behind the second text it is as behind
-- both, whichever way it tells.
module _ (size room : ℕ) (pen : ℕ → Pen)
    (step : (k : ℕ) (t : List ℕ) → behind size (pen k) t ≡ choose (dec_le (length t) (room - k)) (pen (k + length t)) Full) where
  has_room : (k : ℕ) (t : List ℕ) → length t ≤ room - k → behind size (pen k) t ≡ pen (k + length t)
  has_room k t h = step k t ∙ choose_yes (dec_le (length t) (room - k)) _ _ h

  has_none : (k : ℕ) (t : List ℕ) → ¬ (length t ≤ room - k) → behind size (pen k) t ≡ Full
  has_none k t h = step k t ∙ choose_no (dec_le (length t) (room - k)) _ _ h

  room-then : (a b : List ℕ) → behind size (behind size (pen 0) a) b ≡ behind size (pen 0) (a ++ b)
  room-then a b =
      let l = length-append a b in
      elim (dec_le (length a) (room - 0)) [
        | yes h ↦
            ap (λ p. behind size p b) (has_room 0 a h) ∙
            elim (dec_le (length b) (room - (0 + length a))) [
              | yes k ↦
                  let m : length (a ++ b) ≤ room - 0 = omega arith in
                  let e : 0 + length a + length b ≡ 0 + length (a ++ b) = omega arith in
                  has_room (0 + length a) b k ∙ ap pen e ∙ sym (has_room 0 (a ++ b) m)
              | no k ↦
                  let m : ¬ (length (a ++ b) ≤ room - 0) = omega arith in
                  has_none (0 + length a) b k ∙ sym (has_none 0 (a ++ b) m)
            ]
        | no h ↦
            let m : ¬ (length (a ++ b) ≤ room - 0) = omega arith in
            ap (λ p. behind size p b) (has_none 0 a h) ∙ behind-full size b ∙ sym (has_none 0 (a ++ b) m)
      ]

-- A pen at a place tells so, and so does one that counts.
placed-step : (size i k : ℕ) (t : List ℕ) →
    behind size (At (i + k)) t ≡ choose (dec_le (length t) (size - i - k)) (At (i + (k + length t))) Full
unfolding behind
placed-step size i k t =
    let e : size - (i + k) ≡ size - i - k = omega arith in
    let f : i + k + length t ≡ i + (k + length t) = omega arith in
    ap₂ (λ r j. choose (dec_le (length t) r) (At j) Full) e f

counting-step : (size n k : ℕ) (t : List ℕ) →
    behind size (Counting (n - k)) t ≡ choose (dec_le (length t) (n - k)) (Counting (n - (k + length t))) Full
unfolding behind
counting-step size n k t =
    let f : n - k - length t ≡ n - (k + length t) = omega arith in
    ap (λ j. choose (dec_le (length t) (n - k)) (Counting j) Full) f

behind-then : (size : ℕ) (p : Pen) (a b : List ℕ) → behind size (behind size p a) b ≡ behind size p (a ++ b)
behind-then size (At i) a b =
    subst (λ j. behind size (behind size (At j) a) b ≡ behind size (At j) (a ++ b)) (add-zero i)
    (room-then size (size - i) (λ k. At (i + k)) (placed-step size i) a b)
behind-then size (Counting n) a b =
    subst (λ j. behind size (behind size (Counting j) a) b ≡ behind size (Counting j) (a ++ b)) (sub-zero n)
    (room-then size n (λ k. Counting (n - k)) (counting-step size n) a b)
behind-then size Full a b =
    ap (λ p. behind size p b) (behind-full size a) ∙ behind-full size b ∙ sym (behind-full size (a ++ b))

-- .. and so is the buffer.
filled-then : (p : Pen) (out a b : List ℕ) → filled (behind (length out) p a) (filled p out a) b ≡ filled p out (a ++ b)
filled-then (At i) out a b =
    elim (dec_le (length a) (length out - i)) [
      | yes h ↦
          let e : length a + (length out - (i + length a)) ≡ length out - i = omega arith in
          let s : length (put out i a) - (i + length a) ≡ length out - (i + length a) = ap (λ l. l - (i + length a)) (length-put out i a) in
          ap₂ (λ p o. filled p o b) (behind-room (length out) a i h) (filled_at out a i ∙ ap (put out i) (take_all (length out - i) a h)) ∙
          filled_at (put out i a) b (i + length a) ∙ ap (λ m. put (put out i a) (i + length a) (take m b)) s ∙ within h ∙
          ap (put out i) (sym (take-append-add a b (length out - (i + length a))) ∙ ap (λ m. take m (a ++ b)) e) ∙ sym (filled_at out (a ++ b) i)
      | no h ↦
          let j : length out - i < length a = omega arith in
          ap (λ p. filled p (filled (At i) out a) b) (behind-short (length out) a i j) ∙ filled-full (filled (At i) out a) b ∙
          filled_at out a i ∙ ap (put out i) (sym (take-append-le (length out - i) a b (omega arith))) ∙ sym (filled_at out (a ++ b) i)
    ]
  where
    -- What has room behind the first text; none has where the place is past the buffer.
    within : length a ≤ length out - i →
        put (put out i a) (i + length a) (take (length out - (i + length a)) b) ≡ put out i (a ++ take (length out - (i + length a)) b)
    within h =
        let n = length-take (length out - (i + length a)) b in
        elim (dec_le i (length out)) [
          | yes k ↦ sym (put-append a (take (length out - (i + length a)) b) out i (omega arith))
          | no k ↦
              let f = length-append a (take (length out - (i + length a)) b) in
              let l = length-put out i a in
              put_full (put out i a) (i + length a) _ (omega arith) ∙ put_full out i a (omega arith) ∙ sym (put_full out i _ (omega arith))
        ]
filled-then (Counting n) out a b =
    ap (λ o. filled (behind (length out) (Counting n) a) o b) (filled-counting out a n) ∙
    elim (dec_le (length a) n) [
      | yes h ↦ ap (λ p. filled p out b) (counted-room (length out) a n h) ∙ filled-counting out b (n - length a)
      | no h ↦ ap (λ p. filled p out b) (counted-short (length out) a n (omega arith)) ∙ filled-full out b
    ] ∙
    sym (filled-counting out (a ++ b) n)
filled-then Full out a b =
    ap (λ p. filled p (filled Full out a) b) (behind-full (length out) a) ∙ filled-full (filled Full out a) b ∙ filled-full out a ∙
    sym (filled-full out (a ++ b))

-- What is put in two steps is both texts, one behind the other ..
pub put_then : {a b : List ℕ} {p q r : Pen} {out mid out' : List ℕ} → Put a p out mid q → Put b q mid out' r →
    Put (a ++ b) p out out' r
put_then {a} {b} {p} {q} {r} {out} {mid} {out'} x y =
    record {
      pen =
          y.pen ∙ ap₂ (λ n z. behind n z b) (put-size x) x.pen ∙ behind-then (length out) p a b;
      output = y.output ∙ ap₂ (λ z o. filled z o b) x.pen x.output ∙ filled-then p out a b;
    }

-- .. no text changes nothing ..
pub put-nothing : {p : Pen} {out : List ℕ} → Put [] p out out p
put-nothing {p} {out} = record { pen = same p; output = kept p }
  where
    same : (p : Pen) → p ≡ behind (length out) p []
    same (At i) = ap At (sym (add-zero i)) ∙ sym (behind-room (length out) [] i (omega arith))
    same (Counting n) = ap Counting (sym (sub-zero n)) ∙ sym (counted-room (length out) [] n (omega arith))
    same Full = sym (behind-full (length out) [])

    kept : (p : Pen) → out ≡ filled p out []
    kept (At i) = sym (filled_at out [] i ∙ ap (put out i) (take-nil (length out - i)) ∙ put-nil out i)
    kept (Counting n) = sym (filled-counting out [] n)
    kept Full = sym (filled-full out [])

-- .. and where no room is left nothing is put any more.
pub put-stopped : (t : List ℕ) {p : Pen} {out : List ℕ} → p ≡ Full → Put t p out out Full
put-stopped t {p} {out} e =
    record {
      pen = sym (ap (λ z. behind (length out) z t) e ∙ behind-full (length out) t);
      output = sym (ap (λ z. filled z out t) e ∙ filled-full out t);
    }

-- A text by another name.
pub put_as : {a b : List ℕ} {p q : Pen} {out out' : List ℕ} → a ≡ b → Put a p out out' q → Put b p out out' q
put_as {p = p} {q} {out} {out'} e x = subst (λ t. Put t p out out' q) e x

-- At a place: a text that has no room, of which as much is put as has ..
pub at-short : (t out : List ℕ) (i left : ℕ) {out' : List ℕ} → left ≡ length out - i → left < length t → out' ≡ put out i (take left t) →
    Put t (At i) out out' Full
at-short t out i left e h o =
    record {
      pen = sym (behind-short (length out) t i (omega arith));
      output = o ∙ ap (λ n. put out i (take n t)) e ∙ sym (filled_at out t i);
    }

-- .. and one that has.
pub at_room : (t out : List ℕ) (i left : ℕ) {out' : List ℕ} → left ≡ length out - i → length t ≤ left → out' ≡ put out i t →
    Put t (At i) out out' (At (i + length t))
at_room t out i left e h o =
    record {
      pen = sym (behind-room (length out) t i (omega arith));
      output = o ∙ ap (put out i) (sym (take_all (length out - i) t (omega arith))) ∙ sym (filled_at out t i);
    }

-- Counted: the same, and nothing is put.
module _ (t : List ℕ) {p : Pen} {out : List ℕ} (n : ℕ) (e : p ≡ Counting n) where
  kept : out ≡ filled p out t
  kept = sym (ap (λ z. filled z out t) e ∙ filled-counting out t n)

  pub counting-short : n < length t → Put t p out out Full
  counting-short h = record { pen = sym (ap (λ z. behind (length out) z t) e ∙ counted-short (length out) t n h); output = kept }

  pub counting-room : length t ≤ n → Put t p out out (Counting (n - length t))
  counting-room h = record { pen = sym (ap (λ z. behind (length out) z t) e ∙ counted-room (length out) t n h); output = kept }
