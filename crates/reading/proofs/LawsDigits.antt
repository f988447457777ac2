-- How the loop of `read_varint` follows the digits of a varint: what they answer where the next byte is known, and what
-- holds between two turns. Assumes nothing.
use mathlib.Core.Path.{◌≡◌, refl, sym, ap, ◌∙◌, subst}
use Prim.Native.Nat.{ℕ, zero, suc, ◌+◌, ◌*◌, ◌%◌, ◌-◌, ◌^◌, ◌≤◌, ◌<◌}
use native.Mathlib.Nat.{one-le-pow, pow-suc, mul-le-mul_left}
use native.Mathlib.Omega.{arith}
use native.Mathlib.Decide.{dec_lt}
use mathlib.Core.List.{List}
use lib.ListN.{length, get_or}
use Rattle.exact.specs.Got.{Got, got, stop, ended, follow}
use Rattle.exact.specs.Basic.{pure, fail}
use Rattle.exact.specs.Sequence.{bind, mapped}
use Rattle.exact.specs.Padding.{broke, blamed}
use Rattle.exact.proofs.LawsChoice.{choose_yes, choose_no}
use Rattle.exact.proofs.LawsSteps.{byte_at, byte-end}
use Rattle.enums.specs.Refusals as refusals
use Rattle.reading.specs.Numbers.{digits, varint_at, Word, Begins}
use Rattle.reading.proofs.LawsWord.{word_byte}

-- What the bytes before give, and f times what the bytes behind them do.
abbrev pub grow : ℕ → ℕ → Got ℕ → Got ℕ
grow a f g = follow g (λ v j. got (a + f * v) j)

module _ (l : List ℕ) (i : ℕ) where
  digits-end : (k : ℕ) → length l ≤ i → digits k l i ≡ stop ended i
  unfolding digits bind follow
  digits-end zero h = rw (byte-end l i h)
  digits-end (suc k) h = rw (byte-end l i h)

  pub digits_last : (k : ℕ) → i < length l → get_or l i 0 < 128 → digits (suc k) l i ≡ got (get_or l i 0) (i + 1)
  unfolding digits bind follow pure
  digits_last k h b = rw (byte_at l i h, choose_yes (dec_lt (get_or l i 0) 128) (pure (get_or l i 0)) _ b)

  pub digits_more : (k : ℕ) → i < length l → 128 ≤ get_or l i 0 → digits (suc k) l i ≡ grow (get_or l i 0 % 128) 128 (digits k l (i + 1))
  unfolding digits bind follow pure mapped
  digits_more k h b =
      let c : ℕ = get_or l i 0 in
      rw (byte_at l i h)
      (ap (λ p. p l (i + 1)) (choose_no (dec_lt c 128) (pure c) (mapped (λ v. c % 128 + 128 * v) (digits k)) (omega arith)))

  pub digits-tenth : i < length l → get_or l i 0 < 128 → digits zero l i ≡ got (get_or l i 0 % 2) (i + 1)
  unfolding digits bind follow pure
  digits-tenth h b = rw (byte_at l i h, choose_yes (dec_lt (get_or l i 0) 128) (pure (get_or l i 0 % 2)) (fail refusals.overlong) b)

  digits_long : i < length l → 128 ≤ get_or l i 0 → digits zero l i ≡ stop refusals.overlong (i + 1)
  unfolding digits bind follow fail
  digits_long h b =
      rw (byte_at l i h)
      (ap (λ p. p l (i + 1)) (choose_no (dec_lt (get_or l i 0) 128) (pure (get_or l i 0 % 2)) (fail refusals.overlong) (omega arith)))

grow-grow : (a f b : ℕ) (g : Got ℕ) → grow a f (grow b 128 g) ≡ grow (a + f * b) (f * 128) g
unfolding follow
grow-grow a f b (got v j) = ap (λ n. got n j) (omega arith)
grow-grow a f b (stop c k) = refl

grow-none : (g : Got ℕ) → g ≡ grow 0 1 g
unfolding follow
grow-none (got v j) = ap (λ n. got n j) (omega arith)
grow-none (stop c k) = refl

-- Between two turns: f is the weight of the byte at i, acc what the bytes from the first one at `at` up to it gave.
pub record Loop (s : List ℕ) (at i acc f : ℕ) : Type 0 where
  pub low : at ≤ i
  pub scale : f * 128 ^ (at + 9 - i) ≡ 2 ^ 63
  pub small : acc < f
  pub model : varint_at s at ≡ broke (grow acc f (digits (at + 9 - i) s i)) at

-- Before the first turn.
pub loop-start : (s : List ℕ) (at : ℕ) → Loop s at at 0 1
unfolding varint_at blamed
loop-start s at =
    let e : at + 9 - at ≡ 9 = omega arith in
    record {
      low = omega arith;
      scale = rw e;
      small = omega arith;
      model = rw e (ap (λ g. broke g at) (grow-none (digits 9 s at)));
    }

module _ (s : List ℕ) (at i acc f : ℕ) (x : Loop s at i acc f) where
  -- The sum with the tenth byte's bit fits 64 bits.
  pub tenth-fits : (b : ℕ) → acc + f * (b % 2) < 2 ^ 64
  tenth-fits b =
      let q : f * 1 ≤ f * 128 ^ (at + 9 - i) = mul-le-mul_left f (one-le-pow (at + 9 - i) 128 (omega arith)) in
      let m : f * (b % 2) ≤ f * 1 = mul-le-mul_left f (omega arith) in
      omega (arith, x.small, x.scale)

  -- The data ends.
  pub loop-short : length s ≤ i → stop refusals.short at ≡ varint_at s at
  unfolding follow broke
  loop-short h = sym (x.model ∙ rw (digits-end s i (at + 9 - i) h))

module _ (s : List ℕ) (at i acc f : ℕ) (x : Loop s at i acc f) (some : i < at + 9) where
  more : at + 9 - i ≡ suc (at + 9 - (i + 1))
  more = omega arith

  scale : f * 128 * 128 ^ (at + 9 - (i + 1)) ≡ 2 ^ 63
  scale = omega (arith, rw (more, pow-suc) at x.scale)

  model : varint_at s at ≡ broke (grow acc f (digits (suc (at + 9 - (i + 1))) s i)) at
  model = rw more at x.model

  -- Before the tenth byte the next weight fits ..
  pub next_fits : f * 128 ≤ 2 ^ 63
  next_fits =
      let p : 1 ≤ 128 ^ (at + 9 - (i + 1)) = one-le-pow (at + 9 - (i + 1)) 128 (omega arith) in
      let q : f * 128 * 1 ≤ f * 128 * 128 ^ (at + 9 - (i + 1)) = mul-le-mul_left (f * 128) p in
      omega (arith, scale)

  -- .. and so does the sum with a digit.
  pub digit-fits : (d : ℕ) → d < 128 → acc + f * d < 2 ^ 63
  digit-fits d h =
      let m : f * d ≤ f * 127 = mul-le-mul_left f (omega arith) in
      omega (arith, x.small, next_fits)

  module _ (h : i < length s) (b : ℕ) (w : Word 1 s i b) where
    -- A byte below 128 ends the number.
    pub loop-last : b < 128 → got (acc + f * b) (i + 1) ≡ varint_at s at
    unfolding follow broke
    loop-last l =
        let e : b ≡ get_or s i 0 = word_byte s i b h w in
        rw e (sym (model ∙ rw (digits_last s i (at + 9 - (i + 1)) h (omega arith))))

    -- Another one goes on.
    pub loop-more : 128 ≤ b → Loop s at (i + 1) (acc + f * (b % 128)) (f * 128)
    loop-more l =
        let e : b ≡ get_or s i 0 = word_byte s i b h w in
        let m : f * (b % 128) ≤ f * 127 = mul-le-mul_left f (omega arith) in
        let k : ℕ = at + 9 - (i + 1) in
        record {
          low = omega (arith, x.low);
          scale = scale;
          small = omega (arith, x.small);
          model = model ∙ ap (λ g. broke (grow acc f g) at) (digits_more s i k h (omega arith)) ∙
              ap (λ g. broke g at) (grow-grow acc f (get_or s i 0 % 128) (digits k s (i + 1))) ∙
              ap (λ n. broke (grow (acc + f * (n % 128)) (f * 128) (digits k s (i + 1))) at) (sym e);
        }

module _ (s : List ℕ) (at i acc f : ℕ) (x : Loop s at i acc f) (none : at + 9 ≤ i) (h : i < length s) (b : ℕ) (w : Word 1 s i b) where
  -- The tenth byte gives its lowest bit ..
  pub loop-tenth : b < 128 → got (acc + f * (b % 2)) (i + 1) ≡ varint_at s at
  unfolding follow broke
  loop-tenth l =
      let z : at + 9 - i ≡ 0 = omega arith in
      let e : b ≡ get_or s i 0 = word_byte s i b h w in
      rw e (sym (x.model ∙ rw (z, digits-tenth s i h (omega arith))))

  -- .. and may not go on.
  pub loop-long : 128 ≤ b → stop refusals.overlong at ≡ varint_at s at
  unfolding follow broke
  loop-long l =
      let z : at + 9 - i ≡ 0 = omega arith in
      let e : b ≡ get_or s i 0 = word_byte s i b h w in
      sym (x.model ∙ rw (z, digits_long s i h (omega arith)))

-- Behind the first byte.
pub loop-second : (s : List ℕ) (at b : ℕ) → Begins s at b → Loop s at (at + 1) (b % 128) 128
loop-second s at b g =
    let e : 0 + 1 * (b % 128) ≡ b % 128 = omega arith in
    subst (λ n. Loop s at (at + 1) n 128) e
    (loop-more s at at 0 1 (loop-start s at) (omega arith) g.inside b g.first g.more)

-- A number that is not there ..
pub varint-end : (s : List ℕ) (at : ℕ) → length s ≤ at → stop refusals.short at ≡ varint_at s at
varint-end s at = loop-short s at at 0 1 (loop-start s at)

-- .. and one of one byte.
pub varint-one : (s : List ℕ) (at b : ℕ) → at < length s → Word 1 s at b → b < 128 → got b (at + 1) ≡ varint_at s at
varint-one s at b h w l =
    let e : b ≡ 0 + 1 * b = omega arith in
    ap (λ n. got n (at + 1)) e ∙ loop-last s at at 0 1 (loop-start s at) (omega arith) h b w l
