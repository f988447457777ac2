-- What `put` leaves, byte by byte; what a writer answers; no two results of one writer differ. Assumes nothing.
use mathlib.Core.Path.{◌≡◌, refl, sym, ap, ◌∙◌, subst}
use mathlib.Core.Logic.{◌⊎◌, inl, inr}
use mathlib.Core.List.{List, [], ◌∷◌, ◌++◌, append_assoc}
use Prim.Native.Nat.{ℕ, zero, suc, ◌+◌, ◌-◌, ◌/◌, ◌%◌, ◌^◌, ◌≤◌, ◌<◌, max}
use native.Mathlib.Nat.{add-zero, pow-suc, div-one, div-div-eq-div-mul}
use native.Mathlib.Numerals.{add-one}
use native.Mathlib.Omega.{arith}
use native.Mathlib.Decide.{dec_le, dec_lt}
use lib.ListN.{length, replicate, get_or, take, drop, set, length-append, length-set, length-drop, length-replicate, take-append-drop, get_or-append}
use borrow.Rule.Slice.PartMut.{put_mid}
use lib.Seq.{drop-drop, take-suc-set, drop-set-lt, length-take-le, take-append_seam, drop_at, get_or-take, get_or-drop, get_or-append-add}
use Rattle.std.specs.Int.{w64, to_le_bytes, bytes_low_first}
use Rattle.exact.specs.Fixed.{bytes_of, little}
use Rattle.exact.proofs.LawsChoice.{choose_yes, choose_no}
use Rattle.exact.proofs.LawsFixed.{length-bytes_of, little-bytes_of}
use Rattle.encoding.specs.Out.{put, Wrote, wrote, refused, after, required}
use Rattle.encoding.specs.Shown.{Puts}

module _ (out : List ℕ) (at : ℕ) (bs : List ℕ) where
  -- Bytes that have room are put ..
  pub put-room : at + length bs ≤ length out → put out at bs ≡ take at out ++ (bs ++ drop (at + length bs) out)
  unfolding put
  put-room h = choose_yes (dec_le (at + length bs) (length out)) _ _ h

  -- .. and others change nothing.
  pub put_full : length out < at + length bs → put out at bs ≡ out
  unfolding put
  put_full h = choose_no (dec_le (at + length bs) (length out)) _ _ (omega arith)

  -- They have room or they have none.
  pub by-room : {X : Type 0} → (at + length bs ≤ length out → X) → (length out < at + length bs → X) → X
  by-room f g = elim (dec_le (at + length bs) (length out)) [ yes h ↦ f h | no h ↦ g (omega arith) ]

-- What stands in a part of the output is put there.
pub put_part : (out bs : List ℕ) (at k : ℕ) → k ≡ length bs → at + length bs ≤ length out → put_mid at k out bs ≡ put out at bs
put_part out bs at k e h = rw (put-room out at bs h, e, drop-drop (length bs) at out)

-- A part of n bytes that was filled is n times that byte, put there.
pub put_filled : (out ys : List ℕ) (at n b : ℕ) {end m : ℕ} → ys ≡ replicate (length (take (end - at) (drop at out))) b →
    n ≡ m → (at + n ≤ length out) × (end ≡ at + n) → put_mid at (end - at) out ys ≡ put out at (replicate m b)
put_filled out ys at n b {end} {m} f e h =
    let k : end - at ≡ n = omega arith in
    let l : length (take n (drop at out)) ≡ n = length-take-le n (drop at out) (rw length-drop (omega arith)) in
    let z : length (replicate m b) ≡ m = length-replicate m b in
    rw (f, k, l, e) (put_part out (replicate m b) at m (sym z) (omega arith))

-- No bytes change nothing.
pub put-nil : (out : List ℕ) (at : ℕ) → put out at [] ≡ out
put-nil out at =
    by-room out at [] (λ h. put-room out at [] h ∙ rw add-zero (take-append-drop at out)) (λ h. put_full out at [] h)

-- The first byte, then the others behind it.
pub put-cons : (out : List ℕ) (at b : ℕ) (bs : List ℕ) → at + suc (length bs) ≤ length out →
    put out at (b ∷ bs) ≡ put (set out at b) (at + 1) bs
put-cons out at b bs h =
    let l : length (set out at b) ≡ length out = length-set out at b in
    let k : at + 1 + length bs ≤ length (set out at b) = omega arith in
    let e : at + 1 + length bs ≡ at + suc (length bs) = omega arith in
    let lt : at < at + suc (length bs) = omega arith in
    let i : at < length out = omega arith in
    put-room out at (b ∷ bs) h ∙
    sym
    (put-room (set out at b) (at + 1) bs k ∙
    rw (e, add-one, take-suc-set out at b i, drop-set-lt (at + suc (length bs)) out at b lt, append_assoc))

-- One byte alone.
pub put_one : (out : List ℕ) (at b : ℕ) → at + 1 ≤ length out → set out at b ≡ put out at (b ∷ [])
put_one out at b h = sym (put-cons out at b [] h ∙ put-nil (set out at b) (at + 1))

-- One turn of a loop that puts bytes: the next of them, and the place behind it.
pub put_next : {bs : List ℕ} (out : List ℕ) (at b : ℕ) (cs : List ℕ) (next : ℕ) → bs ≡ b ∷ cs → next ≡ at + 1 →
    at + length bs ≤ length out → put out at bs ≡ put (set out at b) next cs
put_next out at b cs next e n h =
    let l = ap length e in rw (e, n) (put-cons out at b cs (omega arith))

-- A put changes no length.
pub length-put : (out : List ℕ) (at : ℕ) (bs : List ℕ) → length (put out at bs) ≡ length out
length-put out at bs =
    by-room out at bs
    (λ h.
    let t : length (take at out) ≡ at = length-take-le at out (omega arith) in
    rw (put-room out at bs h) (simp (length-append, length-drop, t) (omega arith)))
    (λ h. ap length (put_full out at bs h))

-- Some bytes, then the others behind them.
pub put-append : (bs cs out : List ℕ) (at : ℕ) → at + (length bs + length cs) ≤ length out →
    put out at (bs ++ cs) ≡ put (put out at bs) (at + length bs) cs
put-append [] cs out at h = rw (put-nil out at, add-zero)
put-append (b ∷ bs) cs out at h =
    let l : length (set out at b) ≡ length out = length-set out at b in
    let n : length (bs ++ cs) ≡ length bs + length cs = length-append bs cs in
    let e : at + suc (length bs) ≡ at + 1 + length bs = omega arith in
    put-cons out at b (bs ++ cs) (omega arith) ∙
    put-append bs cs (set out at b) (at + 1) (omega arith) ∙
    rw (put-cons out at b bs (omega arith), e)

-- The bytes that were put are there ..
pub put_same : (out : List ℕ) (at : ℕ) (bs : List ℕ) → at + length bs ≤ length out →
    take (length bs) (drop at (put out at bs)) ≡ bs
put_same out at bs h =
    let t : length (take at out) ≡ at = length-take-le at out (omega arith) in
    rw (put-room out at bs h, drop_at (take at out) (bs ++ drop (at + length bs) out) at t, take-append_seam)

-- .. and every other byte is as it was.
pub put_other : (out : List ℕ) (at : ℕ) (bs : List ℕ) (i : ℕ) → (i < at) ⊎ (at + length bs ≤ i) →
    get_or (put out at bs) i 0 ≡ get_or out i 0
put_other out at bs i o =
    by-room out at bs (λ h. ap (λ (l : List ℕ). get_or l i 0) (put-room out at bs h) ∙ beside h o)
    (λ h. ap (λ (l : List ℕ). get_or l i 0) (put_full out at bs h))
  where
    beside : at + length bs ≤ length out → (i < at) ⊎ (at + length bs ≤ i) →
        get_or (take at out ++ (bs ++ drop (at + length bs) out)) i 0 ≡ get_or out i 0
    beside h (inl k) =
        let t : length (take at out) ≡ at = length-take-le at out (omega arith) in
        get_or-append (take at out) _ 0 i (omega arith) ∙ get_or-take at out i 0 k
    beside h (inr k) =
        let t : length (take at out) ≡ at = length-take-le at out (omega arith) in
        let n : length (take at out ++ bs) ≡ at + length bs = rw length-append (omega arith) in
        let m = i - (at + length bs) in
        let e : i ≡ length (take at out ++ bs) + m = omega arith in
        let e' : at + length bs + m ≡ i = omega arith in
        rw (sym (append_assoc (take at out) bs (drop (at + length bs) out)))
        (ap (λ (j : ℕ). get_or ((take at out ++ bs) ++ drop (at + length bs) out) j 0) e ∙
        get_or-append-add (take at out ++ bs) (drop (at + length bs) out) m 0 ∙ get_or-drop (at + length bs) out m 0 ∙
        ap (λ (j : ℕ). get_or out j 0) e')

-- A number of one byte more than m.
pub bytes_of-next : {n : ℕ} (m v : ℕ) → n ≡ suc m → bytes_of n v ≡ v % 256 ∷ bytes_of m (v / 256)
unfolding bytes_of
bytes_of-next m v e = rw e

-- One digit of a number after i of them.
next-digit : (i n : ℕ) → n / 256 ^ suc i ≡ n / 256 ^ i / 256
next-digit i n = rw pow-suc (sym (div-div-eq-div-mul n (256 ^ i) 256))

-- The library's bytes of a number, from the i-th on, are those of what stands above the ones before.
low-bytes : (i k n : ℕ) → bytes_low_first i k n ≡ bytes_of k (n / 256 ^ i)
unfolding bytes_of
low-bytes i zero n = refl
low-bytes zero (suc k) n =
    let d : n / 1 ≡ n = div-one n in
    rw d (ap (λ (bs : List ℕ). n % 256 ∷ bs) (low-bytes 1 k n))
low-bytes (suc i) (suc k) n =
    ap (λ (bs : List ℕ). n / 256 ^ suc i % 256 ∷ bs) (low-bytes (suc (suc i)) k n ∙ ap (bytes_of k) (next-digit (suc i) n))

take-bytes_of : (w k n : ℕ) → w ≤ k → take w (bytes_of k n) ≡ bytes_of w n
unfolding bytes_of
take-bytes_of zero k n h = refl
take-bytes_of (suc w) zero n h = absurd (omega arith)
take-bytes_of (suc w) (suc k) n h = ap (λ (bs : List ℕ). n % 256 ∷ bs) (take-bytes_of w k (n / 256) (omega arith))

-- The first of the library's bytes of a number are the bytes of its width.
pub low-bytes-of : (w n : ℕ) → w ≤ 8 → take w (to_le_bytes w64 n) ≡ bytes_of w n
low-bytes-of w n h = rw (low-bytes 0 8 n, div-one n) (take-bytes_of w 8 n h)

-- One more byte of padding.
pub replicate_next : {n : ℕ} (m b : ℕ) → n ≡ suc m → replicate n b ≡ b ∷ replicate m b
replicate_next m b e = rw e

module _ (n : ℕ) (out : List ℕ) (at required : ℕ) (bs : List ℕ) where
  -- Bytes that have room are answered by the place behind them ..
  pub after-room : at + length bs ≤ length out → after n out at required bs ≡ wrote (at + length bs) required
  unfolding after
  after-room h = choose_yes (dec_le (at + length bs) (length out)) _ _ h

  -- .. and others by the refusal.
  pub after-full : length out < at + length bs → after n out at required bs ≡ refused n
  unfolding after
  after-full h = choose_no (dec_le (at + length bs) (length out)) _ _ (omega arith)

-- An alignment below 2 is not required ..
pub required-none : (b a : ℕ) → a < 2 → required b a ≡ b
unfolding required
required-none b a h = choose_yes (dec_lt a 2) b (max b a) h

-- .. and another one is if it is the largest.
pub required-some : (b a : ℕ) → 2 ≤ a → required b a ≡ max b a
unfolding required
required-some b a h = choose_no (dec_lt a 2) b (max b a) (omega arith)

-- What a writer shows that has found room ..
pub puts-room : (n at required : ℕ) {bs out out' : List ℕ} (k : ℕ) → length bs ≡ k → at + k ≤ length out →
    out' ≡ put out at bs → Puts n at required bs out out' (wrote (at + k) required)
puts-room n at required {bs} {out} k e h o =
    record { answer = sym (rw e at (after-room n out at required bs (omega arith))); output = o }

-- .. and one that has not.
pub puts-full : (n at required : ℕ) {bs out : List ℕ} (k : ℕ) → length bs ≡ k → ¬ (at + k ≤ length out) →
    Puts n at required bs out out (refused n)
puts-full n at required {bs} {out} k e h =
    let f : length out < at + length bs = omega arith in
    record { answer = sym (after-full n out at required bs f); output = sym (put_full out at bs f) }

-- The same bytes by another name.
pub puts-as : {n at required : ℕ} {bs cs out out' : List ℕ} {r : Wrote} → bs ≡ cs → Puts n at required bs out out' r →
    Puts n at required cs out out' r
puts-as {n} {at} {required} {out = out} {out' = out'} {r = r} e h =
    subst (λ (l : List ℕ). Puts n at required l out out' r) e h

-- Two results of one call are equal.
pub puts-only : {n at required : ℕ} {bs out out' out'' : List ℕ} {r s : Wrote} → Puts n at required bs out out' r →
    Puts n at required bs out out'' s → (r ≡ s) × (out' ≡ out'')
puts-only p q = (p.answer ∙ sym q.answer, p.output ∙ sym q.output)

not_refused : {next required n : ℕ} → wrote next required ≡ refused n → ⊥
not_refused e = let z : ◌≡◌ {A = ℕ} 0 1 = cc in omega arith

module _ {n at required : ℕ} {bs out out' : List ℕ} where
  -- An accepted call's bytes are there, and its answer is the place behind them ..
  pub puts-there : {next q : ℕ} → Puts n at required bs out out' (wrote next q) →
      (take (length bs) (drop at out') ≡ bs) × (next ≡ at + length bs) × (q ≡ required)
  puts-there {next} {q} p =
      by-room out at bs
      (λ h.
      let e = p.answer ∙ after-room n out at required bs h in
      (ap (λ (l : List ℕ). take (length bs) (drop at l)) p.output ∙ put_same out at bs h, (cc), (cc)))
      (λ h. absurd (not_refused (p.answer ∙ after-full n out at required bs h)))

  -- .. a refused call changes nothing, and its answer is the number ..
  pub puts-kept : {m : ℕ} → Puts n at required bs out out' (refused m) → (out' ≡ out) × (m ≡ n)
  puts-kept {m} p =
      by-room out at bs (λ h. absurd (not_refused (sym (p.answer ∙ after-room n out at required bs h))))
      (λ h.
      let e = p.answer ∙ after-full n out at required bs h in
      (p.output ∙ put_full out at bs h, (cc)))

  -- .. and either leaves every other byte as it was.
  pub puts-other : {r : Wrote} (i : ℕ) → (i < at) ⊎ (at + length bs ≤ i) → Puts n at required bs out out' r →
      get_or out' i 0 ≡ get_or out i 0
  puts-other i o p = ap (λ (l : List ℕ). get_or l i 0) p.output ∙ put_other out at bs i o

-- A number that was patched in, or written, is read back.
pub puts-number : {n at required next q : ℕ} {out out' : List ℕ} (w v : ℕ) → v < 256 ^ w →
    Puts n at required (bytes_of w v) out out' (wrote next q) → little (take w (drop at out')) ≡ v
puts-number {at = at} {out' = out'} w v h p =
    let e : take w (drop at out') ≡ bytes_of w v = rw length-bytes_of at (puts-there p).0 in
    ap little e ∙ little-bytes_of w v h

-- A part of no bytes in front changes nothing.
pub none_before : (a s : List ℕ) → length a ≡ 0 → a ++ s ≡ s
none_before [] s n = refl
none_before (b ∷ a) s n = absurd (omega arith)
