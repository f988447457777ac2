-- Starts in a payload, and the entries that they cut one by one: how a loop over them follows the model, over the width of
-- a start, the padding before the starts, and what reads an entry. Assumes nothing.
use Rattle.std.specs.Prelude.{Ok}
use mathlib.Core.Path.{◌≡◌, refl, sym, ap, ◌∙◌, subst}
use Prim.Native.Nat.{ℕ, zero, suc, ◌+◌, ◌*◌, ◌-◌, ◌≤◌, ◌<◌}
use native.Mathlib.Nat.{zero-mul, add-zero, mul-le-mul_left}
use native.Mathlib.Omega.{arith}
use native.Mathlib.Decide.{dec_le, ℕ_discrete}
use mathlib.Core.Option.{none, some}
use mathlib.Core.List.{List, [], ◌∷◌}
use lib.ListN.{length, take, drop, length-drop}
use lib.Seq.{drop-drop, drop_at, take_all, take-add, take-take, length-take-le, length-slice}
use Rattle.exact.specs.Got.{Got, got, stop, follow}
use Rattle.exact.specs.Exact.{Parser}
use Rattle.exact.specs.Basic.{pure}
use Rattle.exact.specs.Sequence.{bind, mapped}
use Rattle.exact.specs.Choice.{choose}
use Rattle.exact.specs.Repeat.{times}
use Rattle.exact.specs.Fixed.{little, fixed, nums}
use Rattle.exact.specs.Padding.{pad, here}
use Rattle.exact.specs.Upto.{upto}
use Rattle.exact.specs.Tiling.{cut, end_of}
use Rattle.exact.specs.Entries.{Rows, raised, cut_least, entry, entries_of, from, rows, entries}
use Rattle.exact.proofs.LawsExact.{got-value, got-next}
use Rattle.exact.proofs.LawsChoice.{choose_yes, choose_no}
use Rattle.exact.proofs.LawsSequence.{follow-inv, follow-follow}
use Rattle.exact.proofs.LawsFixed.{length-nums}
use Rattle.exact.proofs.LawsSteps.{fixed-at, fixed-end}
use Rattle.exact.proofs.LawsTiling.{cut-is}
use Rattle.enums.specs.Container.{P}
use Rattle.enums.specs.Refusals as refusals
use Rattle.reading.specs.Numbers.{varint_at, padding_at, placed}
use Rattle.reading.proofs.LawsNumbers.{varint-in, padding-exact}
use Rattle.reading.proofs.LawsPlaced.{placed-got, times-got}
use Rattle.reading.proofs.LawsInside.{exact-inside}
use Rattle.format.specs.Strings.{no_rows}
use Rattle.format.specs.DecodeTables.{shape, padded_at, offset_table_at}
use Rattle.entries.specs.Starts.{behind_count, no_starts, starts_at, array_at, numbers_in, got_starts, Lies, number_or, end_at}
use Rattle.entries.specs.declared.starts.Starts.{Starts}
use Rattle.entries.proofs.LawsStarts.{number_read, number-other, end-got, end-stop}

-- Starts that were read lie in the payload, with the data right behind them.
module _ (w : ℕ) (l : List ℕ) (s : Starts) where
  lies_placed : (n k : ℕ) → k ≤ length l → placed (times n (fixed w)) l k ≡ got_starts w l (Ok s) → Lies w l s
  lies_placed n k h e =
      let (a, t) = placed-got (times n (fixed w)) l k _ _ _ e in
      let (m, q, z) = times-got n w l k _ _ t in
      let c : s.count ≡ n = sym (length-nums s.count w (drop s.first l)) ∙ ap length q ∙ length-nums n w (drop k l) in
      record { behind = rw (a, c) z; inside = omega (arith, z, m) }

  lies-behind : (a n j : ℕ) → j ≤ length l → behind_count w a n l j ≡ got_starts w l (Ok s) → Lies w l s
  unfolding behind_count bind
  lies-behind a n j h e =
      let (u, k, f, g) = follow-inv (padding_at a l j) _ _ _ e in
      let i = exact-inside (padding-exact a) l j u k f in
      lies_placed n k (omega (arith, i.0, i.1)) g

  -- So do those of an array ..
  pub array_lies : (a i : ℕ) → got_starts w l (Ok s) ≡ array_at w a l i → Lies w l s
  unfolding array_at bind
  array_lies a i e =
      let (n, j, f, g) = follow-inv (varint_at l i) (λ n j. behind_count w a n l j) _ _ (sym e) in
      lies-behind a n j (varint-in l i n j (sym f)).1 g

  lies-none : (j : ℕ) → no_starts l j ≡ got_starts w l (Ok s) → Lies w l s
  unfolding no_starts
  lies-none j e =
      let v = got-value e in
      let c : s.count ≡ 0 = sym (length-nums s.count w (drop s.first l)) ∙ ap (λ x. length x.1) (sym v) in
      let f : s.first ≡ length l = sym (ap (λ x. x.0) v) in
      let d : s.data ≡ length l = sym (got-next e) in
      record { behind = rw (c, f, d, zero-mul, add-zero) refl; inside = omega arith }

  -- .. and of a table.
  pub starts-lie : (a i : ℕ) → got_starts w l (Ok s) ≡ starts_at w a l i → Lies w l s
  unfolding starts_at bind choose
  starts-lie a i e =
      let (n, j, f, g) = follow-inv (varint_at l i) (λ n j. choose (ℕ_discrete n 0) no_starts (behind_count w a n) l j) _ _ (sym e) in
      go n j (ℕ_discrete n 0) f g
    where
      go : (n j : ℕ) (d : Dec (n ≡ 0)) → varint_at l i ≡ got n j → choose d no_starts (behind_count w a n) l j ≡ got_starts w l (Ok s) →
          Lies w l s
      go n j (yes z) f g = lies-none j g
      go n j (no z) f g = lies-behind a n j (varint-in l i n j (sym f)).1 g

-- What goes on behind numbers that were read with their place goes on behind the plain numbers.
placed-then : {A B : Type 0} (p : Parser A) (f : A → ℕ → Got B) (l : List ℕ) (i : ℕ) →
    follow (placed p l i) (λ x j. f x.1 j) ≡ follow (p l i) f
unfolding placed here mapped bind follow pure
placed-then {A = A} p f l i = go (p l i)
  where
    go : (g : Got A) → follow (follow {B = ℕ × A} g (λ v j. got (i, v) j)) (λ x j. f x.1 j) ≡ follow g f
    go (got v j) = refl
    go (stop c k) = refl

module _ {B : Type 0} (w a : ℕ) (l : List ℕ) (f : List ℕ → ℕ → Got B) where
  behind-then : (n i : ℕ) → follow (behind_count w a n l i) (λ x j. f x.1 j) ≡ follow (bind (padding_at a) (λ u. times n (fixed w)) l i) f
  unfolding behind_count bind follow
  behind-then n i = go (padding_at a l i)
    where
      go : (g : Got (Unit {0})) →
          follow (follow g (λ u j. placed (times n (fixed w)) l j)) (λ x j. f x.1 j) ≡ follow (follow g (λ u j. times n (fixed w) l j)) f
      go (got u j) = placed-then (times n (fixed w)) f l j
      go (stop c k) = refl

  array-then : (i : ℕ) → follow (array_at w a l i) (λ x j. f x.1 j) ≡ follow (padded_at w a l i) f
  unfolding array_at padded_at bind follow
  array-then i = go (varint_at l i)
    where
      go : (g : Got ℕ) →
          follow (follow g (λ n j. behind_count w a n l j)) (λ x j. f x.1 j) ≡
          follow (follow g (λ n j. bind (padding_at a) (λ u. times n (fixed w)) l j)) f
      go (got n j) = behind-then n j
      go (stop c k) = refl

follow-got : {A : Type 0} (g : Got A) → follow g got ≡ g
unfolding follow
follow-got (got v j) = refl
follow-got (stop c k) = refl

-- An array as the model reads it.
module _ (w a : ℕ) (l : List ℕ) (i : ℕ) where
  array_plain : follow (array_at w a l i) (λ x j. got x.1 j) ≡ padded_at w a l i
  array_plain = array-then w a l got i ∙ follow-got (padded_at w a l i)

  pub array-padded : (f : ℕ) (ss : List ℕ) (j : ℕ) → array_at w a l i ≡ got (f, ss) j → padded_at w a l i ≡ got ss j
  unfolding follow
  array-padded f ss j e = sym array_plain ∙ rw e

  pub array-refused : (c k : ℕ) → array_at w a l i ≡ stop c k → padded_at w a l i ≡ stop c k
  unfolding follow
  array-refused c k e = sym array_plain ∙ rw e

-- The rows of a table are what its starts cut.
module _ {A : Type 0} (p : Parser A) (w a o : ℕ) (l : List ℕ) where
  offset-count : (n i : ℕ) (d : Dec (n ≡ 0)) →
      choose d (upto (pure no_rows)) (entries shape w a o 0 p n) l i ≡
      follow (choose d no_starts (behind_count w a n) l i) (λ x j. rows o refusals.bounds 0 p x.1 l j)
  unfolding choose upto pure follow rows entries_of no_starts entries bind padding_at
  offset-count n i (yes z) = refl
  offset-count n i (no z) =
      sym (behind-then w a l (λ ss j. rows o refusals.bounds 0 p ss l j) n i ∙
      follow-follow (pad refusals.unpadded P a l i) (λ u j. times n (fixed w) l j) (λ ss j. rows o refusals.bounds 0 p ss l j))

  offset-starts : (i : ℕ) → offset_table_at w a o p l i ≡ follow (starts_at w a l i) (λ x j. rows o refusals.bounds 0 p x.1 l j)
  unfolding offset_table_at starts_at bind follow
  offset-starts i = go (varint_at l i)
    where
      go : (g : Got ℕ) →
          follow g (λ n j. choose (ℕ_discrete n 0) (upto (pure no_rows)) (entries shape w a o 0 p n) l j) ≡
          follow (follow g (λ n j. choose (ℕ_discrete n 0) no_starts (behind_count w a n) l j)) (λ x j. rows o refusals.bounds 0 p x.1 l j)
      go (got n j) = offset-count n j (ℕ_discrete n 0)
      go (stop c k) = refl

  -- The starts were refused ..
  pub offset-stop : (i c k : ℕ) → starts_at w a l i ≡ stop c k → offset_table_at w a o p l i ≡ stop c k
  unfolding follow
  offset-stop i c k e = offset-starts i ∙ rw e

  -- .. or found.
  pub offset-got : (i f : ℕ) (ss : List ℕ) (j : ℕ) → starts_at w a l i ≡ got (f, ss) j →
      offset_table_at w a o p l i ≡ rows o refusals.bounds 0 p ss l j
  unfolding follow
  offset-got i f ss j e = offset-starts i ∙ rw e

  -- The values of a table do not depend on where it stands.
  pub rows-values : (ss : List ℕ) (i : ℕ) →
      follow (rows o refusals.bounds 0 p ss l i) (λ v j. got v.values j) ≡ entries_of refusals.bounds 0 p ss i (length l) (drop i l)
  unfolding rows follow
  rows-values ss i = go (entries_of refusals.bounds 0 p ss i (length l) (drop i l))
    where
      go : (g : Got (List A)) →
          follow (follow {B = Rows A} g (λ vs j. got (record { at = from (o + i) ss; values = vs }) j)) (λ v j. got v.values j) ≡ g
      go (got vs j) = refl
      go (stop c k) = refl

  pub table-values : (i : ℕ) →
      follow (offset_table_at w a o p l i) (λ v j. got v.values j) ≡
      follow (starts_at w a l i) (λ x j. entries_of refusals.bounds 0 p x.1 j (length l) (drop j l))
  unfolding follow
  table-values i = ap (λ g. follow g (λ v j. got v.values j)) (offset-starts i) ∙ go (starts_at w a l i)
    where
      go : (g : Got (ℕ × List ℕ)) →
          follow (follow g (λ x j. rows o refusals.bounds 0 p x.1 l j)) (λ v j. got v.values j) ≡
          follow g (λ x j. entries_of refusals.bounds 0 p x.1 j (length l) (drop j l))
      go (got x j) = rows-values x.1 j
      go (stop c k) = refl

-- There are as many as starts.
pub entries-count : {A : Type 0} (c m : ℕ) (p : Parser A) (ss : List ℕ) (b n : ℕ) (d : List ℕ) (vs : List A) (k : ℕ) →
    entries_of c m p ss b n d ≡ got vs k → length vs ≡ length ss
unfolding entries_of
entries-count c m p [] b n d vs k e = ap length (sym (got-value e))
entries-count c m p (s ∷ ss) b n d vs k e =
    let (v, j, f, g) = follow-inv (entry c p (b + s) (cut_least m s (end_of ss d) d)) _ vs k e in
    let (us, i, x, y) = follow-inv (entries_of c m p ss b n d) _ vs k g in
    sym (ap length (got-value y)) ∙ ap suc (entries-count c m p ss b n d us i x)

-- The part of the payload that the starts are.
abbrev pub run_of : List ℕ → Starts → List ℕ
run_of l s = take (s.data - s.first) (drop s.first l)

-- The data behind them, as the code cuts it.
abbrev pub rest_of : List ℕ → Starts → List ℕ
rest_of l s = take (length l - s.data) (drop s.data l)

pub rest-is : (l : List ℕ) (s : Starts) → rest_of l s ≡ drop s.data l
rest-is l s = take_all (length l - s.data) (drop s.data l) (omega (arith, length-drop s.data l))

pub rest-length : (l : List ℕ) (s : Starts) → length (rest_of l s) ≡ length l - s.data
rest-length l s = ap length (rest-is l s) ∙ length-drop s.data l

nums-take : (n w : ℕ) (s : List ℕ) → n * w ≤ length s → nums n w (take (n * w) s) ≡ nums n w s
unfolding nums
nums-take zero w s h = refl
nums-take (suc n) w s h =
    let e : suc n * w ≡ w + n * w = omega arith in
    let a : take w (take (w + n * w) s) ≡ take w s = take-take w (w + n * w) s (omega arith) in
    let m : w ≤ length s = omega arith in
    let b : drop w (take (w + n * w) s) ≡ take (n * w) (drop w s) =
    ap (drop w) (take-add w (n * w) s) ∙ drop_at (take w s) (take (n * w) (drop w s)) w (length-take-le w s m) in
    let k : n * w ≤ length (drop w s) = omega (arith, length-drop w s) in
    rw (e, a, b, nums-take n w (drop w s) k)

module _ (w : ℕ) (l : List ℕ) (s : Starts) (lies : Lies w l s) where
  run_long : s.data - s.first ≡ s.count * w
  run_long = omega (arith, lies.behind)

  -- It has the bytes of all starts ..
  pub run_length : length (run_of l s) ≡ s.count * w
  run_length =
      let m : s.count * w ≤ length (drop s.first l) = omega (arith, lies.behind, lies.inside, length-drop s.first l) in
      rw run_long (length-take-le (s.count * w) (drop s.first l) m)

  -- .. and so these are its numbers.
  pub run-nums : nums s.count w (run_of l s) ≡ numbers_in w l s
  run-nums =
      let m : s.count * w ≤ length (drop s.first l) = omega (arith, lies.behind, lies.inside, length-drop s.first l) in
      rw run_long (nums-take s.count w (drop s.first l) m)

-- There are not more of them than bytes.
pub starts-few : (w : ℕ) (l : List ℕ) (s : Starts) → 0 < w → Lies w l s → s.count ≤ length l
starts-few w l s h lies = omega (arith, lies.behind, lies.inside, mul-le-mul_left {m = 1} {n = w} s.count h)

-- The starts of the last k entries, where the first of them begins at s, and the starts behind it stand from i on.
abbrev pub ahead : ℕ → List ℕ → ℕ → ℕ → ℕ → List ℕ
ahead w run zero s i = []
ahead w run (suc k) s i = s ∷ nums k w (drop i run)

-- A cursor before the last k entries of data of n bytes.
abbrev pub Before : ℕ → ℕ → List ℕ → ℕ → ℕ → ℕ → Type 0
Before w n run zero s i = s ≡ n
Before w n run (suc k) s i = length run ≡ i + k * w

module _ (w n : ℕ) (run : List ℕ) (some : 0 < w) where
  -- The number at i is the first of the k that stand there, or n.
  number-first : (k i s j : ℕ) → length run ≡ i + k * w → got s j ≡ number_or w n run i →
      Before w n run k s j × (nums k w (drop i run) ≡ ahead w run k s j)
  unfolding nums
  number-first zero i s j h e =
      let q : got s j ≡ got n i = e ∙ sym (number-other w n run i _ _ (fixed-end w run i (omega (arith, zero-mul w)))) in
      (got-value q, refl)
  number-first (suc k) i s j h e =
      let m : w ≤ length run - i = omega arith in
      let q : got s j ≡ got (little (take w (drop i run))) (i + w) = e ∙ sym (number_read w n run i _ _ (fixed-at w run i m)) in
      let a : s ≡ little (take w (drop i run)) = got-value q in
      let b : j ≡ i + w = got-next q in
      (omega arith, rw (a, b, drop-drop))

  -- Before all entries ..
  before-all : (k s j : ℕ) → length run ≡ k * w → got s j ≡ number_or w n run 0 → Before w n run k s j × (nums k w run ≡ ahead w run k s j)
  before-all k s j h e = number-first k 0 s j (omega arith) e

  -- .. and behind one of them, whose end is where the next begins, and the last one's where the data ends.
  pub before-next : (k r s i e j : ℕ) → k ≡ suc r → Before w n run k s i → got e j ≡ number_or w n run i →
      Before w n run r e j × (ahead w run k s i ≡ s ∷ ahead w run r e j)
  before-next k r s i e j h b q =
      let (x, y) = number-first r i e j (subst (λ k. Before w n run k s i) h b) q in
      (x, ap (λ k. ahead w run k s i) h ∙ ap (λ ss. s ∷ ss) y)

-- A cursor stands where the first of them begins.
pub before-ends : {A : Type 0} (w n : ℕ) (run : List ℕ) (d : List A) → n ≡ length d → (k s i : ℕ) → Before w n run k s i →
    end_of (ahead w run k s i) d ≡ s
before-ends w n run d h zero s i b = sym (b ∙ h)
before-ends w n run d h (suc k) s i b = refl

-- So a cursor begins before all entries of a table.
pub run-first : (w n : ℕ) (l : List ℕ) (t : Starts) → 0 < w → Lies w l t → (s j : ℕ) → got s j ≡ number_or w n (run_of l t) 0 →
    Before w n (run_of l t) t.count s j × (numbers_in w l t ≡ ahead w (run_of l t) t.count s j)
run-first w n l t bytes lies s j e =
    let (b, a) = before-all w n (run_of l t) bytes t.count s j (run_length w l t lies) e in
    (b, sym (run-nums w l t lies) ∙ a)

-- A part of the data, as the code cuts it.
pub part-is : (x y : ℕ) (d : List ℕ) → x ≤ y → y ≤ length d → take (y - x) (drop x d) ≡ drop x (take y d)
part-is x y d p q =
    let e : y ≡ x + (y - x) = omega arith in
    sym (ap (λ k. drop x (take k d)) e ∙ ap (drop x) (take-add x (y - x) d) ∙
    drop_at (take x d) (take (y - x) (drop x d)) x (length-take-le x d (omega arith)))

pub part_length : (x y : ℕ) (d : List ℕ) → x ≤ y → y ≤ length d → length (take (y - x) (drop x d)) ≡ y - x
part_length x y d p q = ap length (part-is x y d p q) ∙ length-slice x y d q

-- What is cut ..
cut_in : (m s e : ℕ) (d : List ℕ) → s + m ≤ e → e ≤ length d → cut_least m s e d ≡ some (drop s (take e d))
unfolding cut_least
cut_in m s e d p q = let h : s ≤ e = omega arith in choose_yes (dec_le (s + m) e) _ _ p ∙ cut-is s e d h q

-- .. and what is not.
cut_out : (m s e : ℕ) (d : List ℕ) → (s + m ≤ e → e ≤ length d → ⊥) → cut_least m s e d ≡ none
unfolding cut_least cut
cut_out m s e d h =
    elim (dec_le (s + m) e) [
      | no p ↦ choose_no (dec_le (s + m) e) _ _ p
      | yes p ↦
          let n : s ≤ e = omega arith in
          choose_yes (dec_le (s + m) e) _ _ p ∙ choose_yes (dec_le s e) _ _ n ∙ choose_no (dec_le e (length d)) _ _ (h p)
    ]

-- The last k entries, of m bytes at least and each read by p, of the data d that begins at b and ends at n.
module _ {A : Type 0} (w m : ℕ) (p : Parser A) (run : List ℕ) (b n : ℕ) (d : List ℕ) where
  abbrev pub entries_left : ℕ → ℕ → ℕ → Got (List A)
  entries_left k s i = entries_of refusals.bounds m p (ahead w run k s i) b n d

  -- None are left ..
  pub left-none : (k s i : ℕ) → k ≤ 0 → entries_left k s i ≡ got [] n
  unfolding entries_of
  left-none zero s i h = refl
  left-none (suc k) s i h = let z : ⊥ = omega arith in absurd z

  module _ (some_bytes : 0 < w) (size : ℕ) (long : size ≡ length d) (k r s i : ℕ) (more : k ≡ suc r) (before : Before w size run k s i) where
    first-left : (e j : ℕ) → got e j ≡ number_or w size run i →
        entries_left k s i ≡
        follow (entry refusals.bounds p (b + s) (cut_least m s e d)) (λ v h. follow (entries_left r e j) (λ vs x. got (v ∷ vs) x))
    unfolding entries_of
    first-left e j q =
        let (x, y) = before-next w size run some_bytes k r s i e j more before q in
        ap (λ ss. entries_of refusals.bounds m p ss b n d) y ∙
        ap (λ t. follow (entry refusals.bounds p (b + s) (cut_least m s t d)) (λ v h. follow (entries_left r e j) (λ vs x. got (v ∷ vs) x)))
        (before-ends w size run d long r e j x)

    -- .. the bounds of the first are bad ..
    pub left-bad : (c x : ℕ) → end_at w m size s run i ≡ stop c x → entries_left k s i ≡ stop c x
    unfolding entry follow
    left-bad c x e =
        let (t, j, q, f, g, bad) = end-stop w m size s run i c x e in
        first-left t j q ∙ rw (cut_out m s t d (λ y z. bad y (omega (arith, z)))) (cc)

    -- .. or good, and it is read.
    pub left-good : (e j : ℕ) → end_at w m size s run i ≡ got e j →
        Before w size run r e j × (s + m ≤ e) × (e ≤ length d) ×
        (entries_left k s i ≡
        follow (raised (b + s) (p (drop s (take e d)) 0)) (λ v h. follow (entries_left r e j) (λ vs x. got (v ∷ vs) x))) ×
        (ahead w run k s i ≡ s ∷ ahead w run r e j)
    unfolding entry
    left-good e j q =
        let (f, g, z) = end-got w m size s run i e j q in
        let h : e ≤ length d = omega arith in
        let (x, y) = before-next w size run some_bytes k r s i e j more before f in
        (x, g, h, first-left e j f ∙ rw (cut_in m s e d g h), y)
