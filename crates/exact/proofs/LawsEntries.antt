-- The entries of an offset table are read exactly if an entry is. Assumes nothing.
use mathlib.Core.Path.{◌≡◌, refl, sym, ap, ◌∙◌, subst, subst₂}
use Prim.Native.Nat.{ℕ, suc, ◌+◌, ◌≤◌}
use native.Mathlib.Nat.{add_assoc}
use native.Mathlib.Omega.{arith}
use native.Mathlib.Decide.{dec_le}
use mathlib.Core.Option.{Option, none, some, none-ne-some}
use mathlib.Core.List.{List, [], ◌∷◌, ◌++◌, append_assoc, append-nil}
use lib.ListN.{length, drop, replicate, length-append}
use Rattle.exact.specs.Got.{Got, got, stop, follow}
use Rattle.exact.specs.Exact.{Parser, Lang, Exact, Ends}
use Rattle.exact.specs.Sequence.{bind, Then, then}
use Rattle.exact.specs.Choice.{choose}
use Rattle.exact.specs.Repeat.{Many}
use Rattle.exact.specs.Fixed.{Fixed}
use Rattle.exact.specs.Padding.{Pad, gap, literal_of}
use Rattle.exact.specs.Tiling.{Tiled, join, sums, cut, end_of}
use Rattle.exact.specs.Table.{Shape}
use Rattle.exact.specs.Entries.{raised, cut_least, entry, entries_of, Each, none_left, entry_of, Rows, from, rows, entries, Entries}
use Rattle.exact.proofs.LawsExact.{same_ends, stop-not-got, got-value, got-next}
use Rattle.exact.proofs.LawsSequence.{follow-inv, bind-ends}
use Rattle.exact.proofs.LawsChoice.{choose_yes}
use Rattle.exact.proofs.LawsRepeat.{times-exact, many-length}
use Rattle.exact.proofs.LawsFixed.{fixed-exact}
use Rattle.exact.proofs.LawsPadding.{pad-exact}
use Rattle.exact.proofs.LawsTiling.{Cut, cut-inv, cut-seam, end-of, tiled-cons, length-sums}
use Rattle.exact.specs.Upto.{Whole, whole_of}

-- What was raised was read.
pub raised-inv : {A : Type 0} (n : ℕ) (g : Got A) (v : A) (j : ℕ) → raised n g ≡ got v j → (k : ℕ) × (g ≡ got v k)
unfolding raised
raised-inv n (got w k) v j e = (k, ap (λ x. got x k) (got-value e))
raised-inv n (stop c k) v j e = absurd (stop-not-got e)

cut-least-inv : (m s e : ℕ) (d x : List ℕ) → cut_least m s e d ≡ some x → Cut s e d x
unfolding cut_least choose
cut-least-inv m s e d x = go (dec_le (s + m) e)
  where
    go : (h : Dec (s + m ≤ e)) → choose h (cut s e d) none ≡ some x → Cut s e d x
    go (yes h) y = cut-inv s e d x y
    go (no h) y = absurd (none-ne-some _ y)

cut-least-seam : (m : ℕ) (g e r : List ℕ) → m ≤ length e → cut_least m (length g) (length (g ++ e)) (g ++ e ++ r) ≡ some e
unfolding cut_least
cut-least-seam m g e r h =
    let n : length g + m ≤ length (g ++ e) = rw length-append (omega arith) in
    choose_yes (dec_le (length g + m) (length (g ++ e))) _ _ n ∙ cut-seam g e r

-- There are as many values as entries.
pub each-length : {A : Type 0} {R : Lang A} (es : List (List ℕ)) (vs : List A) → Each R es vs → length es ≡ length vs
each-length es vs none_left = refl
each-length es vs (entry_of {es = fs} {vs = ws} r t) = ap suc (each-length fs ws t)

-- Entries that stand for themselves are the values.
pub whole_same : (es vs : List (List ℕ)) → Each Whole es vs → es ≡ vs
whole_same es vs none_left = refl
whole_same es vs (entry_of {e = e} {es = fs} {vs = ws} whole_of t) = ap (λ x. e ∷ x) (whole_same fs ws t)

-- What the starts cut out of the data, each read.
pub record Cuts {A : Type 0} (o : ℕ) (R : Lang A) (ss : List ℕ) (i : ℕ) (d : List ℕ) (v : Rows A) : Type 0 where
  pub parts : List (List ℕ)
  pub tiled : Tiled ss d parts
  pub placed : v.at ≡ from (o + i) ss
  pub read : Each R parts v.values

module _ {A : Type 0} (c m : ℕ) {p : Parser A} {R : Lang A} (x : Ends p R) where
  entry-inv : (b : ℕ) (o : Option (List ℕ)) (v : A) (j : ℕ) → entry c p b o ≡ got v j → (e : List ℕ) × (o ≡ some e) × R 0 e v
  unfolding entry
  entry-inv b none v j h = absurd (stop-not-got h)
  entry-inv b (some e) v j h = let (k, g) = raised-inv b (p e 0) v j h in (e, refl, (x.sound e 0 v k g).0)

  of-sound : (ss : List ℕ) (b n : ℕ) (d : List ℕ) (vs : List A) (j : ℕ) → entries_of c m p ss b n d ≡ got vs j →
      (es : List (List ℕ)) × Tiled ss d es × Each R es vs × (j ≡ n)
  unfolding entries_of
  of-sound [] b n d vs j h =
      let t : Each R [] vs = rw (← got-value h) none_left in
      ([], record { gap = d; whole = sym (append-nil d); starts = refl }, t, sym (got-next h))
  of-sound (s ∷ ss) b n d vs j h =
      let (v, k, g, y) = follow-inv (entry c p (b + s) (cut_least m s (end_of ss d) d))
      (λ v j. follow (entries_of c m p ss b n d) (λ vs k. got (v ∷ vs) k)) vs j h in
      let (ws, q, f, z) = follow-inv (entries_of c m p ss b n d) (λ vs k. got (v ∷ vs) k) vs j y in
      let (e, f', r) = entry-inv (b + s) (cut_least m s (end_of ss d) d) v k g in
      let (es, t, w, u) = of-sound ss b n d ws q f in
      let z' : Each R (e ∷ es) (v ∷ ws) = entry_of r w in (
        e ∷ es,
        tiled-cons s ss d e es t (cut-least-inv m s (end_of ss d) d e f'),
        subst (Each R (e ∷ es)) (got-value z) z',
        sym (got-next z) ∙ u,
      )

  module _ (least : (e : List ℕ) (v : A) → R 0 e v → m ≤ length e) where
    of-complete : (b n : ℕ) (g : List ℕ) (es : List (List ℕ)) (vs : List A) → Each R es vs →
        entries_of c m p (sums (length g) es) b n (g ++ join es) ≡ got vs n
    unfolding entries_of entry follow raised
    of-complete b n g es vs none_left = refl
    of-complete b n g es vs (entry_of {e = e} {es = fs} {v = v} {vs = ws} r t) =
        rw (
          ← append_assoc,
          ← length-append,
          end-of (g ++ e) fs,
          cut-least-seam m g e (join fs) (least e v r),
          x.complete e 0 v r,
          of-complete b n (g ++ e) fs ws t,
        )

    tiled-complete : (b n : ℕ) (ss d : List ℕ) (es : List (List ℕ)) (vs : List A) → Tiled ss d es → Each R es vs →
        entries_of c m p ss b n d ≡ got vs n
    tiled-complete b n ss d es vs t r = rw (t.starts, t.whole) (of-complete b n t.gap es vs r)

    rows-complete : (o : ℕ) (ss l : List ℕ) (i : ℕ) (v : Rows A) → Cuts o R ss i (drop i l) v → rows o c m p ss l i ≡ got v (length l)
    unfolding rows follow
    rows-complete o ss l i v r =
        rw (tiled-complete i (length l) ss (drop i l) r.parts v.values r.tiled r.read)
        (ap (λ a. got (record { at = a; values = v.values }) (length l)) (sym r.placed))

    -- All that is left is cut and read.
    pub rows-ends : (o : ℕ) (ss : List ℕ) → Ends (rows o c m p ss) (Cuts o R ss)
    unfolding rows
    rows-ends o ss =
        record {
          sound = λ l i v j e.
              let (vs, k, g, h) = follow-inv (entries_of c m p ss i (length l) (drop i l))
              (λ vs j. got (record { at = from (o + i) ss; values = vs }) j) v j e in
              let (es, t, r, n) = of-sound ss i (length l) (drop i l) vs k g in
              let q = got-value h in (
                record { parts = es; tiled = t; placed = sym (ap (λ z. z.at) q); read = subst (Each R es) (ap (λ z. z.values) q) r },
                sym (got-next h) ∙ n,
              );
          complete = λ l i v r. rows-complete o ss l i v r;
        }

-- Padding, n starts, and what they cut.
abbrev pub Behind : {A : Type 0} → ℕ → ℕ → ℕ → ℕ → Lang A → ℕ → Lang (Rows A)
Behind x w a o R n = Then (Pad x a) (λ u. Then (Many (Fixed w) n) (λ ss. Cuts o R ss))

-- There are as many values as starts.
pub behind-count : {A : Type 0} (x w a o : ℕ) {R : Lang A} (n i : ℕ) (bs : List ℕ) (v : Rows A) → Behind x w a o R n i bs v →
    n ≡ length v.values
behind-count x w a o n i bs v (then literal_of (then {bs = b} {v = ss} t r)) =
    many-length n _ b ss t ∙ ap length r.tiled.starts ∙ length-sums (length r.tiled.gap) r.parts ∙
    each-length r.parts v.values r.read

-- The table behind its count is read exactly.
pub entries-ends : {A : Type 0} (f : Shape) (w a o m : ℕ) {p : Parser A} {R : Lang A} → Ends p R →
    ((e : List ℕ) (v : A) → R 0 e v → m ≤ length e) → (n : ℕ) → Ends (entries f w a o m p n) (Behind f.fill w a o R n)
unfolding entries
entries-ends f w a o m x least n =
    bind-ends (pad-exact f.unpadded f.fill a)
    (λ u. bind-ends (times-exact n (fixed-exact w)) (λ ss. rows-ends f.untiled m x least o ss))

-- Starts that are running sums are so from any base.
pub from-sums : (b n : ℕ) (es : List (List ℕ)) → from b (sums n es) ≡ sums (b + n) es
from-sums b n [] = refl
from-sums b n (e ∷ es) = ap (λ z. (b + n) ∷ z) (from-sums b (n + length e) es ∙ ap (λ k. sums k es) (sym (add_assoc b n (length e))))

-- A count and what stands behind it are an offset table ..
pub to-entries : {A : Type 0} {C : Lang ℕ} (x w a o : ℕ) {R : Lang A} (i : ℕ) (bs : List ℕ) (v : Rows A) →
    Then C (Behind x w a o R) i bs v → Entries C x w a o R i bs v
to-entries {C = C} x w a o i bs v (then {bs = c} {v = n} s (then literal_of (then {bs = b} {v = ss} t r))) =
    let p : List ℕ = replicate (gap a (i + length c)) x in
    let es : List (List ℕ) = r.parts in
    let q : n ≡ length es = many-length n _ b ss t ∙ ap length r.tiled.starts ∙ length-sums (length r.tiled.gap) es in
    let k : o + (i + length c + length p + length b) + length r.tiled.gap ≡
    o + i + length c + length p + length b + length r.tiled.gap = omega arith in
    record {
      parts = es;
      table = record {
        count = c;
        pads = p;
        starts = b;
        before = r.tiled.gap;
        whole = ap (λ y. c ++ (p ++ (b ++ y))) r.tiled.whole;
        counted = subst (C i c) q s;
        padded = refl;
        started = subst₂ (λ k y. Many (Fixed w) k (i + length c + length p) b y) q r.tiled.starts t;
      };
      placed = r.placed ∙ ap (from (o + (i + length c + length p + length b))) r.tiled.starts ∙
          from-sums (o + (i + length c + length p + length b)) (length r.tiled.gap) es ∙ ap (λ n. sums n es) k;
      read = r.read;
    }

-- .. and back.
pub of-entries : {A : Type 0} {C : Lang ℕ} (x w a o : ℕ) {R : Lang A} (i : ℕ) (bs : List ℕ) (v : Rows A) →
    Entries C x w a o R i bs v → Then C (Behind x w a o R) i bs v
of-entries x w a o {R = R} i bs v e =
    let t = e.table in
    let j : ℕ = i + length t.count + length t.pads + length t.starts in
    let p : Pad x a (i + length t.count) t.pads tt = rw t.padded literal_of in
    let k : o + i + length t.count + length t.pads + length t.starts + length t.before ≡ o + j + length t.before = omega arith in
    let d : Cuts o R (sums (length t.before) e.parts) j (t.before ++ join e.parts) v =
    record {
      parts = e.parts;
      tiled = record { gap = t.before; whole = refl; starts = refl };
      placed = e.placed ∙ ap (λ n. sums n e.parts) k ∙ sym (from-sums (o + j) (length t.before) e.parts);
      read = e.read;
    } in
    rw t.whole (then t.counted (then p (then t.started d)))

-- An offset table whose entries are read to their end is read exactly.
pub counted-entries-ends : {A : Type 0} (f : Shape) {C : Lang ℕ} → Exact f.number C → (w a o m : ℕ) {p : Parser A} {R : Lang A} →
    Ends p R → ((e : List ℕ) (v : A) → R 0 e v → m ≤ length e) →
    Ends (bind f.number (entries f w a o m p)) (Entries C f.fill w a o R)
counted-entries-ends f y w a o m x least =
    same_ends (bind-ends y (entries-ends f w a o m x least))
    (λ i bs v. (to-entries f.fill w a o i bs v, of-entries f.fill w a o i bs v))
