-- Where runs of bytes stand, part by part. Assumes nothing.
use mathlib.Core.Path.{◌≡◌, refl, sym, ap, ◌∙◌, subst}
use Prim.Native.Nat.{ℕ, zero, suc, ◌+◌, ◌≤◌, ◌<◌}
use native.Mathlib.Nat.{add-zero, not-suc-le-zero, le_of_suc-le-suc}
use native.Mathlib.Omega.{arith}
use mathlib.Core.List.{List, [], ◌∷◌, ◌++◌, map, append_assoc, append-nil}
use lib.ListN.{length, take, drop, get_or, length-append}
use lib.Seq.{drop-append_seam, take-append_seam}
use Rattle.exact.specs.Repeat.{Many, nil, cons}
use Rattle.exact.specs.Tiling.{join, sums}
use Rattle.exact.specs.Upto.{Whole}
use Rattle.exact.specs.Until.{end, item}
use Rattle.exact.specs.Entries.{Rows, Entries}
use Rattle.exact.proofs.LawsEntries.{whole_same}
use Rattle.enums.specs.Container.{P}
use Rattle.format.specs.Tables.{Function}
use Rattle.format.specs.Items.{Number}
use Rattle.format.specs.Sections.{Section, SectionAt, section, Sections}
use Rattle.format.specs.Functions.{Located, apart, FunctionRow, function}
use Rattle.format.specs.Stands.{Stands}
use Rattle.format.specs.Views.{body_of}

-- The file's bytes from the place on are the run's.
pub stands-bytes : (file : List ℕ) (k : ℕ) (run : List ℕ) → Stands 0 file k run →
    (take (length run) (drop k file) ≡ run) × (k + length run ≤ length file)
stands-bytes file k run s =
    let e : k ≡ length s.before = omega (arith, s.place) in (
      rw (e, s.whole, drop-append_seam, take-append_seam),
      rw (s.whole, length-append, length-append) (omega arith),
    )

-- A run stands in itself.
pub stands_self : (n : ℕ) (run : List ℕ) → Stands n run n run
stands_self n run = record { before = []; after = []; whole = sym (append-nil run); place = sym (add-zero n) }

-- The base is counted as it is.
pub stands-as : (n m : ℕ) (l : List ℕ) (k : ℕ) (run : List ℕ) → n ≡ m → Stands n l k run → Stands m l k run
stands-as n m l k run e s = rw (← e) s

-- Bytes in front ..
pub stands-behind : (n : ℕ) (p l : List ℕ) (k : ℕ) (run : List ℕ) → Stands (n + length p) l k run → Stands n (p ++ l) k run
stands-behind n p l k run s =
    record {
      before = p ++ s.before;
      after = s.after;
      whole = ap (λ z. p ++ z) s.whole ∙ sym (append_assoc p s.before (run ++ s.after));
      place = omega (arith, s.place, length-append p s.before);
    }

-- .. and behind.
pub stands-before : (n : ℕ) (l r : List ℕ) (k : ℕ) (run : List ℕ) → Stands n l k run → Stands n (l ++ r) k run
stands-before n l r k run s =
    record {
      before = s.before;
      after = s.after ++ r;
      whole = ap (λ z. z ++ r) s.whole ∙ append_assoc s.before (run ++ s.after) r ∙
          ap (λ z. s.before ++ z) (append_assoc run s.after r);
      place = s.place;
    }

-- A run in a run.
pub stands-in : (n : ℕ) (l : List ℕ) (m : ℕ) (part : List ℕ) (k : ℕ) (run : List ℕ) → Stands n l m part → Stands m part k run →
    Stands n l k run
stands-in n l m part k run s t =
    let u : Stands (n + length s.before) part k run =
    record { before = t.before; after = t.after; whole = t.whole; place = t.place ∙ ap (λ z. z + length t.before) s.place } in
    rw s.whole
    (stands-behind n s.before (part ++ s.after) k run (stands-before (n + length s.before) part s.after k run u))

-- Entry k of a table stands where the running sums say.
pub sums-stand : (n : ℕ) (es : List (List ℕ)) (k : ℕ) → k < length es → Stands n (join es) (get_or (sums n es) k 0) (get_or es k [])
sums-stand n [] k h = absurd (not-suc-le-zero h)
sums-stand n (e ∷ es) zero h = record { before = []; after = join es; whole = refl; place = sym (add-zero n) }
sums-stand n (e ∷ es) (suc k) h = stands-behind n e (join es) _ _ (sums-stand (n + length e) es k (le_of_suc-le-suc h))

-- Row k of a table of strings or constants stands at its place.
pub entries-stand : (w a o : ℕ) (i : ℕ) (bs : List ℕ) (v : Rows (List ℕ)) → Entries Number P w a o Whole i bs v → (k : ℕ) →
    k < length v.values → Stands (o + i) bs (get_or v.at k 0) (get_or v.values k [])
entries-stand w a o i bs v e k h =
    let t = e.table in
    let q : e.parts ≡ v.values = whole_same e.parts v.values e.read in
    let b : ℕ = o + i + length t.count + length t.pads + length t.starts + length t.before in
    let s : Stands b (join v.values) (get_or (sums b v.values) k 0) (get_or v.values k []) = sums-stand b v.values k h in
    rw (t.whole, e.placed, q)
    (stands-behind (o + i) t.count _ _ _
    (stands-behind (o + i + length t.count) t.pads _ _ _
    (stands-behind (o + i + length t.count + length t.pads) t.starts _ _ _
    (stands-behind (o + i + length t.count + length t.pads + length t.starts) t.before _ _ _ s))))

-- A section's payload stands where the section says.
section-stands : (i : ℕ) (bs : List ℕ) (s : Section) → SectionAt i bs s → Stands i bs s.start s.payload
section-stands i bs s r =
    let p : List ℕ = r.first ∷ (r.size ++ r.alignment) in
    record {
      before = p;
      after = [];
      whole = r.whole ∙ ap (λ z. r.first ∷ z) (sym (append_assoc r.size r.alignment s.payload) ∙
          ap (λ z. (r.size ++ r.alignment) ++ z) (sym (append-nil s.payload)));
      place = omega (arith, r.starts, length-append r.size r.alignment);
    }

-- So does that of each section of a walk.
pub sections-stand : (i : ℕ) (bs : List ℕ) (ss es : List Section) (s : Section) (ts : List Section) → Sections i bs ss →
    ss ≡ es ++ (s ∷ ts) → Stands i bs s.start s.payload
sections-stand i bs ss [] s ts (end r) e = let z : ◌≡◌ {A = ℕ} 0 1 = cc in absurd (omega arith)
sections-stand i bs ss (x ∷ es) s ts (end r) e = let z : ◌≡◌ {A = ℕ} 0 1 = cc in absurd (omega arith)
sections-stand i bs ss [] s ts (item {bs = b} {cs = c} {v = v} {vs = vs} (section r) u) e =
    let q : v ≡ s = cc in
    stands-before i b c _ _ (rw (← q) (section-stands i b v r))
sections-stand i bs ss (x ∷ es) s ts (item {bs = b} {cs = c} {v = v} {vs = vs} (section r) u) e =
    let q : vs ≡ es ++ (s ∷ ts) = cc in
    stands-behind i b c _ _ (sections-stand (i + length b) c vs es s ts u q)

-- A function's body stands at its place.
body-stands : (o i : ℕ) (bs : List ℕ) (v : Located Function) → FunctionRow o i bs v → Stands (o + i) bs v.at v.value.body
body-stands o i bs v (function {name_bytes = a} {signature_bytes = b} {location_bytes = d} {length_bytes = e} {body = y} {flags = f} n s h l m) =
    let k : ℕ = o + i + length a + length b + 1 + length d + length e in
    let q : k ≡ o + (i + length a + length b + 1 + length d + length e) = omega arith in
    let t : Stands k y k y = stands_self k y in
    subst (λ z. Stands (o + i) bs z y) q
    (stands-behind (o + i) a _ _ _
    (stands-behind (o + i + length a) b _ _ _
    (stands-behind (o + i + length a + length b) (f ∷ []) _ _ _
    (stands-behind (o + i + length a + length b + 1) d _ _ _
    (stands-behind (o + i + length a + length b + 1 + length d) e _ _ _ t)))))

-- So does each of a list of functions.
pub bodies-stand : (o n i : ℕ) (bs : List ℕ) (vs : List (Located Function)) → Many (FunctionRow o) n i bs vs → (k : ℕ) →
    k < length vs → Stands (o + i) bs (get_or (apart vs).at k 0) (get_or (map body_of (apart vs).values) k [])
bodies-stand o n i bs vs nil k h = absurd (not-suc-le-zero h)
bodies-stand o n i bs vs (cons {bs = b} {cs = c} {v = v} r t) zero h = stands-before (o + i) b c _ _ (body-stands o i b v r)
bodies-stand o n i bs vs (cons {n = m} {bs = b} {cs = c} {vs = ws} r t) (suc k) h =
    let q : o + (i + length b) ≡ o + i + length b = omega arith in
    stands-behind (o + i) b c _ _
    (stands-as (o + (i + length b)) (o + i + length b) c _ _ q (bodies-stand o m (i + length b) c ws t k (le_of_suc-le-suc h)))
