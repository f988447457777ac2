-- Rows and pool make tables, and tables their rows and pool, each the other way round. Assumes nothing.
use mathlib.Core.Path.{◌≡◌, refl, sym, ap, ap₂, ◌∙◌}
use Prim.Native.Nat.{ℕ, ◌+◌, ◌≤◌}
use native.Mathlib.Omega.{arith}
use mathlib.Core.List.{List, [], ◌∷◌, ◌++◌, map, append-nil, append_assoc}
use lib.ListN.{length, take, drop, length-append, length-drop, take-append-drop, drop_of_length-le}
use lib.Seq.{drop-drop, drop-append_seam, take-append_seam, length-take-le}
use Rattle.exact.specs.Tiling.{join}
use Rattle.format.specs.Tables.{Function, Tables}
use Rattle.format.specs.Sheet.{FunctionRow, Frame, function_row_of, frame_of, total, pool_length, pool_of}
use Rattle.format.specs.Judge.{runs, with_bodies, cutting}

nil-not-cons : {A : Type 0} {x : A} {xs : List A} → [] ≡ x ∷ xs → ⊥
nil-not-cons e = let z : ◌≡◌ {A = ℕ} 0 1 = cc in omega arith

-- Runs have their lengths ..
runs-lengths : (ns d : List ℕ) → total ns ≤ length d → map length (runs ns d) ≡ ns
unfolding runs total
runs-lengths [] d h = refl
runs-lengths (n ∷ ns) d h =
    let a : length (take n d) ≡ n = length-take-le n d (omega arith) in
    let b : total ns ≤ length (drop n d) = rw length-drop (omega arith) in
    ap₂ (λ x y. x ∷ y) a (runs-lengths ns (drop n d) b)

-- .. and joined they are what they were cut from.
runs-join : (ns d : List ℕ) → join (runs ns d) ++ drop (total ns) d ≡ d
unfolding runs total
runs-join [] d = refl
runs-join (n ∷ ns) d =
    append_assoc (take n d) (join (runs ns (drop n d))) (drop (n + total ns) d)
    ∙ ap (λ x. take n d ++ x) (rw (← drop-drop) (runs-join ns (drop n d))) ∙ take-append-drop n d

-- What is joined is cut into the same runs again.
runs-of : (es : List (List ℕ)) (d : List ℕ) → runs (map length es) (join es ++ d) ≡ es
unfolding runs
runs-of [] d = refl
runs-of (e ∷ es) d =
    rw (append_assoc e (join es) d) (ap₂ (λ x y. x ∷ y) (take-append_seam e (join es ++ d))
    (rw (drop-append_seam e (join es ++ d)) (runs-of es d)))

-- The sum of the lengths is the length of all.
pub total-join : (es : List (List ℕ)) → total (map length es) ≡ length (join es)
unfolding total
total-join [] = refl
total-join (e ∷ es) = rw (length-append, total-join es)

-- Functions are their rows with their bodies.
bodies-of : (fs : List Function) → with_bodies (map function_row_of fs) (map (λ f. f.body) fs) ≡ fs
unfolding with_bodies function_row_of
bodies-of [] = refl
bodies-of (f ∷ fs) = ap (λ x. f ∷ x) (bodies-of fs)

lengths-of : (fs : List Function) → map (λ r. r.body_length) (map function_row_of fs) ≡ map length (map (λ f. f.body) fs)
unfolding function_row_of
lengths-of [] = refl
lengths-of (f ∷ fs) = ap (λ x. length f.body ∷ x) (lengths-of fs)

-- Rows with bodies of their lengths have these rows ..
rows-with : (rs : List FunctionRow) (bs : List (List ℕ)) → map length bs ≡ map (λ r. r.body_length) rs →
    map function_row_of (with_bodies rs bs) ≡ rs
unfolding with_bodies function_row_of
rows-with [] bs e = refl
rows-with (r ∷ rs) [] e = absurd (nil-not-cons e)
rows-with (r ∷ rs) (b ∷ bs) e =
    let h : length b ≡ r.body_length = cc in
    let t : map length bs ≡ map (λ r. r.body_length) rs = cc in
    rw (h, rows-with rs bs t)

-- .. and these bodies.
bodies-with : (rs : List FunctionRow) (bs : List (List ℕ)) → map length bs ≡ map (λ r. r.body_length) rs →
    map (λ f. f.body) (with_bodies rs bs) ≡ bs
unfolding with_bodies
bodies-with [] [] e = refl
bodies-with [] (b ∷ bs) e = absurd (nil-not-cons (sym e))
bodies-with (r ∷ rs) [] e = absurd (nil-not-cons e)
bodies-with (r ∷ rs) (b ∷ bs) e =
    let t : map length bs ≡ map (λ r. r.body_length) rs = cc in ap (λ x. b ∷ x) (bodies-with rs bs t)

module _ (r : Frame) (p : List ℕ) (e : length p ≡ pool_length r) where
  -- Tables cut by rows out of a pool of their length have these rows ..
  pub frame-cutting : frame_of (cutting r p) ≡ r
  unfolding frame_of cutting pool_length
  frame-cutting =
      let ns = r.strings in
      let ks = r.constants in
      let ls = map (λ f. f.body_length) r.functions in
      let q = drop (total ks) (drop (total ns) p) in
      let a : map length (runs ns p) ≡ ns = runs-lengths ns p (omega arith) in
      let b : map length (runs ks (drop (total ns) p)) ≡ ks = runs-lengths ks (drop (total ns) p) (rw length-drop (omega arith)) in
      let c : map length (runs ls q) ≡ ls = runs-lengths ls q (simp length-drop (omega arith)) in
      rw (a, b, rows-with r.functions (runs ls q) c)

  -- .. and this pool.
  pub pool-cutting : pool_of (cutting r p) ≡ p
  unfolding pool_of cutting pool_length
  pool-cutting =
      let ns = r.strings in
      let ks = r.constants in
      let ls = map (λ f. f.body_length) r.functions in
      let q = drop (total ks) (drop (total ns) p) in
      let c : map length (runs ls q) ≡ ls = runs-lengths ls q (simp length-drop (omega arith)) in
      let z : drop (total ls) q ≡ [] = drop_of_length-le q {i = total ls} (simp length-drop (omega arith)) in
      let w : join (runs ls q) ≡ q = sym (append-nil (join (runs ls q))) ∙ ap (λ x. join (runs ls q) ++ x) (sym z) ∙ runs-join ls q in
      rw (bodies-with r.functions (runs ls q) c, w, runs-join ks (drop (total ns) p), runs-join ns p)

-- Tables are cut by their rows out of their pool.
pub cutting-of : (t : Tables) → cutting (frame_of t) (pool_of t) ≡ t
unfolding cutting frame_of pool_of
cutting-of t =
    let b = join (map (λ f. f.body) t.functions) in
    let k = join t.constants ++ b in
    let d : drop (total (map length t.strings)) (join t.strings ++ k) ≡ k = rw total-join (drop-append_seam (join t.strings) k) in
    let f : drop (total (map length t.constants)) k ≡ b = rw total-join (drop-append_seam (join t.constants) b) in
    let w : runs (map length (map (λ f. f.body) t.functions)) b ≡ map (λ f. f.body) t.functions =
    ap (runs (map length (map (λ f. f.body) t.functions))) (sym (append-nil b)) ∙ runs-of (map (λ f. f.body) t.functions) [] in
    rw (d, f, lengths-of, w, runs-of t.strings k, runs-of t.constants b, bodies-of)

-- The pool of tables is as long as their rows say.
pub pool-length : (t : Tables) → length (pool_of t) ≡ pool_length (frame_of t)
unfolding pool_of pool_length frame_of
pool-length t = rw (length-append, length-append, lengths-of, total-join, total-join, total-join)
