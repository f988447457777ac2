-- What the writer writes for well-formed globals, functions and debug tables stands for them. Assumes nothing.
use mathlib.Core.Path.{◌≡◌, refl, sym, ap, subst}
use Prim.Native.Nat.{ℕ, zero, suc, ◌+◌, ◌<◌}
use native.Mathlib.Nat.{zero-add}
use mathlib.Core.List.{List, [], ◌∷◌, ◌++◌, map, append-nil}
use lib.ListN.{length, take, drop, get_or, length-map, take-append-drop}
use lib.Seq.{length-take-le}
use Rattle.exact.specs.Exact.{Lang}
use Rattle.exact.specs.Sequence.{of}
use Rattle.exact.specs.Repeat.{Many, nil, cons, Counted, counted_of}
use Rattle.exact.specs.Tiling.{join, sums, Tiled}
use Rattle.exact.specs.Upto.{upto_of}
use Rattle.exact.specs.Entries.{Each, none_left, entry_of}
use Rattle.exact.proofs.LawsTiling.{length-sums}
use Rattle.enums.specs.declared.VersionClass.{VersionClass}
use Rattle.enums.specs.Debug.{field_counts}
use Rattle.enums.proofs.LawsDebug.{counts-few}
use Rattle.encoding.specs.Varint.{spelling}
use Rattle.encoding.proofs.LawsVarint.{spelling-spells}
use Rattle.format.specs.Tables.{Global, Function, Attribute}
use Rattle.format.specs.Items.{Number, byte_of, Truth, truth, truth_of}
use Rattle.format.specs.Globals.{GlobalRow, global, Globals}
use Rattle.format.specs.Functions.{Located, apart, FunctionRow, function, Functions}
use Rattle.format.specs.Debug.{attribute_of, AttributeEntry, attribute, Debug, debug}
use Rattle.format.specs.Sheet.{function_row_of, global_words, function_words, attribute_fields, attribute_words}
use Rattle.format.specs.Sound.{All, Fits, SoundGlobal, SoundFunction, SoundAttribute}
use Rattle.format.specs.Tests.{since3?}
use Rattle.format.specs.Image.{varints, global_bytes, function_bytes, attribute_bytes, padded_numbers, debug_bytes}
use Rattle.format.proofs.LawsImageItems.{all-front, varints-all, field_of, padded-of, entries-of}
use Rattle.format.proofs.LawsImageTypes.{truth-bit}

-- Rows, one after the other.
pub many-of : {A : Type 0} (R : Lang A) (f : A → List ℕ) (Q : A → Type 0) → ((i : ℕ) (v : A) → Q v → R i (f v) v) → (i : ℕ)
    (vs : List A) → All Q vs → Many R (length vs) i (join (map f vs)) vs
many-of R f Q r i [] h = nil
many-of R f Q r i (v ∷ vs) h = cons (r i v h.0) (many-of R f Q r (i + length (f v)) vs h.1)

-- Entries, each by itself.
pub each_of : {A : Type 0} (R : Lang A) (f : A → List ℕ) (Q : A → Type 0) → ((v : A) → Q v → R 0 (f v) v) → (vs : List A) →
    All Q vs → Each R (map f vs) vs
each_of R f Q r [] h = none_left
each_of R f Q r (v ∷ vs) h = entry_of (r v h.0) (each_of R f Q r vs h.1)

-- A global whose words are u64 and which is well-formed.
pub record GoodGlobal (c : VersionClass) (g : Global) : Type 0 where
  pub words : All (Fits 64) (global_words g)
  pub sound : SoundGlobal c g

flag-truth : (v : ℕ) → v < 2 → Fits 64 v → Truth (Number 0) (spelling v) v
flag-truth v h f =
    let t : Truth (Number 0) (spelling v) (truth v) = truth_of (spelling-spells v f) in
    subst (Truth (Number 0) (spelling v)) (truth-bit v h) t

global_of : (c : VersionClass) (i : ℕ) (g : Global) → GoodGlobal c g → GlobalRow c i (global_bytes c g) g
unfolding global_bytes global_words
global_of c i g h =
    let w = h.words in
    let s = h.sound in
    global (spelling-spells g.name w.0) (spelling-spells g.type w.1.0) (spelling-spells g.constant w.1.1.0)
    (spelling-spells g.alignment w.1.1.1.0) (field_of (since3? c) (g.visibility ∷ []) g.visibility s.visibility_since byte_of)
    (field_of (since3? c) (spelling g.constant_flag) g.constant_flag s.flag_since
    (flag-truth g.constant_flag s.flag_bit w.1.1.1.1.1.0))

-- The payload of Global.
pub globals_of : (c : VersionClass) (o : ℕ) (gs : List Global) → Fits 64 (length gs) → All (GoodGlobal c) gs →
    Globals c o 0 (spelling (length gs) ++ join (map (global_bytes c) gs)) gs
globals_of c o gs n h =
    let u : Globals c o 0 ((spelling (length gs) ++ join (map (global_bytes c) gs)) ++ []) gs =
    upto_of [] (counted_of (spelling-spells (length gs) n) (many-of (GlobalRow c) (global_bytes c) (GoodGlobal c) (global_of c) _ gs h)) in
    rw append-nil at u

-- A function whose words are u64 and which is well-formed.
pub record GoodFunction (f : Function) : Type 0 where
  pub words : All (Fits 64) (function_words (function_row_of f))
  pub sound : SoundFunction (function_row_of f)

-- Functions with the places of their bodies, the first function at i.
abbrev located : ℕ → ℕ → List Function → List (Located Function)
located o i [] = []
located o i (f ∷ fs) =
    record {
      at = o + (i + length (spelling f.name) + length (spelling f.signature) + 1 + length (spelling f.location) +
          length (spelling (length f.body)));
      value = f;
    } ∷ located o (i + length (function_bytes f)) fs

located-values : (o i : ℕ) (fs : List Function) → (apart (located o i fs)).values ≡ fs
located-values o i [] = refl
located-values o i (f ∷ fs) = ap (λ x. f ∷ x) (located-values o (i + length (function_bytes f)) fs)

located-length : (o i : ℕ) (fs : List Function) → length (located o i fs) ≡ length fs
located-length o i [] = refl
located-length o i (f ∷ fs) = ap suc (located-length o (i + length (function_bytes f)) fs)

functions-many : (o i : ℕ) (fs : List Function) → All GoodFunction fs →
    Many (FunctionRow o) (length fs) i (join (map function_bytes fs)) (located o i fs)
unfolding function_bytes function_words function_row_of
functions-many o i [] h = nil
functions-many o i (f ∷ fs) h =
    let w = h.0.words in
    cons
    (function (spelling-spells f.name w.0) (spelling-spells f.signature w.1.0) h.0.sound.no_hints
    (spelling-spells f.location w.1.1.1.0) (spelling-spells (length f.body) w.1.1.1.1.0))
    (functions-many o (i + length (function_bytes f)) fs h.1)

-- The payload of Func, with the places of the bodies.
pub functions-of : (o : ℕ) (fs : List Function) → Fits 64 (length fs) → All GoodFunction fs →
    (at : List ℕ) × Functions o 0 (spelling (length fs) ++ join (map function_bytes fs)) (record { at = at; values = fs })
functions-of o fs n h =
    let k : ℕ = 0 + length (spelling (length fs)) in
    let c : Counted Number (FunctionRow o) 0 (spelling (length fs) ++ join (map function_bytes fs)) (located o k fs) =
    counted_of (subst (λ m. Number 0 (spelling (length fs)) m) (sym (located-length o k fs)) (spelling-spells (length fs) n))
    (subst (λ m. Many (FunctionRow o) m k (join (map function_bytes fs)) (located o k fs)) (sym (located-length o k fs)) (functions-many o k fs h)) in
    let u : Functions o 0 ((spelling (length fs) ++ join (map function_bytes fs)) ++ []) (apart (located o k fs)) = of (upto_of [] c) in
    let v : Functions o 0 (spelling (length fs) ++ join (map function_bytes fs)) (apart (located o k fs)) = rw append-nil at u in (
      (apart (located o k fs)).at,
      subst (λ vs. Functions o 0 (spelling (length fs) ++ join (map function_bytes fs)) (record { at = (apart (located o k fs)).at; values = vs }))
          (located-values o k fs) v,
    )

-- An attribute whose words are u64 and which is well-formed.
pub record GoodAttribute (a : Attribute) : Type 0 where
  pub words : All (Fits 64) (attribute_words a)
  pub sound : SoundAttribute a

-- A list that ends in zeros is told by its first elements.
take-zeros : (n : ℕ) (l : List ℕ) (k : ℕ) → All (λ v. v ≡ 0) (drop n l) → get_or (take n l) k 0 ≡ get_or l k 0
take-zeros zero [] k h = refl
take-zeros zero (x ∷ l) zero h = sym h.0
take-zeros zero (x ∷ l) (suc k) h = take-zeros zero l k h.1
take-zeros (suc n) [] k h = refl
take-zeros (suc n) (x ∷ l) zero h = refl
take-zeros (suc n) (x ∷ l) (suc k) h = take-zeros n l k h

module _ (a : Attribute) (h : GoodAttribute a) where
  -- The fields of an attribute that are on the wire.
  abbrev on_wire : List ℕ
  on_wire = take (get_or field_counts a.tag 0) (attribute_fields a)

  attribute-told : attribute_of a.tag on_wire ≡ a
  unfolding attribute_fields
  attribute-told =
      let z : (k : ℕ) → get_or on_wire k 0 ≡ get_or (attribute_fields a) k 0 =
      λ k. take-zeros (get_or field_counts a.tag 0) (attribute_fields a) k h.sound.absent in
      λ i.
      record {
        tag = a.tag;
        field1 = z 0 i;
        field2 = z 1 i;
        field3 = z 2 i;
        field4 = z 3 i;
        field5 = z 4 i;
        field6 = z 5 i;
      }

  wire-length : length on_wire ≡ get_or field_counts a.tag 0
  unfolding attribute_fields
  wire-length = length-take-le _ (attribute_fields a) (counts-few a.tag)

  -- An attribute's entry.
  pub attribute-of : (i : ℕ) → AttributeEntry i (attribute_bytes a) a
  unfolding attribute_bytes attribute_words
  attribute-of i =
      let n : length on_wire ≡ get_or field_counts a.tag 0 = wire-length in
      let w : All (Fits 64) on_wire = all-front (Fits 64) on_wire (drop (get_or field_counts a.tag 0) (attribute_fields a))
      (subst (All (Fits 64)) (sym (take-append-drop (get_or field_counts a.tag 0) (attribute_fields a))) h.words.1) in
      let e : AttributeEntry i (a.tag ∷ (varints on_wire ++ [])) (attribute_of a.tag on_wire) =
      attribute [] h.sound.tag_known (subst (λ m. Many Number m (i + 1) (varints on_wire) on_wire) n (varints-all (i + 1) on_wire w)) in
      subst (AttributeEntry i (attribute_bytes a)) attribute-told (rw append-nil at e)

-- The payload of Debug.
pub debug-of : (lists : List (List ℕ)) (at : List Attribute) → Fits 64 (length lists) → All (Fits 32) (sums 0 lists) →
    Fits 64 (length (join lists)) → All (Fits 64) (join lists) → Fits 64 (length at) → All (Fits 32) (sums 0 (map attribute_bytes at)) →
    All GoodAttribute at → Debug 0 (debug_bytes lists (map attribute_bytes at)) (record { attributes = at; lists = lists })
unfolding debug_bytes
debug-of lists at nl sl ni wi na sa h =
    let t : Tiled (sums 0 lists) (join lists) lists = record { gap = []; whole = refl; starts = refl } in
    let m : Fits 64 (length (sums 0 lists)) = rw length-sums nl in
    let k : Fits 64 (length (map attribute_bytes at)) = rw length-map na in
    rw (← zero-add (length (padded_numbers 4 4 0 (sums 0 lists))))
    (debug (padded-of 4 4 0 (sums 0 lists) m sl) (padded-of 8 8 _ (join lists) ni wi)
    (entries-of 4 4 0 _ (map attribute_bytes at) at k sa (each_of AttributeEntry attribute_bytes GoodAttribute (λ a g. attribute-of a g 0) at h)) t)
