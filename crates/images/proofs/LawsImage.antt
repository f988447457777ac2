-- Sections one after the other, between the header and the end id, are the image. Assumes nothing.
use Rattle.std.proofs.Common.{◌≡◌, ℕ, zero, suc, ◌+◌, ◌%◌, ◌^◌, ◌<◌, Bool, true, false, cond, ◌||◌, List, [], ◌∷◌, ◌++◌, map, length, get_or, sym, refl, ap, ◌∙◌, subst, ap₂, inr, true≢false, not, nat_eq, Some, None, append-nil, add-zero, mod-eq_of_lt, zero-add, arith, length-append}
use Rattle.std.proofs.lemmas.Bool.Decides.{nat_tests}
use mathlib.Core.Option.{Option, none, some}
use Rattle.std.specs.Prelude as answer
use Rattle.exact.specs.Fixed.{bytes_of}
use Rattle.exact.specs.Tiling.{join}
use Rattle.enums.specs.Container.{magic, end_of_bytecode}
use Rattle.enums.specs.declared.VersionClass.{VersionClass}
use Rattle.encoding.specs.Varint.{spelling}
use Rattle.format.specs.Tables.{Tables}
use Rattle.format.specs.Sheet.{frame_of, producer_word, words_of, sheet_of, pool_of}
use Rattle.format.specs.Image.{Part, alignment_bytes, part_bytes, parts_from, has_rows, string_part, is_named, producer_part, type_part, constant_part, global_part, function_part, debug_part, parts_of, header_bytes, image}
use Rattle.sheet.specs.Store.{words_in}
use Rattle.images.specs.Put.{Wrote}
use Rattle.images.specs.Fields.{Copied}
use Rattle.images.specs.Tables.{CountPut}
use Rattle.images.specs.Sections.{Holds, part_in, runs_in, PayloadPut}
use Rattle.images.specs.Images.{is_some, Presence, Opens, Aligned, AlignmentPut, section_bytes, SectionPut, HeaderPut, ImagePut}
use Rattle.images.specs.declared.fields.Pen.{Pen}
use Rattle.enums.specs.declared.Section.{Section}
use Rattle.enums.specs.declared.Section.TheVariants as section
use Rattle.images.proofs.LawsPut.{no_length, wrote-nil, wrote_then, wrote_as, wrote-nowhere}
use Rattle.images.proofs.LawsFields.{ready-front, copied-then, copied-nil, copied-put, copied-ready, copied-as, copied_runs}
use Rattle.images.proofs.LawsSheet.{
  strings-placed,
  types-placed,
  constants-placed,
  globals-placed,
  functions-placed,
  attributes-placed,
  lists-placed,
  producer-word,
}

pub some-yes : (n : ℕ) → ¬ (n ≡ 0) → is_some n ≡ true
unfolding is_some
some-yes zero h = absurd (h refl)
some-yes (suc n) h = refl

pub some-no : (n : ℕ) → n ≡ 0 → is_some n ≡ false
unfolding is_some
some-no n h = rw h refl

not-zero : (n : ℕ) → not (nat_eq n 0) ≡ is_some n
unfolding is_some
not-zero zero = refl
not-zero (suc n) = let h : ¬ (suc n ≡ 0) = omega arith in grind (arith, nat_tests)

pub counted : {v w : ℕ} → v ≡ w → not (nat_eq v 0) ≡ is_some w
counted {v} e = not-zero v ∙ ap is_some e

some-rows : {A : Type 0} (xs : List A) → is_some (length xs) ≡ has_rows xs
unfolding is_some has_rows
some-rows [] = refl
some-rows (x ∷ xs) = refl

some-named : (o : Option ℕ) → is_some (producer_word o) ≡ is_named o
unfolding producer_word is_named
some-named none = some-no 0 refl
some-named (some i) = some-yes (i + 1) (omega arith)

-- A table has rows where its count is not 0.
rows-there : {A : Type 0} {r : Bool} (s : List ℕ) (t : Tables) (i : ℕ) (xs : List A) → r ≡ is_some (get_or (words_in s) i 0) →
    words_in s ≡ sheet_of t → length xs ≡ get_or (sheet_of t) i 0 → r ≡ has_rows xs
rows-there s t i xs e w n = e ∙ ap (λ ws. is_some (get_or ws i 0)) w ∙ ap is_some (sym n) ∙ some-rows xs

module _ {s : List ℕ} {r : Bool} where
  pub string-there : r ≡ is_some (get_or (words_in s) 6 0) → Presence section.String s r
  unfolding part_in string_part
  string-there e = record { each = λ t w h. rows-there s t 6 t.strings e w (strings-placed t).number }

  pub producer-there : r ≡ is_some (get_or (words_in s) 3 0) → Presence section.Producer s r
  unfolding part_in producer_part
  producer-there e =
      record { each = λ t w h. e ∙ ap (λ ws. is_some (get_or ws 3 0)) w ∙ ap is_some (producer-word t) ∙ some-named t.producer }

  pub type-there : r ≡ is_some (get_or (words_in s) 8 0) → Presence section.Type s r
  unfolding part_in type_part
  type-there e = record { each = λ t w h. rows-there s t 8 t.types e w (types-placed t h).number }

  pub constant-there : r ≡ is_some (get_or (words_in s) 10 0) → Presence section.Constant s r
  unfolding part_in constant_part
  constant-there e = record { each = λ t w h. rows-there s t 10 t.constants e w (constants-placed t).number }

  pub global-there : r ≡ is_some (get_or (words_in s) 12 0) → Presence section.Global s r
  unfolding part_in global_part
  global-there e = record { each = λ t w h. rows-there s t 12 t.globals e w (globals-placed t h).number }

  pub function-there : r ≡ is_some (get_or (words_in s) 14 0) → Presence section.Func s r
  unfolding part_in function_part
  function-there e = record { each = λ t w h. rows-there s t 14 t.functions e w (functions-placed t h).number }

  pub lists-there : r ≡ is_some (get_or (words_in s) 18 0) → r ≡ true → Presence section.Debug s r
  unfolding part_in debug_part
  lists-there e k =
      record {
        each =
            λ t w h. k ∙ ap (λ b. b || has_rows t.attributes) (sym k ∙ rows-there s t 18 t.lists e w (lists-placed t).number);
      }

  pub attributes-there : {q : Bool} → r ≡ is_some (get_or (words_in s) 18 0) → r ≡ false → q ≡ is_some (get_or (words_in s) 16 0) →
      Presence section.Debug s q
  unfolding part_in debug_part
  attributes-there e k f =
      record {
        each =
            λ t w h.
            rows-there s t 16 t.attributes f w (attributes-placed t h).number ∙
            ap (λ b. b || has_rows t.attributes) (sym k ∙ rows-there s t 18 t.lists e w (lists-placed t).number);
      }

-- An alignment, if there is one.
pub alignment-none : (at : ℕ) (out : List ℕ) → AlignmentPut None at out out at
unfolding alignment_bytes
alignment-none at out = wrote-nil at out

pub alignment-some : (a : ℕ) {at r : ℕ} {out out' : List ℕ} → CountPut a a 0 at out out' r → AlignmentPut (Some a) at out out' r
unfolding alignment_bytes
alignment-some a {at} x = x.each at (zero-add at)

-- A payload that was measured: its length, and where the pool goes on.
pub payload-measured : {k : Section} {c : VersionClass} {s pool : List ℕ} {p r : Pen} (l : List ℕ) → length l ≡ 0 →
    PayloadPut k c s pool p [] l r → PayloadPut k c s pool p [] [] r
payload-measured {k} {c} {s} {pool} {p} {r} l e x = subst (λ o. PayloadPut k c s pool p [] o r) (no_length l e) x

-- Counted once more in an output of no bytes.
pub payload-counted : {k : Section} {c : VersionClass} {s pool : List ℕ} {p m : Pen} (next : ℕ) (out : List ℕ) →
    PayloadPut k c s pool (record { word = p.word; run = p.run; at = 0 }) [] [] m → length out ≡ 0 →
    next ≡ (p.at + m.at) % 2 ^ 64 → PayloadPut k c s pool p out out (record { word = m.word; run = m.run; at = next })
payload-counted {k} {p = p} {m} next out x e n =
    record {
      each =
          λ t h.
          record {
            moved =
                λ r.
                let fb = r.bytes_fit in
                let v =
                (x.each t h).moved
                (record {
                  words = r.words;
                  lent = inr refl;
                  words_fit = r.words_fit;
                  run_fits = r.run_fits;
                  bytes_fit = omega arith;
                }) in
                let d = v.puts.place in
                record {
                  word = v.word;
                  run_end = v.run_end;
                  puts = (wrote-nowhere (part_in k t).payload m.at p.at next out (omega (arith, d)) e n).puts fb;
                };
          };
    }

module _ {k : Section} {c : VersionClass} {s pool : List ℕ} {n1 n2 n3 b0 : ℕ} {a0 : answer.Option ℕ} {p m q : Pen} {there : Bool} {out m1 m2 m3 out' : List ℕ}
    (g : Presence k s there) (gy : there ≡ true) (w : PayloadPut k c s pool (record { word = p.word; run = p.run; at = 0 }) [] [] m)
    (o : Opens k b0) (x : Wrote (b0 ∷ []) p.at out m1 n1) (y : Wrote (spelling m.at) n1 m1 m2 n2) (l : Aligned k a0)
    (a : AlignmentPut a0 n2 m2 m3 n3) (z : PayloadPut k c s pool (record { word = p.word; run = p.run; at = n3 }) m3 out' q) where
  section-each : (t : Tables) → Holds c t s → Copied [] (runs_in k t) (section_bytes p.at (part_in k t)) s pool p out out' q
  unfolding section_bytes part_bytes
  section-each t h =
      let d = part_in k t in
      let sp = spelling (length d.payload) in
      let al = alignment_bytes d.alignment (p.at + 1 + length sp) in
      let e : d.present ≡ true = sym (g.each t h.words h.sound) ∙ gy in
      let e' : part_bytes p.at d ≡ section_bytes p.at d = sym (ap (λ b. cond b (part_bytes p.at d) []) e) in
      copied-as e'
      (copied-ready
      (λ r.
      let fb = r.bytes_fit in
      let l1 = length-append sp (al ++ d.payload) in
      let l2 = length-append al d.payload in
      let v =
      (w.each t h).moved
      (record {
        words = r.words;
        lent = inr refl;
        words_fit = r.words_fit;
        run_fits = r.run_fits;
        bytes_fit = omega arith;
      }) in
      let i : m.at ≡ length d.payload = v.puts.place ∙ zero-add (length d.payload) in
      let x' = wrote_as (ap (λ b. b ∷ []) (o.each t)) x in
      let y' : Wrote sp n1 m1 m2 n2 = wrote_as (ap spelling i) y in
      let g1 = (x'.puts (omega arith)).place in
      let g2 = (y'.puts (omega arith)).place in
      let e2 : n2 ≡ p.at + 1 + length sp = omega arith in
      let a' : Wrote al n2 m2 m3 n3 = wrote_as (ap₂ alignment_bytes (l.each t) e2) a in
      copied-then (copied-put x') (copied-then (copied-put y') (copied-then (copied-put a') (z.each t h)))))

-- A section that is written ..
pub section-put : {k : Section} {c : VersionClass} {s pool : List ℕ} {n1 n2 n3 b0 : ℕ} {a0 : answer.Option ℕ} {p m q : Pen} {there : Bool}
    {out m1 m2 m3 out' : List ℕ} → Presence k s there → there ≡ true →
    PayloadPut k c s pool (record { word = p.word; run = p.run; at = 0 }) [] [] m → Opens k b0 →
    Wrote (b0 ∷ []) p.at out m1 n1 → Wrote (spelling m.at) n1 m1 m2 n2 → Aligned k a0 → AlignmentPut a0 n2 m2 m3 n3 →
    PayloadPut k c s pool (record { word = p.word; run = p.run; at = n3 }) m3 out' q → SectionPut k c s pool p out out' q
section-put g gy w o x y l a z = record { each = section-each g gy w o x y l a z }

-- .. and one that is not has no runs either.
no_rows : {A : Type 0} (xs : List A) → has_rows xs ≡ false → xs ≡ []
unfolding has_rows
no_rows [] e = refl
no_rows (x ∷ xs) e = absurd (true≢false e)

absent-runs : (k : Section) (t : Tables) → (part_in k t).present ≡ false → runs_in k t ≡ []
unfolding part_in runs_in string_part constant_part function_part
absent-runs section.String t e = ap join (no_rows t.strings e)
absent-runs section.Producer t e = refl
absent-runs section.Type t e = refl
absent-runs section.Constant t e = ap join (no_rows t.constants e)
absent-runs section.Global t e = refl
absent-runs section.Func t e = ap (λ fs. join (map (λ f. f.body) fs)) (no_rows t.functions e)
absent-runs section.Debug t e = refl

pub section-none : {k : Section} {c : VersionClass} {s pool : List ℕ} {p : Pen} {there : Bool} (out : List ℕ) → Presence k s there →
    there ≡ false → SectionPut k c s pool p out out p
unfolding section_bytes
section-none {k} {p = p} out g gn =
    record {
      each =
          λ t h.
          let e : (part_in k t).present ≡ false = sym (g.each t h.words h.sound) ∙ gn in
          copied_runs (sym (absent-runs k t e))
          (copied-as (sym (ap (λ b. cond b (part_bytes p.at (part_in k t)) []) e)) (copied-nil p out));
    }

-- The version's words.
version-words : (t : Tables) →
    (get_or (sheet_of t) 0 0 ≡ t.version.major) × (get_or (sheet_of t) 1 0 ≡ t.version.minor) × (get_or (sheet_of t) 2 0 ≡ t.version.tag)
unfolding sheet_of words_of frame_of
version-words t = (refl, refl, refl)

byte_of : (v : ℕ) → v < 256 → bytes_of 1 v ≡ v ∷ []
unfolding bytes_of
byte_of v h = ap (λ b. b ∷ []) (mod-eq_of_lt h)

pub header-put : {s : List ℕ} {a b d n1 n2 n3 next : ℕ} {out m1 m2 m3 out' : List ℕ} → Wrote magic 0 out m1 n1 →
    a ≡ get_or (words_in s) 0 0 → Wrote (bytes_of 1 a) n1 m1 m2 n2 → b ≡ get_or (words_in s) 1 0 → Wrote (bytes_of 1 b) n2 m2 m3 n3 →
    d ≡ get_or (words_in s) 2 0 → Wrote (bytes_of 2 d) n3 m3 out' next → HeaderPut s out out' next
unfolding frame_of header_bytes
header-put {a = a} {b = b} {d = d} x ea y eb z ed w =
    record {
      each =
          λ t e h.
          let v = version-words t in
          let hm = h.frame.version.major_byte in
          let hn = h.frame.version.minor_byte in
          let p : bytes_of 1 a ≡ t.version.major ∷ [] = ap (bytes_of 1) (ea ∙ ap (λ ws. get_or ws 0 0) e ∙ v.0) ∙ byte_of t.version.major hm in
          let q : bytes_of 1 b ≡ t.version.minor ∷ [] = ap (bytes_of 1) (eb ∙ ap (λ ws. get_or ws 1 0) e ∙ v.1) ∙ byte_of t.version.minor hn in
          let r : bytes_of 2 d ≡ bytes_of 2 t.version.tag = ap (bytes_of 2) (ed ∙ ap (λ ws. get_or ws 2 0) e ∙ v.2) in
          wrote_then x (wrote_then (wrote_as p y) (wrote_then (wrote_as q z) (wrote_as r w)));
    }

-- The sections from a place on: the first of them, if it is written, and the others behind it.
parts_first : (i : ℕ) (p : Part) (ps : List Part) →
    section_bytes i p ++ parts_from (i + length (section_bytes i p)) ps ≡ parts_from i (p ∷ ps)
unfolding section_bytes parts_from
parts_first i p ps = go p.present
  where
    go : (b : Bool) →
        cond b (part_bytes i p) [] ++ parts_from (i + length (cond b (part_bytes i p) [])) ps ≡
        cond b (part_bytes i p ++ parts_from (i + length (part_bytes i p)) ps) (parts_from i ps)
    go true = refl
    go false = ap (λ j. parts_from j ps) (add-zero i)

parts-step : {ra rb s pool : List ℕ} {p q r : Pen} {out mid out' : List ℕ} (d : Part) (ds : List Part) →
    Copied [] ra (section_bytes p.at d) s pool p out mid q → Copied [] rb (parts_from q.at ds) s pool q mid out' r →
    Copied [] (ra ++ rb) (parts_from p.at (d ∷ ds)) s pool p out out' r
parts-step {ra} {rb} {s} {pool} {p} {q} {r} {mid = mid} {out'} d ds x y =
    let b = section_bytes p.at d in
    let rest = parts_from (p.at + length b) ds in
    copied-as (parts_first p.at d ds)
    (copied-ready
    (λ h.
    let v = x.moved (ready-front [] ra b [] rb rest h) in
    copied-then x (subst (λ i. Copied [] rb (parts_from i ds) s pool q mid out' r) v.puts.place y)))

end-put : {s pool : List ℕ} {p : Pen} {r : ℕ} {out out' : List ℕ} → Wrote (end_of_bytecode ∷ []) p.at out out' r →
    Copied [] [] (parts_from p.at []) s pool p out out' (record { word = p.word; run = p.run; at = r })
unfolding parts_from
end-put x = copied-put x

-- The runs of all sections are the pool.
pool-runs : (t : Tables) → join t.strings ++ (join t.constants ++ (join (map (λ f. f.body) t.functions) ++ [])) ≡ pool_of t
unfolding pool_of
pool-runs t = ap (λ l. join t.strings ++ (join t.constants ++ l)) (append-nil (join (map (λ f. f.body) t.functions)))

module _ {c : VersionClass} {s pool : List ℕ} {r : ℕ} {p0 p1 p2 p3 p4 p5 p6 p7 : Pen} {m0 m1 m2 m3 m4 m5 m6 m7 out' : List ℕ}
    (a : SectionPut section.String c s pool p0 m0 m1 p1) (b : SectionPut section.Producer c s pool p1 m1 m2 p2)
    (d : SectionPut section.Type c s pool p2 m2 m3 p3) (e : SectionPut section.Constant c s pool p3 m3 m4 p4)
    (f : SectionPut section.Global c s pool p4 m4 m5 p5) (g : SectionPut section.Func c s pool p5 m5 m6 p6)
    (h : SectionPut section.Debug c s pool p6 m6 m7 p7) (y : Wrote (end_of_bytecode ∷ []) p7.at m7 out' r) where
  parts-put : (t : Tables) → Holds c t s →
      Copied [] (pool_of t) (parts_from p0.at (parts_of t)) s pool p0 m0 out' (record { word = p7.word; run = p7.run; at = r })
  unfolding parts_of part_in runs_in
  parts-put t z =
      copied_runs (pool-runs t)
      (parts-step _ _ (a.each t z) (parts-step _ _ (b.each t z) (parts-step _ _ (d.each t z) (parts-step _ _ (e.each t z)
      (parts-step _ _ (f.each t z) (parts-step _ _ (g.each t z) (parts-step _ _ (h.each t z) (end-put y))))))))

-- The image was put: the header, and the sections from there on.
pub image-put : {c : VersionClass} {s pool : List ℕ} {n0 r : ℕ} {p1 p2 p3 p4 p5 p6 p7 : Pen} {out m0 m1 m2 m3 m4 m5 m6 m7 out' : List ℕ} →
    HeaderPut s out m0 n0 → SectionPut section.String c s pool (record { word = 0; run = 0; at = n0 }) m0 m1 p1 →
    SectionPut section.Producer c s pool p1 m1 m2 p2 → SectionPut section.Type c s pool p2 m2 m3 p3 →
    SectionPut section.Constant c s pool p3 m3 m4 p4 → SectionPut section.Global c s pool p4 m4 m5 p5 →
    SectionPut section.Func c s pool p5 m5 m6 p6 → SectionPut section.Debug c s pool p6 m6 m7 p7 →
    Wrote (end_of_bytecode ∷ []) p7.at m7 out' r → ImagePut c s pool out out' r
unfolding image header_bytes bytes_of
image-put {s = s} {pool} {n0} {r} {p7 = p7} {out = out} {m0 = m0} {out' = out'} x a b d e f g h y =
    record {
      each =
          λ t z i fp fb.
          let hb = header_bytes t.version in
          let last : Pen = record { word = p7.word; run = p7.run; at = r } in
          let n = length-append hb (parts_from 12 (parts_of t)) in
          let w = x.each t z.words z.sound in
          let k : n0 ≡ 12 = (w.puts (omega arith)).place in
          let q : Copied [] (pool_of t) (parts_from 12 (parts_of t)) s pool (record { word = 0; run = 0; at = n0 }) m0 out' last =
          subst (λ j. Copied [] (pool_of t) (parts_from j (parts_of t)) s pool (record { word = 0; run = 0; at = n0 }) m0 out' last) k
          (parts-put a b d e f g h y t z) in
          let all : Copied [] (pool_of t) (hb ++ parts_from 12 (parts_of t)) s pool (record { word = 0; run = 0; at = 0 }) out out' last =
          copied-then (copied-put w) q in
          (all.moved
          (record {
            words = record { front = []; behind = words_in s; whole = refl; place = refl };
            lent = i;
            words_fit = omega arith;
            run_fits = omega arith;
            bytes_fit = omega arith;
          })).puts;
    }

-- The laws by which the check proves what puts sections, and what tells whether one is written.
pub ruleset containers = (header-put, image-put, section-put, section-none, alignment-none, alignment-some, payload-measured, payload-counted, counted, string-there, producer-there, type-there, constant-there, global-there, function-there, lists-there, attributes-there)
