-- The sections that the writer lays out are sections of a file, and each id's is the last one with its id.
-- Assumes nothing.
use mathlib.Core.Path.{◌≡◌, refl, sym, ap, ◌∙◌}
use mathlib.Core.Bool.{Bool, true, false, cond}
use Prim.Native.Nat.{ℕ, ◌+◌, ◌%◌, ◌<◌}
use native.Mathlib.Omega.{arith}
use mathlib.Core.List.{List, [], ◌∷◌, ◌++◌}
use mathlib.Core.Option.{Option, none, some}
use lib.ListN.{length}
use Rattle.exact.specs.Until.{end, item}
use Rattle.enums.specs.Container.{end_of_bytecode}
use Rattle.encoding.specs.Varint.{spelling}
use Rattle.encoding.proofs.LawsVarint.{spelling-spells}
use Rattle.format.specs.Sections.{
  Section,
  Alignment,
  unaligned,
  aligned,
  SectionAt,
  marker,
  section,
  Sections,
  Missing,
  no_sections,
  other,
  Payload,
  absent,
  present,
}
use Rattle.format.specs.Sound.{All, Fits}
use Rattle.format.specs.Image.{Part, alignment_bytes, first_byte, part_bytes, parts_from}

-- An alignment that is a u64, if there is one.
abbrev pub GoodAlignment : Option ℕ → Type 0
GoodAlignment none = Unit
GoodAlignment (some a) = Fits 64 a

-- A part that can be a section: an id that is neither the end's nor above seven bits, and a length that is a u64.
pub record GoodPart (s : Part) : Type 0 where
  pub small : s.id < 128
  pub not_end : ¬ (s.id ≡ end_of_bytecode)
  pub aligned : GoodAlignment s.alignment
  pub sized : Fits 64 (length s.payload)

first-id : (id : ℕ) (a : Option ℕ) → id < 128 → first_byte id a % 128 ≡ id
unfolding first_byte
first-id id none h = omega arith
first-id id (some a) h = omega arith

alignment-of : (id : ℕ) (a : Option ℕ) (i : ℕ) → id < 128 → GoodAlignment a → Alignment (first_byte id a) i (alignment_bytes a i)
unfolding first_byte alignment_bytes
alignment-of id none i h g = unaligned h
alignment-of id (some a) i h g = aligned (omega arith) (spelling-spells a g)

-- The section that a part is at file offset i.
abbrev pub section_from : ℕ → Part → Section
section_from i s =
    let size = spelling (length s.payload) in
    record {
      id = s.id;
      start = i + 1 + length size + length (alignment_bytes s.alignment (i + 1 + length size));
      payload = s.payload;
    }

abbrev pub sections_from : ℕ → List Part → List Section
sections_from i [] = []
sections_from i (s ∷ ss) = cond s.present (section_from i s ∷ sections_from (i + length (part_bytes i s)) ss) (sections_from i ss)

section-of : (i : ℕ) (s : Part) → GoodPart s → SectionAt i (part_bytes i s) (section_from i s)
unfolding part_bytes
section-of i s g =
    let size = spelling (length s.payload) in
    let e : first_byte s.id s.alignment % 128 ≡ s.id = first-id s.id s.alignment g.small in
    record {
      first = first_byte s.id s.alignment;
      size = size;
      alignment = alignment_bytes s.alignment (i + 1 + length size);
      whole = refl;
      named = sym e;
      not_end = λ z. g.not_end (sym e ∙ z);
      sized = spelling-spells (length s.payload) g.sized;
      aligned_to = alignment-of s.id s.alignment (i + 1 + length size) g.small g.aligned;
      starts = refl;
    }

-- The parts, laid out, are the sections of a file.
pub laid_out : (i : ℕ) (ps : List Part) → All (λ s. s.present ≡ true → GoodPart s) ps →
    Sections i (parts_from i ps) (sections_from i ps)
unfolding parts_from
laid_out i [] h = end (marker refl)
laid_out i (s ∷ ps) h = go (λ j. laid_out j ps h.1) s.present h.0
  where
    go : ((j : ℕ) → Sections j (parts_from j ps) (sections_from j ps)) → (w : Bool) → (w ≡ true → GoodPart s) →
        Sections i (cond w (part_bytes i s ++ parts_from (i + length (part_bytes i s)) ps) (parts_from i ps))
        (cond w (section_from i s ∷ sections_from (i + length (part_bytes i s)) ps) (sections_from i ps))
    go rest true g = item (section (section-of i s (g refl))) (rest (i + length (part_bytes i s)))
    go rest false g = rest i

-- No part has this id.
abbrev pub NoId : ℕ → List Part → Type 0
NoId id = All (λ s. ¬ (s.id ≡ id))

missing-of : (id i : ℕ) (ps : List Part) → NoId id ps → Missing id (sections_from i ps)
missing-of id i [] h = no_sections
missing-of id i (s ∷ ps) h = go (λ j. missing-of id j ps h.1) s.present
  where
    go : ((j : ℕ) → Missing id (sections_from j ps)) → (w : Bool) →
        Missing id (cond w (section_from i s ∷ sections_from (i + length (part_bytes i s)) ps) (sections_from i ps))
    go rest true = other h.0 (rest (i + length (part_bytes i s)))
    go rest false = rest i

-- The section with this id stands for a value that shows b.
pub record StandsFor {A B : Type 0} (id : ℕ) (ss : List Section) (R : ℕ → ℕ → List ℕ → A → Type 0) (e : A) (shows : A → B) (b : B) :
    Type 0 where
  pub value : A
  pub payload : Payload id ss R e value
  pub shown : shows value ≡ b

module _ {A B : Type 0} (R : ℕ → ℕ → List ℕ → A → Type 0) (e : A) (shows : A → B) (b : B) where
  behind : (id : ℕ) (x : Section) (ss : List Section) (v : A) → ¬ (x.id ≡ id) → Payload id ss R e v → Payload id (x ∷ ss) R e v
  behind id x ss v n (absent m) = absent (other n m)
  behind id x ss v n (present l r) =
      present record {
        earlier = x ∷ l.earlier;
        later = l.later;
        whole = ap (λ y. x ∷ y) l.whole;
        named = l.named;
        missing = l.missing;
      } r

  -- A part with another id stands before it ..
  pub stands-behind : (id : ℕ) (s : Part) (ps : List Part) → ¬ (s.id ≡ id) →
      ((j : ℕ) → StandsFor id (sections_from j ps) R e shows b) → (i : ℕ) → StandsFor id (sections_from i (s ∷ ps)) R e shows b
  stands-behind id s ps n r i = go s.present
    where
      go : (w : Bool) →
          StandsFor id (cond w (section_from i s ∷ sections_from (i + length (part_bytes i s)) ps) (sections_from i ps)) R e shows b
      go true =
          let x = r (i + length (part_bytes i s)) in
          record { value = x.value; payload = behind id (section_from i s) _ x.value n x.payload; shown = x.shown }
      go false = r i

  -- .. or it stands here, if it is written, before parts with other ids.
  pub stands_here : (s : Part) (ps : List Part) → NoId s.id ps → (s.present ≡ false → shows e ≡ b) →
      (s.present ≡ true → (o : ℕ) → (v : A) × R o 0 s.payload v × (shows v ≡ b)) → (i : ℕ) →
      StandsFor s.id (sections_from i (s ∷ ps)) R e shows b
  stands_here s ps n f t i = go s.present f t
    where
      go : (w : Bool) → (w ≡ false → shows e ≡ b) → (w ≡ true → (o : ℕ) → (v : A) × R o 0 s.payload v × (shows v ≡ b)) →
          StandsFor s.id (cond w (section_from i s ∷ sections_from (i + length (part_bytes i s)) ps) (sections_from i ps)) R e shows b
      go false f t = record { value = e; payload = absent (missing-of s.id i ps n); shown = f refl }
      go true f t =
          let r = t refl (section_from i s).start in
          record {
            value = r.0;
            payload =
                present
                record {
                  earlier = [];
                  later = sections_from (i + length (part_bytes i s)) ps;
                  whole = refl;
                  named = refl;
                  missing = missing-of s.id (i + length (part_bytes i s)) ps n;
                } r.1;
            shown = r.2;
          }

  -- It stands among parts with other ids.
  pub stands-among : (ps : List Part) (s : Part) (qs : List Part) → NoId s.id ps → NoId s.id qs → (s.present ≡ false → shows e ≡ b) →
      (s.present ≡ true → (o : ℕ) → (v : A) × R o 0 s.payload v × (shows v ≡ b)) → (i : ℕ) →
      StandsFor s.id (sections_from i (ps ++ (s ∷ qs))) R e shows b
  stands-among [] s qs n m f t = stands_here s qs m f t
  stands-among (p ∷ ps) s qs n m f t = stands-behind s.id p (ps ++ (s ∷ qs)) n.0 (stands-among ps s qs n.1 m f t)
