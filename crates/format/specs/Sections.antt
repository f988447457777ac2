-- Sections (document 01, "The container"): a byte with the id in its low seven bits, a varint length, and, if the
-- top bit is set, a varint alignment and padding; then the payload. Places count from the file's start.
use Rattle.std.specs.Prelude.{◌≡◌, ℕ, ◌+◌, ◌%◌, ◌≤◌, ◌<◌, List, [], ◌∷◌, ◌++◌, length, replicate}
use Rattle.std.proofs.Math.Option.{Option, none, some}
use Rattle.exact.specs.Exact.{Lang}
use Rattle.exact.specs.Padding.{gap}
use Rattle.exact.specs.Until.{Until}
use Rattle.enums.specs.Container.{P, end_of_bytecode}
use Rattle.encoding.specs.Varint.{Spells}

-- A section: its id, its payload, and the file offset of the payload's first byte.
pub record Section : Type 0 where
  pub id : ℕ
  pub start : ℕ
  pub payload : List ℕ

-- What stands between length and payload, at file offset i: nothing if the top bit of the section's first byte is
-- clear, else an alignment and padding to it.
pub data Alignment (first : ℕ) : ℕ → List ℕ → Type 0 where
  unaligned : {i : ℕ} → first < 128 → Alignment first i []
  aligned : {i : ℕ} {bs : List ℕ} {a : ℕ} → 128 ≤ first → Spells bs a →
      Alignment first i (bs ++ replicate (gap a (i + length bs)) P)

-- At file offset i stands this section.
pub record SectionAt (i : ℕ) (bs : List ℕ) (s : Section) : Type 0 where
  pub first : ℕ
  pub size : List ℕ
  pub alignment : List ℕ
  pub whole : bs ≡ first ∷ (size ++ (alignment ++ s.payload))
  pub named : s.id ≡ first % 128
  pub not_end : ¬ (first % 128 ≡ end_of_bytecode)
  pub sized : Spells size (length s.payload)
  pub aligned_to : Alignment first (i + 1 + length size) alignment
  pub starts : s.start ≡ i + 1 + length size + length alignment

-- A section; or the end marker, one byte, with either top bit.
pub data Item : ℕ → List ℕ → Option Section → Type 0 where
  marker : {i first : ℕ} → first % 128 ≡ end_of_bytecode → Item i (first ∷ []) none
  section : {i : ℕ} {bs : List ℕ} {s : Section} → SectionAt i bs s → Item i bs (some s)

-- The sections of a file, one right behind the other, and the end marker.
abbrev pub Sections : Lang (List Section)
Sections = Until Item

-- None of these sections has this id.
pub data Missing (id : ℕ) : List Section → Type 0 where
  no_sections : Missing id []
  other : {s : Section} {ss : List Section} → ¬ (s.id ≡ id) → Missing id ss → Missing id (s ∷ ss)

-- The last of these sections with this id is s: of two sections with one id the last counts.
pub record Last (id : ℕ) (ss : List Section) (s : Section) : Type 0 where
  pub earlier : List Section
  pub later : List Section
  pub whole : ss ≡ earlier ++ (s ∷ later)
  pub named : s.id ≡ id
  pub missing : Missing id later

-- What the section with this id stands for: an absent one for the empty table e, and else the payload that counts for
-- what R says of it, where it stands.
pub data Payload {A : Type 0} (id : ℕ) (ss : List Section) (R : ℕ → ℕ → List ℕ → A → Type 0) (e : A) : A → Type 0 where
  absent : Missing id ss → Payload id ss R e e
  present : {s : Section} {v : A} → Last id ss s → R s.start 0 s.payload v → Payload id ss R e v

-- The place of a section's payload in the file: a presence, start and length.
pub record Place : Type 0 where
  pub presence : ℕ
  pub start : ℕ
  pub size : ℕ

-- The place of the payload that counts for this id.
pub data PlaceOf (ss : List Section) (id : ℕ) : Place → Type 0 where
  nowhere : Missing id ss → PlaceOf ss id (record { presence = 0; start = 0; size = 0 })
  somewhere : {s : Section} → Last id ss s →
      PlaceOf ss id (record { presence = 1; start = s.start; size = length s.payload })

-- The place of each id's payload, id beside place.
pub data PlacesOf (ss : List Section) : List ℕ → List Place → Type 0 where
  no_ids : PlacesOf ss [] []
  id_placed : {id : ℕ} {ids : List ℕ} {p : Place} {ps : List Place} → PlaceOf ss id p → PlacesOf ss ids ps →
      PlacesOf ss (id ∷ ids) (p ∷ ps)
