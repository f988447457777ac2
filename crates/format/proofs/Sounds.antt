-- Accepted tables are well-formed, for files of bytes. Assumes nothing.
use mathlib.Core.Path.{◌≡◌, refl, ap, ◌∙◌, subst}
use Prim.Native.Nat.{ℕ, ◌+◌, ◌^◌, ◌≤◌}
use native.Mathlib.Omega.{arith}
use mathlib.Core.List.{List, [], ◌∷◌, ◌++◌, map}
use mathlib.Core.Option.{Option, none}
use lib.ListN.{length, length-append, length-map}
use Rattle.exact.specs.Tiling.{join}
use Rattle.exact.specs.Until.{end, item}
use Rattle.enums.specs.Container.{magic}
use Rattle.format.specs.Tables.{Version, Function, Tables}
use Rattle.format.specs.Header.{Header}
use Rattle.format.specs.Sections.{Section, SectionAt, section, Sections, Payload, absent, present}
use Rattle.format.specs.Strings.{Producer, producer}
use Rattle.format.specs.Explains.{class, Placed, Explains}
use Rattle.format.specs.Read.{Read, accepted, refused, map_read}
use Rattle.format.specs.Decode.{most_bytes, placed, only_tables, decode}
use Rattle.format.specs.Sheet.{counted_words, function_row_of, frame_of, field_words, type_words, global_words, function_words, attribute_words, list_words, producer_word, pool_length, sheet_of, pool_of}
use Rattle.format.specs.Sound.{
  All,
  Fits,
  SoundVersion,
  SoundType,
  SoundGlobal,
  SoundFunction,
  SoundAttribute,
  Inside,
  Sound,
}
use Rattle.format.proofs.LawsImageItems.{all_back, all_both}
use Rattle.format.proofs.LawsImageTypes.{GoodType}
use Rattle.format.proofs.LawsImageRows.{GoodGlobal, GoodFunction, GoodAttribute}
use Rattle.format.proofs.LawsPool.{pool-length}
use Rattle.format.proofs.LawsSoundItems.{Bytes, bytes-front, bytes_back, fixed-below}
use Rattle.format.proofs.LawsSoundRows.{Sized, none-sized}
use Rattle.format.proofs.LawsSoundTables.{Runs, runs-of-table, types-sized, globals-sized, functions-sized, GoodList, debug-sized}
use Rattle.format.proofs.LawsSoundWords.{counted-fit, Fitted, lengths-fitted, Moderate, words_fit, words-most}
use Rattle.format.proofs.Decoded.{placed-sound, decode-sound, refused-not-accepted}

-- A section's payload is bytes, at most n of them.
record Held (n : ℕ) (s : Section) : Type 0 where
  bytes : Bytes s.payload
  small : length s.payload ≤ n

section-held : (n i : ℕ) (bs : List ℕ) (s : Section) → SectionAt i bs s → Bytes bs → length bs ≤ n → Held n s
section-held n i bs s a b l =
    let c = subst Bytes a.whole b in
    let k : length bs ≡ 1 + (length a.size + (length a.alignment + length s.payload)) = ap length a.whole ∙ simp length-append (omega arith) in
    record {
      bytes = bytes_back a.alignment s.payload (bytes_back a.size (a.alignment ++ s.payload) c.1);
      small = omega arith;
    }

sections-held : (n i : ℕ) (bs : List ℕ) (ss : List Section) → Sections i bs ss → Bytes bs → length bs ≤ n → All (Held n) ss
sections-held n i bs ss (end r) b l = tt
sections-held n i bs ss (item {i = k} {bs = x} {cs = y} {v = v} {vs = vs} (section a) t) b l =
    let e = length-append x y in
    (section-held n k x v a (bytes-front x y b) (omega arith), sections-held n _ y vs t (bytes_back x y b) (omega arith))

-- What holds of the empty table, and of what each payload stands for, holds of what the section stands for.
payload-holds : {A : Type 0} (Q : A → Type 0) (n id : ℕ) (ss : List Section) (R : ℕ → ℕ → List ℕ → A → Type 0) (e v : A) →
    Payload id ss R e v → All (Held n) ss → Q e → ((o : ℕ) (p : List ℕ) (w : A) → R o 0 p w → Bytes p → length p ≤ n → Q w) → Q v
payload-holds Q n id ss R e v (absent m) h q f = q
payload-holds Q n id ss R e v (present {s = s} l r) h q f =
    let k = all_back (Held n) l.earlier (s ∷ l.later) (subst (All (Held n)) l.whole h) in
    f s.start s.payload v r k.0.bytes k.0.small

-- The header's version.
header-sound : (bs : List ℕ) (v : Version) → Header bs v → Bytes bs → SoundVersion v
header-sound bs v h b =
    let c = bytes_back magic (v.major ∷ (v.minor ∷ h.tag_bytes)) (subst Bytes h.whole b) in
    record { major_byte = c.0; minor_byte = c.1.0; tag_half = fixed-below 2 0 h.tag_bytes v.tag h.tag c.1.1 }

-- A producer inside the n strings, and its word.
record SoundProducer (n : ℕ) (p : Option ℕ) : Type 0 where
  inside : Inside p n
  word : Fits 64 (producer_word p)

producer-sound : (n i : ℕ) (bs : List ℕ) (p : Option ℕ) → n ≤ most_bytes → Producer n i bs p → SoundProducer n p
unfolding producer_word
producer-sound n i bs p l (producer left s h) = record { inside = h; word = omega arith }

no-producer : (n : ℕ) → SoundProducer n none
unfolding producer_word
no-producer n = record { inside = tt; word = omega arith }

-- What follows for each.
all_then : {A : Type 0} (Q R : A → Type 0) → ((v : A) → Q v → R v) → (vs : List A) → All Q vs → All R vs
all_then Q R f [] h = tt
all_then Q R f (v ∷ vs) h = (f v h.0, all_then Q R f vs h.1)

-- What holds of each through f holds of each value of f.
all_map : {A B : Type 0} (Q : B → Type 0) (f : A → B) (vs : List A) → All (λ v. Q (f v)) vs → All Q (map f vs)
all_map Q f [] h = tt
all_map Q f (v ∷ vs) h = (h.0, all_map Q f vs h.1)

map-map : {A B C : Type 0} (g : B → C) (f : A → B) (vs : List A) → map g (map f vs) ≡ map (λ v. g (f v)) vs
map-map g f [] = refl
map-map g f (v ∷ vs) = ap (λ x. g (f v) ∷ x) (map-map g f vs)

bodies-bytes : (fs : List Function) → All (λ f. Bytes f.body) fs → Bytes (join (map (λ f. f.body) fs))
bodies-bytes [] h = tt
bodies-bytes (f ∷ fs) h = all_both (Fits 8) f.body (join (map (λ f. f.body) fs)) h.0 (bodies-bytes fs h.1)

-- What a file of bytes that fits stands for, table by table.
record Found (t : Tables) : Type 0 where
  version : SoundVersion t.version
  strings : Runs most_bytes t.strings
  producer : SoundProducer (length t.strings) t.producer
  types : Sized type_words (GoodType (class t.version)) most_bytes t.types
  constants : Runs most_bytes t.constants
  globals : Sized global_words (GoodGlobal (class t.version)) most_bytes t.globals
  functions : Sized (λ f. function_words (function_row_of f)) GoodFunction most_bytes t.functions
  bodies : Sized (λ f. f.body) (λ f. Bytes f.body) most_bytes t.functions
  attributes : Sized attribute_words GoodAttribute most_bytes t.attributes
  lists : Sized list_words GoodList most_bytes t.lists

found : (file : List ℕ) (t : Tables) → Explains file t → Bytes file → length file ≤ most_bytes → Found t
found file t x b l =
    let y = x.layout in
    let c = y.container in
    let d = subst Bytes c.whole b in
    let w = bytes-front c.walked c.after (bytes_back c.header (c.walked ++ c.after) d) in
    let k : length file ≡ length c.header + (length c.walked + length c.after) = ap length c.whole ∙ simp length-append in
    let h = sections-held most_bytes _ c.walked y.sections c.laid w (omega arith) in
    let none-run : Runs most_bytes [] = record { bytes = tt; size = omega arith; count = omega arith } in
    let strings = payload-holds (λ r. Runs most_bytes r.values) most_bytes _ _ _ _ _ y.strings h none-run
    (λ o p v r. runs-of-table 3 4 o most_bytes p v r) in
    let functions = payload-holds
    (λ r. Sized (λ f. function_words (function_row_of f)) GoodFunction most_bytes r.values × Sized (λ f. f.body) (λ f. Bytes f.body) most_bytes r.values)
    most_bytes _ _ _ _ _ y.functions h (none-sized _ _ most_bytes, none-sized _ _ most_bytes) (λ o p v r. functions-sized o most_bytes p v r) in
    let debug = payload-holds
    (λ r. Sized attribute_words GoodAttribute most_bytes r.attributes × Sized list_words GoodList most_bytes r.lists)
    most_bytes _ _ _ _ _ y.debug h (none-sized _ _ most_bytes, none-sized _ _ most_bytes) (λ o p v r. debug-sized most_bytes p v r) in
    record {
      version = header-sound c.header t.version c.headed (bytes-front c.header (c.walked ++ c.after) d);
      strings = strings;
      producer =
          payload-holds (SoundProducer (length t.strings)) most_bytes _ _ _ _ _ y.producer h (no-producer (length t.strings))
          (λ o p v r q m. producer-sound (length t.strings) 0 p v strings.count r);
      types =
          payload-holds (Sized type_words (GoodType (class t.version)) most_bytes) most_bytes _ _ _ _ _ y.types h (none-sized _ _ most_bytes)
          (λ o p v r. types-sized (class t.version) o most_bytes p v r);
      constants =
          payload-holds (λ r. Runs most_bytes r.values) most_bytes _ _ _ _ _ y.constants h none-run
          (λ o p v r. runs-of-table 7 8 o most_bytes p v r);
      globals =
          payload-holds (Sized global_words (GoodGlobal (class t.version)) most_bytes) most_bytes _ _ _ _ _ y.globals h (none-sized _ _ most_bytes)
          (λ o p v r. globals-sized (class t.version) o most_bytes p v r);
      functions = functions.0;
      bodies = functions.1;
      attributes = debug.0;
      lists = debug.1;
    }

-- The rows of a table are u64 words, and not too many.
fitted : {A : Type 0} (f : A → List ℕ) (Q : A → Type 0) (vs : List A) → ((v : A) → Q v → All (Fits 64) (f v)) → Sized f Q most_bytes vs → Fitted f vs
fitted f Q vs w s = record { each = all_then Q (λ v. All (Fits 64) (f v)) w vs s.each; count = s.count; size = s.size }

-- The same of rows that begin with the count of their words.
counted-fitted : {A : Type 0} (g : A → List ℕ) (Q : A → Type 0) (vs : List A) → ((v : A) → Q v → All (Fits 64) (g v)) →
    Sized (λ v. counted_words (g v)) Q most_bytes vs → Fitted (λ v. counted_words (g v)) vs
counted-fitted g Q vs w s =
    record { each = counted-fit g vs (all_then Q (λ v. All (Fits 64) (g v)) w vs s.each) s.size; count = s.count; size = s.size }

functions-fitted : (fs : List Function) → Sized (λ f. function_words (function_row_of f)) GoodFunction most_bytes fs →
    Fitted function_words (map function_row_of fs)
functions-fitted fs s =
    record {
      each =
          all_map (λ r. All (Fits 64) (function_words r)) function_row_of fs
          (all_then GoodFunction (λ f. All (Fits 64) (function_words (function_row_of f))) (λ f g. g.words) fs s.each);
      count = rw length-map s.count;
      size = rw (map-map function_words function_row_of fs) s.size;
    }

pool-fits : (t : Tables) → Found t → Fits 64 (pool_length (frame_of t))
unfolding pool_of
pool-fits t f =
    let b = join (map (λ f. f.body) t.functions) in
    let k = length-append (join t.strings) (join t.constants ++ b) in
    let j = length-append (join t.constants) b in
    let l = pool-length t in
    omega (arith, f.strings.size, f.constants.size, f.bodies.size)

moderate : (t : Tables) → Found t → Moderate (frame_of t)
unfolding frame_of type_words
moderate t f =
    record {
      version = f.version;
      producer = f.producer.word;
      pool = pool-fits t f;
      strings = lengths-fitted t.strings f.strings.size f.strings.count;
      types = counted-fitted field_words (GoodType (class t.version)) t.types (λ r g. g.words) f.types;
      constants = lengths-fitted t.constants f.constants.size f.constants.count;
      globals = fitted global_words (GoodGlobal (class t.version)) t.globals (λ g h. h.words) f.globals;
      functions = functions-fitted t.functions f.functions;
      attributes = fitted attribute_words GoodAttribute t.attributes (λ a h. h.words) f.attributes;
      lists = counted-fitted (λ l. l) GoodList t.lists (λ l h. h) f.lists;
    }

-- What a file of bytes that fits stands for is well-formed.
pub explained-sound : (file : List ℕ) (t : Tables) → Explains file t → Bytes file → length file ≤ most_bytes → Sound t
unfolding sheet_of pool_of frame_of
explained-sound file t x b l =
    let f = found file t x b l in
    record {
      words = words_fit (frame_of t) (moderate t f);
      pool =
          all_both (Fits 8) (join t.strings) _ f.strings.bytes
          (all_both (Fits 8) (join t.constants) _ f.constants.bytes (bodies-bytes t.functions f.bodies.each));
      frame =
          record {
            version = f.version;
            producer = rw length-map f.producer.inside;
            types = all_then (GoodType (class t.version)) (SoundType (class t.version)) (λ r g. g.sound) t.types f.types.each;
            globals = all_then (GoodGlobal (class t.version)) (SoundGlobal (class t.version)) (λ r g. g.sound) t.globals f.globals.each;
            functions =
                all_map SoundFunction function_row_of t.functions
                (all_then GoodFunction (λ f. SoundFunction (function_row_of f)) (λ r g. g.sound) t.functions f.functions.each);
            attributes = all_then GoodAttribute SoundAttribute (λ r g. g.sound) t.attributes f.attributes.each;
          };
    }

-- The sheet of what it stands for has at most 2^36 words.
pub sheet-length : (file : List ℕ) (t : Tables) → Explains file t → Bytes file → length file ≤ most_bytes → length (sheet_of t) ≤ 2 ^ 36
unfolding sheet_of
sheet-length file t x b l = words-most (frame_of t) (moderate t (found file t x b l))

-- An accepted file is within the limit.
within : (file : List ℕ) (t : Tables) (r : Read Placed) → placed file ≡ r → map_read only_tables r ≡ accepted t → length file ≤ most_bytes
unfolding map_read
within file t (accepted x) e q = (placed-sound file x e).0
within file t (refused c n i) e q = absurd (refused-not-accepted q)

-- Accepted tables are well-formed.
pub decode-sounds : (file : List ℕ) (t : Tables) → All (Fits 8) file → decode file ≡ accepted t → Sound t
unfolding decode
decode-sounds file t b e = explained-sound file t (decode-sound file t e) b (within file t (placed file) refl e)
