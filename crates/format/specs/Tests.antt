-- The tests that decide the clauses of well-formed rows (document 01, "The sheet", the paragraph "Well-formed").
use Rattle.std.specs.Prelude.{◌≡◌, ◌⊎◌, ℕ, ◌/◌, ◌%◌, ◌^◌, true, List, [], ◌∷◌, length, drop, get_or}
use Rattle.std.proofs.Common.{inl, inr}
use Rattle.std.proofs.Math.Decide.{dec_lt, ℕ_discrete}
use Rattle.std.proofs.Math.Bool.{Bool-discrete}
use Rattle.std.proofs.Math.Option.{Option, none, some}
use Rattle.enums.specs.declared.VersionClass.{VersionClass}
use Rattle.enums.specs.Container.{hints_flag}
use Rattle.enums.specs.Version.{since13_3, since13_4}
use Rattle.enums.specs.Debug.{field_counts}
use Rattle.format.specs.Tables.{
  Version,
  TypeRow,
  plain,
  pointer,
  tile,
  tensor_view,
  partition_view,
  gather_scatter_view,
  strided_view,
  function,
  Global,
  Attribute,
  Tables,
}
use Rattle.format.specs.Items.{Bit0}
use Rattle.format.specs.Types.{plain_tags, among}
use Rattle.format.specs.Sheet.{FunctionRow, Frame, frame_of, attribute_fields, sheet_of, pool_of}
use Rattle.format.specs.Sound.{
  All,
  Fits,
  Since3,
  Since4,
  OnlyIf,
  OptionalByte,
  SoundType,
  SoundGlobal,
  SoundFunction,
  SoundAttribute,
  Inside,
  SoundVersion,
  class_in,
  SoundFrame,
  Sound,
}

-- What says the same is decided by the same test.
unfoldable pub same? : {P Q : Type 0} → (P → Q) → (Q → P) → Dec P → Dec Q
same? f g (yes p) = yes (f p)
same? f g (no n) = no (λ q. n (g q))

unfoldable pub both? : {P Q : Type 0} → Dec P → Dec Q → Dec (P × Q)
both? (yes p) (yes q) = yes (p, q)
both? (yes p) (no n) = no (λ x. n x.1)
both? (no n) d = no (λ x. n x.0)

unfoldable pub either? : {P Q : Type 0} → Dec P → Dec Q → Dec (P ⊎ Q)
either? (yes p) d = yes (inl p)
either? (no n) (yes q) = yes (inr q)
either? (no n) (no m) = no (λ e. elim e [ inl p ↦ n p | inr q ↦ m q ])

unfoldable pub not? : {P : Type 0} → Dec P → Dec (¬ P)
not? (yes p) = no (λ n. n p)
not? (no n) = yes n

unfoldable pub all? : {A : Type 0} {P : A → Type 0} → ((v : A) → Dec (P v)) → (vs : List A) → Dec (All P vs)
all? d [] = yes tt
all? d (v ∷ vs) = both? (d v) (all? d vs)

unfoldable pub fits? : (w v : ℕ) → Dec (Fits w v)
fits? w v = dec_lt v (2 ^ w)

unfoldable pub since3? : (c : VersionClass) → Dec (Since3 c)
since3? c = Bool-discrete (since13_3 c) true

unfoldable pub since4? : (c : VersionClass) → Dec (Since4 c)
since4? c = Bool-discrete (since13_4 c) true

unfoldable pub only_if? : {P : Type 0} → Dec P → (v : ℕ) → Dec (OnlyIf P v)
only_if? d v = either? d (ℕ_discrete v 0)

unfoldable pub bit0? : (flags : ℕ) → Dec (Bit0 flags)
bit0? flags = ℕ_discrete (flags % 2) 1

unfoldable pub optional_byte? : (flags b : ℕ) → Dec (OptionalByte flags b)
optional_byte? flags b = both? (only_if? (bit0? flags) b) (fits? 8 b)

unfoldable pub plain? : (tag : ℕ) → Dec (among tag plain_tags ≡ true)
plain? tag = Bool-discrete (among tag plain_tags) true

unfoldable pub type? : (c : VersionClass) (r : TypeRow) → Dec (SoundType c r)
type? c (plain tag) = plain? tag
type? c (pointer flags element attribute) = both? (only_if? (since4? c) flags) (optional_byte? flags attribute)
type? c (tile element dims) = yes tt
type? c (tensor_view flags element shape strides attribute) =
    both? (only_if? (since4? c) flags) (optional_byte? flags attribute)
type? c (partition_view flags shape view dims padding) =
    same? (λ x. (x.0, x.1.0, x.1.1.0, x.1.1.1.0, x.1.1.1.1)) (λ x. (x.0, (x.1, (x.2, (x.3, x.4)))))
    (both? (either? (since3? c) (dec_lt flags 2))
    (both? (all? (fits? 32) shape)
    (both? (all? (fits? 32) dims) (both? (only_if? (bit0? flags) padding) (either? (not? (since3? c)) (fits? 8 padding))))))
type? c (gather_scatter_view flags shape view sparse padding) = both? (all? (fits? 32) shape) (optional_byte? flags padding)
type? c (strided_view flags shape strides view dims padding) =
    same? (λ x. (x.0, x.1.0, x.1.1.0, x.1.1.1)) (λ x. (x.0, (x.1, (x.2, x.3))))
    (both? (all? (fits? 32) shape)
    (both? (all? (fits? 32) strides) (both? (all? (fits? 32) dims) (optional_byte? flags padding))))
type? c (function inputs results) = yes tt

unfoldable pub global? : (c : VersionClass) (g : Global) → Dec (SoundGlobal c g)
global? c g =
    same? (λ x. record { visibility_byte = x.0; visibility_since = x.1.0; flag_bit = x.1.1.0; flag_since = x.1.1.1 })
    (λ s. (s.visibility_byte, (s.visibility_since, (s.flag_bit, s.flag_since))))
    (both? (fits? 8 g.visibility)
    (both? (only_if? (since3? c) g.visibility) (both? (dec_lt g.constant_flag 2) (only_if? (since3? c) g.constant_flag))))

unfoldable pub function? : (f : FunctionRow) → Dec (SoundFunction f)
function? f =
    same? (λ x. record { flags_byte = x.0; no_hints = x.1 }) (λ s. (s.flags_byte, s.no_hints))
    (both? (fits? 8 f.flags) (ℕ_discrete (f.flags / hints_flag % 2) 0))

unfoldable pub attribute? : (a : Attribute) → Dec (SoundAttribute a)
attribute? a =
    same? (λ x. record { tag_known = x.0; absent = x.1 }) (λ s. (s.tag_known, s.absent))
    (both? (dec_lt a.tag (length field_counts)) (all? (λ v. ℕ_discrete v 0) (drop (get_or field_counts a.tag 0) (attribute_fields a))))

unfoldable pub inside? : (p : Option ℕ) (n : ℕ) → Dec (Inside p n)
inside? none n = yes tt
inside? (some index) n = dec_lt index n

unfoldable pub version? : (v : Version) → Dec (SoundVersion v)
version? v =
    same? (λ x. record { major_byte = x.0; minor_byte = x.1.0; tag_half = x.1.1 })
    (λ s. (s.major_byte, (s.minor_byte, s.tag_half)))
    (both? (fits? 8 v.major) (both? (fits? 8 v.minor) (fits? 16 v.tag)))

unfoldable pub frame? : (r : Frame) → Dec (SoundFrame r)
frame? r =
    same?
    (λ x.
    record {
      version = x.0;
      producer = x.1.0;
      types = x.1.1.0;
      globals = x.1.1.1.0;
      functions = x.1.1.1.1.0;
      attributes = x.1.1.1.1.1;
    })
    (λ s. (s.version, (s.producer, (s.types, (s.globals, (s.functions, s.attributes))))))
    (both? (version? r.version)
    (both? (inside? r.producer (length r.strings))
    (both? (all? (type? (class_in r)) r.types)
    (both? (all? (global? (class_in r)) r.globals) (both? (all? function? r.functions) (all? attribute? r.attributes))))))

-- Tables are well-formed or not.
unfoldable pub sound? : (t : Tables) → Dec (Sound t)
sound? t =
    same? (λ x. record { words = x.0; pool = x.1.0; frame = x.1.1 }) (λ s. (s.words, (s.pool, s.frame)))
    (both? (all? (fits? 64) (sheet_of t)) (both? (all? (fits? 8) (pool_of t)) (frame? (frame_of t))))
