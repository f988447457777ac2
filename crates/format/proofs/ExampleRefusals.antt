-- Example files that are refused, part by part; the payload of a file's first section begins at file offset 14.
-- Assumes nothing.
use Prim.Native.Nat.{ℕ}
use mathlib.Core.List.{List, [], ◌∷◌, ◌++◌}
use Rattle.enums.specs.Container as id
use Rattle.enums.specs.Container.{P}
use Rattle.enums.specs.Types as tags
use Rattle.format.proofs.ExampleFiles.{header, u32, u64, bare, table, abc}

-- A file of version 13.1 with one section.
abbrev pub one_section : ℕ → List ℕ → List ℕ
one_section id payload = header 13 1 ++ (bare id payload ++ (0x00 ∷ []))

-- Header: three bytes alone, and eight bytes of which the last is wrong.
abbrev pub short_magic : List ℕ
short_magic = 0x7F ∷ 0x54 ∷ 0x69 ∷ []

abbrev pub wrong_magic : List ℕ
wrong_magic = 0x7F ∷ 0x54 ∷ 0x69 ∷ 0x6C ∷ 0x65 ∷ 0x49 ∷ 0x52 ∷ 0x01 ∷ []

-- Sections: no end marker; a payload that is not there; a length past its tenth byte; a padding byte that isn't P.
abbrev pub no_marker : List ℕ
no_marker = header 13 1

abbrev pub no_payload : List ℕ
no_payload = header 13 1 ++ (id.string_id ∷ 0x05 ∷ 0x00 ∷ [])

abbrev pub long_length : List ℕ
long_length =
    header 13 1 ++ (id.string_id ∷ 0xFF ∷ 0xFF ∷ 0xFF ∷ 0xFF ∷ 0xFF ∷ 0xFF ∷ 0xFF ∷ 0xFF ∷ 0xFF ∷ 0x81 ∷ 0x00 ∷ [])

abbrev pub wrong_padding : List ℕ
wrong_padding = header 13 1 ++ (0x81 ∷ 0x01 ∷ 0x04 ∷ 0x00 ∷ 0x00 ∷ 0x00 ∷ [])

-- String: a section of length 0; padding in the payload; a start after its end; an end outside.
abbrev pub empty_string : List ℕ
empty_string = one_section id.string_id []

abbrev pub unpadded_string : List ℕ
unpadded_string = one_section id.string_id (0x01 ∷ P ∷ 0x00 ∷ P ∷ u32 0)

abbrev pub falling_starts : List ℕ
falling_starts = one_section id.string_id (0x02 ∷ P ∷ P ∷ P ∷ (u32 1 ++ (u32 0 ++ (0x61 ∷ []))))

abbrev pub end_outside : List ℕ
end_outside = one_section id.string_id (0x02 ∷ P ∷ P ∷ P ∷ (u32 0 ++ (u32 9 ++ (0x61 ∷ []))))

-- Producer: the index 2 of two strings.
abbrev pub producer_outside : List ℕ
producer_outside = header 13 1 ++ (bare id.string_id (table abc) ++ (bare id.producer_id (0x02 ∷ []) ++ (0x00 ∷ [])))

-- Type: an unknown tag; one above 255, whose low byte is known; an empty entry; an entry that ends before its field;
-- and three entries of which the first has an unknown tag and the second bad bounds.
abbrev pub unknown_tag : List ℕ
unknown_tag = one_section id.type_id (table ((23 ∷ []) ∷ []))

abbrev pub large_tag : List ℕ
large_tag = one_section id.type_id (table ((0x81 ∷ 0x02 ∷ []) ∷ []))

abbrev pub empty_type : List ℕ
empty_type = one_section id.type_id (table ([] ∷ []))

abbrev pub short_type : List ℕ
short_type = one_section id.type_id (table ((tags.tag_pointer ∷ []) ∷ []))

abbrev pub tag_before_bounds : List ℕ
tag_before_bounds = one_section id.type_id (0x03 ∷ P ∷ P ∷ P ∷ (u32 0 ++ (u32 1 ++ (u32 0 ++ (23 ∷ [])))))

-- Constant: an end outside. Global: the type is not there.
abbrev pub constant_outside : List ℕ
constant_outside = one_section id.constant_id (0x01 ∷ P ∷ P ∷ P ∷ P ∷ P ∷ P ∷ P ∷ u64 1)

abbrev pub short_global : List ℕ
short_global = one_section id.global_id (0x01 ∷ 0x00 ∷ [])

-- Func: the hints flag, and the hints flag where the location is not there.
abbrev pub hints_flag : List ℕ
hints_flag = one_section id.func_id (0x01 ∷ 0x00 ∷ 0x00 ∷ 0x04 ∷ 0x00 ∷ 0x00 ∷ [])

abbrev pub hints_short : List ℕ
hints_short = one_section id.func_id (0x01 ∷ 0x00 ∷ 0x00 ∷ 0x04 ∷ [])

-- Debug: an empty attribute; an unknown tag; a list start 2 over one id, which has eight bytes; and both of the last.
abbrev pub empty_attribute : List ℕ
empty_attribute = one_section id.debug_id (0x00 ∷ P ∷ P ∷ P ∷ 0x00 ∷ P ∷ P ∷ P ∷ 0x01 ∷ P ∷ P ∷ P ∷ u32 0)

abbrev pub unknown_attribute : List ℕ
unknown_attribute = one_section id.debug_id (0x00 ∷ P ∷ P ∷ P ∷ 0x00 ∷ P ∷ P ∷ P ∷ 0x01 ∷ P ∷ P ∷ P ∷ (u32 0 ++ (0x07 ∷ [])))

abbrev pub list_outside : List ℕ
list_outside =
    one_section id.debug_id ((0x01 ∷ P ∷ P ∷ P ∷ u32 2) ++ ((0x01 ∷ P ∷ P ∷ P ∷ P ∷ P ∷ P ∷ P ∷ u64 5) ++ (0x00 ∷ P ∷ P ∷ P ∷ [])))

abbrev pub tag_before_list : List ℕ
tag_before_list =
    one_section id.debug_id ((0x01 ∷ P ∷ P ∷ P ∷ u32 2) ++ ((0x01 ∷ P ∷ P ∷ P ∷ P ∷ P ∷ P ∷ P ∷ u64 5) ++
    (0x01 ∷ P ∷ P ∷ P ∷ (u32 0 ++ (0x07 ∷ [])))))
