-- What reading answers of the example files, computed: accepted ones, and each refusal number that reading has, with
-- its stage and place. Assumes nothing.
use mathlib.Core.Path.{◌≡◌, refl}
use Prim.Native.Nat.{ℕ}
use native.Mathlib.Decide.{dec_le, dec_lt, ℕ_discrete}
use mathlib.Core.List
use mathlib.Core.Bool.{true}
use mathlib.Core.List.{List, [], ◌∷◌, ◌++◌}
use lib.ListN.{length, get_or}
use Rattle.exact.specs.Got.{follow}
use Rattle.exact.specs.Basic.{byte_of, byte, pure, fail}
use Rattle.exact.specs.Sequence.{bind, mapped}
use Rattle.exact.specs.Choice.{choose, such}
use Rattle.exact.specs.Repeat.{times, counted}
use Rattle.exact.specs.Fixed.{raw, little, fixed}
use Rattle.exact.specs.Padding.{literal, broke, blamed, here, gap, pad}
use Rattle.exact.specs.Tiling.{cut, consed, cuts}
use Rattle.exact.specs.Refuse.{refuse, pick_at}
use Rattle.exact.specs.Upto.{upto, whole, place}
use Rattle.exact.specs.Until.{go_on, until_from, until}
use Rattle.exact.specs.Entries.{raised, cut_least, entry, entries_of, rows, entries}
use Rattle.enums.specs.Version.{class_of}
use Rattle.enums.specs.Types.{type_tags}
use Rattle.enums.specs.Debug as di
use Rattle.enums.specs.declared.VersionClass.TheVariants.{From13_4}
use Rattle.enums.specs.Debug.{field_counts}
use Rattle.reading.specs.Numbers.{digits, varint_at, padding_at, counted_at}
use Rattle.format.specs.Tables.{Tables, partition_view}
use Rattle.format.specs.Items.{truth}
use Rattle.format.specs.Types.{plain_tags, among}
use Rattle.format.specs.Read.{Read, accepted, refused, at_stage, map_read}
use Rattle.format.specs.DecodeContainer.{magic_at, header_at, alignment_at, section_at, item_at, sections_at, later, last_with, place_of, places_of, in_section}
use Rattle.format.specs.DecodeTables.{field_at, indices_at, padded_at, offset_table_at, strings_at, constants_at, producer_at}
use Rattle.format.specs.DecodeTypes.{kinds, flags_at, byte_if, pointer_at, tile_at, tensor_view_at, partition_view_at, old_partition_view_at, gather_scatter_view_at, strided_view_at, function_type_at, fields_at, type_entry_at, types_at}
use Rattle.format.specs.DecodeRows.{global_at, globals_at, body_at, function_at, functions_at}
use Rattle.format.specs.DecodeDebug.{attribute_at, attributes_at, lists_at, debug_at}
use Rattle.format.specs.Decode.{payloads, read_placed, placed, decode}
use Rattle.format.specs.Views.{Span, and_then, row_span, row_view, string_view, constant_view, body_view, payload_span, read_sections, section_view}
use Rattle.format.proofs.ExampleRefusals as R
use Rattle.format.proofs.ExampleFiles.{tables_with, abc, whole_case, free_case, count_zero, partition_old, partition_new, one_type, every_table, every_row, every_placed}

-- A file, and what reading it answers.
pub record Example : Type 0 where
  pub file : List ℕ
  pub answer : Read Tables

-- Each file is answered so.
abbrev pub Answered : List Example → Type 0
Answered es = List.map (λ e. decode e.file) es ≡ List.map (λ e. e.answer) es

-- A span that is answered.
abbrev pub span : ℕ → ℕ → Read Span
span offset size = accepted (record { offset = offset; size = size })

abbrev pub accepted_examples : List Example
accepted_examples =
    record { file = whole_case; answer = accepted (tables_with 13 1 abc []) } ∷
    record { file = free_case; answer = accepted (tables_with 13 1 abc []) } ∷
    record { file = count_zero; answer = accepted (tables_with 13 1 [] []) } ∷
    record { file = one_type 2 partition_old; answer = accepted (tables_with 13 2 [] (partition_view 1 (5 ∷ []) 2 (0 ∷ []) 257 ∷ [])) } ∷
    record { file = one_type 3 partition_new; answer = accepted (tables_with 13 3 [] (partition_view 3 (5 ∷ []) 2 (0 ∷ []) 129 ∷ [])) } ∷
    record { file = one_type 4 partition_new; answer = accepted (tables_with 13 4 [] (partition_view 3 (5 ∷ []) 2 (0 ∷ []) 129 ∷ [])) } ∷
    record { file = every_table; answer = accepted every_row } ∷ []

-- Refused: number, stage and place.
abbrev pub refused_examples : List Example
refused_examples =
    record { file = R.short_magic; answer = refused 2 1 0 } ∷
    record { file = R.wrong_magic; answer = refused 4 1 0 } ∷
    record { file = R.no_marker; answer = refused 2 2 12 } ∷
    record { file = R.no_payload; answer = refused 2 2 14 } ∷
    record { file = R.long_length; answer = refused 3 2 13 } ∷
    record { file = R.wrong_padding; answer = refused 5 2 15 } ∷
    record { file = R.empty_string; answer = refused 2 3 14 } ∷
    record { file = R.unpadded_string; answer = refused 5 3 15 } ∷
    record { file = R.falling_starts; answer = refused 6 3 14 } ∷
    record { file = R.end_outside; answer = refused 6 3 14 } ∷
    record { file = R.producer_outside; answer = refused 7 4 31 } ∷
    record { file = R.unknown_tag; answer = refused 8 5 22 } ∷
    record { file = R.large_tag; answer = refused 8 5 22 } ∷
    record { file = R.empty_type; answer = refused 2 5 22 } ∷
    record { file = R.short_type; answer = refused 2 5 23 } ∷
    record { file = R.tag_before_bounds; answer = refused 8 5 30 } ∷
    record { file = R.constant_outside; answer = refused 6 6 14 } ∷
    record { file = R.short_global; answer = refused 2 7 16 } ∷
    record { file = R.hints_flag; answer = refused 10 8 17 } ∷
    record { file = R.hints_short; answer = refused 2 8 18 } ∷
    record { file = R.empty_attribute; answer = refused 6 9 14 } ∷
    record { file = R.unknown_attribute; answer = refused 9 9 30 } ∷
    record { file = R.list_outside; answer = refused 6 9 14 } ∷
    record { file = R.tag_before_list; answer = refused 9 9 46 } ∷ []

-- Views of the file with every table, and of the sections of the free one.
abbrev pub views : List (Read Span)
views =
    string_view every_table 1 ∷ constant_view every_table 1 ∷ body_view every_table 0 ∷ body_view every_table 2 ∷
    section_view free_case 1 ∷ section_view free_case 2 ∷ section_view free_case 0x7F ∷ string_view R.short_type 0 ∷
    section_view R.short_type 5 ∷ []

abbrev pub spans : List (Read Span)
spans =
    span 109 2 ∷ span 247 0 ∷ span 86 3 ∷ refused 14 10 0 ∷
    span 28 16 ∷ refused 14 10 0 ∷ refused 14 10 0 ∷ refused 2 5 23 ∷
    span 14 9 ∷ []

-- The examples: what is accepted, what is refused, where the rows of the file with every table stand, and the views.
pub examples-answered : Answered accepted_examples × Answered refused_examples × (placed every_table ≡ accepted every_placed) × (views ≡ spans)
unfolding follow byte_of byte pure fail bind mapped choose such times counted raw little fixed literal broke blamed here gap pad
    cut consed cuts refuse pick_at upto whole place go_on until_from until raised cut_least entry entries_of rows entries
    digits varint_at padding_at counted_at class_of truth at_stage map_read dec_le dec_lt ℕ_discrete
    magic_at header_at alignment_at section_at item_at sections_at later last_with place_of places_of in_section
    field_at indices_at padded_at offset_table_at strings_at constants_at producer_at
    flags_at byte_if pointer_at tile_at tensor_view_at partition_view_at old_partition_view_at gather_scatter_view_at strided_view_at
    function_type_at fields_at type_entry_at types_at global_at globals_at body_at function_at functions_at
    attribute_at attributes_at lists_at debug_at payloads read_placed placed decode
    and_then row_span row_view payload_span read_sections section_view
examples-answered = (refl, refl, refl, refl)

-- The tags with fields, as the reader knows them.
abbrev kind_tags : List ℕ
kind_tags = List.map (λ k. k.tag) (kinds From13_4)

-- Every type tag of enums.rs is plain or has fields, and there are no others.
pub tags-known : (List.map (λ t. among t (plain_tags ++ kind_tags)) type_tags ≡ List.map (λ t. true) type_tags) ×
    (length (plain_tags ++ kind_tags) ≡ length type_tags)
tags-known = (refl, refl)

-- The field counts of debug tags, tag by tag.
pub fields-counted : List.map (λ t. get_or field_counts t 7)
    (di.tag_di_file ∷ di.tag_di_compile_unit ∷ di.tag_di_lexical_block ∷ di.tag_di_loc ∷ di.tag_di_subprogram ∷ di.tag_call_site ∷ di.tag_unknown ∷ []) ≡
    2 ∷ 1 ∷ 4 ∷ 4 ∷ 6 ∷ 2 ∷ 0 ∷ []
fields-counted = refl
