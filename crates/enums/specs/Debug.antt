-- The tags of debug attributes, each named once (enums.rs, `DebugTag`), and the varints that each asks for (document 01,
-- "The container").
use Rattle.std.specs.Prelude.{ℕ, List, [], ◌∷◌}

abbrev pub tag_unknown : ℕ
tag_unknown = 0

abbrev pub tag_di_compile_unit : ℕ
tag_di_compile_unit = 1

abbrev pub tag_di_file : ℕ
tag_di_file = 2

abbrev pub tag_di_lexical_block : ℕ
tag_di_lexical_block = 3

abbrev pub tag_di_loc : ℕ
tag_di_loc = 4

abbrev pub tag_di_subprogram : ℕ
tag_di_subprogram = 5

abbrev pub tag_call_site : ℕ
tag_call_site = 6

-- All debug tags, in their order.
abbrev pub debug_tags : List ℕ
debug_tags =
    tag_unknown ∷ tag_di_compile_unit ∷ tag_di_file ∷ tag_di_lexical_block ∷ tag_di_loc ∷ tag_di_subprogram ∷ tag_call_site ∷ []

-- The number of varints behind each tag, in the tags' order. Behind a number that is no tag there are none.
abbrev pub field_counts : List ℕ
field_counts = 0 ∷ 1 ∷ 2 ∷ 4 ∷ 4 ∷ 6 ∷ 2 ∷ []
