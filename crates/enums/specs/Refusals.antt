-- Refusal numbers and stages, each named once (document 01, "Refusal numbers"; 18 is document 02's, 8/14).
use Rattle.std.specs.Prelude.{ℕ, List, [], ◌∷◌}

-- File or image over 2^30 bytes, or a pool over 2^30 bytes or a sheet over 2^26 words handed to the writer.
abbrev pub limit : ℕ
limit = 1

-- The data ends inside an item.
abbrev pub short : ℕ
short = 2

-- Varint past its tenth byte.
abbrev pub overlong : ℕ
overlong = 3

-- Wrong magic.
abbrev pub not_magic : ℕ
not_magic = 4

-- A padding byte is not P.
abbrev pub unpadded : ℕ
unpadded = 5

-- Start after end, end outside, or an empty debug attribute.
abbrev pub bounds : ℕ
bounds = 6

-- Producer index outside.
abbrev pub no_producer : ℕ
no_producer = 7

-- Type tag unknown, or above 255.
abbrev pub type_tag : ℕ
type_tag = 8

-- Debug tag unknown.
abbrev pub debug_tag : ℕ
debug_tag = 9

-- Hints flag.
abbrev pub hints : ℕ
hints = 10

-- A store or output is smaller than the result.
abbrev pub full : ℕ
full = 11

-- Sheet not well-formed; or the owner table or the buffer of a cache.
abbrev pub unsound : ℕ
unsound = 12

-- A u32 start does not fit.
abbrev pub start_too_large : ℕ
start_too_large = 13

-- Asked index or section not there; patch outside.
abbrev pub not_there : ℕ
not_there = 14

-- Every slot of a cache is taken.
abbrev pub no_slot : ℕ
no_slot = 18

-- Stages.

-- Limits.
abbrev pub at_limits : ℕ
at_limits = 0

-- Header.
abbrev pub at_header : ℕ
at_header = 1

-- Sections.
abbrev pub at_sections : ℕ
at_sections = 2

-- The payloads, in reading order.
abbrev pub at_string : ℕ
at_string = 3

abbrev pub at_producer : ℕ
at_producer = 4

abbrev pub at_type : ℕ
at_type = 5

abbrev pub at_constant : ℕ
at_constant = 6

abbrev pub at_global : ℕ
at_global = 7

abbrev pub at_func : ℕ
at_func = 8

abbrev pub at_debug : ℕ
at_debug = 9

-- Stores, asked indices, single-number calls, all writing and every call that is not reading a container.
abbrev pub at_call : ℕ
at_call = 10

-- All refusal numbers, in their order.
abbrev pub refusal_numbers : List ℕ
refusal_numbers =
    limit ∷ short ∷ overlong ∷ not_magic ∷ unpadded ∷ bounds ∷ no_producer ∷ type_tag ∷ debug_tag ∷ hints ∷ full ∷
    unsound ∷ start_too_large ∷ not_there ∷ no_slot ∷ []

-- All stages, in their order.
abbrev pub stages : List ℕ
stages =
    at_limits ∷ at_header ∷ at_sections ∷ at_string ∷ at_producer ∷ at_type ∷ at_constant ∷ at_global ∷ at_func ∷ at_debug ∷
    at_call ∷ []
