-- The container's numbers, each named once. enums.rs decides them (document 01, "Where each rule comes from").
use Rattle.std.specs.Prelude.{ℕ, List, [], ◌∷◌}

-- P, the byte that padding is made of: `ALIGNMENT_BYTE`.
abbrev pub P : ℕ
P = 0xCB

-- The eight bytes that open a file, `MAGIC`: 7F, "TileIR" and 00.
abbrev pub magic : List ℕ
magic = 0x7F ∷ 0x54 ∷ 0x69 ∷ 0x6C ∷ 0x65 ∷ 0x49 ∷ 0x52 ∷ 0x00 ∷ []

-- Section ids.
abbrev pub end_of_bytecode : ℕ
end_of_bytecode = 0x00

abbrev pub string_id : ℕ
string_id = 0x01

abbrev pub func_id : ℕ
func_id = 0x02

abbrev pub debug_id : ℕ
debug_id = 0x03

abbrev pub constant_id : ℕ
constant_id = 0x04

abbrev pub type_id : ℕ
type_id = 0x05

abbrev pub global_id : ℕ
global_id = 0x06

abbrev pub producer_id : ℕ
producer_id = 0x07

-- `NUM_SECTIONS`: ids from here on are passed over.
abbrev pub num_sections : ℕ
num_sections = 0x08

-- Function flags; the third, `HasOptimizationHints`, is refused.
abbrev pub private_flag : ℕ
private_flag = 0x01

abbrev pub kernel_flag : ℕ
kernel_flag = 0x02

abbrev pub hints_flag : ℕ
hints_flag = 0x04

-- All section ids, in their order.
abbrev pub section_ids : List ℕ
section_ids = end_of_bytecode ∷ string_id ∷ func_id ∷ debug_id ∷ constant_id ∷ type_id ∷ global_id ∷ producer_id ∷ []

-- All function flags.
abbrev pub function_flags : List ℕ
function_flags = private_flag ∷ kernel_flag ∷ hints_flag ∷ []
