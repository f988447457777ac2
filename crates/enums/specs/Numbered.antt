-- The number of each refusal and of each stage (document 01, "Refusal numbers"; 18 is document 02's, 8/14), and the id of
-- each section (document 01, "The container").
use Rattle.std.specs.Prelude.{ℕ}
use Rattle.enums.specs.Container as container
use Rattle.enums.specs.Refusals as refusals
use Rattle.enums.specs.declared.Refusal.{Refusal}
use Rattle.enums.specs.declared.Refusal.TheVariants as refusal
use Rattle.enums.specs.declared.Stage.{Stage}
use Rattle.enums.specs.declared.Stage.TheVariants as stage
use Rattle.enums.specs.declared.Section.{Section}
use Rattle.enums.specs.declared.Section.TheVariants as section

abbrev pub number_of : Refusal → ℕ
number_of refusal.Limit = refusals.limit
number_of refusal.Short = refusals.short
number_of refusal.Overlong = refusals.overlong
number_of refusal.Magic = refusals.not_magic
number_of refusal.Padding = refusals.unpadded
number_of refusal.Bounds = refusals.bounds
number_of refusal.Producer = refusals.no_producer
number_of refusal.TypeTag = refusals.type_tag
number_of refusal.DebugTag = refusals.debug_tag
number_of refusal.Hints = refusals.hints
number_of refusal.Full = refusals.full
number_of refusal.Sheet = refusals.unsound
number_of refusal.Start = refusals.start_too_large
number_of refusal.Absent = refusals.not_there
number_of refusal.NoSlot = refusals.no_slot

abbrev pub stage_number : Stage → ℕ
stage_number stage.Limits = refusals.at_limits
stage_number stage.Header = refusals.at_header
stage_number stage.Sections = refusals.at_sections
stage_number stage.String = refusals.at_string
stage_number stage.Producer = refusals.at_producer
stage_number stage.Type = refusals.at_type
stage_number stage.Constant = refusals.at_constant
stage_number stage.Global = refusals.at_global
stage_number stage.Func = refusals.at_func
stage_number stage.Debug = refusals.at_debug
stage_number stage.Call = refusals.at_call

abbrev pub id_of : Section → ℕ
id_of section.String = container.string_id
id_of section.Producer = container.producer_id
id_of section.Type = container.type_id
id_of section.Constant = container.constant_id
id_of section.Global = container.global_id
id_of section.Func = container.func_id
id_of section.Debug = container.debug_id
