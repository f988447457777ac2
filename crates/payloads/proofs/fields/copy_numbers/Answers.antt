-- `copy_numbers` copies numbers by how they stand. Assumes nothing.
use mathlib.Core.Path.{refl}
use Rattle.reading.proofs.LawsWord.{fixed-one}
use Rattle.payloads.specs.declared.fields.Number.TheVariants.{Byte, I32, I64}
use Rattle.payloads.specs.Fields.{number_at}
use Rattle.payloads.proofs.LawsArrays.{numbers_as}
use Rattle.payloads.proofs.fields.copy_numbers.Goals as goal

pub returns-in-Byte : goal.returns-in-Byte
unfolding number_at
returns-in-Byte c = numbers_as Byte 1 _ c.in-Byte.is (fixed-one _) c.copy_fixed.ensures

pub returns-in-I32 : goal.returns-in-I32
unfolding number_at
returns-in-I32 c = numbers_as I32 4 _ c.in-I32.is (λ j. refl) c.copy_fixed-in-I32.ensures

pub returns-in-I64 : goal.returns-in-I64
unfolding number_at
returns-in-I64 c = numbers_as I64 8 _ c.in-I64.is (λ j. refl) c.copy_fixed-in-I64.ensures
