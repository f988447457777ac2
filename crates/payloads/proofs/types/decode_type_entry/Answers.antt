-- `decode_type_entry` reads the tag and its fields, and puts the count of their words. Assumes nothing.
use mathlib.Core.Path.{sym}
use native.Mathlib.Omega.{arith}
use Rattle.std.proofs.lemmas.Result.{err_from_is_err_and}
use Rattle.reading.proofs.LawsNumbers.{varint-in}
use Rattle.payloads.specs.declared.fields.Number.TheVariants.{Varint}
use Rattle.payloads.specs.Fields.{number_at}
use Rattle.payloads.proofs.LawsFields.{number-stop}
use Rattle.payloads.proofs.LawsTypeEntries.{entry-got, row-least}
use Rattle.payloads.proofs.types.decode_type_entry.Goals as goal

pub returns-in_err-tag-clause-short : goal.returns-in_err-tag-clause-short
unfolding number_at
returns-in_err-tag-clause-short c =
    let p = err_from_is_err_and c.from_residual.result c.from_residual.ensures.1 in
    rw (p.1, p.2) (omega (arith, number-stop Varint _ _ _ _ (sym c.in_err-tag.ensures)))

pub decode_fields-requires : goal.decode_fields-requires
decode_fields-requires c =
    let m = varint-in _ _ _ _ c.in_ok-tag.ensures in (m.1, omega (arith, m, c.requires))

pub overflow_sub-count : goal.overflow_sub-count
overflow_sub-count c = row-least _ _ _ _ _ c.in_ok-end.ensures.row

pub returns : goal.returns
returns c =
    let m = varint-in _ _ _ _ c.in_ok-tag.ensures in
    record {
      row = entry-got _ _ _ _ _ _ _ _ c.in_ok-tag.ensures _ _ c.put_word.ensures c.in_ok-end.ensures.row;
      short = (omega arith, omega (arith, m, c.in_ok-end.ensures.within));
    }
