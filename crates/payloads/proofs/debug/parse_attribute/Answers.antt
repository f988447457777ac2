-- `parse_attribute` follows the model of one attribute: its tag, its varints, and zeros. Assumes nothing.
use mathlib.Core.Path.{sym, ap}
use native.Mathlib.Omega.{arith}
use Rattle.std.proofs.lemmas.Result.{err_from_is_err_and}
use Rattle.reading.proofs.LawsInside.{byte-in}
use Rattle.payloads.proofs.LawsDebug.{one-short, one-unknown, fields_at, attribute-refused, attribute-row}
use Rattle.payloads.proofs.LawsEntryRows.{row-stop}
use Rattle.payloads.proofs.debug.parse_attribute.Goals as goal

pub returns-in_err-tag : goal.returns-in_err-tag
returns-in_err-tag c =
    let p = err_from_is_err_and c.from_residual.result c.from_residual.ensures.1 in
    rw (p.1, p.2) (row-stop _ _ _ _ _ (one-short _ _ _ (sym c.in_err-tag.ensures)))

pub returns-then-tag-ge7 : goal.returns-then-tag-ge7
returns-then-tag-ge7 c = row-stop _ _ _ _ _ (one-unknown _ _ _ (sym c.in_ok-tag.ensures) c.if-tag-ge7.true)

pub copy_numbers-requires : goal.copy_numbers-requires
copy_numbers-requires c =
    let p = c.put_value-first.ensures.value in
    let a = ap (λ x. x.pos) p in
    let b = ap (λ x. x.word) p in
    (omega (arith, a, (byte-in _ _ _ _ c.in_ok-tag.ensures).1), omega (arith, b, c.requires))

pub returns-in_err-last : goal.returns-in_err-last
returns-in_err-last c =
    let p = err_from_is_err_and c.from_residual-in_err-last.result c.from_residual-in_err-last.ensures.1 in
    let put = fields_at _ _ _ _ _ _ _ _ _ c.put_value-first.ensures.value c.in_err-last.ensures.put in
    rw (p.1, p.2) (attribute-refused _ _ _ _ _ _ _ _ (sym c.in_ok-tag.ensures) c.if-tag-ge7.false c.field_count-count.ensures _ _ put)

pub returns : goal.returns
returns c =
    let v = c.put_value-first.ensures in
    let put = fields_at _ _ _ _ _ _ _ _ _ v.value c.in_ok-last.ensures.put in
    attribute-row _ _ _ _ _ _ _ _ (sym c.in_ok-tag.ensures) c.if-tag-ge7.false c.field_count-count.ensures _ _ v.sheet_after put c.put_row.ensures _
