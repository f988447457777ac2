-- `put_short` puts an attribute that is read, since each of its numbers is one byte or two and the last ends in time;
-- or it puts nothing. Assumes nothing.
use mathlib.Core.Path.{ap, ◌∙◌}
use mathlib.Core.Bool.{true≢false}
use Prim.Native.Nat.{◌+◌}
use Rattle.payloads.specs.Shorts.{shorts}
use Rattle.payloads.proofs.LawsShorts.{short-attribute}
use Rattle.payloads.proofs.debug.put_short.Goals as goal

pub returns : goal.returns
returns c =
    let fields = c.short_fields-fields in
    let entry = c.args.attribute in
    let d = entry.table.now in
    let (e, n) =
    short-attribute d entry.start entry.end entry.inside entry.bytes entry.some c.if-tag-ge7.false fields.result
    (fields.ensures ∙ ap (λ n. shorts d (entry.start + 1) n 6) c.field_count-count.ensures) c.if-attribute-fields.false c.if-fields-gt0.false in
    record {
      row = λ t. (_, e, n, c.put_attribute.ensures);
      sheet_unchanged = λ t. absurd (true≢false t);
    }
