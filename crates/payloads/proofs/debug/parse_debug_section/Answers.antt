-- `parse_debug_section` finds all arrays and fills in what they cut. Assumes nothing.
use mathlib.Core.Path.{sym}
use native.Mathlib.Omega.{arith}
use Rattle.std.proofs.lemmas.Result.{err_from_is_err_and}
use Rattle.entries.proofs.LawsEntries.{starts-few, array_lies}
use Rattle.payloads.proofs.LawsDebug.{debug-stop, debug-as, attributes-word, attributes-refused, lists-refused, debug-filled, starts-refused, ids-refused, offsets-refused, offsets-got}
use Rattle.payloads.proofs.debug.parse_debug_section.Goals as goal

pub returns-in_err-lists : goal.returns-in_err-lists
returns-in_err-lists c =
    let p = err_from_is_err_and c.from_residual.result c.from_residual.ensures.1 in
    rw (p.1, p.2) (debug-stop _ _ _ _ _ (starts-refused _ _ _ (sym c.in_err-lists.ensures)))

pub returns-in_err-ids : goal.returns-in_err-ids
returns-in_err-ids c =
    let p = err_from_is_err_and c.from_residual-in_err-ids.result c.from_residual-in_err-ids.ensures.1 in
    rw (p.1, p.2) (debug-stop _ _ _ _ _ (ids-refused _ _ (sym c.in_ok-lists.ensures) _ _ (sym c.in_err-ids.ensures)))

pub returns-in_err-attributes : goal.returns-in_err-attributes
returns-in_err-attributes c =
    let p = err_from_is_err_and c.from_residual-in_err-attributes.result c.from_residual-in_err-attributes.ensures.1 in
    rw (p.1, p.2) (debug-stop _ _ _ _ _ (offsets-refused _ _ (sym c.in_ok-lists.ensures) _ (sym c.in_ok-ids.ensures) _ _ (sym c.in_err-attributes.ensures)))

pub fill_attributes-requires : goal.fill_attributes-requires
fill_attributes-requires c = record { attributes_lie = array_lies _ _ _ _ _ c.in_ok-attributes.ensures; payload_bound = c.args.part.fits.words }

pub returns-in_err-next : goal.returns-in_err-next
returns-in_err-next c =
    let p = err_from_is_err_and c.from_residual-in_err-next.result c.from_residual-in_err-next.ensures.1 in
    let whole = offsets-got _ _ (sym c.in_ok-lists.ensures) _ (sym c.in_ok-ids.ensures) _ (sym c.in_ok-attributes.ensures) in
    rw (p.1, p.2) (debug-as _ whole (attributes-refused _ c.in_ok-lists.lists c.in_ok-ids.ids c.in_ok-attributes.attributes _ _ _ _ c.in_err-next.ensures))

pub fill_lists-requires : goal.fill_lists-requires
fill_lists-requires c =
    let n = attributes-word _ _ _ _ _ _ c.in_ok-next.ensures in
    let few = starts-few 4 _ _ (omega arith) (array_lies _ _ _ _ _ c.in_ok-attributes.ensures) in
    record {
      lists_lie = array_lies _ _ _ _ _ c.in_ok-lists.ensures;
      ids_lie = array_lies _ _ _ _ _ c.in_ok-ids.ensures;
      payload_bound = omega (arith, n, few, c.args.part.fits.words);
    }

pub returns-in_err-last : goal.returns-in_err-last
returns-in_err-last c =
    let p = err_from_is_err_and c.from_residual-in_err-last.result c.from_residual-in_err-last.ensures.1 in
    let whole = offsets-got _ _ (sym c.in_ok-lists.ensures) _ (sym c.in_ok-ids.ensures) _ (sym c.in_ok-attributes.ensures) in
    rw (p.1, p.2) (debug-as _ whole (lists-refused _ c.in_ok-lists.lists c.in_ok-ids.ids c.in_ok-attributes.attributes _ _ _ _ c.in_ok-next.ensures _ _ c.in_err-last.ensures))

pub returns : goal.returns
returns c =
    let whole = offsets-got _ _ (sym c.in_ok-lists.ensures) _ (sym c.in_ok-ids.ensures) _ (sym c.in_ok-attributes.ensures) in
    debug-as _ whole (debug-filled _ c.in_ok-lists.lists c.in_ok-ids.ids c.in_ok-attributes.attributes _ _ _ _ c.in_ok-next.ensures _ _ c.in_ok-last.ensures)
