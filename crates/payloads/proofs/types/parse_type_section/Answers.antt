-- `parse_type_section` reads the starts and then the entries. Assumes nothing.
use Rattle.std.proofs.lemmas.Result.{err_from_is_err_and}
use Rattle.entries.proofs.LawsEntries.{starts-lie}
use Rattle.payloads.proofs.LawsTypeSection.{types-stop, types-got, types-refused, rows-refused, rows-filled}
use Rattle.payloads.proofs.types.parse_type_section.Goals as goal

pub decode_type_entries-requires : goal.decode_type_entries-requires
decode_type_entries-requires c =
    record {
      lies = starts-lie _ _ _ _ _ c.in_ok-starts.ensures;
      payload_bound = c.requires.words;
    }

pub returns-in_err-starts : goal.returns-in_err-starts
returns-in_err-starts c =
    let p = err_from_is_err_and c.from_residual.result c.from_residual.ensures.1 in
    rw (p.1, p.2) (types-refused _ _ _ _ _ (types-stop _ _ _ c.in_err-starts.ensures))

pub returns-in_err-end : goal.returns-in_err-end
returns-in_err-end c =
    let p = err_from_is_err_and c.from_residual-in_err-end.result c.from_residual-in_err-end.ensures.1 in
    rw (p.1, p.2, types-got _ _ _ c.in_ok-starts.ensures) (rows-refused _ _ _ _ _ _ _ c.in_err-end.ensures)

pub returns : goal.returns
returns c = rw (types-got _ _ _ c.in_ok-starts.ensures) (rows-filled _ _ _ _ _ _ _ c.in_ok-end.ensures)
