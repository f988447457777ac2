-- `entry_place` reads the starts of a table, and finds the entry. Assumes nothing.
use mathlib.Core.Path.{sym}
use Rattle.std.proofs.lemmas.Result.{err_from_is_err_and}
use Rattle.entries.proofs.LawsEntries.{starts-lie}
use Rattle.entries.proofs.LawsPlaces.{finds-stop, finds-as, table-stop, table_got}
use Rattle.entries.proofs.places.entry_place.Goals as goal

pub find_entry-requires : goal.find_entry-requires
find_entry-requires c = starts-lie _ _ _ _ _ c.in_ok-starts.ensures

pub returns : goal.returns
returns c =
    finds-as _ _ _ _ _
    (table_got _ _ _ (sym c.in_ok-starts.ensures))
    c.find_entry.ensures

pub returns-in_err-starts : goal.returns-in_err-starts
returns-in_err-starts c =
    let p = err_from_is_err_and c.from_residual.result c.from_residual.ensures.1 in
    rw (p.1, p.2) (finds-stop _ _ _ _ (table-stop _ _ _ _ (sym c.in_err-starts.ensures)))
