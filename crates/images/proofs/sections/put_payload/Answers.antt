-- `put_payload` goes by the section. Assumes nothing.
use Rattle.images.proofs.LawsSections.{globals-payload, functions-payload}
use Rattle.images.proofs.sections.put_payload.Goals as goal

pub returns-in-Global : goal.returns-in-Global
returns-in-Global c = rw c.in-Global.is (globals-payload c.table_at-globals.ensures c.put_counted.ensures)

pub returns-in-Func : goal.returns-in-Func
returns-in-Func c = rw c.in-Func.is (functions-payload c.table_at-functions.ensures c.put_counted-in-Func.ensures)
