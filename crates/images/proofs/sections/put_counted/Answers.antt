-- `put_counted` puts a count and rows. Assumes nothing.
use Rattle.images.proofs.LawsSections.{counted-put}
use Rattle.images.proofs.sections.put_counted.Goals as goal

pub returns : goal.returns
returns c = counted-put c.put_varint-first.ensures c.put_rows.ensures
