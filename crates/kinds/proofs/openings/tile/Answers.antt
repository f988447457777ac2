-- `tile` puts the dims and, where there are some, their x. Assumes nothing.
use Rattle.std.proofs.Common.{refl}
use Rattle.kinds.proofs.LawsOpenings.{tile-scalar, tile-ranked}
use Rattle.kinds.proofs.openings.tile.Goals as goal

pub returns-then-word_at-eq0 : goal.returns-then-word_at-eq0
returns-then-word_at-eq0 c =
    tile-scalar _ _ _ _ _ refl c.put_text-opened.ensures c.put_list-dims.ensures c.word_at.ensures c.if-word_at-eq0.true

pub returns : goal.returns
returns c =
    tile-ranked _ _ _ _ _ refl c.put_text-opened.ensures c.put_list-dims.ensures c.word_at.ensures c.if-word_at-eq0.false c.put_byte.ensures
