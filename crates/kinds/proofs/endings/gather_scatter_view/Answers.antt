-- `gather_scatter_view` puts its sparse dimension, and its padding, if it is there. Assumes nothing.
use Rattle.std.proofs.Common.{refl}
use Rattle.kinds.proofs.LawsEndings.{gather-scatter-view-ending}
use Rattle.kinds.proofs.endings.gather_scatter_view.Goals as goal

pub returns : goal.returns
returns c =
    gather-scatter-view-ending _ _ _ _ _ c.ranges.behind.fits c.put_text.ensures c.word_at-dimension.ensures
    c.put_decimal-sparse.ensures refl c.close.ensures
