-- `put_attribute` puts the tag, and the fields behind it. Assumes nothing.
use mathlib.Core.Path.{ap, ◌∙◌}
use Prim.Native.Nat.{◌+◌}
use Rattle.sheet.specs.Store.{put_words}
use Rattle.payloads.proofs.debug.put_attribute.Goals as goal

pub returns : goal.returns
unfolding put_words
returns c = c.put_row.ensures ∙ ap (λ s. put_words s (c.args.word + 1) c.args.fields) c.put_word.ensures
