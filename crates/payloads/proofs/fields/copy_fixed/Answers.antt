-- `copy_fixed` judges that all numbers are there, and then puts them. Assumes nothing.
use mathlib.Core.Path.{ap, ◌∙◌}
use Rattle.exact.specs.Fixed.{nums}
use Rattle.sheet.specs.Store.{put_words}
use Rattle.payloads.proofs.LawsArrays.{several-step, several-end, rest_all}
use Rattle.payloads.proofs.fields.copy_fixed.Goals as goal

pub returns-then-room-count : goal.returns-then-room-count
returns-then-room-count c =
    let q = c.requires in
    several-end _ _ _ _ _ _ q.width_nonzero.0 q.pos_in_bounds.0 c.if-room-count.true

pub returns : goal.returns
returns c =
    let a = c.args in
    let q = c.requires in
    let p = c.put_numbers.ensures ∙ ap (λ l. put_words a.sheet.now a.at.word (nums a.count a.width l)) (rest_all a.entry.now a.at.pos) in
    several-step _ _ _ _ _ _ q.width_nonzero.0 q.pos_in_bounds.0 c.if-room-count.false p
