-- `put_ids` puts the numbers behind those that stand before the list. Assumes nothing.
use mathlib.Core.Path.{sym, ap, ◌∙◌}
use Prim.Native.Nat.{◌-◌, ◌*◌}
use Rattle.exact.specs.Fixed.{nums}
use Rattle.sheet.specs.Store.{put_words}
use Rattle.payloads.proofs.LawsArrays.{rest_all, nums-from}
use Rattle.payloads.proofs.debug.put_ids.Goals as goal

pub returns : goal.returns
returns c =
    let g = c.args in
    let a = g.start.0 in
    let e = g.end.0 in
    c.put_numbers.ensures ∙ ap (λ l. put_words g.sheet.now g.at (nums (e - a) 8 l)) (rest_all g.ids.now (a * 8)) ∙
    ap (λ ws. put_words g.sheet.now g.at ws) (sym (nums-from a e 8 g.ids.now c.requires.start_le_end.0))
