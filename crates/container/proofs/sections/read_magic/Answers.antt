-- `read_magic` answers the place behind MAGIC. Assumes nothing.
use mathlib.Core.Path.{sym, ◌∙◌}
use Rattle.std.proofs.lemmas.Result.{err_from_is_err_and}
use Rattle.container.proofs.LawsMagic.{magic-short, magic-in, magic-not, magic-yes}
use Rattle.container.proofs.sections.read_magic.Goals as goal

pub returns-in_err-at : goal.returns-in_err-at
returns-in_err-at c =
    let p = err_from_is_err_and c.from_residual.result c.from_residual.ensures.1 in
    rw (p.1, p.2) (magic-short _ _ _ _ c.in_err-at.ensures)

pub is_magic-requires : goal.is_magic-requires
is_magic-requires c = magic-in _ _ _ _ _ c.in_ok-at.ensures

pub returns-then-not-is_magic : goal.returns-then-not-is_magic
returns-then-not-is_magic c =
    magic-not _ _ _ _ _ c.in_ok-at.ensures (sym c.if-not-is_magic.true ∙ c.is_magic.ensures)

pub returns : goal.returns
returns c = magic-yes _ _ _ _ _ c.in_ok-at.ensures (sym c.if-not-is_magic.false ∙ c.is_magic.ensures)
