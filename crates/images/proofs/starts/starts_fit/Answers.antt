-- `starts_fit` asks of the four tables one after the other. Assumes nothing.
use Rattle.std.proofs.Common.{refl}
use Rattle.images.specs.declared.rows.Row.TheVariants as row
use Rattle.images.proofs.LawsStarts.{PartTold, StringsFit, TypesFit, ListsFit, entries-told, lists-told, strings-told, types-told, ids-told, attributes-told, both-told, both-not, all_told}
use Rattle.images.proofs.starts.starts_fit.Goals as goal
use Rattle.images.proofs.starts.starts_fit.Goals.{Joined-entries_fit-2, then-entries_fit, else-entries_fit, then-entries_fit-2, else-entries_fit-2}

-- What is told once three tables were asked.
three : (c : Joined-entries_fit-2) →
    PartTold c.args.source.now.class c.args.source.now.sheet.now (λ t. (StringsFit t × TypesFit t) × ListsFit t) c.if-entries_fit-2.value
three c =
    let strings = strings-told (entries-told row.Run 5 6 4 c.table_at-strings.ensures c.entries_fit.ensures) in
    let two : PartTold c.args.source.now.class c.args.source.now.sheet.now (λ t. StringsFit t × TypesFit t) c.if-entries_fit.value =
    elim c.if-entries_fit.branch [
      | then-entries_fit w ↦
          both-told strings w.if-entries_fit.true
          (types-told (entries-told row.Type 7 8 4 c.table_at-types.ensures w.entries_fit-then-entries_fit.ensures)) w.value-is
      | else-entries_fit w ↦ both-not strings w.if-entries_fit.false w.value-is
    ] in
    elim c.if-entries_fit-2.branch [
      | then-entries_fit-2 w ↦
          both-told two w.if-entries_fit-2.true (ids-told (lists-told c.table_at-lists.ensures w.lists_fit.ensures)) w.value-is
      | else-entries_fit-2 w ↦ both-not two w.if-entries_fit-2.false w.value-is
    ]

pub returns-then-lists_fit : goal.returns-then-lists_fit
returns-then-lists_fit c =
    let attributes = attributes-told (entries-told row.Attribute 15 16 4 c.table_at-attributes.ensures c.entries_fit-then-lists_fit.ensures) in
    all_told (both-told (three (goal.at.returns-then-lists_fit c).Joined-entries_fit-2) c.if-lists_fit.true attributes refl)

pub returns-else-lists_fit : goal.returns-else-lists_fit
returns-else-lists_fit c =
    all_told (both-not (three (goal.at.returns-else-lists_fit c).Joined-entries_fit-2) c.if-lists_fit.false refl)
