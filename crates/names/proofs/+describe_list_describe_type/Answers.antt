-- The proof of the cycle of calls {describe_list, describe_type}. A list of a row calls types of earlier rows and the
-- rest of itself, and a type calls lists of its own row: row number and list items left fall. Assumes nothing.
use mathlib.Core.Path.{refl}
use native.Mathlib.Omega.{arith}
use lib.ListN.{get_or}
use Rattle.format.specs.Names.{named}
use Rattle.sheet.specs.Store.{words_in}
use Rattle.sheet.proofs.LawsWords.{length-words_in}
use Rattle.text.specs.Text.{Put}
use Rattle.text.proofs.LawsText.{put-stopped}
use Rattle.kinds.specs.Parts.{part_text}
use Rattle.names.proofs.LawsDescribed.{earlier}
use Rattle.names.proofs.LawsListed.{put-earlier, put-later, list-empty, list-last, list-next}
use Rattle.names.proofs.LawsName.{first-inside, second-inside, type-named, function-named}
use Rattle.names.proofs.+describe_list_describe_type.Goals as goal
use Rattle.names.proofs.+describe_list_describe_type.Goals.{describe_list-then-index-row, describe_list-else-index-row}

pub describe_list-returns-then-left-eq0 : goal.describe_list-returns-then-left-eq0
describe_list-returns-then-left-eq0 t c = list-empty _ c.args.row _ _ c.requires.left_in_bounds c.if-left-eq0.true

pub describe_list-returns-in-Full : goal.describe_list-returns-in-Full
describe_list-returns-in-Full t c = put-stopped _ c.in-Full.is

pub describe_list-returns-then-left-eq1 : goal.describe_list-returns-then-left-eq1
describe_list-returns-then-left-eq1 t c =
    let s = c.args.sheet.now in
    let row = c.args.row in
    let rows = c.requires.row_in_bounds in
    let i = c.word_at-index.ensures in
    let next : Put (named (earlier s row) (get_or (words_in s) c.args.word 0)) c.args.pen c.args.out.now c.if-index-row.out c.if-index-row.named =
    elim c.if-index-row.branch [
      | describe_list-then-index-row w ↦
          put-earlier s row rows _ i w.if-index-row.true w.out-is w.named-is w.describe_type-named.ensures
      | describe_list-else-index-row w ↦
          put-later s row rows _ i w.if-index-row.false w.out-is w.named-is w.put_byte-named.ensures
    ]
    in
    list-last _ row _ _ c.requires.left_in_bounds c.if-left-eq1.true next

pub describe_list-overflow_add-word : goal.describe_list-overflow_add-word
describe_list-overflow_add-word t c =
    let w = length-words_in c.args.sheet.now in
    let z = c.if-left-eq0.false in
    let h = c.requires.left_in_bounds in
    record { fits = omega (arith, w, z, h, c.well_formed.0.0) }

pub describe_list-returns : goal.describe_list-returns
describe_list-returns t c =
    let s = c.args.sheet.now in
    let row = c.args.row in
    let rows = c.requires.row_in_bounds in
    let i = c.word_at-index.ensures in
    let next : Put (named (earlier s row) (get_or (words_in s) c.args.word 0)) c.args.pen c.args.out.now c.if-index-row.out c.if-index-row.named =
    elim c.if-index-row.branch [
      | describe_list-then-index-row w ↦
          put-earlier s row rows _ i w.if-index-row.true w.out-is w.named-is w.describe_type-named.ensures
      | describe_list-else-index-row w ↦
          put-later s row rows _ i w.if-index-row.false w.out-is w.named-is w.put_byte-named.ensures
    ]
    in
    list-next _ row _ _ c.requires.left_in_bounds c.if-left-eq0.false c.if-left-eq1.false next c.put_text-separated.ensures c.describe_list.ensures

pub describe_type-describe_list-listed-requires : goal.describe_type-describe_list-listed-requires
describe_type-describe_list-listed-requires t c =
    let i = first-inside _ c.well_formed.0.0 _ c.requires _ _ c.row_at-at.ensures c.word_at-tag.ensures _ c.indices_at-first.ensures in
    let w = length-words_in c.args.sheet.now in
    (omega (arith, i, w, c.well_formed.0.0, c.decreases), (c.requires, i))

pub describe_type-overflow_add-behind : goal.describe_type-overflow_add-behind
describe_type-overflow_add-behind t c =
    let i = first-inside _ c.well_formed.0.0 _ c.requires _ _ c.row_at-at.ensures c.word_at-tag.ensures _ c.indices_at-first.ensures in
    let w = length-words_in c.args.sheet.now in
    record { fits = omega (arith, i, w, c.well_formed.0.0) }

pub describe_type-returns-then-tag : goal.describe_type-returns-then-tag
unfolding part_text
describe_type-returns-then-tag t c =
    type-named _ c.well_formed.0.0 _ c.requires _ _ c.row_at-at.ensures c.word_at-tag.ensures _ c.indices_at-first.ensures _ refl
    _ _ _ _ _ _ _ _ c.put_part-opened.ensures c.describe_list-listed.ensures c.put_part-ended.ensures c.if-tag.true

pub describe_type-describe_list-results-requires :
    goal.describe_type-describe_list-results-requires
describe_type-describe_list-results-requires t c =
    let i = second-inside _ c.well_formed.0.0 _ c.requires _ _ c.row_at-at.ensures c.word_at-tag.ensures _ c.indices_at-first.ensures _ refl c.if-tag.false _ c.counted_at-second.ensures in
    let w = length-words_in c.args.sheet.now in
    (omega (arith, i, w, c.well_formed.0.0, c.decreases), (c.requires, i))

pub describe_type-returns : goal.describe_type-returns
unfolding part_text
describe_type-returns t c =
    function-named _ c.well_formed.0.0 _ c.requires _ _ c.row_at-at.ensures c.word_at-tag.ensures _ c.indices_at-first.ensures _ refl
    _ _ _ _ _ _ _ _ c.put_part-opened.ensures c.describe_list-listed.ensures c.put_part-ended.ensures c.if-tag.false _
    c.counted_at-second.ensures c.describe_list-results.ensures c.put_byte.ensures
