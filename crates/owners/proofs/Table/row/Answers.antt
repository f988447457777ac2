-- `row_at` reads the three words of a row. Assumes nothing.
use mathlib.Core.Path.{◌≡◌, ap, ◌∙◌}
use Prim.Native.Nat.{ℕ, ◌+◌, ◌*◌, ◌-◌, ◌≤◌}
use native.Mathlib.Nat.{add-zero}
use native.Mathlib.Omega.{arith}
use mathlib.Core.List.{List}
use lib.ListN.{length, take, drop, get_or}
use Rattle.sheet.specs.Store.{words_in}
use Rattle.owners.specs.Owners.{row_at}
use Rattle.slots.proofs.LawsTable.{row_word}
use Rattle.owners.proofs.Table.row.Goals as goal

-- The words of a row, as they are read.
row_read : (owners : List ℕ) (k a b c : ℕ) → k * 24 + 24 ≤ length owners →
    a ≡ get_or (words_in (take (k * 24 + 24 - k * 24) (drop (k * 24) owners))) 0 0 →
    b ≡ get_or (words_in (take (k * 24 + 24 - k * 24) (drop (k * 24) owners))) 1 0 →
    c ≡ get_or (words_in (take (k * 24 + 24 - k * 24) (drop (k * 24) owners))) 2 0 →
    record { mark = a; instance = b; len = c } ≡ row_at owners k
row_read owners k a b c h e f g =
    let x : a ≡ get_or (words_in owners) (3 * k) 0 = e ∙ row_word owners k 0 h (omega arith) ∙ ap (λ j. get_or (words_in owners) j 0) (add-zero (3 * k)) in
    let y : b ≡ get_or (words_in owners) (3 * k + 1) 0 = f ∙ row_word owners k 1 h (omega arith) in
    let z : c ≡ get_or (words_in owners) (3 * k + 2) 0 = g ∙ row_word owners k 2 h (omega arith) in
    rw (x, y, z)

pub returns : goal.returns
returns c =
    row_read c.args.self.owners.now c.args.row _ _ _ (omega arith) c.word_at.ensures c.word_at-2.ensures
    c.word_at-3.ensures
