-- The names of a table, row by row: each is the text of its row, made of the names before it. Assumes nothing.
use mathlib.Core.Path.{◌≡◌, refl, sym, ap, ◌∙◌, subst}
use Prim.Native.Nat.{ℕ, zero, suc, ◌+◌, ◌<◌}
use native.Mathlib.Nat.{add-zero, zero-add, not-suc-le-zero}
use native.Mathlib.Omega.{arith}
use mathlib.Core.List.{List, [], ◌∷◌, ◌++◌}
use lib.ListN.{length, take, get_or, length-append}
use lib.Seq.{take-append_seam, take-length, get_or-take, get_or_at, take-take}
use Rattle.format.specs.Tables.{TypeRow, plain}
use Rattle.format.specs.Names.{type_text, names_from, names_of}

-- There are as many names as rows ..
names-counted : (earlier : List (List ℕ)) (rows : List TypeRow) → length (names_from earlier rows) ≡ length earlier + length rows
names-counted earlier [] = sym (add-zero (length earlier))
names-counted earlier (row ∷ rows) =
    let l = length-append earlier (type_text earlier row ∷ []) in
    let n = names-counted (earlier ++ (type_text earlier row ∷ [])) rows in
    omega arith

pub length-names : (rows : List TypeRow) → length (names_of rows) ≡ length rows
length-names rows = names-counted [] rows ∙ zero-add (length rows)

-- .. the first of them are those that there were ..
names-front : (earlier : List (List ℕ)) (rows : List TypeRow) → take (length earlier) (names_from earlier rows) ≡ earlier
names-front earlier [] = take-length earlier
names-front earlier (row ∷ rows) =
    let more = earlier ++ (type_text earlier row ∷ []) in
    let l : length more ≡ length earlier + 1 = length-append earlier (type_text earlier row ∷ []) in
    sym (take-take (length earlier) (length more) (names_from more rows) (omega arith)) ∙
    ap (take (length earlier)) (names-front more rows) ∙ take-append_seam earlier (type_text earlier row ∷ [])

-- .. and behind them each is the text of its row.
name-from : (earlier : List (List ℕ)) (rows : List TypeRow) (k : ℕ) → k < length rows →
    get_or (names_from earlier rows) (length earlier + k) [] ≡
    type_text (take (length earlier + k) (names_from earlier rows)) (get_or rows k (plain 0))
name-from earlier [] k h = absurd (not-suc-le-zero h)
name-from earlier (row ∷ rows) zero h =
    let more = earlier ++ (type_text earlier row ∷ []) in
    let l : length more ≡ length earlier + 1 = length-append earlier (type_text earlier row ∷ []) in
    let here : get_or (names_from more rows) (length earlier) [] ≡ type_text earlier row =
    sym (get_or-take (length more) (names_from more rows) (length earlier) [] (omega arith)) ∙
    ap (λ ns. get_or ns (length earlier) []) (names-front more rows) ∙ get_or_at earlier (type_text earlier row) [] [] (length earlier) refl in
    rw add-zero (here ∙ ap (λ ns. type_text ns row) (sym (names-front earlier (row ∷ rows))))
name-from earlier (row ∷ rows) (suc k) h =
    let more = earlier ++ (type_text earlier row ∷ []) in
    let l : length more ≡ length earlier + 1 = length-append earlier (type_text earlier row ∷ []) in
    let e : length more + k ≡ length earlier + suc k = omega arith in
    subst (λ i. get_or (names_from more rows) i [] ≡ type_text (take i (names_from more rows)) (get_or rows k (plain 0))) e
    (name-from more rows k (omega arith))

pub name-at : (rows : List TypeRow) (k : ℕ) → k < length rows →
    get_or (names_of rows) k [] ≡ type_text (take k (names_of rows)) (get_or rows k (plain 0))
name-at rows k h =
    subst (λ i. get_or (names_of rows) i [] ≡ type_text (take i (names_of rows)) (get_or rows k (plain 0))) (zero-add k) (name-from [] rows k h)
