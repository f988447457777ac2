-- The name of a row that is there, from what was put of it. Assumes nothing.
use mathlib.Core.Path.{◌≡◌, sym, ap, ◌∙◌}
use Prim.Native.Nat.{ℕ, ◌+◌, ◌/◌, ◌^◌, ◌≤◌, ◌<◌}
use native.Mathlib.Omega.{arith}
use mathlib.Core.List.{List, []}
use lib.ListN.{length, get_or}
use Rattle.enums.specs.declared.VersionClass.{VersionClass}
use Rattle.enums.specs.Types.{tag_func}
use Rattle.format.specs.Tables.{TypeRow, plain}
use Rattle.format.specs.Kinds.{kind_of}
use Rattle.format.specs.Sound.{SoundType, class_in}
use Rattle.format.specs.Names.{ascii, listed}
use Rattle.format.proofs.LawsNames.{name-at}
use Rattle.sheet.specs.Store.{words_in}
use Rattle.sheet.specs.Lies.{Lies}
use Rattle.sheet.proofs.LawsWords.{length-words_in}
use Rattle.text.specs.Text.{Put}
use Rattle.text.specs.declared.Pen.{Pen}
use Rattle.text.proofs.LawsText.{put_then, put_as}
use Rattle.kinds.specs.declared.Indices.{Indices}
use Rattle.kinds.specs.Indices.{counted_from, indices}
use Rattle.kinds.specs.Parts.{opening, ending}
use Rattle.names.specs.Names.{types_in, name_at, list_at, RowAt}
use Rattle.names.proofs.LawsRows.{known, row-sound}
use Rattle.names.proofs.LawsDescribed.{
  earlier,
  indices_of,
  rest_of,
  Found,
  found_inside,
  found-listed,
  found-behind,
  Function,
  tagged-function,
  row-found,
  results-found,
  row-text,
  function-text,
}

module _ (s : List ℕ) (small : length s < 2 ^ 64) (row : ℕ) (h : row < length (types_in s)) (at tag : ℕ) (a : RowAt s row at)
    (e : tag ≡ get_or (words_in s) at 0) (x : Indices) (n : x ≡ indices (kind_of tag) (words_in s) at) where
  fit : length (words_in s) < 2 ^ 64
  fit = let w : length (words_in s) ≡ length s / 8 = length-words_in s in omega arith

  abbrev class : VersionClass
  class = class_in (known s row h).frame

  abbrev y : TypeRow
  y = get_or (types_in s) row (plain 0)

  sound : SoundType class y
  sound = row-sound s (known s row h) row h

  first_found : Found s (indices_of y) (rest_of y) x
  first_found = row-found s fit at tag e x n class y sound a.lies

  -- Its first indices are inside the sheet, and so are its second ones.
  pub first-inside : x.word + x.count ≤ length (words_in s)
  first-inside = found_inside s (indices_of y) (rest_of y) first_found

  a_function : tag ≡ tag_func → Function y
  a_function m = tagged-function s fit at tag e class y sound a.lies m

  module _ (behind : ℕ) (b : behind ≡ x.word + x.count) where
    rest-lies : Lies (words_in s) behind (rest_of y)
    rest-lies = found-behind s (indices_of y) (rest_of y) first_found behind b

    second-found : (m : tag ≡ tag_func) (z : Indices) → z ≡ counted_from (words_in s) behind → Found s (a_function m).results [] z
    second-found m z c = results-found s fit behind y (a_function m) rest-lies c

    pub second-inside : tag ≡ tag_func → (z : Indices) → z ≡ counted_from (words_in s) behind → z.word + z.count ≤ length (words_in s)
    second-inside m z c = found_inside s (a_function m).results [] (second-found m z c)

    module _ (p q r t : Pen) (out out1 out2 out3 : List ℕ) (o : Put (opening (kind_of tag) tag (words_in s) at) p out out1 q)
        (l : Put (list_at s row x.word x.count) q out1 out2 r) (w : Put (ending (kind_of tag) (words_in s) at behind) r out2 out3 t) where
      -- What was put is its name.
      pub type-named : ¬ (tag ≡ tag_func) → Put (name_at s row) p out out3 t
      type-named z =
          put_as (row-text s fit at tag e (earlier s row) behind class y sound a.lies rest-lies z ∙ sym (name-at (types_in s) row h))
          (put_then o (put_then (put_as (found-listed s (indices_of y) (rest_of y) first_found row) l) w))

      pub function-named : tag ≡ tag_func → (z : Indices) → z ≡ counted_from (words_in s) behind → {u v : Pen} {out4 out5 : List ℕ} →
          Put (list_at s row z.word z.count) t out3 out4 u → Put (ascii ")") u out4 out5 v → Put (name_at s row) p out out5 v
      function-named m z c j d =
          let f = a_function m in
          let i = found-listed s (indices_of y) (rest_of y) first_found row ∙ ap (λ k. listed (earlier s row) (indices_of k)) f.same in
          put_as (function-text s fit at tag e (earlier s row) behind y f m ∙ sym (name-at (types_in s) row h))
          (put_then o (put_then (put_as i l) (put_then w (put_then (put_as (found-listed s f.results [] (second-found m z c) row) j) d))))
