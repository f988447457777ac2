-- The names of a list, one behind the other, and the numbers that fall. Assumes nothing.
use mathlib.Core.Path.{◌≡◌, refl, sym, ap, ◌∙◌}
use Prim.Native.Nat.{ℕ, zero, suc, ◌+◌, ◌-◌, ◌*◌, ◌^◌, ◌≤◌, ◌<◌}
use native.Mathlib.Nat.{not-suc-le-zero}
use native.Mathlib.Numerals.{add-one}
use native.Mathlib.Omega.{arith}
use mathlib.Core.List.{List, [], ◌∷◌, ◌++◌, append-nil, append_assoc}
use lib.ListN.{length, take, drop, get_or, length-drop, get_or-eq_default}
use lib.Seq.{drop-cons, get_or-take, length-take-le}
use Rattle.format.specs.Names.{ascii, named, listed, names_of}
use Rattle.format.proofs.LawsNames.{length-names}
use Rattle.sheet.specs.Store.{words_in}
use Rattle.text.specs.Text.{Put}
use Rattle.text.specs.declared.Pen.{Pen}
use Rattle.text.proofs.LawsText.{put_then, put_as, put-nothing}
use Rattle.names.specs.Names.{types_in, name_at, list_at}
use Rattle.names.proofs.LawsDescribed.{earlier}

-- Row number and list items left are the numbers that fall: a type is above each list of its row, and a list is above
-- each type of an earlier row.
abbrev pub of_type : ℕ → ℕ
of_type row = (2 * row + 1) * 2 ^ 64

abbrev pub of_list : ℕ → ℕ → ℕ
of_list row left = 2 * row * 2 ^ 64 + left

-- What is there does not depend on what stands for what is not.
there : {A : Type 0} (l : List A) (k : ℕ) (a b : A) → k < length l → get_or l k a ≡ get_or l k b
there [] k a b h = absurd (not-suc-le-zero h)
there (x ∷ l) zero a b h = refl
there (x ∷ l) (suc k) a b h = there l k a b (omega arith)

module _ (s : List ℕ) (row : ℕ) (h : row < length (types_in s)) where
  -- An earlier row has its name, and another one is "?".
  pub earlier-named : (index : ℕ) → index < row → name_at s index ≡ named (earlier s row) index
  earlier-named index k =
      let n = length-names (types_in s) in
      there (names_of (types_in s)) index [] (ascii "?") (omega arith) ∙ sym (get_or-take row (names_of (types_in s)) index (ascii "?") k)

  pub later-named : (index : ℕ) → row ≤ index → ascii "?" ≡ named (earlier s row) index
  later-named index k =
      let n = length-names (types_in s) in
      let m : length (earlier s row) ≡ row = length-take-le row (names_of (types_in s)) (omega arith) in
      sym (get_or-eq_default (earlier s row) (ascii "?") (omega arith))

-- A text was put, by other names of the buffer and of the pen.
pub put-into : {t : List ℕ} {p q q' : Pen} {out o o' : List ℕ} → o' ≡ o → q' ≡ q → Put t p out o q → Put t p out o' q'
put-into {t} {p} {out = out} e f x = rw (e, f) x

-- What was put for the index that stands in a word: the name of an earlier row, ..
module _ (s : List ℕ) (row : ℕ) (h : row < length (types_in s)) (word : ℕ) {index : ℕ} (i : index ≡ get_or (words_in s) word 0) where
  pub put-earlier : {p q q' : Pen} {out o o' : List ℕ} → index < row → o' ≡ o → q' ≡ q → Put (name_at s index) p out o q →
      Put (named (earlier s row) (get_or (words_in s) word 0)) p out o' q'
  put-earlier k e f x = put-into e f (put_as (earlier-named s row h index k ∙ ap (named (earlier s row)) i) x)

  -- .. and "?" for another one.
  pub put-later : {p q q' : Pen} {out o o' : List ℕ} → row ≤ index → o' ≡ o → q' ≡ q → Put (ascii "?") p out o q →
      Put (named (earlier s row) (get_or (words_in s) word 0)) p out o' q'
  put-later k e f x = put-into e f (put_as (later-named s row h index k ∙ ap (named (earlier s row)) i) x)

module _ (s : List ℕ) (row word left : ℕ) (h : word + left ≤ length (words_in s)) where
  abbrev index : ℕ
  index = get_or (words_in s) word 0

  -- The next index, and those behind it.
  indices-next : 0 < left → take left (drop word (words_in s)) ≡ index ∷ take (left - 1) (drop (word + 1) (words_in s))
  indices-next z =
      let e : left ≡ suc (left - 1) = omega arith in
      let d = drop-cons (words_in s) word 0 (omega arith) in
      rw add-one (ap (λ n. take n (drop word (words_in s))) e ∙ ap (take (suc (left - 1))) d)

  -- No name ..
  pub list-empty : {p : Pen} {out : List ℕ} → left ≡ 0 → Put (list_at s row word left) p out out p
  list-empty {p} {out} z =
      put_as (ap (λ n. list_at s row word n) (sym z)) put-nothing

  -- .. the last one ..
  pub list-last : {p q : Pen} {out out' : List ℕ} → left ≡ 1 → Put (named (earlier s row) index) p out out' q →
      Put (list_at s row word left) p out out' q
  list-last z x =
      put_as
      (sym (append-nil (named (earlier s row) index)) ∙
      ap (listed (earlier s row)) (sym (indices-next (omega arith) ∙ ap (λ n. index ∷ take (n - 1) (drop (word + 1) (words_in s))) z))) x

  -- .. or the next one, a separator, and the rest.
  pub list-next : {p q r t : Pen} {out out1 out2 out' : List ℕ} → ¬ (left ≡ 0) → ¬ (left ≡ 1) → Put (named (earlier s row) index) p out out1 q →
      Put (ascii ", ") q out1 out2 r → Put (list_at s row (word + 1) (left - 1)) r out2 out' t → Put (list_at s row word left) p out out' t
  list-next z y a b c = put_as (sym text) (put_then a (put_then b c))
    where
      rest : List ℕ
      rest = take (left - 1) (drop (word + 1) (words_in s))

      apart : (i : ℕ) (is : List ℕ) → 0 < length is → listed (earlier s row) (i ∷ is) ≡ named (earlier s row) i ++ (ascii ", " ++ listed (earlier s row) is)
      apart i [] n = absurd (omega arith)
      apart i (j ∷ js) n = ap (λ t. named (earlier s row) i ++ t) (append_assoc (ascii ", ") (named (earlier s row) j) _)

      text : list_at s row word left ≡ named (earlier s row) index ++ (ascii ", " ++ list_at s row (word + 1) (left - 1))
      text =
          let d = length-drop (word + 1) (words_in s) in
          let l : length rest ≡ left - 1 = length-take-le (left - 1) (drop (word + 1) (words_in s)) (omega arith) in
          ap (listed (earlier s row)) (indices-next (omega arith)) ∙ apart index rest (omega arith)
