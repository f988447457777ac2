-- What is answered of a row, by what was measured and put. Assumes nothing.
use mathlib.Core.Path.{◌≡◌, refl, sym, ap, ap₂, ◌∙◌, subst}
use mathlib.Core.Logic.{⊎_elim}
use Prim.Native.Nat.{ℕ, ◌-◌, ◌≤◌, ◌<◌}
use native.Mathlib.Decide.{dec_le, dec_lt}
use native.Mathlib.Nat.{zero-add}
use native.Mathlib.Omega.{arith}
use mathlib.Core.List.{List, [], ◌∷◌}
use lib.ListN.{length, take, get_or}
use lib.Seq.{take_all}
use denote.Enum.Declared.{tag_of}
use types.Run.{OneOf}
use Rattle.exact.proofs.LawsChoice.{choose_yes, choose_no}
use Rattle.encoding.specs.Out.{put}
use Rattle.encoding.proofs.LawsOut.{put_same}
use Rattle.format.specs.Read.{Read, accepted, map_read}
use Rattle.format.specs.Names.{names_of, name_in}
use Rattle.sheet.specs.Store.{words_in}
use Rattle.judge.specs.Judge.{judged_bytes, judged_read, summary}
use Rattle.judge.specs.declared.Judged.{Judged}
use Rattle.std.specs.Prelude.{Result, Ok, Err, Some, None}
use Rattle.std.specs.Prelude as code
use Rattle.enums.specs.declared.Refusal.{Refusal}
use Rattle.enums.specs.declared.Refusal.TheVariants as why
use Rattle.judge.proofs.LawsPlaced.{stopped_none, passed-of}
use Rattle.judge.proofs.LawsBodies.{types-counted}
use Rattle.text.specs.Text.{Put}
use Rattle.text.specs.declared.Pen.{Pen}
use Rattle.text.specs.contracts.Pen.{the_type as pen-type}
use Rattle.text.specs.declared.Pen.TheVariants.{At, Counting}
use Rattle.text.proofs.LawsText.{behind-room, behind-short, counted-room, counted-short, filled_at, filled-counting}
use Rattle.names.specs.Names.{types_in, name_at, fitting, name_for, with_name, name_read}
use Rattle.names.proofs.LawsRows.{Known, known, frame-known}

-- This is what is answered, and this is left in the buffer.
abbrev pub Answered : List ℕ → ℕ → List ℕ → List ℕ → Result ℕ Refusal → Type 0
Answered s row out out' r = (name_read r ≡ map_read length (name_for s row out)) × (out' ≡ with_name out (name_for s row out))

-- What the answer and the buffer are, by the name that is told for the buffer.
answered-by : (s : List ℕ) (row : ℕ) (out out' : List ℕ) (r : Result ℕ Refusal) (n : Read (List ℕ)) → name_for s row out ≡ n →
    name_read r ≡ map_read length n → out' ≡ with_name out n → Answered s row out out' r
answered-by s row out out' r n e a b = (a ∙ ap (map_read length) (sym e), b ∙ ap (with_name out) (sym e))

-- A row that is there has its name ..
name-there : (s : List ℕ) (row : ℕ) → row < length (types_in s) → name_in (judged_bytes s) row ≡ accepted (name_at s row)
unfolding name_in
name-there s row h =
    let k = known s row h in
    let l : row < length k.frame.types = subst (λ ts. row < length ts) k.types h in
    ap (λ o. name_in o row) k.judged ∙ choose_yes (dec_lt row (length k.frame.types)) _ _ l ∙
    ap (λ ts. accepted (get_or (names_of ts) row [])) (sym k.types)

-- A pen that counts is neither at a place nor full.
not-counting : OneOf (0 ∷ 2 ∷ []) 1 → ⊥
not-counting f = ⊎_elim (λ e. omega (arith, e)) (λ e. omega (arith, e)) f

module _ (s : List ℕ) (row : ℕ) (h : row < length (types_in s)) where
  abbrev name : List ℕ
  name = name_at s row

  -- .. that has no room ..
  answered-full : (out : List ℕ) → ¬ (length name ≤ length out) → Answered s row out out (Err why.Full)
  unfolding fitting with_name map_read
  answered-full out n =
      answered-by s row out out (Err why.Full) _
      (ap (fitting (length out)) (name-there s row h) ∙ choose_no (dec_le (length name) (length out)) _ _ n) refl refl

  -- .. or is put.
  answered-put : (out out' : List ℕ) (n : ℕ) → n ≡ length name → n ≤ length out → out' ≡ put out 0 name → Answered s row out out' (Ok n)
  unfolding fitting with_name map_read
  answered-put out out' n e g o =
      answered-by s row out out' (Ok n) _
      (ap (fitting (length out)) (name-there s row h) ∙ choose_yes (dec_le (length name) (length out)) _ _ (omega arith)) (ap accepted e) o

  -- A name that was counted within the buffer's room: it has none, where the pen counts no more ..
  module _ (out kept : List ℕ) {q : Pen} (m : Put name (Counting (length out)) out kept q) where
    untouched : kept ≡ out
    untouched = m.output ∙ filled-counting out name (length out)

    pub name-full : OneOf (0 ∷ 2 ∷ []) (tag_of pen-type q) → Answered s row out kept (Err why.Full)
    name-full f = subst (λ o. Answered s row out o (Err why.Full)) (sym untouched) (answered-full out short)
      where
        short : ¬ (length name ≤ length out)
        short g =
            let e : tag_of pen-type q ≡ 1 = ap (tag_of pen-type) (m.pen ∙ counted-room (length out) name (length out) g) in
            not-counting (subst (OneOf (0 ∷ 2 ∷ [])) e f)

    -- .. or the room that is left ..
    counted-left : (left : ℕ) → q ≡ Counting left → (length name ≤ length out) × (left ≡ length out - length name)
    counted-left left f =
        elim (dec_le (length name) (length out)) [
          | yes g ↦
              let e : Counting left ≡ Counting (length out - length name) = sym f ∙ m.pen ∙ counted-room (length out) name (length out) g in (g, (cc))
          | no g ↦ absurd (omega (arith, ap (tag_of pen-type) (sym (counted-short (length out) name (length out) (omega arith)) ∙ sym m.pen ∙ f)))
        ]

    pub left-within : (left : ℕ) → q ≡ Counting left → left ≤ length out
    left-within left f = let l = counted-left left f in omega (arith, l.1)

    -- .. and is put then.
    pub name-put : (left : ℕ) → q ≡ Counting left → {out' : List ℕ} {r : Pen} → Put name (At 0) kept out' r →
        Answered s row out out' (Ok (length out - left))
    name-put left f {out'} x =
        let l = counted-left left f in
        let e = ap (λ o. put o 0 (take (length o - 0) name)) untouched ∙ ap (put out 0) (take_all (length out - 0) name (omega (arith, l.0))) in
        answered-put out out' (length out - left) (omega (arith, l.0, l.1)) (omega arith) (x.output ∙ filled_at kept name 0 ∙ e)

  -- A name that was put into an array, up to a place ..
  module _ (array : List ℕ) {array' : List ℕ} {q : Pen} (m : Put name (At 0) array array' q) (size : ℕ) (f : q ≡ At size) where
    placed : (length name ≤ length array) × (size ≡ length name)
    placed =
        elim (dec_le (length name) (length array - 0)) [
          | yes g ↦
              let e : At size ≡ At (length name) = sym f ∙ m.pen ∙ behind-room (length array) name 0 g ∙ ap At (zero-add (length name)) in
              (omega arith, (cc))
          | no g ↦ absurd (omega (arith, ap (tag_of pen-type) (sym (behind-short (length array) name 0 (omega arith)) ∙ sym m.pen ∙ f)))
        ]

    pub size-within : size ≤ length array
    size-within = omega (arith, placed.0, placed.1)

    -- .. for which the buffer has no room ..
    pub short-full : (out : List ℕ) → length out < size → Answered s row out out (Err why.Full)
    short-full out g = answered-full out (let k = placed.1 in omega arith)

    -- .. or which was copied.
    pub short-put : (out out' : List ℕ) → size ≤ length out → out' ≡ put out 0 (take size array') → Answered s row out out' (Ok size)
    short-put out out' g o =
        let l = placed in
        let p : array' ≡ put array 0 name =
        m.output ∙ filled_at array name 0 ∙ ap (put array 0) (take_all (length array - 0) name (omega (arith, l.0))) in
        let t : take size array' ≡ name = ap₂ take l.1 p ∙ put_same array 0 name (let k = l.0 in omega arith) in
        answered-put out out' size l.1 g (o ∙ ap (put out 0) t)

-- What is told of a sheet that the judge passed, and of another one.
told-passed : (x : code.Option Judged) (j : Judged) → Ok j ≡ code.ok_or x why.Sheet → x ≡ Some j
told-passed (Some i) j e = cc
told-passed None j e = cc

told-refused : (x : code.Option Judged) (y : Refusal) → Err y ≡ code.ok_or x why.Sheet → (x ≡ None) × (y ≡ why.Sheet)
told-refused (Some i) y e = absurd (cc)
told-refused None y e = (refl, (cc))

module _ (s : List ℕ) (row : ℕ) (out : List ℕ) (x : code.Option Judged) (e : judged_read x ≡ summary (judged_bytes s)) where
  -- A sheet that is not well-formed ..
  pub sheet-refused : {y : Refusal} {r : Result ℕ Refusal} → Err y ≡ code.ok_or x why.Sheet → r ≡ Err y → Answered s row out out r
  unfolding name_in fitting with_name map_read
  sheet-refused {y} h k =
      let t = told-refused x y h in
      let o = stopped_none (judged_bytes s) (sym (ap judged_read t.0) ∙ e) in
      rw (k, t.1) (answered-by s row out out (Err why.Sheet) _ (ap (λ o. fitting (length out) (name_in o row)) o) refl refl)

  -- .. one that passed, whose count of types is so ..
  passed : (j : Judged) → Ok j ≡ code.ok_or x why.Sheet → Known s
  passed j h = let p = passed-of s j (sym (ap judged_read (told-passed x j h)) ∙ e) in frame-known s p.frame p.judged

  pub types-told : (j : Judged) → Ok j ≡ code.ok_or x why.Sheet → (n : ℕ) → n ≡ get_or (words_in s) 8 0 → n ≡ length (types_in s)
  types-told j h n f =
      let k = passed j h in
      f ∙ ap (λ l. get_or l 8 0) k.words ∙ types-counted k.frame ∙ ap length (sym k.types)

  -- .. and that does not have the row.
  pub row-refused : (j : Judged) → Ok j ≡ code.ok_or x why.Sheet → (n : ℕ) → n ≡ get_or (words_in s) 8 0 → n ≤ row →
      Answered s row out out (Err why.Absent)
  unfolding name_in fitting with_name map_read
  row-refused j h n f g =
      let k = passed j h in
      let l = types-told j h n f ∙ ap length k.types in
      let z : ¬ (row < length k.frame.types) = omega arith in
      answered-by s row out out (Err why.Absent) _
      (ap (λ o. fitting (length out) (name_in o row)) k.judged ∙ ap (fitting (length out)) (choose_no (dec_lt row (length k.frame.types)) _ _ z))
      refl refl
