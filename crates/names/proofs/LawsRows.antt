-- Where the rows of types stand in a sheet that has them. Assumes nothing.
use mathlib.Core.Path.{◌≡◌, refl, sym, ap, ◌∙◌, subst}
use Prim.Native.Nat.{ℕ, zero, suc, ◌+◌, ◌/◌, ◌^◌, ◌<◌}
use native.Mathlib.Nat.{not-suc-le-zero}
use native.Mathlib.Omega.{arith}
use mathlib.Core.List.{List, [], ◌∷◌, ◌++◌, map}
use mathlib.Core.Option.{Option, none, some}
use lib.ListN.{length, drop, get_or}
use lib.Seq.{drop-cons}
use Rattle.exact.specs.Tiling.{join}
use Rattle.format.specs.Tables.{TypeRow, plain}
use Rattle.format.specs.Sheet.{Frame, field_words, type_words, words_of}
use Rattle.format.specs.Sound.{All, SoundType, class_in}
use Rattle.sheet.specs.Store.{words_in}
use Rattle.sheet.specs.Lies.{Lies}
use Rattle.sheet.proofs.LawsWords.{length-words_in}
use Rattle.sheet.proofs.LawsLies.{lies-front, lies-back, lies-first, lies-inside}
use Rattle.judge.specs.Judge.{judged_bytes}
use Rattle.judge.proofs.LawsPlaced.{judged-holds}
use Rattle.judge.proofs.LawsBodies.{types-lie}
use Rattle.names.specs.Names.{types_of, types_in, RowAt}

-- A sheet that has a row of types is well-formed: its words are those of a frame with these types.
pub record Known (s : List ℕ) : Type 0 where
  pub frame : Frame
  pub judged : judged_bytes s ≡ some frame
  pub words : words_in s ≡ words_of frame
  pub types : types_in s ≡ frame.types
  pub sound : All (SoundType (class_in frame)) (types_in s)

pub frame-known : (s : List ℕ) (r : Frame) → judged_bytes s ≡ some r → Known s
unfolding types_of
frame-known s r e =
    let h = judged-holds s r e in
    let t : types_in s ≡ r.types = ap types_of e in
    record {
      frame = r;
      judged = e;
      words = h.words;
      types = t;
      sound = subst (All (SoundType (class_in r))) (sym t) h.sound.types;
    }

pub known : (s : List ℕ) (k : ℕ) → k < length (types_in s) → Known s
unfolding types_of
known s k = go (judged_bytes s) refl
  where
    go : (o : Option Frame) → judged_bytes s ≡ o → k < length (types_of o) → Known s
    go none e h = absurd (not-suc-le-zero h)
    go (some r) e h = frame-known s r e

-- Each row is sound.
all-at : {A : Type 0} (P : A → Type 0) (d : A) (l : List A) → All P l → (k : ℕ) → k < length l → P (get_or l k d)
all-at P d [] a k h = absurd (not-suc-le-zero h)
all-at P d (x ∷ xs) a zero h = a.0
all-at P d (x ∷ xs) a (suc k) h = all-at P d xs a.1 k (omega arith)

pub row-sound : (s : List ℕ) (x : Known s) (k : ℕ) → k < length (types_in s) → SoundType (class_in x.frame) (get_or (types_in s) k (plain 0))
row-sound s x k h = all-at (SoundType (class_in x.frame)) (plain 0) (types_in s) x.sound k h

-- The rows from k on stand from a word on.
abbrev pub RowsFrom : List ℕ → ℕ → ℕ → Type 0
RowsFrom s word k = Lies (words_in s) word (join (map type_words (drop k (types_in s))))

-- All of them stand from the word on that the contents name ..
pub rows-begin : (s : List ℕ) (k word : ℕ) → k < length (types_in s) → word ≡ get_or (words_in s) 7 0 → RowsFrom s word 0
rows-begin s k word h e =
    let x = known s k h in
    subst (λ w. RowsFrom s w 0) (sym e)
    (rw (x.words, x.types) (types-lie x.frame))

-- .. so that the next ones stand behind a row ..
module _ (s : List ℕ) (word k : ℕ) (h : k < length (types_in s)) (l : RowsFrom s word k) where
  abbrev row : TypeRow
  row = get_or (types_in s) k (plain 0)

  rows_split : Lies (words_in s) word (type_words row ++ join (map type_words (drop (suc k) (types_in s))))
  rows_split = subst (λ rs. Lies (words_in s) word (join (map type_words rs))) (drop-cons (types_in s) k (plain 0) h) l

  pub row-passed : (count : ℕ) → count ≡ get_or (words_in s) word 0 → RowsFrom s (word + 1 + count) (suc k)
  unfolding type_words
  row-passed count e =
      let c : count ≡ length (field_words row) = e ∙ lies-first (length (field_words row)) _ rows_split in
      let n : word + suc (length (field_words row)) ≡ word + 1 + count = omega arith in
      subst (λ w. RowsFrom s w (suc k)) n (lies-back (type_words row) _ rows_split)

  -- .. and the tag of a row behind the number of its words.
  pub row-tagged : RowAt s k (word + 1)
  unfolding type_words
  row-tagged = record { lies = lies-back (length (field_words row) ∷ []) (field_words row) (lies-front (type_words row) _ rows_split) }

-- A part of the words ends far below 2^64.
pub place-small : (s : List ℕ) (word : ℕ) {part : List ℕ} → length s < 2 ^ 64 → Lies (words_in s) word part → word + length part < 2 ^ 62
place-small s word {part} fit l =
    let w : length (words_in s) ≡ length s / 8 = length-words_in s in
    let i = lies-inside part l in
    omega arith
