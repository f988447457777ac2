-- Where the rows of each table stand in a sheet, and their runs in the pool. Assumes nothing.
use Rattle.std.proofs.Common.{◌≡◌, ℕ, ◌+◌, ◌^◌, ◌<◌, ◌≤◌, List, [], ◌∷◌, ◌++◌, map, length, get_or, sym, refl, ap, ◌∙◌, subst, ap₂, arith, length-append}
use lib.ListN.{length-map}
use Rattle.exact.specs.Tiling.{join}
use Rattle.enums.specs.declared.VersionClass.{VersionClass}
use Rattle.format.specs.Tables.{TypeRow, Global, Function, Attribute, Tables}
use Rattle.format.specs.Explains.{class}
use Rattle.format.specs.Sheet.{function_row_of, frame_of, length_words, type_words, global_words, function_words, attribute_words, list_words, bodies, contents, producer_word, words_of, sheet_of, pool_of}
use Rattle.format.specs.Sound.{All, SoundFunction, Sound}
use Rattle.sheet.specs.Lies.{Lies}
use Rattle.images.specs.Rows.{GoodRow, row_words, row_run, row_bytes, Placed}
use Rattle.images.specs.declared.rows.Row.TheVariants as row
use Rattle.format.proofs.LawsPool.{pool-length}
use Rattle.judge.proofs.LawsBodies.{bodies-lie}
use Rattle.sheet.proofs.LawsLies.{lies-front, lies-back, lies-inside}

run-words : (xs : List (List ℕ)) → map length_words (map length xs) ≡ map (row_words row.Run) xs
unfolding row_words
run-words [] = refl
run-words (x ∷ xs) = ap (λ l. length_words (length x) ∷ l) (run-words xs)

function-words : (fs : List Function) → map function_words (map function_row_of fs) ≡ map (row_words row.Function) fs
unfolding row_words
function-words [] = refl
function-words (f ∷ fs) = ap (λ l. function_words (function_row_of f) ∷ l) (function-words fs)

runs-good : (c : VersionClass) (xs : List (List ℕ)) → All (GoodRow c row.Run) xs
unfolding GoodRow
runs-good c [] = tt
runs-good c (x ∷ xs) = (tt, runs-good c xs)

lists-good : (c : VersionClass) (xs : List (List ℕ)) → All (GoodRow c row.List) xs
unfolding GoodRow
lists-good c [] = tt
lists-good c (x ∷ xs) = (tt, lists-good c xs)

functions-good : (c : VersionClass) (fs : List Function) → All SoundFunction (map function_row_of fs) → All (GoodRow c row.Function) fs
unfolding GoodRow
functions-good c [] h = tt
functions-good c (f ∷ fs) h = (h.0, functions-good c fs h.1)

module _ (t : Tables) where
  b0 : List (List ℕ)
  b0 = map length_words (map length t.strings)

  b1 : List (List ℕ)
  b1 = map type_words t.types

  b2 : List (List ℕ)
  b2 = map length_words (map length t.constants)

  b3 : List (List ℕ)
  b3 = map global_words t.globals

  b4 : List (List ℕ)
  b4 = map function_words (map function_row_of t.functions)

  b5 : List (List ℕ)
  b5 = map attribute_words t.attributes

  b6 : List (List ℕ)
  b6 = map list_words t.lists

  at0 : Lies (sheet_of t) 19 (join b0 ++ (join b1 ++ (join b2 ++ (join b3 ++ (join b4 ++ (join b5 ++ (join b6 ++ [])))))))
  unfolding sheet_of frame_of bodies b0 b1 b2 b3 b4 b5 b6
  at0 = bodies-lie (frame_of t)

  at1 : Lies (sheet_of t) (19 + length (join b0)) (join b1 ++ (join b2 ++ (join b3 ++ (join b4 ++ (join b5 ++ (join b6 ++ []))))))
  at1 = lies-back (join b0) _ at0

  at2 : Lies (sheet_of t) (19 + length (join b0) + length (join b1)) (join b2 ++ (join b3 ++ (join b4 ++ (join b5 ++ (join b6 ++ [])))))
  at2 = lies-back (join b1) _ at1

  at3 : Lies (sheet_of t) (19 + length (join b0) + length (join b1) + length (join b2)) (join b3 ++ (join b4 ++ (join b5 ++ (join b6 ++ []))))
  at3 = lies-back (join b2) _ at2

  at4 : Lies (sheet_of t) (19 + length (join b0) + length (join b1) + length (join b2) + length (join b3)) (join b4 ++ (join b5 ++ (join b6 ++ [])))
  at4 = lies-back (join b3) _ at3

  at5 : Lies (sheet_of t) (19 + length (join b0) + length (join b1) + length (join b2) + length (join b3) + length (join b4)) (join b5 ++ (join b6 ++ []))
  at5 = lies-back (join b4) _ at4

  at6 : Lies (sheet_of t) (19 + length (join b0) + length (join b1) + length (join b2) + length (join b3) + length (join b4) + length (join b5)) (join b6 ++ [])
  at6 = lies-back (join b5) _ at5

  -- The rows of each table, from the word that the contents name.
  pub strings-placed : Placed (class t.version) row.Run t.strings (sheet_of t) (get_or (sheet_of t) 5 0) (get_or (sheet_of t) 6 0)
  unfolding sheet_of words_of frame_of bodies contents b0
  strings-placed =
      record {
        lies = subst (λ b. Lies (sheet_of t) 19 (join b)) (run-words t.strings) (lies-front (join b0) _ at0);
        number = sym (length-map (map length t.strings) length_words ∙ length-map t.strings length);
        good = runs-good (class t.version) t.strings;
      }

  pub types-placed : Sound t → Placed (class t.version) row.Type t.types (sheet_of t) (get_or (sheet_of t) 7 0) (get_or (sheet_of t) 8 0)
  unfolding sheet_of words_of frame_of bodies contents b0 b1 row_words GoodRow
  types-placed h =
      record {
        lies = lies-front (join b1) _ at1;
        number = sym (length-map t.types type_words);
        good = h.frame.types;
      }

  pub constants-placed : Placed (class t.version) row.Run t.constants (sheet_of t) (get_or (sheet_of t) 9 0) (get_or (sheet_of t) 10 0)
  unfolding sheet_of words_of frame_of bodies contents b0 b1 b2
  constants-placed =
      record {
        lies =
            subst (λ b. Lies (sheet_of t) (19 + length (join b0) + length (join b1)) (join b)) (run-words t.constants)
            (lies-front (join b2) _ at2);
        number = sym (length-map (map length t.constants) length_words ∙ length-map t.constants length);
        good = runs-good (class t.version) t.constants;
      }

  pub globals-placed : Sound t →
      Placed (class t.version) row.Global t.globals (sheet_of t) (get_or (sheet_of t) 11 0) (get_or (sheet_of t) 12 0)
  unfolding sheet_of words_of frame_of bodies contents b0 b1 b2 b3 row_words GoodRow
  globals-placed h =
      record {
        lies = lies-front (join b3) _ at3;
        number = sym (length-map t.globals global_words);
        good = h.frame.globals;
      }

  pub functions-placed : Sound t →
      Placed (class t.version) row.Function t.functions (sheet_of t) (get_or (sheet_of t) 13 0) (get_or (sheet_of t) 14 0)
  unfolding sheet_of words_of frame_of bodies contents b0 b1 b2 b3 b4
  functions-placed h =
      record {
        lies =
            subst (λ b. Lies (sheet_of t) (19 + length (join b0) + length (join b1) + length (join b2) + length (join b3)) (join b))
            (function-words t.functions) (lies-front (join b4) _ at4);
        number = sym (length-map (map function_row_of t.functions) function_words ∙ length-map t.functions function_row_of);
        good = functions-good (class t.version) t.functions h.frame.functions;
      }

  pub attributes-placed : Sound t →
      Placed (class t.version) row.Attribute t.attributes (sheet_of t) (get_or (sheet_of t) 15 0) (get_or (sheet_of t) 16 0)
  unfolding sheet_of words_of frame_of bodies contents b0 b1 b2 b3 b4 b5 row_words GoodRow
  attributes-placed h =
      record {
        lies = lies-front (join b5) _ at5;
        number = sym (length-map t.attributes attribute_words);
        good = h.frame.attributes;
      }

  pub lists-placed : Placed (class t.version) row.List t.lists (sheet_of t) (get_or (sheet_of t) 17 0) (get_or (sheet_of t) 18 0)
  unfolding sheet_of words_of frame_of bodies contents b0 b1 b2 b3 b4 b5 b6 row_words
  lists-placed =
      record {
        lies = lies-front (join b6) [] at6;
        number = sym (length-map t.lists list_words);
        good = lists-good (class t.version) t.lists;
      }

  -- The words of all tables, behind the contents.
  pub words-parts : 19 + (length (join (map (row_words row.Run) t.strings)) + (length (join (map (row_words row.Type) t.types)) +
      (length (join (map (row_words row.Run) t.constants)) + (length (join (map (row_words row.Global) t.globals)) +
      (length (join (map (row_words row.Function) t.functions)) + (length (join (map (row_words row.Attribute) t.attributes)) +
      length (join (map (row_words row.List) t.lists)))))))) ≤ length (sheet_of t)
  unfolding b0 b1 b2 b3 b4 b5 b6 row_words
  words-parts =
      let e0 = ap (λ l. length (join l)) (run-words t.strings) in
      let e2 = ap (λ l. length (join l)) (run-words t.constants) in
      let e4 = ap (λ l. length (join l)) (function-words t.functions) in
      let i = lies-inside (join b0 ++ (join b1 ++ (join b2 ++ (join b3 ++ (join b4 ++ (join b5 ++ (join b6 ++ []))))))) at0 in
      let n0 = length-append (join b0) (join b1 ++ (join b2 ++ (join b3 ++ (join b4 ++ (join b5 ++ (join b6 ++ [])))))) in
      let n1 = length-append (join b1) (join b2 ++ (join b3 ++ (join b4 ++ (join b5 ++ (join b6 ++ []))))) in
      let n2 = length-append (join b2) (join b3 ++ (join b4 ++ (join b5 ++ (join b6 ++ [])))) in
      let n3 = length-append (join b3) (join b4 ++ (join b5 ++ (join b6 ++ []))) in
      let n4 = length-append (join b4) (join b5 ++ (join b6 ++ [])) in
      let n5 = length-append (join b5) (join b6 ++ []) in
      let n6 = length-append (join b6) [] in
      omega arith

  -- Word 4 is a word.
  pub pool-fits : Sound t → length (pool_of t) < 2 ^ 64
  unfolding sheet_of words_of
  pool-fits h = rw (pool-length t) h.words.1.1.1.1.0

  -- The producer's word.
  pub producer-word : get_or (sheet_of t) 3 0 ≡ producer_word t.producer
  unfolding sheet_of words_of frame_of
  producer-word = refl

-- The runs in the pool: strings, constants, bodies.
pub same_runs : (xs : List (List ℕ)) → map (row_run row.Run) xs ≡ xs
unfolding row_run
same_runs [] = refl
same_runs (x ∷ xs) = ap (λ l. x ∷ l) (same_runs xs)

pub same_bytes : (c : VersionClass) (xs : List (List ℕ)) → map (row_bytes c row.Run) xs ≡ xs
unfolding row_bytes
same_bytes c [] = refl
same_bytes c (x ∷ xs) = ap (λ l. x ∷ l) (same_bytes c xs)

pub body-runs : (fs : List Function) → map (row_run row.Function) fs ≡ map (λ f. f.body) fs
unfolding row_run
body-runs [] = refl
body-runs (f ∷ fs) = ap (λ l. f.body ∷ l) (body-runs fs)

-- How long they are.
pub strings-run : (xs : List (List ℕ)) → length (join (map (row_run row.Run) xs)) ≡ length (join xs)
strings-run xs = ap (λ l. length (join l)) (same_runs xs)

pub pool-parts : (t : Tables) →
    length (pool_of t) ≡ length (join t.strings) + (length (join t.constants) + length (join (map (row_run row.Function) t.functions)))
unfolding pool_of
pool-parts t = rw (length-append, length-append, body-runs t.functions)

-- Rows of other kinds have none.
join-none : {A : Type 0} (f : A → List ℕ) → ((x : A) → f x ≡ []) → (xs : List A) → join (map f xs) ≡ []
join-none f h [] = refl
join-none f h (x ∷ xs) = ap₂ (λ a b. a ++ b) (h x) (join-none f h xs)

pub types-run : (xs : List TypeRow) → join (map (row_run row.Type) xs) ≡ []
unfolding row_run
types-run xs = join-none (row_run row.Type) (λ x. refl) xs

pub globals-run : (xs : List Global) → join (map (row_run row.Global) xs) ≡ []
unfolding row_run
globals-run xs = join-none (row_run row.Global) (λ x. refl) xs

pub attributes-run : (xs : List Attribute) → join (map (row_run row.Attribute) xs) ≡ []
unfolding row_run
attributes-run xs = join-none (row_run row.Attribute) (λ x. refl) xs

pub lists-run : (xs : List (List ℕ)) → join (map (row_run row.List) xs) ≡ []
unfolding row_run
lists-run xs = join-none (row_run row.List) (λ x. refl) xs
