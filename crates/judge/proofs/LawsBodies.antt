-- Where the bodies of a sheet stand, and the rows of types among them. Assumes nothing.
use mathlib.Core.Path.{◌≡◌, refl, sym, ap}
use mathlib.Core.List.{[], ◌∷◌, ◌++◌, map, append-nil}
use lib.ListN.{length, get_or, length-map}
use Rattle.exact.specs.Tiling.{join}
use Rattle.format.specs.Sheet.{Frame, length_words, type_words, bodies, contents, producer_word, pool_length, words_of}
use Rattle.sheet.specs.Lies.{Lies}
use Rattle.sheet.proofs.LawsLies.{lies-front, lies-back}

-- All the bodies stand behind the contents.
pub bodies-lie : (r : Frame) → Lies (words_of r) 19 (join (map join (bodies r)))
unfolding words_of bodies contents
bodies-lie r =
    record {
      front =
          r.version.major ∷ r.version.minor ∷ r.version.tag ∷ producer_word r.producer ∷ pool_length r ∷ contents 19 (bodies r);
      behind = [];
      whole =
          ap (λ l. r.version.major ∷ r.version.minor ∷ r.version.tag ∷ producer_word r.producer ∷ pool_length r ∷ (contents 19 (bodies r) ++ l))
          (sym (append-nil (join (map join (bodies r)))));
      place = refl;
    }

-- The rows of types begin at the word that the contents name ..
pub types-lie : (r : Frame) → Lies (words_of r) (get_or (words_of r) 7 0) (join (map type_words r.types))
unfolding words_of bodies contents
types-lie r =
    lies-front (join (map type_words r.types)) _ (lies-back (join (map length_words r.strings)) _ (bodies-lie r))

-- .. and are as many as they say.
pub types-counted : (r : Frame) → get_or (words_of r) 8 0 ≡ length r.types
unfolding words_of bodies contents
types-counted r = length-map r.types type_words
