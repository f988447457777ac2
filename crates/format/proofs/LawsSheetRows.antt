-- The rows of globals, functions and attributes, the version and the producer's word are read exactly. Assumes nothing.
use mathlib.Core.Path.{◌≡◌, refl}
use Prim.Native.Nat.{ℕ, zero, suc}
use native.Mathlib.Numerals.{add-one}
use mathlib.Core.List.{List, [], ◌∷◌}
use mathlib.Core.Option.{Option, none, some}
use Rattle.exact.specs.Exact.{Lang, Exact}
use Rattle.exact.specs.Basic.{One, one}
use Rattle.exact.specs.Sequence.{Then, then, Of, of}
use Rattle.exact.specs.Choice.{Such, such_of}
use Rattle.exact.proofs.LawsExact.{same-exact}
use Rattle.exact.proofs.LawsBasic.{byte-exact}
use Rattle.exact.proofs.LawsSequence.{bind-exact, map-exact}
use Rattle.exact.proofs.LawsChoice.{such-exact}
use Rattle.enums.specs.declared.VersionClass.{VersionClass}
use Rattle.enums.specs.Refusals as refusals
use Rattle.format.specs.Tables.{Version, Global, Attribute}
use Rattle.format.specs.Sheet.{FunctionRow, global_words, function_words, attribute_fields, attribute_words, producer_word}
use Rattle.format.specs.Sound.{SoundVersion, SoundGlobal, SoundFunction, SoundAttribute}
use Rattle.format.specs.Tests.{version?, global?, function?, attribute?}
use Rattle.format.specs.Judge.{global_at, function_at, attribute_at, version_at, producer_of, producer_at}
use Rattle.format.proofs.LawsFlat.{Flat, flat, Any}

abbrev global_from : ℕ → ℕ → ℕ → ℕ → ℕ → ℕ → Global
global_from n t c a v f = record { name = n; type = t; constant = c; alignment = a; visibility = v; constant_flag = f }

abbrev GlobalLang : VersionClass → Lang Global
GlobalLang k =
    Such (SoundGlobal k)
    (Then One (λ n. Then One (λ t. Then One (λ c. Then One (λ a. Then One (λ v. Of (global_from n t c a v) One))))))

global-to : (k : VersionClass) (i : ℕ) (ws : List ℕ) (g : Global) → GlobalLang k i ws g → Flat global_words (SoundGlobal k) i ws g
unfolding global_words
global-to k i ws g (such_of s (then one (then one (then one (then one (then one (of one))))))) = flat s

global-from : (k : VersionClass) (i : ℕ) (ws : List ℕ) (g : Global) → Flat global_words (SoundGlobal k) i ws g → GlobalLang k i ws g
unfolding global_words
global-from k i ws g (flat s) = such_of s (then one (then one (then one (then one (then one (of one))))))

-- A global's row is read exactly.
pub global-exact : (k : VersionClass) → Exact (global_at k) (Flat global_words (SoundGlobal k))
unfolding global_at
global-exact k =
    same-exact
    (such-exact refusals.unsound (global? k)
    (bind-exact byte-exact (λ n. bind-exact byte-exact (λ t. bind-exact byte-exact (λ c. bind-exact byte-exact (λ a.
    bind-exact byte-exact (λ v. map-exact (global_from n t c a v) byte-exact)))))))
    (λ i ws g. (global-to k i ws g, global-from k i ws g))

abbrev function_from : ℕ → ℕ → ℕ → ℕ → ℕ → FunctionRow
function_from n s f l b = record { name = n; signature = s; flags = f; location = l; body_length = b }

abbrev FunctionLang : Lang FunctionRow
FunctionLang =
    Such SoundFunction (Then One (λ n. Then One (λ s. Then One (λ f. Then One (λ l. Of (function_from n s f l) One)))))

function_to : (i : ℕ) (ws : List ℕ) (f : FunctionRow) → FunctionLang i ws f → Flat function_words SoundFunction i ws f
unfolding function_words
function_to i ws f (such_of s (then one (then one (then one (then one (of one)))))) = flat s

function-from : (i : ℕ) (ws : List ℕ) (f : FunctionRow) → Flat function_words SoundFunction i ws f → FunctionLang i ws f
unfolding function_words
function-from i ws f (flat s) = such_of s (then one (then one (then one (then one (of one)))))

-- A function's row is read exactly.
pub function-exact : Exact function_at (Flat function_words SoundFunction)
unfolding function_at
function-exact =
    same-exact
    (such-exact refusals.unsound function?
    (bind-exact byte-exact (λ n. bind-exact byte-exact (λ s. bind-exact byte-exact (λ f. bind-exact byte-exact (λ l.
    map-exact (function_from n s f l) byte-exact))))))
    (λ i ws f. (function_to i ws f, function-from i ws f))

abbrev attribute_from : ℕ → ℕ → ℕ → ℕ → ℕ → ℕ → ℕ → Attribute
attribute_from t a b c d e f = record { tag = t; field1 = a; field2 = b; field3 = c; field4 = d; field5 = e; field6 = f }

abbrev AttributeLang : Lang Attribute
AttributeLang =
    Such SoundAttribute
    (Then One (λ t. Then One (λ a. Then One (λ b. Then One (λ c. Then One (λ d. Then One (λ e.
    Of (attribute_from t a b c d e) One)))))))

attribute-to : (i : ℕ) (ws : List ℕ) (a : Attribute) → AttributeLang i ws a → Flat attribute_words SoundAttribute i ws a
unfolding attribute_words attribute_fields
attribute-to i ws a (such_of s (then one (then one (then one (then one (then one (then one (of one)))))))) = flat s

attribute-from : (i : ℕ) (ws : List ℕ) (a : Attribute) → Flat attribute_words SoundAttribute i ws a → AttributeLang i ws a
unfolding attribute_words attribute_fields
attribute-from i ws a (flat s) = such_of s (then one (then one (then one (then one (then one (then one (of one)))))))

-- An attribute's row is read exactly.
pub attribute-exact : Exact attribute_at (Flat attribute_words SoundAttribute)
unfolding attribute_at
attribute-exact =
    same-exact
    (such-exact refusals.unsound attribute?
    (bind-exact byte-exact (λ t. bind-exact byte-exact (λ a. bind-exact byte-exact (λ b. bind-exact byte-exact (λ c.
    bind-exact byte-exact (λ d. bind-exact byte-exact (λ e. map-exact (attribute_from t a b c d e) byte-exact))))))))
    (λ i ws a. (attribute-to i ws a, attribute-from i ws a))

-- Words 0 to 2.
abbrev pub version_words : Version → List ℕ
version_words v = v.major ∷ v.minor ∷ v.tag ∷ []

abbrev version_from : ℕ → ℕ → ℕ → Version
version_from a b c = record { major = a; minor = b; tag = c }

abbrev VersionLang : Lang Version
VersionLang = Such SoundVersion (Then One (λ a. Then One (λ b. Of (version_from a b) One)))

version-to : (i : ℕ) (ws : List ℕ) (v : Version) → VersionLang i ws v → Flat version_words SoundVersion i ws v
version-to i ws v (such_of s (then one (then one (of one)))) = flat s

version-from : (i : ℕ) (ws : List ℕ) (v : Version) → Flat version_words SoundVersion i ws v → VersionLang i ws v
version-from i ws v (flat s) = such_of s (then one (then one (of one)))

-- The version is read exactly.
pub version-exact : Exact version_at (Flat version_words SoundVersion)
unfolding version_at
version-exact =
    same-exact
    (such-exact refusals.unsound version?
    (bind-exact byte-exact (λ a. bind-exact byte-exact (λ b. map-exact (version_from a b) byte-exact))))
    (λ i ws v. (version-to i ws v, version-from i ws v))

-- Word 3.
abbrev pub producer_words : Option ℕ → List ℕ
producer_words p = producer_word p ∷ []

producer-word : (w : ℕ) → producer_word (producer_of w) ≡ w
unfolding producer_word producer_of
producer-word zero = refl
producer-word (suc w) = add-one w

pub word-producer : (p : Option ℕ) → producer_of (producer_word p) ≡ p
unfolding producer_word producer_of
word-producer none = refl
word-producer (some index) = rw add-one

producer-to : (i : ℕ) (ws : List ℕ) (p : Option ℕ) → Of producer_of One i ws p → Flat producer_words Any i ws p
producer-to i ws p (of (one {b = w})) =
    let f : Flat producer_words Any i (producer_word (producer_of w) ∷ []) (producer_of w) = flat tt in
    rw producer-word at f

producer-from : (i : ℕ) (ws : List ℕ) (p : Option ℕ) → Flat producer_words Any i ws p → Of producer_of One i ws p
producer-from i ws p (flat u) =
    let o : Of producer_of One i (producer_word p ∷ []) (producer_of (producer_word p)) = of one in rw word-producer at o

-- The producer's word is read exactly.
pub producer-exact : Exact producer_at (Flat producer_words Any)
unfolding producer_at
producer-exact = same-exact (map-exact producer_of byte-exact) (λ i ws p. (producer-to i ws p, producer-from i ws p))
