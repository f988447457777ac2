-- The judge of a sheet accepts exactly the words of well-formed frames. Assumes nothing.
use mathlib.Core.Path.{◌≡◌, refl, sym, ap, ◌∙◌}
use mathlib.Core.Logic.{◌↔◌}
use Prim.Native.Nat.{ℕ, zero, suc, ◌+◌}
use native.Mathlib.Decide.{ℕ_discrete}
use native.Mathlib.Omega.{arith}
use native.Mathlib.Nat.{zero-add, le_refl}
use mathlib.Core.List.{List, [], ◌∷◌, ◌++◌, map, append-nil}
use mathlib.Core.Option.{Option, none, some, none-ne-some}
use lib.ListN.{length, drop, get_or, length-map, drop_of_length-le}
use lib.Seq.{drop-cons}
use Rattle.exact.specs.Got.{Got, got, stop}
use Rattle.exact.specs.Exact.{Lang, Exact}
use Rattle.exact.specs.Basic.{One, one}
use Rattle.exact.specs.Sequence.{Then, then, Of, of}
use Rattle.exact.specs.Choice.{choose, Such, such_of}
use Rattle.exact.specs.Fixed.{Raw, raw_of}
use Rattle.exact.specs.Tiling.{join}
use Rattle.exact.proofs.LawsBasic.{byte-exact}
use Rattle.exact.proofs.LawsSequence.{bind-exact, map-exact}
use Rattle.exact.proofs.LawsChoice.{choose_yes, such-exact}
use Rattle.exact.proofs.LawsFixed.{raw-exact}
use Rattle.enums.specs.Refusals as refusals
use Rattle.format.specs.Tables.{Version, TypeRow, Global, Attribute}
use Rattle.format.specs.Explains.{class}
use Rattle.format.specs.Sheet.{
  FunctionRow,
  Frame,
  length_words,
  type_words,
  global_words,
  function_words,
  attribute_words,
  list_words,
  bodies,
  contents,
  pool_length,
  words_of,
}
use Rattle.format.specs.Sound.{
  All,
  Fits,
  SoundType,
  SoundGlobal,
  SoundFunction,
  SoundAttribute,
  SoundVersion,
  Inside,
  SoundFrame,
}
use Rattle.format.specs.Tests.{both?, all?, fits?, inside?}
use Rattle.format.specs.Judge.{start_in, count_in, tables_at, contents_at, frame_at, ending_at, judged}
use Rattle.format.proofs.LawsFlat.{Flat, flat, Any, all_any, TableOf, table_of, table-exact, length-exact, list-exact}
use Rattle.format.proofs.LawsTypeRow.{type-exact}
use Rattle.format.proofs.LawsSheetRows.{
  global-exact,
  function-exact,
  attribute-exact,
  version_words,
  version-exact,
  producer_words,
  producer-exact,
}

abbrev frame_from : Version → Option ℕ → List ℕ → List TypeRow → List ℕ → List Global → List FunctionRow → List Attribute →
    List (List ℕ) → Frame
frame_from v p ss ts cs gs fs at ls =
    record {
      version = v;
      producer = p;
      strings = ss;
      types = ts;
      constants = cs;
      globals = gs;
      functions = fs;
      attributes = at;
      lists = ls;
    }

-- Table k of the contents cs.
abbrev Nth : {A : Type 0} → List ℕ → ℕ → (A → List ℕ) → (A → Type 0) → Lang (List A)
Nth cs k f P = TableOf f P (start_in cs k) (count_in cs k)

-- The seven tables, one after the other.
abbrev TablesLang : Version → Option ℕ → List ℕ → Lang Frame
TablesLang v p cs =
    Then (Nth cs 0 length_words Any) (λ ss.
    Then (Nth cs 1 type_words (SoundType (class v))) (λ ts.
    Then (Nth cs 2 length_words Any) (λ ks.
    Then (Nth cs 3 global_words (SoundGlobal (class v))) (λ gs.
    Then (Nth cs 4 function_words SoundFunction) (λ fs.
    Then (Nth cs 5 attribute_words SoundAttribute) (λ at.
    Of (frame_from v p ss ts ks gs fs at) (Nth cs 6 list_words Any)))))))

tables-exact : (v : Version) (p : Option ℕ) (cs : List ℕ) → Exact (tables_at v p cs) (TablesLang v p cs)
unfolding tables_at
tables-exact v p cs =
    bind-exact (table-exact cs 0 length-exact) (λ ss.
    bind-exact (table-exact cs 1 (type-exact (class v))) (λ ts.
    bind-exact (table-exact cs 2 length-exact) (λ ks.
    bind-exact (table-exact cs 3 (global-exact (class v))) (λ gs.
    bind-exact (table-exact cs 4 function-exact) (λ fs.
    bind-exact (table-exact cs 5 attribute-exact) (λ at.
    map-exact (frame_from v p ss ts ks gs fs at) (table-exact cs 6 list-exact)))))))

-- n elements of a list from k on.
abbrev pub part : ℕ → ℕ → List ℕ → List ℕ
part zero k l = []
part (suc n) k l = get_or l k 0 ∷ part n (suc k) l

pub part-all : (n k : ℕ) (l : List ℕ) → length l ≡ k + n → drop k l ≡ part n k l
part-all zero k l e = drop_of_length-le l {i = k} (omega arith)
part-all (suc n) k l e = drop-cons l k 0 (omega arith) ∙ ap (λ x. get_or l k 0 ∷ x) (part-all n (suc k) l (omega arith))

-- What the tables behind the contents cs at word i are: their words, their contents, and that they are well-formed.
record Laid (v : Version) (p : Option ℕ) (cs : List ℕ) (i : ℕ) (ws : List ℕ) (r : Frame) : Type 0 where
  version : r.version ≡ v
  producer : r.producer ≡ p
  words : ws ≡ join (map join (bodies r))
  listed : length cs ≡ 14 → cs ≡ contents i (bodies r)
  types : All (SoundType (class v)) r.types
  globals : All (SoundGlobal (class v)) r.globals
  functions : All SoundFunction r.functions
  attributes : All SoundAttribute r.attributes

tables-laid : (v : Version) (p : Option ℕ) (cs : List ℕ) (i : ℕ) (ws : List ℕ) (r : Frame) → TablesLang v p cs i ws r →
    Laid v p cs i ws r
unfolding bodies contents
tables-laid v p cs i ws r (then {v = ss} (table_of s₀ n₀ a₀)
    (then {v = ts} (table_of s₁ n₁ a₁)
    (then {v = ks} (table_of s₂ n₂ a₂)
    (then {v = gs} (table_of s₃ n₃ a₃)
    (then {v = fs} (table_of s₄ n₄ a₄)
    (then {v = at} (table_of s₅ n₅ a₅) (of {v = ls} (table_of s₆ n₆ a₆)))))))) =
    record {
      version = refl;
      producer = refl;
      words = rw append-nil;
      listed = λ l. part-all 14 0 cs l ∙ cc (length-map ss length_words, length-map ts type_words, length-map ks length_words, length-map gs global_words, length-map fs function_words, length-map at attribute_words, length-map ls list_words);
      types = a₁;
      globals = a₃;
      functions = a₄;
      attributes = a₅;
    }

-- The words of a well-formed frame's tables stand for them, behind their contents.
laid-tables : (r : Frame) (i : ℕ) → SoundFrame r → TablesLang r.version r.producer (contents i (bodies r)) i (join (map join (bodies r))) r
unfolding bodies contents
laid-tables r i s =
    rw append-nil
    (then (table_of refl (sym (length-map r.strings length_words)) (all_any r.strings))
    (then (table_of refl (sym (length-map r.types type_words)) s.types)
    (then (table_of refl (sym (length-map r.constants length_words)) (all_any r.constants))
    (then (table_of refl (sym (length-map r.globals global_words)) s.globals)
    (then (table_of refl (sym (length-map r.functions function_words)) s.functions)
    (then (table_of refl (sym (length-map r.attributes attribute_words)) s.attributes)
    (of (table_of refl (sym (length-map r.lists list_words)) (all_any r.lists)))))))))

-- The demands on a frame that is read behind word 4.
abbrev Closing : ℕ → Frame → Type 0
Closing pool r = (pool_length r ≡ pool) × Inside r.producer (length r.strings)

abbrev FrameLang : Lang Frame
FrameLang =
    Then (Flat version_words SoundVersion) (λ v. Then (Flat producer_words Any) (λ p. Then One (λ n. Then (Raw 14) (λ cs.
    Such (Closing n) (TablesLang v p cs)))))

frame-exact : Exact frame_at FrameLang
unfolding frame_at contents_at
frame-exact =
    bind-exact version-exact (λ v. bind-exact producer-exact (λ p. bind-exact byte-exact (λ n. bind-exact (raw-exact 14) (λ cs.
    such-exact refusals.unsound (λ r. both? (ℕ_discrete (pool_length r) n) (inside? r.producer (length r.strings)))
    (tables-exact v p cs)))))

framed : (v : Version) (p : Option ℕ) (n : ℕ) (cs : List ℕ) (i : ℕ) (ws : List ℕ) (r : Frame) → i ≡ 19 → length cs ≡ 14 →
    SoundVersion v → Closing n r → Laid v p cs i ws r →
    (v.major ∷ v.minor ∷ v.tag ∷ (producer_words p ++ (n ∷ (cs ++ ws))) ≡ words_of r) × SoundFrame r
unfolding words_of
framed v p n cs i ws r e l s h t =
    let q : cs ≡ contents 19 (bodies r) = t.listed l ∙ ap (λ k. contents k (bodies r)) e in (
      rw (q, t.words, ← h.0, ← t.version, ← t.producer),
      record {
        version = rw t.version s;
        producer = h.1;
        types = rw t.version t.types;
        globals = rw t.version t.globals;
        functions = t.functions;
        attributes = t.attributes;
      },
    )

frame-to : (ws : List ℕ) (r : Frame) → FrameLang 0 ws r → (ws ≡ words_of r) × SoundFrame r
frame-to ws r (then {v = v} (flat s) (then {v = p} (flat u) (then {v = n} one (then {v = cs} (raw_of l) (such_of h t))))) =
    framed v p n cs _ _ r (omega arith) l s h (tables-laid v p cs _ _ r t)

frame-from : (r : Frame) → SoundFrame r → FrameLang 0 (words_of r) r
unfolding words_of bodies contents
frame-from r s =
    then (flat s.version) (then (flat tt) (then one
    (then {bs = contents 19 (bodies r)} (raw_of refl) (such_of (refl, s.producer) (laid-tables r 19 s)))))

ending-inv : {A : Type 0} (n : ℕ) (g : Got A) (v : A) → ending_at n g ≡ some v → g ≡ got v n
unfolding ending_at choose
ending-inv n (stop c k) v e = absurd (none-ne-some _ e)
ending-inv n (got w j) v e = go (ℕ_discrete j n) e
  where
    go : (d : Dec (j ≡ n)) → choose d (some w) none ≡ some v → got w j ≡ got v n
    go (yes h) q = cc
    go (no h) q = absurd (none-ne-some _ q)

ending-got : {A : Type 0} (n : ℕ) (v : A) → ending_at n (got v n) ≡ some v
unfolding ending_at
ending-got n v = choose_yes (ℕ_discrete n n) (some v) none refl

whole-read : (s : List ℕ) (r : Frame) → (ending_at (length s) (frame_at s 0) ≡ some r) ↔ ((s ≡ words_of r) × SoundFrame r)
whole-read s r = (to, λ h. from h.0 h.1)
  where
    to : ending_at (length s) (frame_at s 0) ≡ some r → (s ≡ words_of r) × SoundFrame r
    to e =
        let x = frame-exact.sound s 0 r (length s) (ending-inv (length s) (frame_at s 0) r e) in
        let f = frame-to x.bytes r x.spelt in
        let w : s ≡ x.bytes = x.there ∙ rw (drop_of_length-le s {i = length s} (le_refl (length s))) (append-nil x.bytes) in
        (w ∙ f.0, f.1)

    from : s ≡ words_of r → SoundFrame r → ending_at (length s) (frame_at s 0) ≡ some r
    from e h =
        let c : frame_at s 0 ≡ got r (length s) = frame-exact.complete s 0 s [] r (rw e (frame-from r h)) (sym (append-nil s)) ∙ rw zero-add in
        rw c (ending-got (length s) r)

-- The judge of a sheet alone: exactly the words of a well-formed frame, each of them a u64.
pub judged-exact : (s : List ℕ) (r : Frame) → (judged s ≡ some r) ↔ ((s ≡ words_of r) × All (Fits 64) s × SoundFrame r)
unfolding judged choose
judged-exact s r = go (all? (fits? 64) s)
  where
    go : (d : Dec (All (Fits 64) s)) →
        (choose d (ending_at (length s) (frame_at s 0)) none ≡ some r) ↔ ((s ≡ words_of r) × All (Fits 64) s × SoundFrame r)
    go (yes a) = (λ e. let h = (whole-read s r).0 e in (h.0, a, h.1), λ h. (whole-read s r).1 (h.0, h.2))
    go (no n) = (λ e. absurd (none-ne-some _ e), λ h. absurd (n h.1))
