-- How the code follows the model of Debug: its arrays, one attribute, the attributes and the lists one by one, and the
-- whole section. Assumes nothing.
use mathlib.Core.Path.{◌≡◌, refl, sym, ap, ap₂, ◌∙◌, subst}
use Prim.Native.Nat.{ℕ, zero, suc, ◌+◌, ◌*◌, ◌-◌, ◌≤◌, ◌<◌}
use native.Mathlib.Nat.{add-zero, sub-zero}
use native.Mathlib.Omega.{arith}
use native.Mathlib.Decide.{dec_le, dec_lt}
use mathlib.Core.Option.{Option, none, some}
use mathlib.Core.List.{List, [], ◌∷◌, ◌++◌, map}
use lib.ListN.{length, get_or, take, drop, replicate, length-replicate, length-append, length-take, get_or-eq_default}
use lib.Seq.{take_all, length-slice, get_or-take, get_or-drop}
use Rattle.std.specs.Prelude.{Result, Ok, Err}
use Rattle.exact.specs.Got.{Got, got, stop, follow}
use Rattle.exact.specs.Basic.{byte, pure}
use Rattle.exact.specs.Sequence.{bind}
use Rattle.exact.specs.Sequence as sequence
use Rattle.exact.specs.Repeat.{times}
use Rattle.exact.specs.Fixed.{little, fixed, nums}
use Rattle.exact.specs.Padding.{here, pad}
use Rattle.exact.specs.Refuse.{refuse}
use Rattle.exact.specs.Upto.{upto}
use Rattle.exact.specs.Tiling.{join, cut, end_of, consed, cuts}
use Rattle.exact.specs.Entries.{rows, entries}
use Rattle.exact.proofs.LawsExact.{stop-not-got, got-value, got-next}
use Rattle.exact.proofs.LawsChoice.{choose_yes, choose_no}
use Rattle.exact.proofs.LawsSequence.{bind-got, bind-stop, follow-follow}
use Rattle.exact.proofs.LawsSteps.{byte_at, byte-end}
use Rattle.exact.proofs.LawsTiling.{cut-is}
use Rattle.exact.proofs.LawsFixed.{length-nums}
use Rattle.enums.specs.Container.{P}
use Rattle.enums.specs.Refusals as refusals
use Rattle.enums.specs.Debug.{field_counts}
use Rattle.enums.proofs.LawsDebug.{counts-few}
use Rattle.reading.specs.Numbers.{varint_at, padding_at}
use Rattle.reading.proofs.LawsNumbers.{varint-in}
use Rattle.reading.proofs.LawsInside.{byte-in, varint-place}
use Rattle.reading.specs.Shown.{stop_of}
use Rattle.reading.specs.declared.Refused.{Refused}
use Rattle.format.specs.Tables.{Attribute}
use Rattle.format.specs.Debug.{attribute_of, DebugTables}
use Rattle.format.specs.Sheet.{attribute_words, attribute_fields, list_words}
use Rattle.format.specs.DecodeTables.{padded_at, shape}
use Rattle.format.specs.DecodeDebug.{attribute_at, attributes_at, lists_at, debug_at}
use Rattle.format.proofs.LawsSoundWords.{attributes-words}
use Rattle.sheet.specs.Store.{put_word, put_words}
use Rattle.sheet.proofs.LawsStore.{put_words-append}
use Rattle.entries.specs.Starts.{array_at, numbers_in, got_starts, Lies, number_or, end_at}
use Rattle.entries.specs.declared.starts.Starts.{Starts}
use Rattle.entries.proofs.LawsStarts.{end-got, end-stop}
use Rattle.entries.proofs.LawsEntries.{
  array-padded,
  array-refused,
  entries-count,
  run_of,
  run_length,
  run-nums,
  run-first,
  ahead,
  Before,
  before-next,
  before-ends,
  part_length,
}
use Rattle.payloads.specs.declared.answers.Filled.{Filled}
use Rattle.payloads.specs.declared.fields.Spot.{Spot}
use Rattle.payloads.specs.declared.fields.Number.TheVariants.{Varint}
use Rattle.payloads.specs.declared.debug.DebugFilled.{DebugFilled}
use Rattle.payloads.specs.Fields.{number_at, several, numbers, Put}
use Rattle.payloads.specs.TypeRows.{Row, words_of, entries_by}
use Rattle.payloads.specs.DebugRows.{attribute_row, list_rows, debug_words, counted, debug_behind, DebugFills}
use Rattle.payloads.proofs.LawsFields.{map-got, map-stop, put-got, put-err, times-length}
use Rattle.payloads.proofs.LawsEntryRows.{row-stop, row-got, row-refused, row_put, row_more, row-stopped}

pub count-few : (l : List ℕ) (t j n : ℕ) → byte l 0 ≡ got t j → n ≡ get_or field_counts t 0 → n ≤ 6
count-few l t j n e f = omega (arith, f, counts-few t)

-- The fields that an attribute does not have, among zeros for all.
zeros-behind : (m n : ℕ) → n ≤ m → drop n (replicate {A = ℕ} m 0) ≡ replicate (m - n) 0
zeros-behind m zero h = rw sub-zero refl
zeros-behind zero (suc n) h = let z : ⊥ = omega arith in absurd z
zeros-behind (suc m) (suc n) h = let e : suc m - suc n ≡ m - n = omega arith in rw e (zeros-behind m n (omega arith))

zeros-left : (n : ℕ) → n ≤ 6 → take (6 - n) (drop n (replicate {A = ℕ} 6 0)) ≡ replicate (6 - n) 0
zeros-left n h =
    rw (zeros-behind 6 n h) (take_all (6 - n) (replicate {A = ℕ} (6 - n) 0) (omega (arith, length-replicate {A = ℕ} (6 - n) 0)))

-- The words of an attribute with these fields.
pub words-of : (t : ℕ) (vs : List ℕ) → length vs ≤ 6 → attribute_words (attribute_of t vs) ≡ t ∷ (vs ++ replicate (6 - length vs) 0)
unfolding attribute_words attribute_fields
words-of t [] h = refl
words-of t (a ∷ []) h = refl
words-of t (a ∷ b ∷ []) h = refl
words-of t (a ∷ b ∷ c ∷ []) h = refl
words-of t (a ∷ b ∷ c ∷ d ∷ []) h = refl
words-of t (a ∷ b ∷ c ∷ d ∷ e ∷ []) h = refl
words-of t (a ∷ b ∷ c ∷ d ∷ e ∷ f ∷ []) h = refl
words-of t (a ∷ b ∷ c ∷ d ∷ e ∷ f ∷ g ∷ vs) h = let z : ⊥ = omega arith in absurd z

module _ (l : List ℕ) where
  pub one-short : (c k : ℕ) → byte l 0 ≡ stop c k → attribute_row l ≡ stop c k
  unfolding sequence.mapped bind attribute_at upto here follow
  one-short c k e = rw e

  module _ (t j : ℕ) (e : byte l 0 ≡ got t j) where
    pub one-unknown : 7 ≤ t → attribute_row l ≡ stop refusals.debug_tag 0
    unfolding sequence.mapped bind attribute_at upto here follow refuse
    one-unknown h =
        let n : ¬ (t < length field_counts) = omega arith in
        let q = choose_no (dec_lt t (length field_counts)) (sequence.mapped (attribute_of t) (times (get_or field_counts t 0) varint_at)) (refuse refusals.debug_tag 0) n in
        rw (e, q)

    module _ (h : t < 7) where
      pub one-stop : (c k : ℕ) → times (get_or field_counts t 0) varint_at l j ≡ stop c k → attribute_row l ≡ stop c k
      unfolding sequence.mapped bind attribute_at upto here follow
      one-stop c k f =
          let n : t < length field_counts = omega arith in
          let q = choose_yes (dec_lt t (length field_counts)) (sequence.mapped (attribute_of t) (times (get_or field_counts t 0) varint_at)) (refuse refusals.debug_tag 0) n in
          rw (e, q, f)

      pub one-got : (vs : List ℕ) (k : ℕ) → times (get_or field_counts t 0) varint_at l j ≡ got vs k →
          attribute_row l ≡ got (attribute_words (attribute_of t vs)) (length l)
      unfolding sequence.mapped bind attribute_at upto here follow pure
      one-got vs k f =
          let n : t < length field_counts = omega arith in
          let q = choose_yes (dec_lt t (length field_counts)) (sequence.mapped (attribute_of t) (times (get_or field_counts t 0) varint_at)) (refuse refusals.debug_tag 0) n in
          rw (e, q, f)

-- The fields are copied from behind the tag.
pub fields_at : (a : Spot) (j w v n : ℕ) (l s s' : List ℕ) (r : Result Spot Refused) → a ≡ record { pos = j; word = w + 1; value = v } →
    Put (numbers n n Varint l a.pos) a.word s s' r → Put (numbers n n Varint l j) (w + 1) s s' r
fields_at a j w v n l s s' r e x = subst (λ a. Put (numbers n n Varint l a.pos) a.word s s' r) e x

-- What the copied fields of an attribute say.
module _ (l s s₁ s₂ : List ℕ) (w t j n : ℕ) (e : byte l 0 ≡ got t j) (h : t < 7) (c : n ≡ get_or field_counts t 0) where
  fields-refused : (g : Got (List ℕ)) (d k : ℕ) → times n varint_at l j ≡ g → numbers n n Varint l j ≡ stop d k → g ≡ stop d k
  unfolding numbers several number_at sequence.mapped bind follow pure
  fields-refused (got vs m) d k f p = let y = rw f at p in absurd (stop-not-got (sym y))
  fields-refused (stop b m) d k f p = let y = rw f at p in cc y

  pub attribute-refused : (s' : List ℕ) (x : Refused) → Put (numbers n n Varint l j) (w + 1) s₁ s₂ (Err x) → Row (attribute_row l) w s s' (Err x)
  attribute-refused s' x p =
      row-stop _ w s s' x
      (one-stop l t j e h _ x.at
      (ap (λ n. times n varint_at l j) (sym c) ∙ fields-refused _ _ x.at refl (put-err _ (w + 1) s₁ s₂ x p)))

  fields-read : (g : Got (List ℕ)) (v : ℕ) (vs : List ℕ) (k : ℕ) → times n varint_at l j ≡ g → numbers n n Varint l j ≡ got (v, vs) k → g ≡ got vs k
  unfolding numbers several number_at sequence.mapped bind follow pure
  fields-read (got us m) v vs k f p = let y = rw f at p in ap₂ got (ap (λ x. x.1) (got-value y)) (got-next y)
  fields-read (stop b m) v vs k f p = let y = rw f at p in absurd (stop-not-got y)

  fields-got : (b : Spot) → Put (numbers n n Varint l j) (w + 1) s₁ s₂ (Ok b) →
      (vs : List ℕ) × (times n varint_at l j ≡ got vs b.pos) × (b.word ≡ w + 1 + length vs) × (s₂ ≡ put_words s₁ (w + 1) vs)
  fields-got b p =
      let (vs, f, m, q) = put-got _ (w + 1) s₁ s₂ b p in
      (vs, fields-read _ b.value vs b.pos refl f, m, q)

  pub attribute-word : (b : Spot) → Put (numbers n n Varint l j) (w + 1) s₁ s₂ (Ok b) → b.word ≡ w + 1 + n
  attribute-word b p =
      let (vs, f, m, q) = fields-got b p in omega (arith, m, times-length n varint_at l j vs b.pos f)

  pub attribute-row : (b : Spot) (s' : List ℕ) → s₁ ≡ put_word s w t → Put (numbers n n Varint l j) (w + 1) s₁ s₂ (Ok b) →
      s' ≡ put_words s₂ b.word (take (6 - n) (drop n (replicate {A = ℕ} 6 0))) → (v : ℕ) →
      Row (attribute_row l) w s s' (Ok record { pos = length l; word = w + 7; value = v })
  unfolding put_words
  attribute-row b s' a p z v =
      let (vs, f, m, q) = fields-got b p in
      let k : length vs ≡ n = times-length n varint_at l j vs b.pos f in
      let few : n ≤ 6 = omega (arith, counts-few t) in
      let i : length vs ≤ 6 = omega arith in
      let o : attribute_row l ≡ got (t ∷ (vs ++ replicate (6 - length vs) 0)) (length l) =
      one-got l t j e h vs b.pos (ap (λ n. times n varint_at l j) (sym c) ∙ f) ∙ ap (λ x. got x (length l)) (words-of t vs i) in
      let r : s' ≡ put_words (put_words s₁ (w + 1) vs) (w + 1 + length vs) (replicate (6 - length vs) 0) = rw (k, ← q) (z ∙ ap (put_words s₂ b.word) (zeros-left n few) ∙ ap (λ i. put_words s₂ i (replicate (6 - n) 0)) (m ∙ ap (λ i. w + 1 + i) k)) in
      row-got _ w s s' _ _ o (omega (arith, length-append vs (replicate (6 - length vs) 0), length-replicate {A = ℕ} (6 - length vs) 0))
      (r ∙ sym (put_words-append vs (replicate (6 - length vs) 0) s₁ (w + 1)) ∙ ap (λ s. put_words s (w + 1) (vs ++ replicate (6 - length vs) 0)) a)

rest-place : (l : List ℕ) (v : ℕ) (g : Got (List ℕ)) (c k : ℕ) → ((d m : ℕ) → g ≡ stop d m → m ≤ length l) →
    follow g (λ vs m. got (v ∷ vs) m) ≡ stop c k → k ≤ length l
unfolding follow
rest-place l v (got vs m) c k h e = absurd (stop-not-got (sym e))
rest-place l v (stop d m) c k h e = let q : m ≡ k = cc in omega (arith, h d m refl)

step-place : (n : ℕ) (l : List ℕ) (i c k : ℕ) → i ≤ length l → ((j d m : ℕ) → j ≤ length l → times n varint_at l j ≡ stop d m → m ≤ length l) →
    (g : Got ℕ) → varint_at l i ≡ g → follow g (λ v j. follow (times n varint_at l j) (λ vs m. got (v ∷ vs) m)) ≡ stop c k → k ≤ length l
unfolding follow
step-place n l i c k h more (got v j) f e =
    rest-place l v (times n varint_at l j) c k (λ d m. more j d m (varint-in l i v j (sym f)).1) e
step-place n l i c k h more (stop d m) f e = let q : m ≡ k = cc in omega (arith, varint-place l i d m f)

times-place : (n : ℕ) (l : List ℕ) (i c k : ℕ) → i ≤ length l → times n varint_at l i ≡ stop c k → k ≤ length l
unfolding times bind sequence.mapped pure follow
times-place zero l i c k h e = absurd (stop-not-got (sym e))
times-place (suc n) l i c k h e = step-place n l i c k h (λ j d m. times-place n l j d m) (varint_at l i) refl e

-- So does the place where an attribute is refused.
same-place : {c d k m : ℕ} → ◌≡◌ {A = Got (List ℕ)} (stop c k) (stop d m) → k ≡ m
same-place e = cc

module _ (l : List ℕ) (c k : ℕ) (e : attribute_row l ≡ stop c k) where
  place-fields : (t j : ℕ) → byte l 0 ≡ got t j → t < 7 → (g : Got (List ℕ)) → times (get_or field_counts t 0) varint_at l j ≡ g → k ≤ length l
  place-fields t j f h (got vs m) g = absurd (stop-not-got (sym e ∙ one-got l t j f h vs m g))
  place-fields t j f h (stop d m) g =
      omega (
        arith,
        same-place (sym e ∙ one-stop l t j f h d m g),
        times-place (get_or field_counts t 0) l j d m (byte-in l 0 t j (sym f)).1 g,
      )

  place-tag : (g : Got ℕ) → byte l 0 ≡ g → k ≤ length l
  place-tag (got t j) f =
      elim (dec_lt t 7) [
        | yes h ↦ place-fields t j f h (times (get_or field_counts t 0) varint_at l j) refl
        | no h ↦ omega (arith, same-place (sym e ∙ one-unknown l t j f (omega arith)))
      ]
  place-tag (stop d m) f =
      elim (dec_lt 0 (length l)) [
        | yes h ↦ absurd (stop-not-got (sym f ∙ byte_at l 0 h))
        | no h ↦ let q : ◌≡◌ {A = ℕ} m 0 = stopped (sym f ∙ byte-end l 0 (omega arith)) in omega (arith, same-place (sym e ∙ one-short l d m f))
      ]
    where
      stopped : {c d k m : ℕ} → ◌≡◌ {A = Got ℕ} (stop c k) (stop d m) → k ≡ m
      stopped e = cc

  pub one_place : k ≤ length l
  one_place = place-tag (byte l 0) refl

attribute-place : (l : List ℕ) (w : ℕ) (s s' : List ℕ) (x : Refused) → Row (attribute_row l) w s s' (Err x) → x.at ≤ length l
attribute-place l w s s' x r = one_place l _ x.at (row-refused _ w s s' x r)

-- An attribute's row has seven words.
attribute-long : (a : Attribute) → length (attribute_words a) ≡ 7
unfolding attribute_words attribute_fields
attribute-long a = refl

pub seven : (l : List ℕ) (w : ℕ) (s s' : List ℕ) (t : Spot) → Row (attribute_row l) w s s' (Ok t) → t.word ≡ w + 7
seven l w s s' t r =
    let (ws, f, m, z) = row_put _ w s s' t r in omega (arith, m, go (attribute_at l 0) refl ws t.pos f)
  where
    go : (g : Got Attribute) → attribute_at l 0 ≡ g → (ws : List ℕ) (j : ℕ) → attribute_row l ≡ got ws j → length ws ≡ 7
    go (got a k) e ws j f =
        ap length (sym (got-value (sym (map-got attribute_words attribute_at l 0 a k e) ∙ f))) ∙ attribute-long a
    go (stop c k) e ws j f = absurd (stop-not-got (sym (map-stop attribute_words attribute_at l 0 c k e) ∙ f))

-- An attribute in the data is refused inside the data.
pub attribute-inside : (s e : ℕ) (d : List ℕ) → s ≤ e → e ≤ length d → (w : ℕ) (t t' : List ℕ) (r : Result Spot Refused) →
    Row (attribute_row (take (e - s) (drop s d))) w t t' r → (x : Refused) → r ≡ Err x → s + x.at ≤ length d
attribute-inside s e d p q w t t' r o x h =
    omega (arith, part_length s e d p q, attribute-place _ w t t' x (subst (λ r. Row (attribute_row (take (e - s) (drop s d))) w t t' r) h o))

-- The bytes of a part are bytes.
pub part-bytes : (n b : ℕ) (l : List ℕ) → ((i : ℕ) → get_or l i 0 < 256) → (i : ℕ) → get_or (take n (drop b l)) i 0 < 256
part-bytes n b l h i =
    elim (dec_lt i n) [
      | yes p ↦ rw (get_or-take n (drop b l) i 0 p, get_or-drop b l i 0) (h (b + i))
      | no p ↦ omega (arith, get_or-eq_default (take n (drop b l)) 0 {n = i} (omega (arith, length-take n (drop b l))))
    ]

-- The first of more numbers.
nums-front : (e n w : ℕ) (s : List ℕ) → e ≤ n → take e (nums n w s) ≡ nums e w s
unfolding nums
nums-front zero n w s h = refl
nums-front (suc e) zero w s h = let z : ⊥ = omega arith in absurd z
nums-front (suc e) (suc n) w s h = ap (λ z. little (take w s) ∷ z) (nums-front e n w (drop w s) (omega arith))

module _ (l : List ℕ) (ids : Starts) (lies : Lies 8 l ids) (e : ℕ) (high : e ≤ length (numbers_in 8 l ids)) where
  ids-few : e ≤ ids.count
  ids-few = omega (arith, length-nums ids.count 8 (drop ids.first l))

  -- They stand where the array of ids stands ..
  pub ids-inside : e * 8 ≤ length (run_of l ids)
  ids-inside = omega (arith, ids-few, run_length 8 l ids lies)

  -- .. and are the first of its numbers.
  pub ids-are : (s w : ℕ) (t t' : List ℕ) → t' ≡ put_words t w (drop s (nums e 8 (run_of l ids))) →
      t' ≡ put_words t w (drop s (take e (numbers_in 8 l ids)))
  ids-are s w t t' h = rw (← run-nums 8 l ids lies, nums-front e ids.count 8 (run_of l ids) ids-few) h

cut-bad : (s e : ℕ) (d : List ℕ) → (s ≤ e → e ≤ length d → ⊥) → cut s e d ≡ none
unfolding cut
cut-bad s e d h =
    elim (dec_le s e) [
      | no p ↦ choose_no (dec_le s e) _ _ p
      | yes p ↦ choose_yes (dec_le s e) _ _ p ∙ choose_no (dec_le e (length d)) _ _ (h p)
    ]

list-behind : (j : ℕ) (x : List ℕ) (w : ℕ) (s s₁ s' : List ℕ) (r : Result Spot Refused) → s₁ ≡ put_words s w (list_words x) → (o : Option (List (List ℕ))) →
    Row (list_rows j o) (w + length (list_words x)) s₁ s' r → Row (list_rows j (consed (some x) o)) w s s' r
unfolding list_rows consed
list-behind j x w s s₁ s' r e none y = row-stopped _ _ _ w s₁ s s' r y
list-behind j x w s s₁ s' r e (some ls) y = row_more (list_words x) _ j w s s₁ s' r e y

-- The last k of the lists that starts cut out of the ids d, in words.
module _ (j : ℕ) (d run : List ℕ) where
  abbrev pub lists_left : ℕ → ℕ → ℕ → Got (List ℕ)
  lists_left k s i = list_rows j (cuts (ahead 4 run k s i) d)

  -- None are left ..
  pub lists-done : (k s i w v : ℕ) (t t' : List ℕ) → k ≤ 0 → t' ≡ t → Row (lists_left k s i) w t t' (Ok record { pos = j; word = w; value = v })
  unfolding list_rows cuts put_words
  lists-done zero s i w v t t' h e = row-got _ w t t' [] _ refl (sym (add-zero w)) e
  lists-done (suc k) s i w v t t' h e = let z : ⊥ = omega arith in absurd z

  module _ (size : ℕ) (long : size ≡ length d) (k r s i : ℕ) (more : k ≡ suc r) (before : Before 4 size run k s i) (w : ℕ) (t : List ℕ) where
    first-list : (e h : ℕ) → got e h ≡ number_or 4 size run i → cuts (ahead 4 run k s i) d ≡ consed (cut s e d) (cuts (ahead 4 run r e h) d)
    unfolding cuts
    first-list e h q =
        let (x, y) = before-next 4 size run (omega arith) k r s i e h more before q in
        ap (λ ss. cuts ss d) y ∙ ap (λ z. consed (cut s z d) (cuts (ahead 4 run r e h) d)) (before-ends 4 size run d long r e h x)

    -- .. the bounds of the first are bad ..
    pub lists-bad : (y : Refused) → end_at 4 0 size s run i ≡ stop_of y → (t' : List ℕ) → Row (lists_left k s i) w t t' (Err y)
    unfolding list_rows consed
    lists-bad y e t' =
        let (z, h, q, f, g, bad) = end-stop 4 0 size s run i _ y.at e in
        row-stop _ w t t' y (rw (first-list z h q, cut-bad s z d (λ a b. bad (omega arith) (omega (arith, b)))) (cc))

    -- .. or it is put.
    pub lists-more : (e h : ℕ) → end_at 4 0 size s run i ≡ got e h → (v : ℕ) (t₁ t₂ t' : List ℕ) (q : Result Spot Refused) → t₁ ≡ put_word t w (e - s) →
        t₂ ≡ put_words t₁ (w + 1) (drop s (take e d)) → v ≡ w + (e - s + 1) → Row (lists_left r e h) v t₂ t' q →
        Row (lists_left k s i) w t t' q
    unfolding put_words
    lists-more e h good v t₁ t₂ t' q one ids next x =
        let (a, b, c) = end-got 4 0 size s run i e h good in
        let m : e ≤ length d = omega arith in
        let n : length (drop s (take e d)) ≡ e - s = length-slice s e d m in
        let o : v ≡ w + length (list_words (drop s (take e d))) = omega arith in
        let y : t₂ ≡ put_words t w (list_words (drop s (take e d))) = ids ∙ rw (one, n) in
        rw (first-list e h a, cut-is s e d (omega arith) m) (list-behind j (drop s (take e d)) w t t₂ t' q y _ (rw o at x))

  -- The loop begins before all lists.
  pub lists-all : (l : List ℕ) (u : Starts) → Lies 4 l u → run ≡ run_of l u → (size : ℕ) → (s i : ℕ) → got s i ≡ number_or 4 size run 0 →
      Before 4 size run u.count s i × (lists_left u.count s i ≡ list_rows j (cuts (numbers_in 4 l u) d))
  lists-all l u lies same size s i e =
      let (b, a) = run-first 4 size l u (omega arith) lies s i (rw same at e) in
      rw same (b, ap (λ ss. list_rows j (cuts ss d)) (sym a))

-- As many lists as starts.
consed-long : (o : Option (List ℕ)) (p : Option (List (List ℕ))) (zs : List (List ℕ)) → consed o p ≡ some zs →
    (es : List (List ℕ)) × (p ≡ some es) × (length zs ≡ suc (length es))
unfolding consed
consed-long none p zs h = let n : ◌≡◌ {A = ℕ} 0 1 = cc in let z : ⊥ = omega arith in absurd z
consed-long (some e) none zs h = let n : ◌≡◌ {A = ℕ} 0 1 = cc in let z : ⊥ = omega arith in absurd z
consed-long (some e) (some es) zs h = let q : e ∷ es ≡ zs = cc in (es, refl, sym (ap length q))

cuts-long : (ss d : List ℕ) (ls : List (List ℕ)) → cuts ss d ≡ some ls → length ls ≡ length ss
unfolding cuts
cuts-long [] d ls e = let q : [] ≡ ls = cc in sym (ap length q)
cuts-long (s ∷ ss) d ls e =
    let (es, f, g) = consed-long (cut s (end_of ss d) d) (cuts ss d) ls e in g ∙ ap suc (cuts-long ss d es f)

-- What the words of attributes and of lists were read from.
attributes-from : (g : Got (List Attribute)) (ws : List ℕ) (j : ℕ) → words_of attribute_words g ≡ got ws j →
    (vs : List Attribute) × (g ≡ got vs j) × (join (map attribute_words vs) ≡ ws)
unfolding words_of follow
attributes-from (got vs k) ws j e = (vs, ap (got vs) (got-next e), got-value e)
attributes-from (stop c k) ws j e = absurd (stop-not-got e)

attributes-not : (g : Got (List Attribute)) (c k : ℕ) → words_of attribute_words g ≡ stop c k → g ≡ stop c k
unfolding words_of follow
attributes-not (got vs j) c k e = absurd (stop-not-got (sym e))
attributes-not (stop d m) c k e = moved e
  where
    moved : {c d k m : ℕ} → ◌≡◌ {A = Got (List ℕ)} (stop c k) (stop d m) → ◌≡◌ {A = Got (List Attribute)} (stop c k) (stop d m)
    moved e = cc

lists-from : (i : ℕ) (o : Option (List (List ℕ))) (ws : List ℕ) (j : ℕ) → list_rows i o ≡ got ws j →
    (ls : List (List ℕ)) × (o ≡ some ls) × (join (map list_words ls) ≡ ws)
unfolding list_rows
lists-from i none ws j e = absurd (stop-not-got e)
lists-from i (some ls) ws j e = (ls, refl, got-value e)

lists-not : (i : ℕ) (o : Option (List (List ℕ))) (c k : ℕ) → list_rows i o ≡ stop c k →
    (o ≡ none) × (◌≡◌ {A = Got DebugTables} (stop refusals.bounds 0) (stop c k))
unfolding list_rows
lists-not i none c k e = (refl, moved e)
  where
    moved : {c d k m : ℕ} → ◌≡◌ {A = Got (List ℕ)} (stop c k) (stop d m) → ◌≡◌ {A = Got DebugTables} (stop c k) (stop d m)
    moved e = cc
lists-not i (some ls) c k e = absurd (stop-not-got (sym e))

-- As many attributes as starts, of seven words each.
attributes-count : (l : List ℕ) (u : Starts) (vs : List Attribute) (k : ℕ) → entries_by 1 attribute_at l u ≡ got vs k → length vs ≡ u.count
unfolding entries_by
attributes-count l u vs k e = entries-count _ _ attribute_at _ _ _ _ vs k e ∙ length-nums u.count 4 (drop u.first l)

pub attributes-word : (l : List ℕ) (u : Starts) (w : ℕ) (s s' : List ℕ) (t : Spot) →
    Row (words_of attribute_words (entries_by 1 attribute_at l u)) w s s' (Ok t) → t.word ≡ w + 7 * u.count
attributes-word l u w s s' t r =
    let (ws, e, m, p) = row_put _ w s s' t r in
    let (vs, f, g) = attributes-from _ ws t.pos e in
    omega (arith, m, ap length g, attributes-words vs, attributes-count l u vs t.pos f)

-- The section's answer: a refusal ..
module _ (at : Filled) (g : Got DebugTables) (s s' : List ℕ) where
  pub debug-stop : (x : Refused) → g ≡ stop_of x → DebugFills at g s s' (Err x)
  debug-stop x e = record { answer = sym (ap (debug_behind at) e); words = λ t j f. absurd (stop-not-got (sym e ∙ f)) }

  -- .. or the words of the tables.
  debug-got : (t : DebugTables) (j m n v : ℕ) → g ≡ got t j → m ≡ length t.attributes → n ≡ length t.lists →
      v ≡ at.words + length (debug_words t) → s' ≡ put_words s at.words (debug_words t) →
      DebugFills at g s s' (Ok record { attributes = m; lists = n; filled = record { words = v; bytes = at.bytes } })
  debug-got t j m n v e a b d p =
      let q : counted m n v at.bytes ≡ debug_behind at (got t j) = cc in
      record {
        answer = q ∙ sym (ap (debug_behind at) e);
        words = λ u k f. p ∙ ap (λ t. put_words s at.words (debug_words t)) (got-value (sym e ∙ f));
      }

pub debug-as : (at : Filled) {g h : Got DebugTables} {s s' : List ℕ} {r : Result DebugFilled Refused} → g ≡ h → DebugFills at g s s' r → DebugFills at h s s' r
debug-as at e x = rw e at x

-- The attributes that their starts cut, and then the lists that theirs cut out of the ids.
abbrev pub debug_from : List ℕ → Starts → Starts → Starts → Got DebugTables
debug_from l lists ids attributes =
    bind (rows 0 refusals.bounds 1 attribute_at (numbers_in 4 l attributes))
    (λ found. lists_at found (cuts (numbers_in 4 l lists) (numbers_in 8 l ids))) l attributes.data

module _ (l : List ℕ) (lists ids u : Starts) where
  abbrev each : Got (List Attribute)
  each = entries_by 1 attribute_at l u

  from-stop : (c k : ℕ) → each ≡ stop c k → debug_from l lists ids u ≡ stop c k
  unfolding entries_by bind rows follow
  from-stop c k e = rw e

  from-bad : (vs : List Attribute) (k : ℕ) → each ≡ got vs k → cuts (numbers_in 4 l lists) (numbers_in 8 l ids) ≡ none →
      debug_from l lists ids u ≡ stop refusals.bounds 0
  unfolding entries_by bind rows follow lists_at
  from-bad vs k e f = rw (e, f)

  from-got : (vs : List Attribute) (k : ℕ) → each ≡ got vs k → (ls : List (List ℕ)) →
      cuts (numbers_in 4 l lists) (numbers_in 8 l ids) ≡ some ls → debug_from l lists ids u ≡ got (record { attributes = vs; lists = ls }) k
  unfolding entries_by bind rows follow lists_at
  from-got vs k e ls f = rw (e, f)

  module _ (at : Filled) (s s₁ : List ℕ) where
    pub attributes-refused : (x : Refused) → Row (words_of attribute_words each) at.words s s₁ (Err x) →
        DebugFills at (debug_from l lists ids u) s s₁ (Err x)
    attributes-refused x r =
        debug-stop at _ s s₁ x (from-stop _ x.at (attributes-not _ _ x.at (row-refused _ at.words s s₁ x r)))

    module _ (t : Spot) (r : Row (words_of attribute_words each) at.words s s₁ (Ok t)) (s' : List ℕ) where
      abbrev behind : Got (List ℕ)
      behind = list_rows t.pos (cuts (numbers_in 4 l lists) (numbers_in 8 l ids))

      pub lists-refused : (x : Refused) → Row behind t.word s₁ s' (Err x) → DebugFills at (debug_from l lists ids u) s s' (Err x)
      lists-refused x o =
          let (ws, e, m, p) = row_put _ at.words s s₁ t r in
          let (vs, f, g) = attributes-from _ ws t.pos e in
          let (n, q) = lists-not t.pos _ _ x.at (row-refused _ t.word s₁ s' x o) in
          debug-stop at _ s s' x (from-bad vs t.pos f n ∙ q)

      pub debug-filled : (v : Spot) → Row behind t.word s₁ s' (Ok v) →
          DebugFills at (debug_from l lists ids u) s s' (Ok record { attributes = u.count; lists = lists.count; filled = record { words = v.word; bytes = at.bytes } })
      unfolding debug_words
      debug-filled v o =
          let (ws, e, i, p) = row_put _ at.words s s₁ t r in
          let (vs, f, g) = attributes-from _ ws t.pos e in
          let (us, h, j, q) = row_put _ t.word s₁ s' v o in
          let (ls, x, y) = lists-from t.pos _ us v.pos h in
          let c : u.count ≡ length vs = sym (attributes-count l u vs t.pos f) in
          let d : lists.count ≡ length ls =
          sym (cuts-long _ _ ls x ∙ length-nums lists.count 4 (drop lists.first l)) in
          let z : s' ≡ put_words s at.words (ws ++ us) =
          q ∙ ap (λ x. put_words x t.word us) p ∙ ap (λ n. put_words (put_words s at.words ws) n us) i ∙
          sym (put_words-append ws us s at.words) in
          debug-got at _ s s' _ t.pos _ _ v.word (from-got vs t.pos f ls x) c d
          (rw (g, y) (omega (arith, j, i, length-append ws us))) (rw (g, y) z)

-- All arrays come first.
attributes-then : (l : List ℕ) (g : Got ℕ) →
    follow g (λ n j. entries shape 4 4 0 1 attribute_at n l j) ≡
    follow (follow g (λ n j. bind (padding_at 4) (λ u. times n (fixed 4)) l j)) (λ os k. rows 0 refusals.bounds 1 attribute_at os l k)
unfolding follow entries bind padding_at
attributes-then l (got n j) = sym (follow-follow (pad refusals.unpadded P 4 l j) _ _)
attributes-then l (stop c k) = refl

attributes-behind : (l : List ℕ) (i : ℕ) → attributes_at l i ≡ follow (padded_at 4 4 l i) (λ os k. rows 0 refusals.bounds 1 attribute_at os l k)
unfolding attributes_at padded_at bind
attributes-behind l i = attributes-then l (varint_at l i)

module _ (l : List ℕ) where
  pub starts-refused : (c k : ℕ) → array_at 4 4 l 0 ≡ stop c k → debug_at l 0 ≡ stop c k
  unfolding debug_at
  starts-refused c k e = bind-stop (padded_at 4 4) _ l 0 c k (sym (array-refused 4 4 l 0 c k e))

  module _ (lists : Starts) (e : array_at 4 4 l 0 ≡ got_starts 4 l (Ok lists)) where
    abbrev i : ℕ
    i = lists.data

    starts-got : padded_at 4 4 l 0 ≡ got (numbers_in 4 l lists) i
    starts-got = array-padded 4 4 l 0 _ _ _ e

    pub ids-refused : (c k : ℕ) → array_at 8 8 l i ≡ stop c k → debug_at l 0 ≡ stop c k
    unfolding debug_at
    ids-refused c k f =
        bind-got (padded_at 4 4) _ l 0 _ i (sym starts-got) ∙ bind-stop (padded_at 8 8) _ l i c k (sym (array-refused 8 8 l i c k f))

    module _ (ids : Starts) (f : array_at 8 8 l i ≡ got_starts 8 l (Ok ids)) where
      abbrev j : ℕ
      j = ids.data

      behind-ids : debug_at l 0 ≡ follow (attributes_at l j) (λ found k. lists_at found (cuts (numbers_in 4 l lists) (numbers_in 8 l ids)) l k)
      unfolding debug_at bind follow
      behind-ids = rw (starts-got, array-padded 8 8 l i _ _ _ f)

      pub offsets-refused : (c k : ℕ) → array_at 4 4 l j ≡ stop c k → debug_at l 0 ≡ stop c k
      unfolding follow
      offsets-refused c k g = behind-ids ∙ rw (attributes-behind l j, array-refused 4 4 l j c k g)

      pub offsets-got : (u : Starts) → array_at 4 4 l j ≡ got_starts 4 l (Ok u) → debug_from l lists ids u ≡ debug_at l 0
      unfolding follow bind
      offsets-got u g = sym (behind-ids ∙ rw (attributes-behind l j, array-padded 4 4 l j _ _ _ g))
