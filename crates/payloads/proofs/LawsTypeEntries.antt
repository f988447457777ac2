-- Rows of type entries: the presence below 13.3, and the count before a row. Assumes nothing.
use Rattle.std.specs.Prelude.{Result, Ok}
use mathlib.Core.Path.{◌≡◌, refl, sym, ap, ◌∙◌, subst}
use Prim.Native.Nat.{ℕ, ◌+◌, ◌-◌, ◌≤◌}
use native.Mathlib.Nat.{add-zero}
use borrow.Author.Tests.{eq-eqb, ne_eqb}
use lib.Dec.{eqb}
use mir.Val.{bool_byte}
use native.Mathlib.Decide.{ℕ_discrete}
use native.Mathlib.Omega.{arith}
use mathlib.Core.Bool.{not}
use mathlib.Core.List.{List, [], ◌∷◌, ◌++◌}
use lib.ListN.{length, length-append}
use Rattle.exact.specs.Got.{Got, got, stop, follow}
use Rattle.exact.specs.Exact.{Parser}
use Rattle.exact.specs.Basic.{byte, pure}
use Rattle.exact.specs.Sequence.{bind, mapped}
use Rattle.exact.specs.Padding.{here}
use Rattle.exact.specs.Upto.{upto}
use Rattle.exact.proofs.LawsExact.{got-value, got-next, stop-not-got}
use Rattle.exact.proofs.LawsSequence.{follow-inv}
use Rattle.enums.specs.Types as tags
use Rattle.enums.specs.declared.VersionClass.{VersionClass}
use Rattle.reading.specs.Numbers.{varint_at}
use Rattle.reading.specs.declared.Refused.{Refused}
use Rattle.format.specs.Tables.{TypeRow}
use Rattle.format.specs.Items.{truth}
use Rattle.format.specs.Sheet.{field_words, type_words}
use Rattle.format.specs.DecodeTables.{field_at}
use Rattle.format.specs.DecodeTypes.{old_partition_view_at, fields_at, type_entry_at}
use Rattle.format.proofs.LawsItems.{truth-zero, truth-one}
use Rattle.sheet.specs.Store.{put_word, put_words}
use Rattle.sheet.proofs.LawsStore.{put_words-append}
use Rattle.payloads.specs.declared.fields.Number.TheVariants.{Byte}
use Rattle.payloads.specs.declared.fields.Spot.{Spot}
use Rattle.payloads.specs.Fields.{number_at, as_word, Put, Step}
use Rattle.payloads.specs.TypeRows.{place_of, Row, Kind}
use Rattle.payloads.proofs.LawsWords.{word-before}
use Rattle.payloads.proofs.LawsFields.{map-got, number_in, put-got, within-then, within-most}
use Rattle.payloads.proofs.LawsTypes.{Via, unput, old_end, old_steps, old-says, Ran, run, stopped}
use Rattle.payloads.proofs.LawsEntryRows.{row_put}

-- A row below 13.3: tag and presence are put before words that are there already.
module _ (l s s' : List ℕ) (i w v : ℕ) (ws : List ℕ) (j : ℕ) (r : Result Spot Refused) (e : run old_steps l i ≡ got (v, ws) j) where
  old-words : put_word (put_word (put_words s (w + 2) ws) (w + 1) v) w tags.tag_partition_view ≡
      put_words s w (tags.tag_partition_view ∷ v ∷ ws)
  unfolding put_words
  old-words =
      let n : w + 1 + 1 ≡ w + 2 = omega arith in
      ap (λ t. put_word t w tags.tag_partition_view) (word-before ws s (w + 1) (w + 2) v (omega arith)) ∙
      word-before ws (put_word s (w + 1) v) w (w + 2) tags.tag_partition_view (omega arith) ∙
      ap (λ t. put_words t (w + 2) ws) (word-before (v ∷ []) s w (w + 1) tags.tag_partition_view (omega arith)) ∙ rw n

  old-model : (g : Got (List ℕ)) → old_end (v, ws) l j ≡ g → mapped field_words old_partition_view_at l i ≡ g
  unfolding Via bind follow
  old-model g h = old-says l i ∙ rw e h

  old-end : (a : Got ℕ) → field_at (ℕ_discrete v 1) varint_at l j ≡ a →
      Put (as_word (field_at (ℕ_discrete v 1) varint_at) l j) (w + 2 + length ws) (put_words s w (tags.tag_partition_view ∷ v ∷ ws)) s' r →
      Row (mapped field_words old_partition_view_at l i) w s s' r
  unfolding as_word mapped bind follow pure Put Row place_of old_end
  old-end (got u k) f x =
      let m = old-model (got (tags.tag_partition_view ∷ v ∷ (ws ++ (u ∷ []))) k) (rw f refl) in
      let (y, z) = rw f at x in
      let n : w + 2 + length ws + 1 ≡ w + length (tags.tag_partition_view ∷ v ∷ (ws ++ (u ∷ []))) =
      omega (arith, length-append ws (u ∷ [])) in
      let o : w + 2 + length ws ≡ w + length (tags.tag_partition_view ∷ v ∷ ws) = omega arith in
      rw m (
        ap place_of y ∙ ap (λ a. got a k) n,
        z ∙ rw o (sym (put_words-append (tags.tag_partition_view ∷ v ∷ ws) (u ∷ []) s w)),
      )
  old-end (stop c k) f x =
      let m = old-model (stop c k) (rw f refl) in
      let y = rw f at x in
      rw m (stopped r c k y)

-- Whether a byte is nonzero, as it is tested.
pub truth-test : (v r : ℕ) → r ≡ bool_byte (not (eqb v 0)) → r ≡ truth v
truth-test v r h =
    elim (ℕ_discrete v 0) [
      | yes e ↦ let k = rw (eq-eqb v 0 e) at h in k ∙ truth-zero v e
      | no n ↦ let k = rw (ne_eqb v 0 n) at h in k ∙ truth-one v n
    ]

-- A presence that was read.
map-back : {A B : Type 0} (f : A → B) (p : Parser A) (l : List ℕ) (i : ℕ) (v : B) (j : ℕ) → mapped f p l i ≡ got v j → (b : A) × (p l i ≡ got b j)
unfolding mapped bind pure
map-back f p l i v j e =
    let (b, k, a, d) = follow-inv (p l i) (λ b k. got (f b) k) v j e in
    (b, a ∙ ap (got b) (got-next d))

pub presence-got : (l s : List ℕ) (t : Spot) (v j : ℕ) → got v j ≡ mapped truth byte l t.pos →
    Step 1 (unput (mapped truth byte)) l t s s (Ok record { pos = j; word = t.word; value = v })
unfolding unput Put put_words number_at
presence-got l s t v j e =
    let (b, a) = map-back truth byte l t.pos v j (sym e) in
    let m = number_in Byte l t.pos b j (sym a) in
    let g : mapped {B = ℕ × List ℕ} (λ v. (v, [])) (mapped truth byte) l t.pos ≡ got (v, []) j = map-got (λ v. (v, [])) (mapped truth byte) l t.pos v j (sym e) in
    record {
      put = subst (λ g. Put g t.word s s (Ok record { pos = j; word = t.word; value = v })) (sym g) (rw add-zero refl, refl);
      within = (m.1, omega (arith, m.0));
    }

-- Below 13.3 tag and presence are put before what was read, and the padding behind it.
pub old_kind : {n m : ℕ} {l s s₁ s₂ s' : List ℕ} (at : Spot) {b : Spot} {r : Result Spot Refused} → n + m ≤ 5 →
    Ran n old_steps l (record { pos = at.pos; word = at.word + 2; value = at.value }) s s₁ (Ok b) →
    s₂ ≡ put_word (put_word s₁ (at.word + 1) b.value) at.word tags.tag_partition_view →
    Step m (as_word (field_at (ℕ_discrete b.value 1) varint_at)) l b s₂ s' r → Kind old_partition_view_at l at s s' r
old_kind {n} {m} {l} {s} {s₁} {s₂} {s'} at {b} {r} few y p z =
    let (ws, e, w, q) = put-got (run old_steps l at.pos) (at.word + 2) s s₁ b y.step.put in
    let o : s₂ ≡ put_words s at.word (tags.tag_partition_view ∷ b.value ∷ ws) =
    p ∙ ap (λ x. put_word (put_word x (at.word + 1) b.value) at.word tags.tag_partition_view) q ∙
    (old-words l s s' at.pos at.word b.value ws b.pos r e) in
    let x : Put (as_word (field_at (ℕ_discrete b.value 1) varint_at) l b.pos) (at.word + 2 + length ws) (put_words s at.word (tags.tag_partition_view ∷ b.value ∷ ws)) s' r =
    rw (← w, ← o) z.put in
    record {
      row = old-end l s s' at.pos at.word b.value ws b.pos r e (field_at (ℕ_discrete b.value 1) varint_at l b.pos) refl x;
      within = within-most l at.pos at.word (2 + n + m) 7 r (omega arith)
          (within-then l (2 + n) m at.pos at.word b r (omega (arith, y.step.within.1)) z.within);
    }

-- The count of a row is put before its words.
module _ (c : VersionClass) (l : List ℕ) (w : ℕ) (s s₁ s' : List ℕ) where
  module _ (t j : ℕ) (e : got t j ≡ varint_at l 0) where
    entry-any : (d : Spot) (u : ℕ) (g : Got TypeRow) → fields_at c 0 t l j ≡ g → s' ≡ put_word s₁ w (d.word - (w + 1)) →
        Row (mapped field_words (fields_at c 0 t) l j) (w + 1) s s₁ (Ok d) →
        Row (mapped type_words (type_entry_at c) l 0) w s s' (Ok record { pos = length l; word = d.word; value = u })
    unfolding type_entry_at upto here mapped bind follow pure Row place_of type_words put_words
    entry-any d u (got v k) f p h =
        let (y, z) = rw f at h in
        let q : d.word ≡ w + 1 + length (field_words v) = got-value y in
        let n : d.word - (w + 1) ≡ length (field_words v) = omega arith in
        let o : w + 1 + length (field_words v) ≡ w + length (length (field_words v) ∷ field_words v) = omega arith in
        rw (← e, f) (
          ap (λ a. got a (length l)) (q ∙ o),
          p ∙ rw (n, z) (word-before (field_words v) s w (w + 1) (length (field_words v)) (omega arith)),
        )
    entry-any d u (stop b k) f p h = let y = rw f at h in absurd (stop-not-got (sym y))

    pub entry-got : (d : Spot) (u : ℕ) → s' ≡ put_word s₁ w (d.word - (w + 1)) →
        Row (mapped field_words (fields_at c 0 t) l j) (w + 1) s s₁ (Ok d) →
        Row (mapped type_words (type_entry_at c) l 0) w s s' (Ok record { pos = length l; word = d.word; value = u })
    entry-got d u p h = entry-any d u (fields_at c 0 t l j) refl p h

-- A row's words stand from w on.
pub row-least : (g : Got (List ℕ)) (w : ℕ) (s s' : List ℕ) (d : Spot) → Row g w s s' (Ok d) → w ≤ d.word
row-least g w s s' d h = let (ws, e, m, p) = row_put g w s s' d h in omega arith
