-- Debug is read exactly. Assumes nothing.
use mathlib.Core.Path.{◌≡◌, refl, sym, ◌∙◌, subst}
use Prim.Native.Nat.{ℕ, ◌≤◌, ◌<◌}
use native.Mathlib.Omega.{arith}
use native.Mathlib.Decide.{dec_lt}
use mathlib.Core.Option.{Option, none, some}
use mathlib.Core.List.{List}
use lib.ListN.{length, drop, get_or}
use Rattle.exact.specs.Got.{got, follow}
use Rattle.exact.specs.Exact.{Lang, Ends}
use Rattle.exact.specs.Basic.{One, one, Never}
use Rattle.exact.specs.Sequence.{bind, Then, then, Of, of}
use Rattle.exact.specs.Choice.{If, so, else}
use Rattle.exact.specs.Repeat.{Many}
use Rattle.exact.specs.Tiling.{Tiled, cuts}
use Rattle.exact.specs.Upto.{Upto, upto_of}
use Rattle.exact.specs.Entries.{Rows, Entries}
use Rattle.exact.proofs.LawsExact.{same_ends, stop-not-got, got-value, got-next}
use Rattle.exact.proofs.LawsBasic.{byte-exact}
use Rattle.exact.proofs.LawsSequence.{bind-exact, map-exact, bind-ends, follow-inv}
use Rattle.exact.proofs.LawsChoice.{choose-exact}
use Rattle.exact.proofs.LawsRepeat.{times-exact}
use Rattle.exact.proofs.LawsPadding.{here-exact}
use Rattle.exact.proofs.LawsTiling.{cuts-exact}
use Rattle.exact.proofs.LawsRefuse.{refuse-exact}
use Rattle.exact.proofs.LawsUpto.{upto-ends}
use Rattle.exact.proofs.LawsEntries.{counted-entries-ends}
use Rattle.enums.specs.Container.{P}
use Rattle.enums.specs.Debug.{field_counts}
use Rattle.reading.proofs.LawsNumbers.{varint-exact}
use Rattle.format.specs.Tables.{Attribute}
use Rattle.format.specs.Items.{Number, Padded}
use Rattle.format.specs.Debug.{attribute_of, AttributeEntry, attribute, DebugTables, Debug, debug}
use Rattle.format.specs.DecodeTables.{shape}
use Rattle.format.specs.DecodeDebug.{attribute_at, attributes_at, lists_at, debug_at}
use Rattle.format.proofs.LawsItems.{padded-exact}

abbrev Tagged : Lang Attribute
Tagged = Then One (λ t. If (t < length field_counts) (Of (attribute_of t) (Many Number (get_or field_counts t 0))) Never)

to-attribute : (i : ℕ) (bs : List ℕ) (v : Attribute) → Upto Tagged i bs v → AttributeEntry i bs v
to-attribute i bs v (upto_of left (then one (so h (of m)))) = attribute left h m
to-attribute i _ v (upto_of left (then {cs = cs} (one {b = b}) (else _ never))) = elim never [ ]

of-attribute : (i : ℕ) (bs : List ℕ) (v : Attribute) → AttributeEntry i bs v → Upto Tagged i bs v
of-attribute i bs v (attribute {bs = b} left h m) = upto_of left (then one (so h (of m)))

pub attribute-ends : Ends attribute_at AttributeEntry
unfolding attribute_at
attribute-ends =
    same_ends
    (upto-ends (here-exact {R = λ k. Tagged} (λ k. bind-exact byte-exact
    (λ t. choose-exact (dec_lt t (length field_counts)) (map-exact (attribute_of t) (times-exact (get_or field_counts t 0) varint-exact))
    (refuse-exact _ k)))))
    (λ i bs v. (to-attribute i bs v, of-attribute i bs v))

attribute-some : (e : List ℕ) (v : Attribute) → AttributeEntry 0 e v → 1 ≤ length e
attribute-some e v (attribute left h m) = omega arith

abbrev Attributes : Lang (Rows Attribute)
Attributes = Entries Number P 4 4 0 AttributeEntry

attributes-ends : Ends attributes_at Attributes
unfolding attributes_at
attributes-ends = counted-entries-ends shape varint-exact 4 4 0 1 attribute-ends attribute-some

-- Attributes to the end, and the lists that the starts cut out of the ids.
pub data Both (starts ids : List ℕ) : ℕ → List ℕ → DebugTables → Type 0 where
  both : {i : ℕ} {bs : List ℕ} {rows : Rows Attribute} {lists : List (List ℕ)} → Attributes i bs rows → Tiled starts ids lists →
      Both starts ids i bs (record { attributes = rows.values; lists = lists })

lists-inv : (rows : Rows Attribute) (o : Option (List (List ℕ))) (l : List ℕ) (i : ℕ) (v : DebugTables) (j : ℕ) →
    lists_at rows o l i ≡ got v j → (lists : List (List ℕ)) × (o ≡ some lists) × (record { attributes = rows.values; lists = lists } ≡ v) × (i ≡ j)
unfolding lists_at
lists-inv rows none l i v j e = absurd (stop-not-got e)
lists-inv rows (some lists) l i v j e = (lists, refl, got-value e, got-next e)

module _ (starts ids : List ℕ) where
  both-complete : (l : List ℕ) (i : ℕ) (bs : List ℕ) (v : DebugTables) → Both starts ids i bs v → drop i l ≡ bs →
      bind attributes_at (λ rows. lists_at rows (cuts starts ids)) l i ≡ got v (length l)
  unfolding bind follow lists_at
  both-complete l i bs v (both {rows = rows} {lists = lists} a t) d =
      rw (attributes-ends.complete l i rows (rw d a), (cuts-exact starts ids lists).1 t)

  both_ends : Ends (bind attributes_at (λ rows. lists_at rows (cuts starts ids))) (Both starts ids)
  unfolding bind
  both_ends =
      record {
        sound = λ l i v j e.
            let (rows, k, g, h) = follow-inv (attributes_at l i) (λ rows k. lists_at rows (cuts starts ids) l k) v j e in
            let (lists, c, q, n) = lists-inv rows (cuts starts ids) l k v j h in
            let a = attributes-ends.sound l i rows k g in
            let r : Both starts ids i (drop i l) (record { attributes = rows.values; lists = lists }) =
            both a.0 ((cuts-exact starts ids lists).0 c) in
            (subst (Both starts ids i (drop i l)) q r, sym n ∙ a.1);
        complete = λ l i v r. both-complete l i (drop i l) v r refl;
      }

abbrev Chain : Lang DebugTables
Chain = Then (Padded 4 4) (λ starts. Then (Padded 8 8) (λ ids. Both starts ids))

to-debug : (i : ℕ) (bs : List ℕ) (v : DebugTables) → Chain i bs v → Debug i bs v
to-debug i bs v (then s (then d (both a t))) = debug s d a t

of-debug : (i : ℕ) (bs : List ℕ) (v : DebugTables) → Debug i bs v → Chain i bs v
of-debug i bs v (debug s d a t) = then s (then d (both a t))

pub debug-ends : Ends debug_at Debug
unfolding debug_at
debug-ends =
    same_ends (bind-ends (padded-exact 4 4) (λ starts. bind-ends (padded-exact 8 8) (λ ids. both_ends starts ids)))
    (λ i bs v. (to-debug i bs v, of-debug i bs v))
