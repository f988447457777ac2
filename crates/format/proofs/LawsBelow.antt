-- What the reader of a payload answers, a next place or a refusal's, is a place of the payload or its end. Assumes
-- nothing.
use mathlib.Core.Path.{◌≡◌, refl, subst}
use Prim.Native.Nat.{ℕ, zero, suc, ◌+◌, ◌*◌, ◌-◌, ◌/◌, ◌%◌, ◌≤◌}
use native.Mathlib.Omega.{arith}
use native.Mathlib.Decide.{dec_le, dec_lt, ℕ_discrete}
use mathlib.Core.Bool.{true, Bool-discrete}
use mathlib.Core.Option.{Option, none, some}
use mathlib.Core.List.{List, [], ◌∷◌}
use lib.ListN.{length, take, drop, get_or, replicate, length-drop}
use lib.Seq.{length-take-le}
use Rattle.exact.specs.Got.{Got, got, stop, follow}
use Rattle.exact.specs.Exact.{Parser}
use Rattle.exact.specs.Basic.{byte, pure, fail}
use Rattle.exact.specs.Sequence.{bind, mapped}
use Rattle.exact.specs.Choice.{choose, such}
use Rattle.exact.specs.Repeat.{times, counted}
use Rattle.exact.specs.Fixed.{raw, little, fixed}
use Rattle.exact.specs.Padding.{literal, broke, blamed, here, gap, pad}
use Rattle.exact.specs.Kinds.{Case}
use Rattle.exact.specs.Refuse.{refuse, pick_at}
use Rattle.exact.specs.Upto.{upto, whole, place}
use Rattle.exact.specs.Tiling.{cut, end_of, cuts}
use Rattle.exact.specs.Table.{Shape}
use Rattle.exact.specs.Entries.{raised, cut_least, entry, entries_of, Rows, rows, entries}
use Rattle.exact.proofs.LawsSteps.{byte_at, byte-end, raw_at, raw-end}
use Rattle.enums.specs.Container.{hints_flag}
use Rattle.enums.specs.Refusals as refusals
use Rattle.enums.specs.declared.VersionClass.{VersionClass}
use Rattle.enums.specs.Version.{since13_3, since13_4}
use Rattle.enums.specs.Debug.{field_counts}
use Rattle.reading.specs.Numbers.{digits, varint_at, padding_at, counted_at}
use Rattle.format.specs.Tables.{plain, Attribute}
use Rattle.format.specs.Strings.{no_rows}
use Rattle.format.specs.Types.{plain_tags, among, values_of}
use Rattle.format.specs.Functions.{apart}
use Rattle.format.specs.Debug.{attribute_of}
use Rattle.format.specs.DecodeTables.{field_at, indices_at, padded_at, shape, offset_table_at, strings_at, constants_at, producer_at}
use Rattle.format.specs.DecodeTypes as D
use Rattle.format.specs.DecodeRows.{global_at, globals_at, body_at, function_at, functions_at}
use Rattle.format.specs.DecodeDebug.{attribute_at, attributes_at, lists_at, debug_at}

-- The next place, or the place of the refusal.
abbrev spot : {A : Type 0} → Got A → ℕ
spot (got v j) = j
spot (stop c k) = k

-- From each place of l, and from its end, p answers a place of l or its end.
record Below {A : Type 0} (l : List ℕ) (p : Parser A) : Type 0 where
  low : (i : ℕ) → i ≤ length l → spot (p l i) ≤ length l

raised-spot : {A : Type 0} (n : ℕ) (g : Got A) → spot (raised n g) ≡ n + spot g
unfolding raised
raised-spot n (got v j) = refl
raised-spot n (stop c k) = refl

broke-below : {A : Type 0} (g : Got A) (i n : ℕ) → i ≤ n → spot g ≤ n → spot (broke g i) ≤ n
unfolding broke
broke-below (got v j) i n h k = k
broke-below (stop c m) i n h k = h

-- Where the first answers a place up to n and the second goes on so, both do.
follow-below : {A B : Type 0} (g : Got A) (f : A → ℕ → Got B) (n : ℕ) → spot g ≤ n →
    ((v : A) (j : ℕ) → j ≤ n → spot (f v j) ≤ n) → spot (follow g f) ≤ n
unfolding follow
follow-below (got v j) f n h k = k v j h
follow-below (stop c m) f n h k = h

module _ (l : List ℕ) where
  byte-below : Below l byte
  byte-below =
      record {
        low = λ i h.
            elim (dec_lt i (length l)) [
              | yes k ↦ rw (byte_at l i k) (omega arith)
              | no k ↦ let e : length l ≤ i = omega arith in rw (byte-end l i e) h
            ];
      }

  raw-below : (n : ℕ) → Below l (raw n)
  raw-below n =
      record {
        low = λ i h.
            elim (dec_le n (length l - i)) [
              | yes k ↦ rw (raw_at n l i k) (omega arith)
              | no k ↦ let e : suc (length l - i) ≤ n = omega arith in rw (raw-end n l i e) h
            ];
      }

  pure_below : {A : Type 0} (w : A) → Below l (pure w)
  unfolding pure
  pure_below w = record { low = λ i h. h }

  fail-below : {A : Type 0} (c : ℕ) → Below l (fail {A = A} c)
  unfolding fail
  fail-below c = record { low = λ i h. h }

  -- A refusal of a passed place.
  refuse-below : {A : Type 0} (c k : ℕ) → k ≤ length l → Below l (refuse {A = A} c k)
  unfolding refuse
  refuse-below c k h = record { low = λ i _. h }

  whole_below : Below l whole
  unfolding whole
  whole_below = record { low = λ i h. omega arith }

  blamed-below : {A : Type 0} {p : Parser A} → Below l p → Below l (blamed p)
  unfolding blamed
  blamed-below {p = p} x = record { low = λ i h. broke-below (p l i) i (length l) h (x.low i h) }

  choose-below : {A Q : Type 0} (d : Dec Q) {p q : Parser A} → Below l p → Below l q → Below l (choose d p q)
  unfolding choose
  choose-below (yes h) x y = x
  choose-below (no h) x y = y

  -- What depends on its place.
  here-below : {A : Type 0} {f : ℕ → Parser A} → ((k : ℕ) → k ≤ length l → Below l (f k)) → Below l (here f)
  unfolding here
  here-below x = record { low = λ i h. (x i h).low i h }

  place-below : {A : Type 0} {f : ℕ → Parser A} → ((k : ℕ) → k ≤ length l → Below l (f k)) → Below l (bind place f)
  unfolding bind place follow
  place-below x = record { low = λ i h. (x i h).low i h }

  -- One after another.
  bind-below : {A B : Type 0} {p : Parser A} {f : A → Parser B} → Below l p → ((v : A) → Below l (f v)) → Below l (bind p f)
  unfolding bind
  bind-below {p = p} {f = f} x y =
      record { low = λ i h. follow-below (p l i) (λ v j. f v l j) (length l) (x.low i h) (λ v j k. (y v).low j k) }

  -- A function of what is read.
  map_below : {A B : Type 0} (f : A → B) {p : Parser A} → Below l p → Below l (mapped f p)
  unfolding mapped
  map_below f x = bind-below x (λ v. pure_below (f v))

  times_below : {A : Type 0} (n : ℕ) {p : Parser A} → Below l p → Below l (times n p)
  unfolding times
  times_below zero x = pure_below []
  times_below (suc n) x = bind-below x (λ v. map_below (λ vs. v ∷ vs) (times_below n x))

  counted-below : {A : Type 0} {q : Parser ℕ} {p : Parser A} → Below l q → Below l p → Below l (counted q p)
  unfolding counted
  counted-below y x = bind-below y (λ n. times_below n x)

  such-below : {A : Type 0} {Q : A → Type 0} (c : ℕ) (d : (v : A) → Dec (Q v)) {p : Parser A} → Below l p → Below l (such c d p)
  unfolding such
  such-below c d x = bind-below x (λ v. choose-below (d v) (pure_below v) (fail-below c))

  -- Bytes that are left over are passed.
  upto-below : {A : Type 0} {p : Parser A} → Below l p → Below l (upto p)
  unfolding upto
  upto-below {p = p} x =
      record { low = λ i h. follow-below (p l i) (λ v j. got v (length l)) (length l) (x.low i h) (λ v j k. omega arith) }

  -- Numbers.
  fixed-below : (w : ℕ) → Below l (fixed w)
  unfolding fixed
  fixed-below w = map_below little (raw-below w)

  digits-below : (k : ℕ) → Below l (digits k)
  unfolding digits
  digits-below zero = bind-below byte-below (λ b. choose-below (dec_lt b 128) (pure_below (b % 2)) (fail-below refusals.overlong))
  digits-below (suc k) =
      bind-below byte-below
      (λ b. choose-below (dec_lt b 128) (pure_below b) (map_below (λ v. b % 128 + 128 * v) (digits-below k)))

  varint-below : Below l varint_at
  unfolding varint_at
  varint-below = blamed-below (digits-below 9)

  array-below : (w : ℕ) → Below l (counted_at w)
  unfolding counted_at
  array-below w = counted-below varint-below (fixed-below w)

  indices-below : Below l indices_at
  unfolding indices_at
  indices-below = counted-below varint-below varint-below

  field_below : {Q : Type 0} (d : Dec Q) {p : Parser ℕ} → Below l p → Below l (field_at d p)
  unfolding field_at
  field_below d x = choose-below d x (pure_below 0)

  -- Padding.
  literal-below : (c : ℕ) (s : List ℕ) → Below l (literal c s)
  unfolding literal
  literal-below c [] = pure_below tt
  literal-below c (b ∷ s) = bind-below byte-below (λ x. choose-below (ℕ_discrete x b) (literal-below c s) (fail-below c))

  pad-below : (c x a : ℕ) → Below l (pad c x a)
  unfolding pad
  pad-below c x a = blamed-below (here-below (λ i h. literal-below c (replicate (gap a i) x)))

  padded-below : (w a : ℕ) → Below l (padded_at w a)
  unfolding padded_at padding_at
  padded-below w a = bind-below varint-below (λ n. bind-below (pad-below _ _ a) (λ u. times_below n (fixed-below w)))

  -- Kinds by their tag.
  abbrev AllBelow : {A : Type 0} → List (Case A) → Type 0
  AllBelow [] = Unit
  AllBelow (x ∷ xs) = Below l x.run × AllBelow xs

  pick-below : {A : Type 0} (c k : ℕ) (xs : List (Case A)) → AllBelow xs → k ≤ length l → (t : ℕ) → Below l (pick_at c k xs t)
  unfolding pick_at
  pick-below c k [] x h t = refuse-below c k h
  pick-below c k (y ∷ ys) x h t = choose-below (ℕ_discrete t y.tag) x.0 (pick-below c k ys x.1 h t)

-- An entry is a payload of its own, and lies in the data.
module _ {A : Type 0} (c m : ℕ) {p : Parser A} (x : (e : List ℕ) → Below e p) where
  entry-below : (b s e : ℕ) (d : List ℕ) → spot (entry c p (b + s) (cut_least m s e d)) ≤ b + length d
  unfolding cut_least cut choose entry
  entry-below b s e d = go (dec_le (s + m) e) (dec_le s e) (dec_le e (length d))
    where
      go : (f : Dec (s + m ≤ e)) (g : Dec (s ≤ e)) (h : Dec (e ≤ length d)) →
          spot (entry c p (b + s) (choose f (choose g (choose h (some (drop s (take e d))) none) none) none)) ≤ b + length d
      go (yes f) (yes g) (yes h) =
          let part : List ℕ = drop s (take e d) in
          omega (
            arith,
            raised-spot (b + s) (p part 0),
            (x part).low 0 (omega arith),
            length-drop s (take e d),
            length-take-le e d h,
          )
      go (yes f) (yes g) (no h) = omega arith
      go (yes f) (no g) h = omega arith
      go (no f) g h = omega arith

  of-below : (ss : List ℕ) (b n : ℕ) (d : List ℕ) → b + length d ≤ n → spot (entries_of c m p ss b n d) ≤ n
  unfolding entries_of
  of-below [] b n d h = omega arith
  of-below (s ∷ ss) b n d h =
      follow-below (entry c p (b + s) (cut_least m s (end_of ss d) d)) _ n (omega (arith, entry-below b s (end_of ss d) d))
      (λ v j k. follow-below (entries_of c m p ss b n d) (λ vs i. got (v ∷ vs) i) n (of-below ss b n d h) (λ vs i q. q))

  rows-below : (o : ℕ) (ss l : List ℕ) → Below l (rows o c m p ss)
  unfolding rows
  rows-below o ss l =
      record {
        low = λ i h.
            follow-below (entries_of c m p ss i (length l) (drop i l)) _ (length l)
            (of-below ss i (length l) (drop i l) (omega (arith, length-drop i l))) (λ vs j k. k);
      }

entries_below : {A : Type 0} (f : Shape) (w a o m : ℕ) {p : Parser A} → ((e : List ℕ) → Below e p) → (n : ℕ) (l : List ℕ) →
    Below l (entries f w a o m p n)
unfolding entries
entries_below f w a o m x n l =
    bind-below l (pad-below l f.unpadded f.fill a)
    (λ u. bind-below l (times_below l n (fixed-below l w)) (λ ss. rows-below f.untiled m x o ss l))

-- An offset table.
offset-table-below : {A : Type 0} (w a o : ℕ) {p : Parser A} → ((e : List ℕ) → Below e p) → (l : List ℕ) → Below l (offset_table_at w a o p)
unfolding offset_table_at
offset-table-below w a o x l =
    bind-below l (varint-below l)
    (λ n. choose-below l (ℕ_discrete n 0) (upto-below l (pure_below l no_rows)) (entries_below shape w a o 0 x n l))

-- Type entries, kind by kind.
module _ (l : List ℕ) where
  flags-below : (c : VersionClass) → Below l (D.flags_at c)
  unfolding D.flags_at
  flags-below c = field_below l (Bool-discrete (since13_4 c) true) (varint-below l)

  byte-if-below : (flags : ℕ) → Below l (D.byte_if flags)
  unfolding D.byte_if
  byte-if-below flags = field_below l (ℕ_discrete (flags % 2) 1) (byte-below l)

  ruleset belows = (bind-below, map_below, varint-below, byte-below, array-below, indices-below, field_below, flags-below, byte-if-below)

  pointer-below : (c : VersionClass) → Below l (D.pointer_at c)
  unfolding D.pointer_at
  pointer-below c = search belows depth 24

  tile-below : Below l D.tile_at
  unfolding D.tile_at
  tile-below = search belows depth 24

  tensor-view-below : (c : VersionClass) → Below l (D.tensor_view_at c)
  unfolding D.tensor_view_at
  tensor-view-below c = search belows depth 24

  partition-view-below : Below l D.partition_view_at
  unfolding D.partition_view_at
  partition-view-below = search belows depth 24

  old-partition-view-below : Below l D.old_partition_view_at
  unfolding D.old_partition_view_at
  old-partition-view-below = search belows depth 24

  gather-scatter-view-below : Below l D.gather_scatter_view_at
  unfolding D.gather_scatter_view_at
  gather-scatter-view-below = search belows depth 24

  strided-view-below : Below l D.strided_view_at
  unfolding D.strided_view_at
  strided-view-below = search belows depth 24

  function-type-below : Below l D.function_type_at
  unfolding D.function_type_at
  function-type-below = search belows depth 24

  all-below : (c : VersionClass) → AllBelow l (D.kinds c)
  all-below c = (
    pointer-below c,
    (
      tile-below,
      (
        tensor-view-below c,
        (
          choose-below l (Bool-discrete (since13_3 c) true) partition-view-below old-partition-view-below,
          (function-type-below, (gather-scatter-view-below, (strided-view-below, tt))),
        ),
      ),
    ),
  )

  fields-below : (c : VersionClass) (k : ℕ) → k ≤ length l → (t : ℕ) → Below l (D.fields_at c k t)
  unfolding D.fields_at
  fields-below c k h t =
      choose-below l (Bool-discrete (among t plain_tags) true) (pure_below l (plain t))
      (pick-below l refusals.type_tag k (D.kinds c) (all-below c) h t)

  type-entry-below : (c : VersionClass) → Below l (D.type_entry_at c)
  unfolding D.type_entry_at
  type-entry-below c = upto-below l (here-below l (λ k h. bind-below l (varint-below l) (fields-below c k h)))

  -- A global.
  global-below : (c : VersionClass) → Below l (global_at c)
  unfolding global_at
  global-below c = search belows depth 40

  -- A function; the flags byte that is refused was read.
  body_below : (o n s f k : ℕ) → Below l (body_at o n s f k)
  unfolding body_at
  body_below o n s f k = bind-below l (varint-below l) (λ m. place-below l (λ i h. map_below l _ (raw-below l m)))

  function-below : (o : ℕ) → Below l (function_at o)
  unfolding function_at
  function-below o =
      bind-below l (varint-below l)
      (λ n. bind-below l (varint-below l)
      (λ s. place-below l
      (λ k h. bind-below l (byte-below l)
      (λ f. bind-below l (varint-below l)
      (λ q. choose-below l (ℕ_discrete (f / hints_flag % 2) 0) (body_below o n s f q) (refuse-below l refusals.hints k h))))))

  -- An attribute.
  attribute-below : Below l attribute_at
  unfolding attribute_at
  attribute-below =
      upto-below l
      (here-below l
      (λ k h. bind-below l (byte-below l)
      (λ t. choose-below l (dec_lt t (length field_counts))
      (map_below l (attribute_of t) (times_below l (get_or field_counts t 0) (varint-below l))) (refuse-below l refusals.debug_tag k h))))

  -- The lists; bad bounds are refused at the first byte.
  lists-below : (r : Rows Attribute) (o : Option (List (List ℕ))) → Below l (lists_at r o)
  unfolding lists_at
  lists-below r none = record { low = λ i h. omega arith }
  lists-below r (some ls) = record { low = λ i h. h }

attributes-below : (l : List ℕ) → Below l attributes_at
unfolding attributes_at
attributes-below l = bind-below l (varint-below l) (λ n. entries_below shape 4 4 0 1 attribute-below n l)

-- A refusal of what is read from the first byte on.
refused-below : {A : Type 0} {l : List ℕ} {p : Parser A} → Below l p → (c k : ℕ) → p l 0 ≡ stop c k → k ≤ length l
refused-below {l = l} x c k e = subst (λ g. spot g ≤ length l) e (x.low 0 (omega arith))

-- A refusal of a payload names one of its places or its end.
pub strings-below : (o : ℕ) (l : List ℕ) (c k : ℕ) → strings_at o l 0 ≡ stop c k → k ≤ length l
unfolding strings_at
strings-below o l = refused-below (offset-table-below 4 4 o whole_below l)

pub constants-below : (o : ℕ) (l : List ℕ) (c k : ℕ) → constants_at o l 0 ≡ stop c k → k ≤ length l
unfolding constants_at
constants-below o l = refused-below (offset-table-below 8 8 o whole_below l)

pub producer-below : (n : ℕ) (l : List ℕ) (c k : ℕ) → producer_at n l 0 ≡ stop c k → k ≤ length l
unfolding producer_at
producer-below n l =
    refused-below
    (upto-below l (map_below l some (blamed-below l (such-below l refusals.no_producer (λ k. dec_lt k n) (varint-below l)))))

pub types-below : (v : VersionClass) (o : ℕ) (l : List ℕ) (c k : ℕ) → D.types_at v o l 0 ≡ stop c k → k ≤ length l
unfolding D.types_at
types-below v o l = refused-below (map_below l values_of (offset-table-below 4 4 o (λ e. type-entry-below e v) l))

pub globals-below : (v : VersionClass) (o : ℕ) (l : List ℕ) (c k : ℕ) → globals_at v o l 0 ≡ stop c k → k ≤ length l
unfolding globals_at
globals-below v o l = refused-below (upto-below l (counted-below l (varint-below l) (global-below l v)))

pub functions-below : (o : ℕ) (l : List ℕ) (c k : ℕ) → functions_at o l 0 ≡ stop c k → k ≤ length l
unfolding functions_at
functions-below o l = refused-below (map_below l apart (upto-below l (counted-below l (varint-below l) (function-below l o))))

pub debug-below : (l : List ℕ) (c k : ℕ) → debug_at l 0 ≡ stop c k → k ≤ length l
unfolding debug_at
debug-below l =
    refused-below
    (bind-below l (padded-below l 4 4)
    (λ starts. bind-below l (padded-below l 8 8)
    (λ ids. bind-below l (attributes-below l)
    (λ r. lists-below l r (cuts starts ids)))))
