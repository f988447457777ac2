-- Which refusals the parsers of a file's parts give. Assumes nothing.
use mathlib.Core.Bool.{true, Bool-discrete}
use mathlib.Core.Option.{Option, none, some}
use Prim.Native.Nat.{ℕ, zero, suc, ◌+◌, ◌*◌, ◌/◌, ◌%◌}
use native.Mathlib.Decide.{dec_lt, ℕ_discrete}
use mathlib.Core.List.{List}
use lib.ListN.{length, get_or}
use Rattle.exact.specs.Exact.{Parser}
use Rattle.exact.specs.Tiling.{cuts}
use Rattle.exact.specs.Entries.{Rows}
use Rattle.exact.specs.Only.{Says, no_refusal, such_refusal, Only}
use Rattle.exact.proofs.LawsOnly.{
  says-raised,
  only-choose,
  only-pure,
  only-place,
  only-whole,
  only-fail,
  only-refuse,
  only-bind,
  only-map,
  only-such,
  only-blamed,
  only_here,
  only-upto,
  only-times,
  only-counted,
  only-pick,
  only-byte,
  only-raw,
  only-fixed,
  only-pad,
  only-until,
  only-entries,
}
use Rattle.enums.specs.Container.{P, magic, end_of_bytecode, hints_flag}
use Rattle.enums.specs.Refusals as refusals
use Rattle.enums.specs.declared.VersionClass.{VersionClass}
use Rattle.enums.specs.Version.{since13_3, since13_4}
use Rattle.enums.specs.Debug.{field_counts}
use Rattle.reading.specs.Numbers.{digits, varint_at, padding_at, counted_at}
use Rattle.format.specs.Items.{truth}
use Rattle.format.specs.Types.{plain_tags, among, values_of}
use Rattle.format.specs.Tables.{plain, Attribute}
use Rattle.format.specs.Sections.{Section}
use Rattle.format.specs.Strings.{no_rows}
use Rattle.format.specs.Functions.{apart}
use Rattle.format.specs.Debug.{attribute_of}
use Rattle.format.specs.DecodeContainer.{same, magic_at, header_at, alignment_at, section_at, item_at, sections_at, in_section}
use Rattle.format.specs.DecodeTables.{field_at, indices_at, padded_at, shape, offset_table_at, strings_at, constants_at, producer_at}
use Rattle.format.specs.DecodeTypes as types
use Rattle.format.specs.DecodeRows.{global_at, globals_at, body_at, function_at, functions_at}
use Rattle.format.specs.DecodeDebug.{attribute_at, attributes_at, lists_at, debug_at}

module _ {Q : ℕ → Type 0} (s : Q refusals.short) where
  -- The header refuses with 2 and 4.
  pub only-header : Q refusals.not_magic → Only Q header_at
  unfolding header_at magic_at
  only-header m =
      only-bind (only-blamed (only-such refusals.not_magic (λ r. Bool-discrete (same r magic) true) m (only-raw s 8)))
      (λ r. only-bind (only-byte s) (λ major. only-bind (only-byte s) (λ minor. only-map _ (only-fixed s 2))))

  module _ (o : Q refusals.overlong) where
    only-digits : (k : ℕ) → Only Q (digits k)
    unfolding digits
    only-digits zero =
        only-bind (only-byte s) (λ b. only-choose (dec_lt b 128) (only-pure (b % 2)) (only-fail refusals.overlong o))
    only-digits (suc k) =
        only-bind (only-byte s)
        (λ b. only-choose (dec_lt b 128) (only-pure b) (only-map (λ v. b % 128 + 128 * v) (only-digits k)))

    -- A varint refuses with 2 and 3.
    only-varint : Only Q varint_at
    unfolding varint_at
    only-varint = only-blamed (only-digits 9)

    only-array : (w : ℕ) → Only Q (counted_at w)
    unfolding counted_at
    only-array w = only-counted only-varint (only-fixed s w)

    only-indices : Only Q indices_at
    unfolding indices_at
    only-indices = only-counted only-varint only-varint

    only-field : {D : Type 0} (d : Dec D) {p : Parser ℕ} → Only Q p → Only Q (field_at d p)
    unfolding field_at
    only-field d x = only-choose d x (only-pure 0)

    pub only-producer : (n : ℕ) → Q refusals.no_producer → Only Q (producer_at n)
    unfolding producer_at
    only-producer n x = only-upto (only-map some (only-blamed (only-such refusals.no_producer (λ k. dec_lt k n) x only-varint)))

    only-global : (c : VersionClass) → Only Q (global_at c)
    unfolding global_at
    only-global c =
        let d = Bool-discrete (since13_3 c) true in
        only-bind only-varint (λ name. only-bind only-varint (λ type. only-bind only-varint (λ constant. only-bind only-varint
        (λ alignment. only-bind (only-field d (only-byte s)) (λ visibility. only-map _ (only-field d (only-map truth only-varint)))))))

    pub only-globals : (c : VersionClass) (b : ℕ) → Only Q (globals_at c b)
    unfolding globals_at
    only-globals c b = only-upto (only-counted only-varint (only-global c))

    only-body : (b name signature flags location : ℕ) → Only Q (body_at b name signature flags location)
    unfolding body_at
    only-body b name signature flags location =
        only-bind only-varint (λ n. only-bind only-place (λ k. only-map _ (only-raw s n)))

    only-function : (b : ℕ) → Q refusals.hints → Only Q (function_at b)
    unfolding function_at
    only-function b h =
        only-bind only-varint (λ name. only-bind only-varint (λ signature. only-bind only-place (λ k. only-bind (only-byte s)
        (λ flags. only-bind only-varint (λ location. only-choose (ℕ_discrete (flags / hints_flag % 2) 0)
        (only-body b name signature flags location) (only-refuse refusals.hints k h))))))

    pub only-functions : (b : ℕ) → Q refusals.hints → Only Q (functions_at b)
    unfolding functions_at
    only-functions b h = only-map apart (only-upto (only-counted only-varint (only-function b h)))

    module _ (p : Q refusals.unpadded) where
      only-padding : (a : ℕ) → Only Q (padding_at a)
      unfolding padding_at
      only-padding a = only-pad s refusals.unpadded P a p

      only-alignment : (first : ℕ) → Only Q (alignment_at first)
      unfolding alignment_at
      only-alignment first = only-choose (dec_lt first 128) (only-pure tt) (only-bind only-varint only-padding)

      only-section : (first : ℕ) → Only Q (section_at first)
      unfolding section_at
      only-section first =
          only-bind only-varint (λ n. only-bind (only-alignment first) (λ u. only-bind only-place (λ k. only-map _ (only-raw s n))))

      -- The walk refuses with 2, 3 and 5.
      pub only-sections : Only Q sections_at
      unfolding sections_at item_at
      only-sections =
          only-until s (only-bind (only-byte s)
          (λ first. only-choose (ℕ_discrete (first % 128) end_of_bytecode) (only-pure none) (only-map some (only-section first))))

      only-padded : (w a : ℕ) → Only Q (padded_at w a)
      unfolding padded_at
      only-padded w a =
          only-bind only-varint (λ n. only-bind (only-padding a) (λ u. only-times n (only-fixed s w)))

      module _ (t : Q refusals.bounds) where
        only-table : {A : Type 0} (w a b : ℕ) {q : Parser A} → Only Q q → Only Q (offset_table_at w a b q)
        unfolding offset_table_at
        only-table w a b x =
            only-bind only-varint
            (λ n. only-choose (ℕ_discrete n 0) (only-upto (only-pure no_rows)) (only-entries s shape w a b 0 n p t x))

        pub only-strings : (b : ℕ) → Only Q (strings_at b)
        unfolding strings_at
        only-strings b = only-table 4 4 b only-whole

        pub only-constants : (b : ℕ) → Only Q (constants_at b)
        unfolding constants_at
        only-constants b = only-table 8 8 b only-whole

        module _ (c : VersionClass) (g : Q refusals.type_tag) where
          only-flags : Only Q (types.flags_at c)
          unfolding types.flags_at
          only-flags = only-field (Bool-discrete (since13_4 c) true) only-varint

          only-byte-if : (flags : ℕ) → Only Q (types.byte_if flags)
          unfolding types.byte_if
          only-byte-if flags = only-field (ℕ_discrete (flags % 2) 1) (only-byte s)

          only-pointer : Only Q (types.pointer_at c)
          unfolding types.pointer_at
          only-pointer =
              only-bind only-flags (λ flags. only-bind only-varint (λ element. only-map _ (only-byte-if flags)))

          only-tile : Only Q types.tile_at
          unfolding types.tile_at
          only-tile = only-bind only-varint (λ element. only-map _ (only-array 8))

          only-tensor-view : Only Q (types.tensor_view_at c)
          unfolding types.tensor_view_at
          only-tensor-view =
              only-bind only-flags (λ flags. only-bind only-varint (λ element. only-bind (only-array 8)
              (λ extents. only-bind (only-array 8) (λ strides. only-map _ (only-byte-if flags)))))

          only-partition-view : Only Q types.partition_view_at
          unfolding types.partition_view_at
          only-partition-view =
              only-bind only-varint (λ flags. only-bind (only-array 4) (λ extents. only-bind only-varint
              (λ view. only-bind (only-array 4) (λ m. only-map _ (only-byte-if flags)))))

          only-old-partition-view : Only Q types.old_partition_view_at
          unfolding types.old_partition_view_at
          only-old-partition-view =
              only-bind (only-array 4) (λ extents. only-bind only-varint (λ view. only-bind (only-array 4)
              (λ m. only-bind (only-map truth (only-byte s))
              (λ presence. only-map _ (only-field (ℕ_discrete presence 1) only-varint)))))

          only-gather-scatter-view : Only Q types.gather_scatter_view_at
          unfolding types.gather_scatter_view_at
          only-gather-scatter-view =
              only-bind only-varint (λ flags. only-bind (only-array 4) (λ extents. only-bind only-varint
              (λ view. only-bind only-varint (λ sparse. only-map _ (only-byte-if flags)))))

          only-strided-view : Only Q types.strided_view_at
          unfolding types.strided_view_at
          only-strided-view =
              only-bind only-varint (λ flags. only-bind (only-array 4) (λ extents. only-bind (only-array 4)
              (λ strides. only-bind only-varint (λ view. only-bind (only-array 4) (λ m. only-map _ (only-byte-if flags))))))

          only-function-type : Only Q types.function_type_at
          unfolding types.function_type_at
          only-function-type = only-bind only-indices (λ inputs. only-map _ only-indices)

          only-fields : (k n : ℕ) → Only Q (types.fields_at c k n)
          unfolding types.fields_at
          only-fields k n =
              only-choose (Bool-discrete (among n plain_tags) true) (only-pure (plain n))
              (only-pick refusals.type_tag k (types.kinds c) n g (
                only-pointer,
                (
                  only-tile,
                  (
                    only-tensor-view,
                    (
                      only-choose (Bool-discrete (since13_3 c) true) only-partition-view only-old-partition-view,
                      (only-function-type, (only-gather-scatter-view, (only-strided-view, tt))),
                    ),
                  ),
                ),
              ))

          pub only-types : (b : ℕ) → Only Q (types.types_at c b)
          unfolding types.types_at types.type_entry_at
          only-types b =
              only-map values_of (only-table 4 4 b (only-upto (only_here (λ k. only-bind only-varint (only-fields k)))))

        only-attribute : Q refusals.debug_tag → Only Q attribute_at
        unfolding attribute_at
        only-attribute g =
            only-upto (only_here (λ k. only-bind (only-byte s)
            (λ n. only-choose (dec_lt n (length field_counts))
            (only-map (attribute_of n) (only-times (get_or field_counts n 0) only-varint)) (only-refuse refusals.debug_tag k g))))

        only-lists : (rows : Rows Attribute) (o : Option (List (List ℕ))) → Only Q (lists_at rows o)
        unfolding lists_at
        only-lists rows none = record { each = λ l i. such_refusal t }
        only-lists rows (some lists) = record { each = λ l i. no_refusal }

        pub only-debug : Q refusals.debug_tag → Only Q debug_at
        unfolding debug_at attributes_at
        only-debug g =
            only-bind (only-padded 4 4) (λ starts. only-bind (only-padded 8 8)
            (λ ids. only-bind (only-bind only-varint (λ n. only-entries s shape 4 4 0 1 n p t (only-attribute g)))
            (λ rows. only-lists rows (cuts starts ids))))

-- The payload of a section.
pub says-section : {Q : ℕ → Type 0} {A : Type 0} (o : Option Section) (p : ℕ → Parser A) (e : A) → ((k : ℕ) → Only Q (p k)) →
    Says Q (in_section o p e)
unfolding in_section
says-section none p e x = no_refusal
says-section (some t) p e x = says-raised t.start ((x t.start).each t.payload 0)
