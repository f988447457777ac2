-- Offset tables, and with them String, Constant and Type, and Producer, are read exactly. Assumes nothing.
use mathlib.Core.Path.{◌≡◌, refl}
use Prim.Native.Nat.{ℕ, ◌+◌, ◌≤◌, ◌<◌}
use native.Mathlib.Omega.{arith}
use native.Mathlib.Decide.{dec_lt, ℕ_discrete}
use mathlib.Core.Option.{Option, some}
use mathlib.Core.List.{List, ◌++◌}
use lib.ListN.{length}
use Rattle.exact.specs.Exact.{Parser, Lang, Ends}
use Rattle.exact.specs.Basic.{Is, is}
use Rattle.exact.specs.Sequence.{Then, then, Of, of}
use Rattle.exact.specs.Choice.{If, so, else, Such, such_of}
use Rattle.exact.specs.Upto.{Upto, upto_of}
use Rattle.exact.specs.Entries.{Rows}
use Rattle.exact.proofs.LawsExact.{same_ends}
use Rattle.exact.proofs.LawsBasic.{pure-exact}
use Rattle.exact.proofs.LawsSequence.{bind-ends, map-exact}
use Rattle.exact.proofs.LawsChoice.{such-exact}
use Rattle.exact.proofs.LawsPadding.{blamed-exact}
use Rattle.exact.proofs.LawsUpto.{upto-ends, whole-ends, choose-ends, map-ends}
use Rattle.exact.proofs.LawsEntries.{Behind, behind-count, to-entries, of-entries, entries-ends}
use Rattle.enums.specs.Container.{P}
use Rattle.enums.specs.declared.VersionClass.{VersionClass}
use Rattle.reading.proofs.LawsNumbers.{varint-exact}
use Rattle.format.specs.Items.{Number}
use Rattle.format.specs.Strings.{no_rows, OffsetTable, empty, filled, Strings, Constants, Producer, producer}
use Rattle.format.specs.Types.{Types, values_of}
use Rattle.format.specs.DecodeTables.{shape, offset_table_at, strings_at, constants_at, producer_at}
use Rattle.format.specs.DecodeTypes.{types_at}
use Rattle.format.proofs.LawsTypes.{type-entry-ends}

abbrev Chain : {A : Type 0} → ℕ → ℕ → ℕ → Lang A → Lang (Rows A)
Chain w a o R = Then Number (λ n. If (n ≡ 0) (Upto (Is no_rows)) (Behind P w a o R n))

module _ {A : Type 0} (w a o : ℕ) {R : Lang A} where
  to-table : (i : ℕ) (bs : List ℕ) (v : Rows A) → Chain w a o R i bs v → OffsetTable w a o R i bs v
  to-table i bs v (then {bs = c} {v = n} s (so e (upto_of left is))) = empty left (rw e at s)
  to-table i bs v (then {bs = c} {cs = d} {v = n} s (else h b)) =
      filled (to-entries P w a o i (c ++ d) v (then s b)) (omega (arith, behind-count P w a o n (i + length c) d v b))

  some-rows : (i : ℕ) (bs : List ℕ) (v : Rows A) → 1 ≤ length v.values → Then Number (Behind P w a o R) i bs v → Chain w a o R i bs v
  some-rows i bs v h (then {bs = c} {cs = d} {v = n} s b) =
      let k : ¬ (n ≡ 0) = omega (arith, behind-count P w a o n (i + length c) d v b) in then s (else k b)

  of-table : (i : ℕ) (bs : List ℕ) (v : Rows A) → OffsetTable w a o R i bs v → Chain w a o R i bs v
  of-table i bs v (empty left s) = then s (so refl (upto_of left is))
  of-table i bs v (filled e h) = some-rows i bs v h (of-entries P w a o i bs v e)

  -- A table whose entries are read to their end.
  pub offset-table-ends : {p : Parser A} → Ends p R → Ends (offset_table_at w a o p) (OffsetTable w a o R)
  unfolding offset_table_at
  offset-table-ends x =
      same_ends
      (bind-ends varint-exact
      (λ n. choose-ends (ℕ_discrete n 0) (upto-ends (pure-exact no_rows)) (entries-ends shape w a o 0 x (λ e v r. omega arith) n)))
      (λ i bs v. (to-table i bs v, of-table i bs v))

pub strings-ends : (o : ℕ) → Ends (strings_at o) (Strings o)
unfolding strings_at
strings-ends o = offset-table-ends 4 4 o whole-ends

pub constants-ends : (o : ℕ) → Ends (constants_at o) (Constants o)
unfolding constants_at
constants-ends o = offset-table-ends 8 8 o whole-ends

pub types-ends : (c : VersionClass) (o : ℕ) → Ends (types_at c o) (Types c o)
unfolding types_at
types-ends c o = map-ends values_of (offset-table-ends 4 4 o (type-entry-ends c))

abbrev Index : ℕ → Lang (Option ℕ)
Index n = Of some (Such (λ k. k < n) Number)

to-producer : (n i : ℕ) (bs : List ℕ) (v : Option ℕ) → Upto (Index n) i bs v → Producer n i bs v
to-producer n i bs v (upto_of left (of (such_of h s))) = producer left s h

of-producer : (n i : ℕ) (bs : List ℕ) (v : Option ℕ) → Producer n i bs v → Upto (Index n) i bs v
of-producer n i bs v (producer left s h) = upto_of left (of (such_of h s))

pub producer-ends : (n : ℕ) → Ends (producer_at n) (Producer n)
unfolding producer_at
producer-ends n =
    same_ends (upto-ends (map-exact some (blamed-exact (such-exact _ (λ k. dec_lt k n) varint-exact))))
    (λ i bs v. (to-producer n i bs v, of-producer n i bs v))
