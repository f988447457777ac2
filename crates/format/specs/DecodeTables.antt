-- The readers of items, offset tables and Producer, in reading order (document 01, "The container").
use Rattle.std.specs.Prelude.{ℕ, List}
use Rattle.std.proofs.Math.Decide.{dec_lt, ℕ_discrete}
use Rattle.std.proofs.Math.Option.{Option, some}
use Rattle.exact.specs.Exact.{Parser}
use Rattle.exact.specs.Basic.{pure}
use Rattle.exact.specs.Sequence.{bind, mapped}
use Rattle.exact.specs.Choice.{choose, such}
use Rattle.exact.specs.Repeat.{times, counted}
use Rattle.exact.specs.Fixed.{fixed}
use Rattle.exact.specs.Padding.{blamed}
use Rattle.exact.specs.Table.{Shape}
use Rattle.exact.specs.Upto.{upto, whole}
use Rattle.exact.specs.Entries.{Rows, entries}
use Rattle.enums.specs.Container.{P}
use Rattle.enums.specs.Refusals as refusals
use Rattle.reading.specs.Numbers.{varint_at, padding_at}
use Rattle.format.specs.Strings.{no_rows}

-- A field that is there if the question's answer is yes; else 0.
unfoldable pub field_at : {Q : Type 0} → Dec Q → Parser ℕ → Parser ℕ
field_at d p = choose d p (pure 0)

-- Counted varints.
unfoldable pub indices_at : Parser (List ℕ)
indices_at = counted varint_at varint_at

-- A count, padding to a, and as many numbers of w bytes.
unfoldable pub padded_at : ℕ → ℕ → Parser (List ℕ)
padded_at w a = bind varint_at (λ n. bind (padding_at a) (λ u. times n (fixed w)))

-- The numbers that all tables share.
abbrev pub shape : Shape
shape = record { number = varint_at; fill = P; unpadded = refusals.unpadded; untiled = refusals.bounds }

-- An offset table: a count of 0 ends it.
unfoldable pub offset_table_at : {A : Type 0} → ℕ → ℕ → ℕ → Parser A → Parser (Rows A)
offset_table_at w a o p =
    bind varint_at (λ n. choose (ℕ_discrete n 0) (upto (pure no_rows)) (entries shape w a o 0 p n))

unfoldable pub strings_at : ℕ → Parser (Rows (List ℕ))
strings_at o = offset_table_at 4 4 o whole

unfoldable pub constants_at : ℕ → Parser (Rows (List ℕ))
constants_at o = offset_table_at 8 8 o whole

-- The producer's index, refused at its first byte if outside the n strings.
unfoldable pub producer_at : ℕ → Parser (Option ℕ)
producer_at n = upto (mapped some (blamed (such refusals.no_producer (λ k. dec_lt k n) varint_at)))
