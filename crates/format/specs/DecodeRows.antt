-- The readers of Global and Func, in reading order (document 01, "The container").
use Rattle.std.specs.Prelude.{ℕ, ◌+◌, ◌/◌, ◌%◌, true, List}
use Rattle.std.proofs.Math.Decide.{ℕ_discrete}
use Rattle.std.proofs.Math.Bool.{Bool-discrete}
use Rattle.exact.specs.Exact.{Parser}
use Rattle.exact.specs.Basic.{byte}
use Rattle.exact.specs.Sequence.{bind, mapped}
use Rattle.exact.specs.Choice.{choose}
use Rattle.exact.specs.Repeat.{counted}
use Rattle.exact.specs.Fixed.{raw}
use Rattle.exact.specs.Refuse.{refuse}
use Rattle.exact.specs.Upto.{upto, place}
use Rattle.exact.specs.Entries.{Rows}
use Rattle.enums.specs.Container.{hints_flag}
use Rattle.enums.specs.Refusals as refusals
use Rattle.enums.specs.declared.VersionClass.{VersionClass}
use Rattle.enums.specs.Version.{since13_3}
use Rattle.reading.specs.Numbers.{varint_at}
use Rattle.format.specs.Tables.{Global, Function}
use Rattle.format.specs.Items.{truth}
use Rattle.format.specs.Functions.{Located, apart}
use Rattle.format.specs.DecodeTables.{field_at}

unfoldable pub global_at : VersionClass → Parser Global
global_at c =
    bind varint_at
    (λ name. bind varint_at
    (λ type. bind varint_at
    (λ constant. bind varint_at
    (λ alignment. bind (field_at (Bool-discrete (since13_3 c) true) byte)
    (λ visibility. mapped
    (λ flag. record {
      name = name;
      type = type;
      constant = constant;
      alignment = alignment;
      visibility = visibility;
      constant_flag = flag;
    })
    (field_at (Bool-discrete (since13_3 c) true) (mapped truth varint_at)))))))

unfoldable pub globals_at : VersionClass → ℕ → Parser (List Global)
globals_at c o = upto (counted varint_at (global_at c))

-- The body of a function that has been read up to its location.
unfoldable pub body_at : ℕ → ℕ → ℕ → ℕ → ℕ → Parser (Located Function)
body_at o name signature flags location =
    bind varint_at
    (λ n. bind place
    (λ k. mapped
    (λ body. record {
      at = o + k;
      value = record { name = name; signature = signature; flags = flags; location = location; body = body };
    })
    (raw n)))

-- The hints flag is refused, at the flags byte, as soon as the location is read.
unfoldable pub function_at : ℕ → Parser (Located Function)
function_at o =
    bind varint_at
    (λ name. bind varint_at
    (λ signature. bind place
    (λ k. bind byte
    (λ flags. bind varint_at
    (λ location. choose (ℕ_discrete (flags / hints_flag % 2) 0) (body_at o name signature flags location)
    (refuse refusals.hints k))))))

unfoldable pub functions_at : ℕ → Parser (Rows Function)
functions_at o = mapped apart (upto (counted varint_at (function_at o)))
