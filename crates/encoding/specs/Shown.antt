-- What the answers of the code mean, and the one promise that every writer makes through it.
use Rattle.std.specs.Prelude.{◌≡◌, List, ℕ, Result, Ok, Err}
use Rattle.enums.specs.Refusals as refusals
use Rattle.enums.specs.Numbered.{number_of}
use Rattle.enums.specs.declared.Refusal.{Refusal}
use Rattle.encoding.specs.Out.{Wrote, wrote, refused, put, after, required}
use Rattle.encoding.specs.declared.EncodingWriter.{EncodingWriter}

-- A new writer stands at the start, and no alignment was asked of it.
abbrev pub new_writer : EncodingWriter
new_writer = record { at = 0; required_alignment = 1 }

-- The answer of a writer: the place and the alignment of the writer that it hands back, or the refusal's number.
abbrev pub wrote_of : Result EncodingWriter Refusal → Wrote
wrote_of (Ok w) = wrote w.at w.required_alignment
wrote_of (Err x) = refused (number_of x)

-- The answer of a patch, which asks for no alignment.
abbrev pub patched_of : Result ℕ Refusal → Wrote
patched_of (Ok at) = wrote at 1
patched_of (Err x) = refused (number_of x)

-- The output out became out' and r was answered: bs were put at a place, or had no room there and were refused as n.
pub record Puts (n at required : ℕ) (bs out out' : List ℕ) (r : Wrote) : Type 0 where
  pub answer : r ≡ after n out at required bs
  pub output : out' ≡ put out at bs

-- The writer w wrote bs: 11 where they have no room.
abbrev pub Writes : EncodingWriter → List ℕ → List ℕ → List ℕ → Result EncodingWriter Refusal → Type 0
Writes w bs out out' r = Puts refusals.full w.at w.required_alignment bs out out' (wrote_of r)

-- A buffer was patched with bs: 14 where they lie outside.
abbrev pub Patches : ℕ → List ℕ → List ℕ → List ℕ → Result ℕ Refusal → Type 0
Patches at bs out out' r = Puts refusals.not_there at 1 bs out out' (patched_of r)

-- The writer w of which one more alignment was asked.
abbrev pub asked : EncodingWriter → ℕ → EncodingWriter
asked w a = record { at = w.at; required_alignment = required w.required_alignment a }
