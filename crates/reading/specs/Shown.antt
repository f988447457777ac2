-- What each answer of the code stands for: a value and the next place, or document 01's number and the place it names.
use Rattle.std.specs.Prelude.{ℕ, ◌-◌, List, take, drop, Result, Ok, Err}
use Rattle.exact.specs.Got.{Got, got, stop}
use Rattle.exact.specs.Fixed.{nums}
use Rattle.enums.specs.Numbered.{number_of}
use Rattle.reading.specs.declared.Reader.{Reader}
use Rattle.reading.specs.declared.Refused.{Refused}
use Rattle.reading.specs.declared.Items.{Items}

-- A new reader stands at the start.
abbrev pub new_reader : Reader
new_reader = record { pos = 0 }

-- A refusal.
abbrev pub stop_of : {A : Type 0} → Refused → Got A
stop_of x = stop (number_of x.refusal) x.at

-- An answer whose value stands for the one that `shown` says, of that value and the reader behind it.
abbrev pub got_by : {V A : Type 0} → (V → Reader → A) → Result (V × Reader) Refused → Got A
got_by shown (Ok (v, r)) = got (shown v r) r.pos
got_by shown (Err x) = stop_of x

-- An answer whose value stands for itself.
abbrev pub got_of : {A : Type 0} → Result (A × Reader) Refused → Got A
got_of = got_by (λ v r. v)

-- The place where the bytes start, and the bytes themselves: those of the data from there up to the next place.
abbrev pub got_bytes : List ℕ → Result (ℕ × Reader) Refused → Got (ℕ × List ℕ)
got_bytes s = got_by (λ start r. (start, take (r.pos - start) (drop start s)))

-- The place where the numbers of w bytes start, and the numbers.
abbrev pub got_items : ℕ → List ℕ → Result (Items × Reader) Refused → Got (ℕ × List ℕ)
got_items w s = got_by (λ i r. (i.start, nums i.count w (drop i.start s)))

abbrev pub got_padding : Result Reader Refused → Got (Unit {0})
got_padding (Ok r) = got tt r.pos
got_padding (Err x) = stop_of x
