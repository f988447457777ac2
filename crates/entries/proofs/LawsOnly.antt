-- The contracts of the crate allow one answer only: what an answer stands for gives it back. Assumes nothing.
use mathlib.Core.Path.{◌≡◌, refl, sym, ap, ◌∙◌}
use Prim.Native.Nat.{ℕ}
use native.Mathlib.Nat.{zero-add}
use mathlib.Core.Option.{Option, none, some}
use mathlib.Core.List.{List}
use lib.ListN.{length, drop}
use Rattle.exact.specs.Got.{Got, got, stop}
use Rattle.exact.specs.Exact.{Parser}
use Rattle.exact.specs.Entries.{Rows}
use Rattle.exact.proofs.LawsExact.{got-value, got-next}
use Rattle.exact.proofs.LawsFixed.{length-nums}
use Rattle.std.specs.Prelude as std
use Rattle.std.specs.Prelude.{Result, Ok, Err}
use Rattle.reading.specs.declared.Reader.{Reader}
use Rattle.reading.specs.declared.Refused.{Refused}
use Rattle.reading.proofs.LawsShown.{only, by-only, refused_at, refused-back}
use Rattle.entries.specs.declared.starts.Starts.{Starts}
use Rattle.entries.specs.declared.rows.GlobalRow.{GlobalRow}
use Rattle.entries.specs.declared.rows.FuncRow.{FuncRow}
use Rattle.entries.specs.declared.places.Place.{Place}
use Rattle.format.specs.Tables.{Global, Function}
use Rattle.format.specs.Functions.{Located}
use Rattle.format.specs.Views.{Span}
use Rattle.entries.specs.Starts.{got_starts, got_entry, got_list}
use Rattle.entries.specs.Rows.{got_global, Gives, got_producer}
use Rattle.entries.specs.Places.{got_place, Finds}
use Rattle.entries.specs.declared.starts.Number.{Number}
use Rattle.entries.specs.declared.starts.EntryCursor.{EntryCursor}
use Rattle.entries.specs.declared.starts.ListCursor.{ListCursor}

-- Starts.
abbrev back_starts : Got (ℕ × List ℕ) → Result Starts Refused
back_starts (got v j) = Ok record { count = length v.1; first = v.0; «data» = j }
back_starts (stop c k) = Err (refused_at c k)

same_starts : (w : ℕ) (l : List ℕ) (x : Result Starts Refused) → back_starts (got_starts w l x) ≡ x
same_starts w l (Ok s) =
    ap (λ n. Ok record { count = n; first = s.first; «data» = s.«data» }) (length-nums s.count w (drop s.first l))
same_starts w l (Err x) = ap Err (refused-back x)

pub starts-only : (w : ℕ) (l : List ℕ) {r q : Result Starts Refused} {g : Got (ℕ × List ℕ)} → got_starts w l r ≡ g → got_starts w l q ≡ g → r ≡ q
starts-only w l = only (got_starts w l) back_starts (same_starts w l)

-- Entries.
abbrev back_entry : Got ℕ → Result EntryCursor Refused
back_entry (got v j) = Ok record { start = record { 0 = v }; next = j }
back_entry (stop c k) = Err (refused_at c k)

same_entry : (x : Result EntryCursor Refused) → back_entry (got_entry x) ≡ x
same_entry (Ok c) = refl
same_entry (Err x) = ap Err (refused-back x)

pub entry-only : {r q : Result EntryCursor Refused} {g : Got ℕ} → got_entry r ≡ g → got_entry q ≡ g → r ≡ q
entry-only = only got_entry back_entry same_entry

pub first-entry-only : {r q : EntryCursor} {g : Got ℕ} → got r.start.0 r.next ≡ g → got q.start.0 q.next ≡ g → r ≡ q
first-entry-only {r} {q} a b = let e : ◌≡◌ {A = Result EntryCursor Refused} (Ok r) (Ok q) = entry-only a b in cc

-- Lists.
abbrev back_list : Got ℕ → Result ListCursor Refused
back_list (got v j) = Ok record { start = record { 0 = v }; next = j }
back_list (stop c k) = Err (refused_at c k)

same_list : (x : Result ListCursor Refused) → back_list (got_list x) ≡ x
same_list (Ok c) = refl
same_list (Err x) = ap Err (refused-back x)

pub list-only : {r q : Result ListCursor Refused} {g : Got ℕ} → got_list r ≡ g → got_list q ≡ g → r ≡ q
list-only = only got_list back_list same_list

pub first-list-only : {r q : ListCursor} {g : Got ℕ} → got r.start.0 r.next ≡ g → got q.start.0 q.next ≡ g → r ≡ q
first-list-only {r} {q} a b = let e : ◌≡◌ {A = Result ListCursor Refused} (Ok r) (Ok q) = list-only a b in cc

-- Numbers.
pub number-only : {r q : Number} {g : Got ℕ} → got r.value r.next ≡ g → got q.value q.next ≡ g → r ≡ q
number-only {r} {q} a b =
    let e : got r.value r.next ≡ got q.value q.next = a ∙ sym b in
    ap (λ v. record { value = v; next = r.next }) (got-value e) ∙ ap (λ n. record { value = q.value; next = n }) (got-next e)

-- Globals.
row_of : Global → GlobalRow
row_of g =
    record {
      name_idx = g.name;
      type_idx = g.type;
      const_idx = g.constant;
      alignment = g.alignment;
      linkage = record { visibility = g.visibility; constant = g.constant_flag };
    }

pub global-only : {r q : Result (GlobalRow × Reader) Refused} {g : Got Global} → got_global r ≡ g → got_global q ≡ g → r ≡ q
unfolding row_of
global-only = by-only _ row_of (λ g r. refl)

-- Functions.
func_of : Located Function → FuncRow
func_of x =
    record {
      head = record {
        name_idx = x.value.name;
        sig_idx = x.value.signature;
        flags = x.value.flags;
        loc_idx = x.value.location;
      };
      body = x.at;
    }

pub func-only : (l : List ℕ) (p : ℕ → Parser (Located Function)) (i : ℕ) {r q : Result (FuncRow × Reader) Refused} →
    Gives l p i r → Gives l p i q → r ≡ q
unfolding func_of
func-only l p i a b =
    by-only _ func_of (λ f r. ap (λ b. record { head = f.head; body = b }) (zero-add f.body)) (a 0) (b 0)

-- Producer.
abbrev back_producer : Got (Option ℕ) → Result ℕ Refused
back_producer (got (some v) j) = Ok v
back_producer (got none j) = Ok 0
back_producer (stop c k) = Err (refused_at c k)

same_producer : (l : List ℕ) (x : Result ℕ Refused) → back_producer (got_producer l x) ≡ x
same_producer l (Ok v) = refl
same_producer l (Err x) = ap Err (refused-back x)

pub producer-only : (l : List ℕ) {r q : Result ℕ Refused} {g : Got (Option ℕ)} → got_producer l r ≡ g → got_producer l q ≡ g → r ≡ q
producer-only l = only (got_producer l) back_producer (same_producer l)

-- Places.
abbrev back_place : Got (Option Span) → Result (std.Option Place) Refused
back_place (got (some s) j) = Ok (std.Some record { start = s.offset; len = s.size })
back_place (got none j) = Ok std.None
back_place (stop c k) = Err (refused_at c k)

same_place : (l : List ℕ) (x : Result (std.Option Place) Refused) → back_place (got_place 0 l x) ≡ x
same_place l (Ok (std.Some p)) = ap (λ n. Ok (std.Some record { start = n; len = p.len })) (zero-add p.start)
same_place l (Ok std.None) = refl
same_place l (Err x) = ap Err (refused-back x)

pub place-only : (g : ℕ → Got (Rows (List ℕ))) (l : List ℕ) (n : ℕ) {r q : Result (std.Option Place) Refused} →
    Finds g l n r → Finds g l n q → r ≡ q
place-only g l n a b = only (got_place 0 l) back_place (same_place l) (a.found 0) (b.found 0)
