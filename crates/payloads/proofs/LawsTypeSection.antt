-- The Type section as a table of rows. Assumes nothing.
use Rattle.std.specs.Prelude.{Ok, Err}
use Rattle.reading.specs.Shown.{stop_of}
use mathlib.Core.Path.{◌≡◌, refl, sym, ◌∙◌}
use Prim.Native.Nat.{ℕ, ◌+◌}
use native.Mathlib.Nat.{add-zero}
use mathlib.Core.List.{List, [], map}
use lib.ListN.{length, drop}
use Rattle.exact.specs.Got.{Got, got, stop, follow}
use Rattle.exact.specs.Basic.{pure}
use Rattle.exact.specs.Sequence as sequence
use Rattle.exact.specs.Tiling.{join}
use Rattle.exact.proofs.LawsExact.{stop-not-got, got-value}
use Rattle.exact.proofs.LawsFixed.{length-nums}
use Rattle.enums.specs.declared.VersionClass.{VersionClass}
use Rattle.reading.specs.declared.Refused.{Refused}
use Rattle.format.specs.Tables.{TypeRow}
use Rattle.format.specs.Sheet.{type_words}
use Rattle.format.specs.DecodeTypes.{type_entry_at, types_at}
use Rattle.sheet.specs.Store.{put_runs}
use Rattle.entries.specs.Starts.{starts_at, got_starts}
use Rattle.entries.specs.declared.starts.Starts.{Starts}
use Rattle.entries.proofs.LawsEntries.{table-values, entries-count}
use Rattle.payloads.specs.declared.answers.Filled.{Filled}
use Rattle.payloads.specs.declared.fields.Spot.{Spot}
use Rattle.payloads.specs.Fill.{Fills}
use Rattle.payloads.specs.TypeRows.{place_of, Row, words_of, entries_by, type_rows}
use Rattle.payloads.proofs.LawsFill.{fills-got, fills-err}
use Rattle.payloads.proofs.LawsEntryRows.{row-refused}

-- What the section is: its starts were refused, or cut its entries.
module _ (c : VersionClass) (l : List ℕ) where
  pub types-stop : (x : Refused) → stop_of x ≡ starts_at 4 4 l 0 → types_at c 0 l 0 ≡ stop_of x
  unfolding types_at sequence.mapped sequence.bind pure follow
  types-stop x e = table-values (type_entry_at c) 4 4 0 l 0 ∙ rw (← e)

  pub types-got : (t : Starts) → got_starts 4 l (Ok t) ≡ starts_at 4 4 l 0 → types_at c 0 l 0 ≡ entries_by 0 (type_entry_at c) l t
  unfolding types_at sequence.mapped sequence.bind pure follow entries_by
  types-got t e = table-values (type_entry_at c) 4 4 0 l 0 ∙ rw (← e)

-- What is answered of such rows: a refusal ..
module _ (at : Filled) (s s' : List ℕ) where
  pub types-refused : (g : Got (List TypeRow)) (x : Refused) → g ≡ stop_of x → Fills at (type_rows g) s s' [] [] (Err x)
  unfolding type_rows follow
  types-refused g x e = fills-err at x (rw e)

  -- .. or the words that were put.
  module _ (c : VersionClass) (l : List ℕ) (u : Starts) where
    rows-stopped : (g : Got (List TypeRow)) (x : Refused) → Row (words_of type_words g) at.words s s' (Err x) → g ≡ stop_of x
    unfolding words_of follow
    rows-stopped (got vs j) x h = absurd (stop-not-got (sym (row-refused _ at.words s s' x h)))
    rows-stopped (stop b k) x h = let q : ◌≡◌ {A = Got (List ℕ)} (stop b k) (stop_of x) = row-refused _ at.words s s' x h in cc

    pub rows-refused : (x : Refused) → Row (words_of type_words (entries_by 0 (type_entry_at c) l u)) at.words s s' (Err x) →
        Fills at (type_rows (entries_by 0 (type_entry_at c) l u)) s s' [] [] (Err x)
    rows-refused x h = types-refused _ x (rows-stopped _ x h)

    rows-put : (g : Got (List TypeRow)) (t : Spot) → ((vs : List TypeRow) (k : ℕ) → g ≡ got vs k → length vs ≡ u.count) →
        Row (words_of type_words g) at.words s s' (Ok t) →
        Fills at (type_rows g) s s' [] [] (Ok (u.count, record { words = t.word; bytes = at.bytes }))
    unfolding words_of type_rows follow Row place_of put_runs
    rows-put (got vs j) t m h =
        let q : t.word ≡ at.words + length (join (map type_words vs)) = got-value h.0 in
        fills-got at _ j refl (rw (sym (m vs j refl), q, add-zero at.bytes) refl) h.1 refl
    rows-put (stop b k) t m h = absurd (stop-not-got (sym h))

    pub rows-filled : (t : Spot) → Row (words_of type_words (entries_by 0 (type_entry_at c) l u)) at.words s s' (Ok t) →
        Fills at (type_rows (entries_by 0 (type_entry_at c) l u)) s s' [] [] (Ok (u.count, record { words = t.word; bytes = at.bytes }))
    unfolding entries_by
    rows-filled t h =
        rows-put _ t (λ vs k e. entries-count _ _ (type_entry_at c) _ _ _ _ vs k e ∙ length-nums u.count 4 (drop u.first l)) h
