-- What stands after the end marker isn't read. Assumes nothing.
use mathlib.Core.Path.{◌≡◌, sym, ap, ◌∙◌}
use Prim.Native.Nat.{ℕ, ◌≤◌}
use native.Mathlib.Decide.{dec_le}
use mathlib.Core.List.{List}
use lib.ListN.{length}
use Rattle.exact.specs.Entries.{Rows}
use Rattle.exact.proofs.LawsChoice.{choose_yes}
use Rattle.format.specs.Tables.{Version}
use Rattle.format.specs.Sections.{Section}
use Rattle.format.specs.Explains.{Placed, Container}
use Rattle.format.specs.SameToEnd.{SameToEnd}
use Rattle.format.specs.Read.{accepted, map_read}
use Rattle.format.specs.Decode.{most_bytes, payloads, read_placed, placed, only_tables, decode}
use Rattle.format.specs.Views.{row_view, read_sections, section_view}
use Rattle.format.proofs.Decoded.{container-read}

-- What is read of a container within the limit: its payloads ..
container-placed : (file : List ℕ) (v : Version) (ss : List Section) → Container file v ss → length file ≤ most_bytes →
    placed file ≡ payloads v ss
unfolding placed read_placed
container-placed file v ss c h =
    choose_yes (dec_le (length file) most_bytes) _ _ h ∙ container-read payloads file v ss c

-- .. and its sections.
container-sections : (file : List ℕ) (v : Version) (ss : List Section) → Container file v ss → length file ≤ most_bytes →
    read_sections file ≡ accepted ss
unfolding read_sections
container-sections file v ss c h =
    choose_yes (dec_le (length file) most_bytes) _ _ h ∙ container-read (λ _ ts. accepted ts) file v ss c

module _ {file other : List ℕ} (x : SameToEnd file other) where
  -- The other file is a container of the same sections.
  other-container : Container other x.version x.sections
  other-container =
      record {
        header = x.container.header;
        walked = x.container.walked;
        after = x.behind;
        whole = x.whole;
        headed = x.container.headed;
        laid = x.container.laid;
      }

  -- So whatever is answered of the one file is answered of the other: which tables, and where their rows stand ..
  placed-after : placed file ≡ placed other
  placed-after =
      container-placed file _ _ x.container x.within ∙ sym (container-placed other _ _ other-container x.other_within)

  -- .. the tables alone ..
  pub after-end : decode file ≡ decode other
  unfolding decode
  after-end = ap (map_read only_tables) placed-after

  -- .. and what is viewed of a row or a section.
  pub row-view-after : (rows_in : Placed → Rows (List ℕ)) (k : ℕ) → row_view rows_in file k ≡ row_view rows_in other k
  unfolding row_view
  row-view-after rows_in k = rw placed-after

  pub section-view-after : (id : ℕ) → section_view file id ≡ section_view other id
  unfolding section_view
  section-view-after id =
      rw (
        container-sections file _ _ x.container x.within,
        container-sections other _ _ other-container x.other_within,
      )
