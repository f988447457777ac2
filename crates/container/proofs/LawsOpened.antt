-- What header and walk give: how the code follows it, and what the model of the whole file and the layout make of it.
-- Assumes nothing.
use mathlib.Core.Path.{◌≡◌, refl, ap, ◌∙◌}
use Prim.Native.Nat.{ℕ, ◌≤◌, ◌<◌}
use native.Mathlib.Omega.{arith}
use native.Mathlib.Decide.{dec_le}
use mathlib.Core.List.{List}
use lib.ListN.{length}
use Rattle.exact.specs.Got.{Got, got, stop, follow}
use Rattle.exact.specs.Basic.{pure}
use Rattle.exact.specs.Sequence.{bind, mapped}
use Rattle.exact.specs.Choice.{choose}
use Rattle.exact.proofs.LawsChoice.{choose_yes, choose_no}
use Rattle.enums.specs.Refusals as refusals
use Rattle.format.specs.Tables.{Version}
use Rattle.format.specs.Sections.{Section}
use Rattle.format.specs.Explains.{Container}
use Rattle.format.specs.Read.{Read, accepted, refused, at_stage, map_read}
use Rattle.format.specs.DecodeContainer.{header_at, sections_at}
use Rattle.format.specs.Decode.{most_bytes, payloads, read_placed, placed}
use Rattle.format.specs.Views.{and_then, read_sections}
use Rattle.format.proofs.Decoded.{container-read}
use Rattle.container.specs.declared.sections.Container.{Container as Held}
use Rattle.container.specs.Container.{held_sections, Opened, opened, held_version, held_container}

-- Of header and walk the code holds the version and the places.
held-walked : (v : Version) (g : Got (List Section)) →
    map_read held_container (at_stage refusals.at_sections g (λ ss _. accepted (record { version = v; sections = ss }))) ≡
    at_stage refusals.at_sections (follow g (λ ss k. got (held_sections ss) k))
    (λ q _. accepted (record { version = held_version v; sections = q }))
unfolding map_read at_stage follow
held-walked v (got ss k) = refl
held-walked v (stop c i) = refl

held-headed : (file : List ℕ) (g : Got Version) →
    map_read held_container
    (at_stage refusals.at_header g
    (λ v j. at_stage refusals.at_sections (sections_at file j) (λ ss _. accepted (record { version = v; sections = ss })))) ≡
    at_stage refusals.at_header g
    (λ v j. at_stage refusals.at_sections (mapped held_sections sections_at file j)
    (λ q _. accepted (record { version = held_version v; sections = q })))
unfolding map_read at_stage mapped bind follow pure
held-headed file (got v j) = held-walked v (sections_at file j)
held-headed file (stop c i) = refl

module _ (file : List ℕ) where
  -- A file over the limit is refused ..
  pub over_limit : most_bytes < length file →
      map_read held_container (opened file) ≡ refused refusals.limit refusals.at_limits 0
  unfolding opened map_read
  over_limit h = ap (map_read held_container) (choose_no (dec_le (length file) most_bytes) _ _ (omega arith))

  -- .. and of another one header and walk are read.
  pub within_limit : length file ≤ most_bytes →
      map_read held_container (opened file) ≡
      at_stage refusals.at_header (header_at file 0)
      (λ v j. at_stage refusals.at_sections (mapped held_sections sections_at file j)
      (λ q _. accepted (record { version = held_version v; sections = q })))
  unfolding opened
  within_limit h =
      ap (map_read held_container) (choose_yes (dec_le (length file) most_bytes) _ _ h) ∙ held-headed file (header_at file 0)

-- What the container's answer says of the model: a refusal ..
pub held-stop : (g : Read Opened) (c n i : ℕ) → refused c n i ≡ map_read held_container g → g ≡ refused c n i
unfolding map_read
held-stop (accepted o) c n i e = cc
held-stop (refused c' n' i') c n i e = cc

-- .. or an opened file, as the code holds it.
pub held-passed : (g : Read Opened) (k : Held) → accepted k ≡ map_read held_container g →
    (x : Opened) × (g ≡ accepted x) × (k ≡ held_container x)
unfolding map_read
held-passed (accepted o) k e = (o, refl, cc)
held-passed (refused c n i) k e = cc

-- Header and walk, and then k.
abbrev staged : {A : Type 0} → (Version → List Section → Read A) → List ℕ → Got Version → Read A
staged k file g = at_stage refusals.at_header g (λ v j. at_stage refusals.at_sections (sections_at file j) (λ ss _. k v ss))

abbrev both : Version → List Section → Read Opened
both v ss = accepted (record { version = v; sections = ss })

module _ {A : Type 0} (k : Version → List Section → Read A) where
  abbrev of : Opened → Read A
  of x = k x.version x.sections

  walked-opened : (v : Version) (g : Got (List Section)) →
      at_stage refusals.at_sections g (λ ss _. k v ss) ≡ and_then (at_stage refusals.at_sections g (λ ss _. both v ss)) of
  unfolding at_stage and_then
  walked-opened v (got ss j) = refl
  walked-opened v (stop c i) = refl

  headed-opened : (file : List ℕ) (g : Got Version) → staged k file g ≡ and_then (staged both file g) of
  unfolding at_stage and_then
  headed-opened file (got v j) = walked-opened v (sections_at file j)
  headed-opened file (stop c i) = refl

  -- What is read behind limit, header and walk is read of an opened file.
  then-opened : (file : List ℕ) (d : Dec (length file ≤ most_bytes)) →
      choose d (staged k file (header_at file 0)) (refused refusals.limit refusals.at_limits 0) ≡
      and_then (choose d (staged both file (header_at file 0)) (refused refusals.limit refusals.at_limits 0)) of
  unfolding choose and_then
  then-opened file (yes h) = headed-opened file (header_at file 0)
  then-opened file (no h) = refl

-- The whole file is judged by the payloads of what was opened.
pub placed-opened : (file : List ℕ) → placed file ≡ and_then (opened file) (λ x. payloads x.version x.sections)
unfolding placed read_placed opened
placed-opened file = then-opened payloads file (dec_le (length file) most_bytes)

-- A section view takes the sections alone.
pub sections-opened : (file : List ℕ) → read_sections file ≡ and_then (opened file) (λ x. accepted x.sections)
unfolding read_sections opened
sections-opened file = then-opened (λ v ss. accepted ss) file (dec_le (length file) most_bytes)

-- A file that is a container within the limit is opened.
pub container-opened : (file : List ℕ) (v : Version) (ss : List Section) → Container file v ss →
    length file ≤ most_bytes →
    opened file ≡ accepted (record { version = v; sections = ss })
unfolding opened
container-opened file v ss c n = choose_yes (dec_le (length file) most_bytes) _ _ n ∙ container-read both file v ss c
