-- Which refusal numbers reading and viewing a file give at which stage (document 01, "Refusal numbers").
use Rattle.std.specs.Prelude.{◌≡◌, true, ℕ, List, [], ◌∷◌, get_or}
use Rattle.enums.specs.Refusals.{limit, short, overlong, not_magic, unpadded, bounds, no_producer, type_tag, debug_tag, hints, full, not_there}
use Rattle.format.specs.Types.{among}
use Rattle.format.specs.Read.{Read, accepted, refused}

-- The numbers of each stage, the stages in their order; none is 0.
abbrev pub refusals_by_stage : List (List ℕ)
refusals_by_stage =
    (limit ∷ []) ∷
    (short ∷ not_magic ∷ []) ∷
    (short ∷ overlong ∷ unpadded ∷ []) ∷
    (short ∷ overlong ∷ unpadded ∷ bounds ∷ []) ∷
    (short ∷ overlong ∷ no_producer ∷ []) ∷
    (short ∷ overlong ∷ unpadded ∷ bounds ∷ type_tag ∷ []) ∷
    (short ∷ overlong ∷ unpadded ∷ bounds ∷ []) ∷
    (short ∷ overlong ∷ []) ∷
    (short ∷ overlong ∷ hints ∷ []) ∷
    (short ∷ overlong ∷ unpadded ∷ bounds ∷ debug_tag ∷ []) ∷
    (full ∷ not_there ∷ []) ∷
    []

-- The number c is one of stage n.
abbrev pub GivenAt : ℕ → ℕ → Type 0
GivenAt n c = among c (get_or refusals_by_stage n []) ≡ true

-- If this is a refusal, its number is one of its stage.
pub data Listed {A : Type 0} : Read A → Type 0 where
  not_refused : {v : A} → Listed (accepted v)
  refused_so : {c n i : ℕ} → GivenAt n c → Listed (refused c n i)
