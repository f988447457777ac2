-- The producer's step of a pass. Assumes nothing.
use mathlib.Core.Path.{◌≡◌, refl, sym, ap, ap₂, ◌∙◌}
use Prim.Native.Nat.{ℕ, ◌+◌, ◌≤◌, ◌<◌}
use mathlib.Core.Bool.{true, false}
use mathlib.Core.Option.{Option, none, some}
use mathlib.Core.List.{List}
use lib.ListN.{length}
use Rattle.std.specs.Prelude.{Result, Ok, Err}
use Rattle.exact.specs.Got.{got}
use Rattle.exact.specs.Entries.{raised}
use Rattle.enums.specs.Refusals as refusals
use Rattle.enums.specs.declared.Stage.TheVariants as stage
use Rattle.format.specs.Strings.{Producer, producer}
use Rattle.format.specs.Read.{accepted, at_stage}
use Rattle.format.specs.Sheet.{producer_word}
use Rattle.format.specs.DecodeTables.{producer_at}
use Rattle.format.proofs.LawsTables.{producer-ends}
use Rattle.format.proofs.LawsBelow.{producer-below}
use Rattle.container.specs.Shown.{stopped_at}
use Rattle.container.specs.declared.sections.SectionPlace.{SectionPlace}
use Rattle.reading.specs.declared.Refused.{Refused}
use Rattle.entries.specs.Rows.{got_producer}
use Rattle.payloads.specs.declared.answers.Filled.{Filled}
use Rattle.payloads.specs.Pass.{payload_in, in_place, Goes, with_producer}
use Rattle.payloads.proofs.LawsPass.{in-absent, in-present, goes-refused, goes_on}

producer-inside : (n i : ℕ) (bs : List ℕ) (v : ℕ) → Producer n i bs (some v) → v < n
producer-inside n i bs v (producer left s h) = h

module _ (n : ℕ) (l : List ℕ) (r : Result ℕ Refused) (g : got_producer l r ≡ producer_at n l 0) where
  -- An index that was read is one of the strings'.
  pub producer-index : (v : ℕ) → r ≡ Ok v → v < n
  producer-index v e = producer-inside n 0 _ v ((producer-ends n).sound l 0 (some v) (length l) (sym g ∙ ap (got_producer l) e)).0

  -- A refusal lies in the payload.
  pub producer-short : (x : Refused) → r ≡ Err x → x.at ≤ length l
  producer-short x e = producer-below n l _ x.at (sym g ∙ ap (got_producer l) e)

module _ (file : List ℕ) (p : SectionPlace) (at : Filled) (v : ℕ) where
  -- What is found takes the place of the number of strings.
  found : {s q : List ℕ} (o : Option ℕ) (w : ℕ) → w ≡ producer_word o →
      ((j : ℕ) × (in_place file p (λ l. producer_at v l 0) none ≡ got o j)) → Goes 1 1 (with_producer file p) (Ok (at, v)) s s q q (Ok (at, w))
  unfolding with_producer at_stage
  found o w same (j, g) =
      goes_on 1 1 (with_producer file p) at v (Ok (at, w)) (λ y. record { tables = y.tables; value = producer_word o })
      (λ y t strings small.
      record {
        reads =
            ap
            (λ z. at_stage refusals.at_producer z
            (λ producer _. accepted (record { tables = y.tables; value = producer_word producer })))
            (ap (λ n. in_place file p (λ l. producer_at n l 0) none) (sym strings) ∙ g);
        answer = ap₂ (λ a b. Ok (a, b)) t same;
        small = small;
        sheet = λ s₀ h. h;
        pool = λ p₀ h. h;
      })

  -- No producer is named ..
  pub producer-absent : {s q : List ℕ} → p.presence ≡ false → Goes 1 1 (with_producer file p) (Ok (at, v)) s s q q (Ok (at, 0))
  unfolding producer_word
  producer-absent h = found none 0 refl (0, in-absent file p (λ l. producer_at v l 0) none h)

  module _ (l : List ℕ) (n : ℕ) (r : Result ℕ Refused) (here : p.presence ≡ true) (begins : n ≡ p.start) (same : l ≡ payload_in file p)
      (g : got_producer l r ≡ producer_at v l 0) where
    there : in_place file p (λ l. producer_at v l 0) none ≡ raised n (got_producer l r)
    there =
        in-present file p (λ l. producer_at v l 0) none here ∙
        ap₂ (λ n z. raised n (producer_at v z 0)) (sym begins) (sym same) ∙ ap (raised n) (sym g)

    -- .. or this one ..
    pub producer-named : {s q : List ℕ} (index : ℕ) → r ≡ Ok index → Goes 1 1 (with_producer file p) (Ok (at, v)) s s q q (Ok (at, index + 1))
    unfolding producer_word raised
    producer-named index told = found (some index) (index + 1) refl (n + length l, there ∙ ap (λ z. raised n (got_producer l z)) told)

    -- .. or it is refused.
    pub producer-refused : {s q : List ℕ} (x : Refused) → r ≡ Err x →
        Goes 1 1 (with_producer file p) (Ok (at, v)) s s q q (Err (stopped_at (record { refusal = x.refusal; at = n + x.at }) stage.Producer))
    unfolding with_producer at_stage raised
    producer-refused x told =
        goes-refused 1 1 (with_producer file p) at v _
        (λ y strings.
        ap
        (λ z. at_stage refusals.at_producer z
        (λ producer _. accepted (record { tables = y.tables; value = producer_word producer })))
        (ap (λ n. in_place file p (λ l. producer_at n l 0) none) (sym strings) ∙ there ∙ ap (λ z. raised n (got_producer l z)) told))
