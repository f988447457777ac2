-- The steps of a pass, one after the other. Assumes nothing.
use mathlib.Core.Path.{◌≡◌, refl, sym, ap, ap₂, ◌∙◌, subst}
use Prim.Native.Nat.{ℕ, ◌≤◌}
use native.Mathlib.Omega.{arith}
use mathlib.Core.List.{List}
use lib.ListN.{length}
use Rattle.std.specs.Prelude.{Ok, Err}
use Rattle.exact.specs.Tiling.{join}
use Rattle.enums.specs.declared.Section.TheVariants as section
use Rattle.format.specs.Debug.{no_debug}
use Rattle.format.specs.Read.{Read, accepted, map_read}
use Rattle.format.specs.Views.{and_then}
use Rattle.format.specs.Decode.{most_bytes}
use Rattle.format.specs.DecodeDebug.{debug_at}
use Rattle.format.proofs.Decoded.{refused-not-accepted}
use Rattle.container.specs.Container.{version_of}
use Rattle.container.specs.declared.sections.Container.{Container}
use Rattle.container.specs.declared.sections.Stopped.{Stopped}
use Rattle.sheet.specs.Store.{put_words, put_runs}
use Rattle.payloads.specs.Fill.{Fits}
use Rattle.payloads.specs.declared.answers.Filled.{Filled}
use Rattle.payloads.specs.Pass.{in_place, all_words, all_runs, contents_of, filled_sheet, Begun, Pass, Small, Progress, Goes, with_producer, with_debug, begun, place_at, table_step, named, passed, head_words, need_in, value_of, Passes}
use Rattle.payloads.specs.declared.pass.Table.TheVariants.{Strings, Types, Constants, Globals, Functions}
use Rattle.payloads.proofs.LawsPass.{stopped-as, got-as, goes-stop}

-- A pass begins with no table, at word 19 and byte 0.
pub begins : (s p : List ℕ) → Progress 0 (accepted begun) s s p p (Ok (record { words = 19; bytes = 0 }, 0))
unfolding all_words all_runs filled_sheet contents_of put_words put_runs map_read
begins s p =
    record {
      answer = refl;
      small = λ x e. subst (λ y. Small 0 y.tables) (same e) (record { count = refl; words = omega arith; bytes = omega arith });
      sheet = λ x e. ap (λ y. filled_sheet s y.tables) (same e);
      pool = λ x e. ap (λ y. put_runs p 0 (all_runs y.tables)) (same e);
    }
  where
    same : {x : Begun} → accepted begun ≡ accepted x → begun ≡ x
    same e = cc

-- There is room for what follows.
pub room_for : {n : ℕ} {b : Read Begun} {s s' p p' : List ℕ} {at : Filled} {v : ℕ} (l : List ℕ) → Progress n b s s' p p' (Ok (at, v)) → n ≤ 7 →
    length l ≤ most_bytes → Fits at l
room_for {b = b} {at = at} {v = v} l g few short =
    let (x, e, a, o) = got-as b at v g.answer in
    let m = g.small x e in
    record { words = omega (arith, ap (λ z. z.words) a, m.words); bytes = omega (arith, ap (λ z. z.bytes) a, m.bytes) }

-- After a refusal each step hands it on.
halt : {n m : ℕ} {b : Read Begun} (k : Begun → Read Begun) {s s' p p' : List ℕ} {x : Stopped} → Progress n b s s' p p' (Err x) →
    Progress m (and_then b k) s s' p p' (Err x)
halt {n} {m} k {x = x} g = (goes-stop n m k x).on _ _ _ g

module _ (l : List ℕ) (k : Container) where
  abbrev pub start : Pass
  start = Ok (record { words = 19; bytes = 0 }, 0)

  abbrev step_producer : Begun → Read Begun
  step_producer = with_producer l (place_at k section.Producer)

  abbrev step_debug : Begun → Read Begun
  step_debug = with_debug (in_place l (place_at k section.Debug) (λ z. debug_at z 0) no_debug)

  -- What has been read behind each table.
  abbrev types_read : Read Begun
  types_read = and_then (named l k) (table_step l k Types)

  abbrev constants_read : Read Begun
  constants_read = and_then types_read (table_step l k Constants)

  abbrev globals_read : Read Begun
  globals_read = and_then constants_read (table_step l k Globals)

  abbrev functions_read : Read Begun
  functions_read = and_then globals_read (table_step l k Functions)

  module _ {s s₁ p p₁ : List ℕ} where
    pub strings-of : {r : Pass} → Goes 0 1 (table_step l k Strings) start s s₁ p p₁ r → Progress 1 (table_step l k Strings begun) s s₁ p p₁ r
    unfolding and_then
    strings-of g = g.on _ _ _ (begins _ _)

    pub named-of : {r q : Pass} → Progress 1 (table_step l k Strings begun) s s₁ p p₁ r → Goes 1 1 step_producer r s₁ s₁ p₁ p₁ q →
        Progress 1 (named l k) s s₁ p p₁ q
    unfolding named
    named-of h g = g.on _ _ _ h

    pub passed-of : {s₂ : List ℕ} {r q : Pass} → Progress 5 functions_read s s₁ p p₁ r → Goes 5 7 step_debug r s₁ s₂ p₁ p₁ q →
        Progress 7 (passed l k) s s₂ p p₁ q
    unfolding passed
    passed-of h g = g.on _ _ _ h

    module _ {x : Stopped} where
      -- Where a step is refused, the pass is.
      pub functions-stop : Progress 5 functions_read s s₁ p p₁ (Err x) → Progress 7 (passed l k) s s₁ p p₁ (Err x)
      unfolding passed
      functions-stop h = halt step_debug h

      pub globals-stop : Progress 4 globals_read s s₁ p p₁ (Err x) → Progress 7 (passed l k) s s₁ p p₁ (Err x)
      globals-stop h = functions-stop (halt (table_step l k Functions) h)

      pub constants-stop : Progress 3 constants_read s s₁ p p₁ (Err x) → Progress 7 (passed l k) s s₁ p p₁ (Err x)
      constants-stop h = globals-stop (halt (table_step l k Globals) h)

      pub types-stop : Progress 2 types_read s s₁ p p₁ (Err x) → Progress 7 (passed l k) s s₁ p p₁ (Err x)
      types-stop h = constants-stop (halt (table_step l k Constants) h)

      pub producer-stop : Progress 1 (named l k) s s₁ p p₁ (Err x) → Progress 7 (passed l k) s s₁ p p₁ (Err x)
      producer-stop h = types-stop (halt (table_step l k Types) h)

      pub strings-stop : Progress 1 (table_step l k Strings begun) s s₁ p p₁ (Err x) → Progress 7 (passed l k) s s₁ p p₁ (Err x)
      unfolding named
      strings-stop h = producer-stop (halt step_producer h)

  module _ {s s₁ p p₁ : List ℕ} where
    -- A pass that was refused ..
    pub passes-stop : (x : Stopped) (s' p' : List ℕ) → Progress 7 (passed l k) s s₁ p p₁ (Err x) → Passes l k s s' p p' (Err x)
    unfolding map_read
    passes-stop x s' p' g =
        let q = stopped-as (passed l k) x g.answer in
        record {
          answer = sym (ap need_in q);
          sheet = λ y f. absurd (refused-not-accepted (sym q ∙ f));
          pool = λ y f. absurd (refused-not-accepted (sym q ∙ f));
        }

    -- .. or went to the end.
    pub passes-got : (at a : Filled) (v word : ℕ) {s₂ s₃ s' p₂ p₃ : List ℕ} → Progress 7 (passed l k) s s₁ p p₁ (Ok (at, v)) →
        Progress 1 (named l k) s₂ s₃ p₂ p₃ (Ok (a, word)) → s' ≡ put_words s₁ 0 (head_words (version_of k.version) word at.bytes) →
        Passes l k s s' p p₁ (Ok record { words = at.words; bytes = at.bytes })
    unfolding map_read value_of
    passes-got at a v word g h put =
        let (x, e, f, o) = got-as (passed l k) at v g.answer in
        let (y, i, j, w) = got-as (named l k) a word h.answer in
        let found : word ≡ value_of (named l k) = w ∙ sym (ap value_of i) in
        record {
          answer = ap (λ z. accepted (record { words = z.words; bytes = z.bytes })) f ∙ sym (ap need_in e);
          sheet = λ z q.
              put ∙
              ap₂ (λ z w. put_words z 0 w) (g.sheet z q)
              (ap₂ (head_words (version_of k.version)) found (ap (λ z. z.bytes) f ∙ ap (λ z. length (join (all_runs z.tables))) (same (sym e ∙ q))));
          pool = g.pool;
        }
      where
        same : {x z : Begun} → accepted x ≡ accepted z → x ≡ z
        same e = cc
