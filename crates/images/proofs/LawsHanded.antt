-- What is answered of a handed sheet, by what the judge says of it. Assumes nothing.
use Rattle.std.proofs.Common.{Result, Ok, Err, ◌≡◌, ℕ, ◌^◌, ◌<◌, List, length, replicate, sym, refl, ap, ◌∙◌, arith}
use Rattle.std.specs.Prelude as code
use native.Mathlib.Decide.{ℕ_discrete}
use mathlib.Core.Option.{none, some}
use lib.ListN.{length-replicate}
use Rattle.exact.proofs.LawsChoice.{choose_yes, choose_no}
use Rattle.enums.specs.Numbered.{number_of}
use Rattle.enums.proofs.LawsNumbered.{refusal-only}
use Rattle.format.specs.Tables.{Tables}
use Rattle.format.specs.Sheet.{pool_length, pool_of}
use Rattle.format.specs.Sound.{All, Fits}
use Rattle.format.specs.Judge.{cutting, with_pool, tables_of}
use Rattle.format.specs.Tests.{both?, all?, fits?}
use Rattle.format.specs.Write.{imaged, blank}
use Rattle.format.proofs.LawsSoundItems.{zeros-fit}
use Rattle.format.proofs.Sheets.{sheet-judged, judged-pool}
use Rattle.sheet.specs.Store.{words_in}
use Rattle.sheet.proofs.LawsWords.{length-words_in}
use Rattle.judge.specs.declared.Judged.{Judged}
use Rattle.judge.specs.Judge.{judged_bytes, judged_read, summary}
use Rattle.judge.proofs.LawsPlaced.{stopped_none, judged-words, Passes, passed-of}
use Rattle.images.specs.Written.{image_size, length_of, in_room, with_image, Told, ImageTold, JudgedWritten}
use Rattle.enums.specs.declared.Refusal.{Refusal}
use Rattle.enums.specs.declared.Refusal.TheVariants as refusal

-- What `ok_or` was given, by what it answers.
pub ok_some : (o : code.Option Judged) (e : Refusal) {j : Judged} → Ok j ≡ code.ok_or o e → o ≡ code.Some j
ok_some code.None e h = cc
ok_some (code.Some b) e h = cc

pub err-none : (o : code.Option Judged) (e : Refusal) {x : Refusal} → Err x ≡ code.ok_or o e → (o ≡ code.None) × (x ≡ e)
err-none code.None e h = (refl, cc)
err-none (code.Some b) e h = (cc, cc)

-- The tables that a judged sheet and a pool stand for.
module _ (s pool : List ℕ) (short : length s < 2 ^ 63) {j : Judged} (p : Passes s j) (n : length pool ≡ pool_length p.frame)
    (b : All (Fits 8) pool) where
  abbrev tables : Tables
  tables = cutting p.frame pool

  found : tables_of (words_in s) pool ≡ some tables
  found = judged-pool (words_in s) pool p.frame (judged-words s p.frame p.judged) n b

  told-tables : Told j tables s × (pool ≡ pool_of tables)
  unfolding cutting
  told-tables =
      let q = (sheet-judged (words_in s) pool tables).0 found in
      let lw = ap length q.0 in
      let lp = ap length q.1 in
      let ls = length-words_in s in (
        record {
          holds = record { words = q.0; sound = q.2; version = p.class; fits = omega arith };
          pool = p.pool ∙ sym n ∙ lp;
        },
        q.1,
      )

module _ (s : List ℕ) {x : code.Option Judged} (e : judged_read x ≡ summary (judged_bytes s)) where
  -- The sheet is not well-formed ..
  pub image-stopped : x ≡ code.None → image_size (Err refusal.Sheet) ≡ length_of (imaged (blank (judged_bytes s)))
  unfolding length_of imaged blank
  image-stopped h = sym (ap (λ o. length_of (imaged (blank o))) (stopped_none (judged_bytes s) (sym (ap judged_read h) ∙ e)))

  pub write-stopped : (pool out : List ℕ) → x ≡ code.None →
      (image_size (Err refusal.Sheet) ≡ in_room (length out) (imaged (with_pool pool (judged_bytes s)))) ×
      (out ≡ with_image out (imaged (with_pool pool (judged_bytes s))))
  unfolding in_room with_image imaged with_pool
  write-stopped pool out h =
      let o = stopped_none (judged_bytes s) (sym (ap judged_read h) ∙ e) in (
        sym (ap (λ o. in_room (length out) (imaged (with_pool pool o))) o),
        sym (ap (λ o. with_image out (imaged (with_pool pool o))) o),
      )

  module _ {j : Judged} (h : x ≡ code.Some j) where
    passes : Passes s j
    passes = passed-of s j (sym (ap judged_read h) ∙ e)

    -- .. or its image is measured ..
    pub image-passed : {r : Result ℕ Refusal} → length s < 2 ^ 63 → ImageTold s j r → image_size r ≡ length_of (imaged (blank (judged_bytes s)))
    unfolding blank
    image-passed short i =
        let p = passes in
        let n = pool_length p.frame in
        let t = told-tables s (replicate n 0) short p (length-replicate {A = ℕ} n 0) (zeros-fit n) in
        i.each _ t.0 ∙ sym (ap (λ o. length_of (imaged (blank o))) p.judged)

    -- .. or the pool is not its own ..
    pub write-other : (pool out : List ℕ) → ¬ (j.pool ≡ length pool) →
        (image_size (Err refusal.Sheet) ≡ in_room (length out) (imaged (with_pool pool (judged_bytes s)))) ×
        (out ≡ with_image out (imaged (with_pool pool (judged_bytes s))))
    unfolding in_room with_image imaged with_pool
    write-other pool out n =
        let p = passes in
        let w : with_pool pool (judged_bytes s) ≡ none =
        ap (with_pool pool) p.judged ∙
        choose_no (both? (ℕ_discrete (length pool) (pool_length p.frame)) (all? (fits? 8) pool)) _ none (λ q. n (p.pool ∙ sym q.0)) in (
          sym (ap (λ o. in_room (length out) (imaged o)) w),
          sym (ap (λ o. with_image out (imaged o)) w),
        )

    -- .. or it is written.
    pub write-passed : {pool out out' : List ℕ} {r : Result ℕ Refusal} → length s < 2 ^ 63 → All (Fits 8) pool → j.pool ≡ length pool →
        JudgedWritten s j pool out out' r →
        (image_size r ≡ in_room (length out) (imaged (with_pool pool (judged_bytes s)))) ×
        (out' ≡ with_image out (imaged (with_pool pool (judged_bytes s))))
    unfolding with_pool
    write-passed {pool} {out} short b n w =
        let p = passes in
        let l : length pool ≡ pool_length p.frame = sym n ∙ p.pool in
        let t = told-tables s pool short p l b in
        let o : with_pool pool (judged_bytes s) ≡ some (cutting p.frame pool) =
        ap (with_pool pool) p.judged ∙
        choose_yes (both? (ℕ_discrete (length pool) (pool_length p.frame)) (all? (fits? 8) pool)) _ none (l, b) in
        let x = w.each _ t.0 t.1 in (
          x.0 ∙ sym (ap (λ o. in_room (length out) (imaged o)) o),
          x.1 ∙ sym (ap (λ o. with_image out (imaged o)) o),
        )

-- Two answers that mean the same are the same.
pub size_same : (x y : Result ℕ Refusal) → image_size x ≡ image_size y → x ≡ y
size_same (Ok n) (Ok m) e = cc
size_same (Ok n) (Err c) e = cc
size_same (Err c) (Ok n) e = cc
size_same (Err c) (Err d) e =
    let k : number_of c ≡ number_of d = cc in
    ap Err (refusal-only k)

-- Any two results that the contracts of `image` and `write` allow are equal.
pub image-only : (s : List ℕ) (x y : Result ℕ Refusal) → image_size x ≡ length_of (imaged (blank (judged_bytes s))) →
    image_size y ≡ length_of (imaged (blank (judged_bytes s))) → x ≡ y
image-only s x y e f = size_same x y (e ∙ sym f)

pub write-only : (s pool out : List ℕ) {out' out'' : List ℕ} (x y : Result ℕ Refusal) →
    image_size x ≡ in_room (length out) (imaged (with_pool pool (judged_bytes s))) → out' ≡ with_image out (imaged (with_pool pool (judged_bytes s))) →
    image_size y ≡ in_room (length out) (imaged (with_pool pool (judged_bytes s))) → out'' ≡ with_image out (imaged (with_pool pool (judged_bytes s))) →
    (x ≡ y) × (out' ≡ out'')
write-only s pool out x y e o f q = (size_same x y (e ∙ sym f), o ∙ sym q)

-- The laws by which the check proves `image`.
pub ruleset handed = (ok_some, err-none, image-stopped, image-passed)
