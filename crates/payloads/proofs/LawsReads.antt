-- Reading is two passes, the first on no stores; and its contract allows one result only. Assumes nothing.
use mathlib.Core.Path.{◌≡◌, refl, sym, ap, ◌∙◌}
use Prim.Native.Nat.{ℕ, ◌+◌, ◌*◌, ◌/◌, ◌≤◌, ◌<◌}
use native.Mathlib.Omega.{arith}
use mathlib.Core.Logic.{◌⊎◌}
use mathlib.Core.List.{List, ◌++◌}
use lib.ListN.{length}
use Rattle.exact.specs.Tiling.{join}
use Rattle.encoding.specs.Out.{put}
use Rattle.encoding.proofs.LawsOut.{none_before}
use Rattle.std.specs.Prelude.{Result, Ok, Err}
use Rattle.enums.specs.declared.Refusal.TheVariants.{Full}
use Rattle.container.specs.Shown.{refused_of, stopped_call}
use Rattle.container.proofs.LawsShown.{read-only}
use Rattle.format.specs.Tables.{Tables}
use Rattle.format.specs.Read.{Read, accepted, map_read}
use Rattle.format.specs.Views.{and_then}
use Rattle.format.specs.Decode.{decode}
use Rattle.format.specs.Sheet.{sheet_of, pool_of}
use Rattle.format.specs.Stores.{stored, read_into}
use Rattle.format.proofs.Decoded.{map-inv, map-refused}
use Rattle.format.proofs.Stored.{stored-fits, stored-small, stored-kept, stored-put}
use Rattle.container.specs.declared.sections.Stopped.{Stopped}
use Rattle.sheet.proofs.LawsStore.{put_words-run, put_runs-run}
use Rattle.payloads.specs.declared.Need.{Need}
use Rattle.payloads.specs.Whole.{file_read, need_of, Reads, runs_of, PassPost}
use Rattle.payloads.proofs.LawsSheet.{runs-pool}

-- What the first pass of `read` has left of no sheet and no pool, a and b, and has answered, m.
pub record First (l a b : List ℕ) (m : Result Need Stopped) : Type 0 where
  pub sheet : length a ≡ 0
  pub pool : length b ≡ 0
  pub answer : file_read m ≡ map_read need_of (decode l)

module _ (l s p : List ℕ) where
  -- A refused call has left the stores.
  pub reads-refused : (s' p' : List ℕ) (x : Stopped) → read_into l s p ≡ refused_of x → s' ≡ s → p' ≡ p → Reads l s s' p p' (Err x)
  unfolding map_read
  reads-refused s' p' x e a b =
      let (y, z) = stored-kept l s p _ _ x.at e in
      record { answer = sym (ap (map_read need_of) e); sheet = a ∙ sym y; pool = b ∙ sym z }

  -- So has one of a file that is refused.
  pub reads-stopped : (x : Stopped) → decode l ≡ refused_of x → (s' p' : List ℕ) → s' ≡ s → p' ≡ p → Reads l s s' p p' (Err x)
  unfolding read_into and_then
  reads-stopped x e s' p' a b = reads-refused s' p' x (rw e refl) a b

  module _ {a b : List ℕ} {m : Result Need Stopped} (x : First l a b m) where
    same-sheet : a ++ s ≡ s
    same-sheet = none_before a s x.sheet

    same-pool : b ++ p ≡ p
    same-pool = none_before b p x.pool

  module _ {a b : List ℕ} where
    -- The first pass is refused ..
    pub reads-stop : (z : Stopped) → First l a b (Err z) → Reads l s (a ++ s) p (b ++ p) (Err z)
    reads-stop z x = reads-stopped z (map-refused need_of (decode l) _ _ z.at (sym x.answer)) (a ++ s) (b ++ p) (same-sheet x) (same-pool x)

    module _ (n : Need) (x : First l a b (Ok n)) where
      measured : (t : Tables) × (decode l ≡ accepted t) × (need_of t ≡ n)
      measured = map-inv need_of (decode l) n (sym x.answer)

      asked : (t : Tables) → need_of t ≡ n → (length (sheet_of t) ≡ n.words) × (length (pool_of t) ≡ n.bytes)
      unfolding need_of
      asked t o = (ap (λ z. z.words) o, ap (λ z. z.bytes) o)

      into : (t : Tables) → decode l ≡ accepted t → read_into l s p ≡ stored (length s / 8) (length p) t
      unfolding read_into and_then
      into t d = rw d

      -- .. or has measured more than the stores have ..
      pub reads-small : (length (a ++ s) / 8 < n.words) ⊎ (length (b ++ p) < n.bytes) →
          Reads l s (a ++ s) p (b ++ p) (Err (stopped_call Full))
      reads-small h =
          let (t, d, o) = measured in
          let (w, k) = asked t o in
          let small : (length s / 8 < length (sheet_of t)) ⊎ (length p < length (pool_of t)) =
          rw (w, k) (rw (same-sheet x, same-pool x) at h) in
          reads-refused (a ++ s) (b ++ p) (stopped_call Full)
          (into t d ∙ stored-small (length s / 8) (length p) t small) (same-sheet x) (same-pool x)

      -- .. or not, and the second pass fills.
      filled : (s' p' : List ℕ) (r : Result Need Stopped) → n.words ≤ length s / 8 → n.bytes ≤ length p → PassPost l s s' p p' r →
          Reads l s s' p p' r
      filled s' p' r hw hb y =
          let (t, d, o) = measured in
          let (w, c) = asked t o in
          let f : read_into l s p ≡ accepted t = into t d ∙ stored-fits (length s / 8) (length p) t (rw w hw) (rw c hb) in
          let hs : 8 * (0 + length (sheet_of t)) ≤ length s = omega arith in
          let hp : 0 + length (join (runs_of t)) ≤ length p = rw runs-pool (omega arith) in
          let (i, j) = stored-put l s p t f in
          record {
            answer = y.answer ∙ ap (map_read need_of) (d ∙ sym f);
            sheet = y.sheet t d ∙ put_words-run (sheet_of t) s 0 hs ∙ sym i;
            pool = y.pool t d ∙ put_runs-run (runs_of t) p 0 hp ∙ ap (put p 0) (runs-pool t) ∙ sym j;
          }

      pub reads-filled : (s' p' : List ℕ) → n.words ≤ length (a ++ s) / 8 → n.bytes ≤ length (b ++ p) → (r : Result Need Stopped) →
          PassPost l (a ++ s) s' (b ++ p) p' r → Reads l s s' p p' r
      reads-filled s' p' hw hb r y =
          filled s' p' r (rw (same-sheet x) at hw) (rw (same-pool x) at hb) (rw (same-sheet x, same-pool x) at y)

-- Two answers that stand for the same are the same: so the contract of `measure` allows one answer ..
pub file-only : {r q : Result Need Stopped} {g : Read Need} → file_read r ≡ g → file_read q ≡ g → r ≡ q
file-only = read-only

-- .. and that of `read` one answer and one content of each store.
pub reads_only : (l s s' s'' p p' p'' : List ℕ) (r q : Result Need Stopped) → Reads l s s' p p' r → Reads l s s'' p p'' q →
    (r ≡ q) × (s' ≡ s'') × (p' ≡ p'')
reads_only l s s' s'' p p' p'' r q x y =
    (file-only x.answer y.answer, x.sheet ∙ sym y.sheet, x.pool ∙ sym y.pool)
