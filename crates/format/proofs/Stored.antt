-- Reading into stores: a refusal leaves them, what is accepted is explained by the file and held by the stores, and
-- what is explained and has room is accepted; and what stands after the end marker isn't read. Assumes nothing.
use mathlib.Core.Path.{◌≡◌, refl, ap, ◌∙◌}
use Prim.Native.Nat.{ℕ, ◌/◌, ◌≤◌, ◌<◌}
use native.Mathlib.Omega.{arith}
use native.Mathlib.Decide.{dec_le}
use mathlib.Core.Logic.{◌⊎◌, inl, inr}
use mathlib.Core.List.{List}
use lib.ListN.{length}
use Rattle.exact.specs.Choice.{choose}
use Rattle.exact.proofs.LawsChoice.{choose_yes, choose_no}
use Rattle.encoding.specs.Out.{put, flat}
use Rattle.enums.specs.Refusals as refusals
use Rattle.format.specs.Tables.{Tables}
use Rattle.format.specs.Explains.{Explains}
use Rattle.format.specs.SameToEnd.{SameToEnd}
use Rattle.format.specs.Read.{accepted, refused}
use Rattle.format.specs.Decode.{most_bytes, decode}
use Rattle.format.specs.Refusals.{Listed, not_refused, refused_so}
use Rattle.format.specs.Views.{and_then}
use Rattle.format.specs.Sheet.{sheet_of, pool_of}
use Rattle.format.specs.Stores.{stored, read_into, beginning, sheet_after, pool_after, Stored}
use Rattle.format.proofs.Decoded.{accepted-value, refused-not-accepted, decode-sound, decode-complete, tables-only}
use Rattle.format.proofs.AfterEnd.{after-end}
use Rattle.format.proofs.Refused.{listed-choose, listed_then, decode-listed}
use Rattle.format.proofs.Viewed.{then-inv}

module _ (words bytes : ℕ) (t : Tables) where
  -- Tables that have room are stored ..
  pub stored-fits : length (sheet_of t) ≤ words → length (pool_of t) ≤ bytes → stored words bytes t ≡ accepted t
  unfolding stored
  stored-fits h k = choose_yes _ _ _ h ∙ choose_yes _ _ _ k

  -- .. others are refused ..
  pub stored-small : (words < length (sheet_of t)) ⊎ (bytes < length (pool_of t)) →
      stored words bytes t ≡ refused refusals.full refusals.at_call 0
  unfolding stored
  stored-small h =
      elim (dec_le (length (sheet_of t)) words) [
        | yes a ↦ choose_yes _ _ _ a ∙ choose_no _ _ _ (other a h)
        | no a ↦ choose_no _ _ _ a
      ]
    where
      other : length (sheet_of t) ≤ words → (words < length (sheet_of t)) ⊎ (bytes < length (pool_of t)) → ¬ (length (pool_of t) ≤ bytes)
      other a (inl b) c = omega arith
      other a (inr b) c = omega arith

  -- .. and what is stored had room.
  stored-inv : (u : Tables) → stored words bytes t ≡ accepted u →
      (length (sheet_of t) ≤ words) × (length (pool_of t) ≤ bytes) × (t ≡ u)
  unfolding stored choose
  stored-inv u = go (dec_le (length (sheet_of t)) words) (dec_le (length (pool_of t)) bytes)
    where
      go : (d : Dec (length (sheet_of t) ≤ words)) (e : Dec (length (pool_of t) ≤ bytes)) →
          choose d (choose e (accepted t) (refused refusals.full refusals.at_call 0)) (refused refusals.full refusals.at_call 0) ≡ accepted u →
          (length (sheet_of t) ≤ words) × (length (pool_of t) ≤ bytes) × (t ≡ u)
      go (yes a) (yes b) e = (a, b, accepted-value e)
      go (yes a) (no b) e = absurd (refused-not-accepted e)
      go (no a) d e = absurd (refused-not-accepted e)

module _ (file s p : List ℕ) where
  -- A refusal leaves the stores ..
  pub stored-kept : (c n i : ℕ) → read_into file s p ≡ refused c n i → (sheet_after file s p ≡ s) × (pool_after file s p ≡ p)
  unfolding sheet_after pool_after beginning
  stored-kept c n i e = (ap (beginning _ s) e, ap (beginning _ p) e)

  -- .. after an acceptance they begin with the sheet and the pool of the tables ..
  pub stored-put : (t : Tables) → read_into file s p ≡ accepted t →
      (sheet_after file s p ≡ put s 0 (flat 8 (sheet_of t))) × (pool_after file s p ≡ put p 0 (pool_of t))
  unfolding sheet_after pool_after beginning
  stored-put t e = (ap (beginning _ s) e, ap (beginning _ p) e)

  -- .. which had room, and are all that the file's bytes stand for ..
  pub stored-sound : (t : Tables) → read_into file s p ≡ accepted t →
      Stored file s (sheet_after file s p) p (pool_after file s p) t
  unfolding read_into
  stored-sound t e =
      let (u, d, f) = then-inv (decode file) _ t e in
      let (a, b, q) = stored-inv _ _ u t f in
      let x : Explains file t = decode-sound file t (d ∙ ap accepted q) in
      let (y, z) = stored-put t e in
      record {
        explained = x;
        only = λ v o. tables-only file v t o x;
        words = rw q at a;
        bytes = rw q at b;
        sheet = y;
        pool = z;
      }

  -- .. and tables that the bytes of a file within the limit stand for are accepted, if they have room.
  pub stored-complete : (t : Tables) → Explains file t → length file ≤ most_bytes → length (sheet_of t) ≤ length s / 8 →
      length (pool_of t) ≤ length p → read_into file s p ≡ accepted t
  unfolding read_into and_then
  stored-complete t e h a b = rw (decode-complete file t e h) (stored-fits _ _ t a b)

  -- A refusal is one that its stage has.
  pub into-listed : Listed (read_into file s p)
  unfolding read_into stored
  into-listed =
      listed_then _ (decode-listed file)
      (λ t. listed-choose _ (listed-choose _ not_refused (refused_so refl)) (refused_so refl))

-- Other bytes after the end marker change neither what is read nor what the stores hold.
module _ {file other : List ℕ} (e : SameToEnd file other) (s p : List ℕ) where
  pub into-after : read_into file s p ≡ read_into other s p
  unfolding read_into
  into-after = rw (after-end e)

  pub sheet-after : sheet_after file s p ≡ sheet_after other s p
  unfolding sheet_after
  sheet-after = rw into-after

  pub pool-after : pool_after file s p ≡ pool_after other s p
  unfolding pool_after
  pool-after = rw into-after
