-- What the writer answers: the image of the tables that are handed to it, which reads back as them; and lent no pool it
-- answers as it would with one. Assumes nothing.
use mathlib.Core.Path.{◌≡◌, refl, sym, ap, ◌∙◌}
use Prim.Native.Nat.{ℕ, ◌≤◌}
use native.Mathlib.Decide.{dec_le}
use native.Mathlib.Omega.{arith}
use mathlib.Core.List.{List}
use mathlib.Core.Option.{Option, none, some}
use lib.ListN.{length, replicate, length-replicate}
use Rattle.exact.specs.Choice.{choose}
use Rattle.exact.proofs.LawsChoice.{choose_yes}
use Rattle.enums.specs.Refusals as refusals
use Rattle.format.specs.Tables.{Tables}
use Rattle.format.specs.Read.{accepted}
use Rattle.format.specs.Decode.{most_bytes, decode}
use Rattle.format.specs.Sheet.{Frame, frame_of, pool_length, sheet_of, pool_of}
use Rattle.format.specs.Sound.{All, Fits, Sound}
use Rattle.format.specs.Judge.{judged, cutting, tables_of}
use Rattle.format.specs.Image.{image, Starts32}
use Rattle.format.specs.Write.{Writing, writes, refuses, most_words, starts32?, imaged, written, blank, written_alone}
use Rattle.format.proofs.LawsPool.{frame-cutting}
use Rattle.format.proofs.LawsImageLength.{image-length, starts-same}
use Rattle.format.proofs.LawsStarts.{starts_fit}
use Rattle.format.proofs.Sheets.{sheet-judged, judged-pool}
use Rattle.format.proofs.Images.{image-read}

pub refuses-not-writes : {c : ℕ} {bs : List ℕ} → refuses c ≡ writes bs → ⊥
refuses-not-writes e = let z : ◌≡◌ {A = ℕ} 0 1 = cc in omega arith

-- What is written is the image of tables whose starts and image fit.
pub record Imaged (o : Option Tables) (bs : List ℕ) : Type 0 where
  pub tables : Tables
  pub there : o ≡ some tables
  pub starts : Starts32 tables
  pub fits : length (image tables) ≤ most_bytes
  pub whole : bs ≡ image tables

pub imaged-inv : (o : Option Tables) (bs : List ℕ) → imaged o ≡ writes bs → Imaged o bs
unfolding imaged choose
imaged-inv none bs e = absurd (refuses-not-writes e)
imaged-inv (some t) bs e = go (starts32? t) (dec_le (length (image t)) most_bytes) e
  where
    go : (d : Dec (Starts32 t)) (f : Dec (length (image t) ≤ most_bytes)) →
        choose d (choose f (writes (image t)) (refuses refusals.limit)) (refuses refusals.start_too_large) ≡ writes bs → Imaged (some t) bs
    go (yes s) (yes l) q = record { tables = t; there = refl; starts = s; fits = l; whole = cc }
    go (yes s) (no n) q = absurd (refuses-not-writes q)
    go (no n) f q = absurd (refuses-not-writes q)

-- What is written of a sheet and a pool: the image of the well-formed tables that they are of, and it reads back.
pub record Wrote (sheet pool bs : List ℕ) : Type 0 where
  pub tables : Tables
  pub sound : Sound tables
  pub its_sheet : sheet ≡ sheet_of tables
  pub its_pool : pool ≡ pool_of tables
  pub fits : length bs ≤ most_bytes
  pub whole : bs ≡ image tables
  pub read_back : decode bs ≡ accepted tables

pub written-sound : (sheet pool bs : List ℕ) → written sheet pool ≡ writes bs → Wrote sheet pool bs
unfolding written choose
written-sound sheet pool bs e = go (dec_le (length sheet) most_words) (dec_le (length pool) most_bytes) e
  where
    go : (d : Dec (length sheet ≤ most_words)) (f : Dec (length pool ≤ most_bytes)) →
        choose d (choose f (imaged (tables_of sheet pool)) (refuses refusals.limit)) (refuses refusals.limit) ≡ writes bs → Wrote sheet pool bs
    go (no n) f q = absurd (refuses-not-writes q)
    go (yes a) (no n) q = absurd (refuses-not-writes q)
    go (yes a) (yes b) q =
        let i = imaged-inv (tables_of sheet pool) bs q in
        let t = i.tables in
        let j = (sheet-judged sheet pool t).0 i.there in
        record {
          tables = t;
          sound = j.2;
          its_sheet = j.0;
          its_pool = j.1;
          fits = rw i.whole i.fits;
          whole = i.whole;
          read_back = ap decode i.whole ∙ image-read t j.2 i.fits;
        }

-- Well-formed tables within the limits are written.
pub written-complete : (t : Tables) → Sound t → length (sheet_of t) ≤ most_words → length (pool_of t) ≤ most_bytes →
    length (image t) ≤ most_bytes → written (sheet_of t) (pool_of t) ≡ writes (image t)
unfolding written imaged
written-complete t s a b d =
    choose_yes (dec_le (length (sheet_of t)) most_words) _ _ a
    ∙ choose_yes (dec_le (length (pool_of t)) most_bytes) _ _ b
    ∙ rw ((sheet-judged (sheet_of t) (pool_of t) t).1 (refl, refl, s)) (choose_yes (starts32? t) _ _ (starts_fit t d) ∙ choose_yes (dec_le (length (image t)) most_bytes) _ _ d)

-- The same answer but for the bytes: as many of them, or the same refusal.
pub data Alike : Writing → Writing → Type 0 where
  as_long : {bs cs : List ℕ} → length bs ≡ length cs → Alike (writes bs) (writes cs)
  refused_too : {c : ℕ} → Alike (refuses c) (refuses c)

-- Tables with one frame are written alike.
pub imaged-alike : (t u : Tables) → frame_of t ≡ frame_of u → Alike (imaged (some t)) (imaged (some u))
unfolding imaged choose
imaged-alike t u e = go (starts32? t) (starts32? u) (dec_le (length (image t)) most_bytes) (dec_le (length (image u)) most_bytes)
  where
    go : (a : Dec (Starts32 t)) (b : Dec (Starts32 u)) (c : Dec (length (image t) ≤ most_bytes)) (d : Dec (length (image u) ≤ most_bytes)) →
        Alike (choose a (choose c (writes (image t)) (refuses refusals.limit)) (refuses refusals.start_too_large))
        (choose b (choose d (writes (image u)) (refuses refusals.limit)) (refuses refusals.start_too_large))
    go (yes a) (yes b) (yes c) (yes d) = as_long (image-length t u e)
    go (yes a) (yes b) (yes c) (no d) = absurd (d (rw (← image-length t u e) c))
    go (yes a) (yes b) (no c) (yes d) = absurd (c (rw (image-length t u e) d))
    go (yes a) (yes b) (no c) (no d) = refused_too
    go (yes a) (no b) c d = absurd (b (starts-same t u e a))
    go (no a) (yes b) c d = absurd (a (starts-same u t (sym e) b))
    go (no a) (no b) c d = refused_too

-- A call lent no pool answers as one that is lent any pool of the right length.
pub alone-alike : (sheet pool : List ℕ) (r : Frame) → judged sheet ≡ some r → length pool ≡ pool_length r → All (Fits 8) pool →
    length pool ≤ most_bytes → Alike (written sheet pool) (written_alone sheet)
unfolding written written_alone blank choose
alone-alike sheet pool r j l b m = go (dec_le (length sheet) most_words)
  where
    same : Alike (imaged (some (cutting r pool))) (imaged (some (cutting r (replicate (pool_length r) 0))))
    same =
        imaged-alike (cutting r pool) (cutting r (replicate (pool_length r) 0))
        (frame-cutting r pool l ∙ sym (frame-cutting r (replicate (pool_length r) 0) (length-replicate (pool_length r) 0)))

    go : (d : Dec (length sheet ≤ most_words)) →
        Alike
        (choose d (choose (dec_le (length pool) most_bytes) (imaged (tables_of sheet pool)) (refuses refusals.limit)) (refuses refusals.limit))
        (choose d (imaged (blank (judged sheet))) (refuses refusals.limit))
    go (yes d) = rw (choose_yes (dec_le (length pool) most_bytes) (imaged (tables_of sheet pool)) (refuses refusals.limit) m, judged-pool sheet pool r j l b, j) same
    go (no n) = refused_too
