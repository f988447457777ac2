-- What a step that puts text leaves in the buffer that it was lent, and the pen that it answers (document 02, request
-- 1/14: into a lent buffer; a refused call leaves it untouched, so that all is measured before anything is put).
use Rattle.std.specs.Prelude.{◌≡◌, ℕ, ◌+◌, ◌-◌, List, length, take}
use Rattle.std.proofs.Math.Decide.{dec_le}
use Rattle.exact.specs.Choice.{choose}
use Rattle.encoding.specs.Out.{put}
use Rattle.text.specs.declared.Pen.{Pen}
use Rattle.text.specs.declared.Pen.TheVariants.{At, Counting, Full}

-- The pen behind a text, in a buffer of so many bytes: full where the text has no room.
unfoldable pub behind : ℕ → Pen → List ℕ → Pen
behind size (At i) t = choose (dec_le (length t) (size - i)) (At (i + length t)) Full
behind size (Counting n) t = choose (dec_le (length t) n) (Counting (n - length t)) Full
behind size Full t = Full

-- The buffer behind it: as much of the text as has room stands from the pen's place on. A pen that counts puts nothing.
unfoldable pub filled : Pen → List ℕ → List ℕ → List ℕ
filled (At i) out t = put out i (take (length out - i) t)
filled (Counting n) out t = out
filled Full out t = out

-- A text was put: this is the pen, and this the buffer.
pub record Put (t : List ℕ) (p : Pen) (out out' : List ℕ) (q : Pen) : Type 0 where
  pub pen : q ≡ behind (length out) p t
  pub output : out' ≡ filled p out t
