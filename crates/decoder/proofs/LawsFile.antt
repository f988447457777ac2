-- Measuring and reading keep their promises, of any lists, and these allow one result only. Assumes nothing.
use mathlib.Core.Path.{◌≡◌, sym, ap, ◌∙◌}
use Prim.Native.Nat.{ℕ}
use mathlib.Core.List.{List}
use Rattle.std.specs.Prelude.{Result}
use Rattle.format.specs.Read.{map_read}
use Rattle.format.specs.Decode.{decode}
use Rattle.format.specs.Stores.{read_into}
use Rattle.format.proofs.Decoded.{map-inv, map-refused, decode-sound, decode-complete}
use Rattle.format.proofs.Stored.{stored-kept, stored-sound, stored-complete}
use Rattle.container.specs.declared.sections.Stopped.{Stopped}
use Rattle.container.proofs.LawsShown.{read-only}
use Rattle.payloads.specs.declared.Need.{Need}
use Rattle.payloads.specs.Whole.{file_read, need_of, Reads}
use Rattle.payloads.proofs.LawsReads.{reads_only}
use Rattle.decoder.specs.File.{MeasurePost, ReadPost}

-- What is measured as the model says is measured as promised ..
pub measure-post : (l : List ℕ) (r : Result Need Stopped) → file_read r ≡ map_read need_of (decode l) → MeasurePost l r
unfolding map_read
measure-post l r e =
    record {
      answer = e;
      sound = λ n a. let (t, d, q) = map-inv need_of (decode l) n (sym e ∙ a) in (t, decode-sound l t d, sym q);
      complete = λ t x h. e ∙ ap (map_read need_of) (decode-complete l t x h);
    }

-- .. and so with what is read.
pub read-post : (l s s' p p' : List ℕ) (r : Result Need Stopped) → Reads l s s' p p' r → ReadPost l s s' p p' r
unfolding map_read
read-post l s s' p p' r x =
    record {
      reads = x;
      kept = λ c n i e.
          let d = map-refused need_of (read_into l s p) c n i (sym x.answer ∙ e) in
          let (a, b) = stored-kept l s p c n i d in
          (x.sheet ∙ a, x.pool ∙ b);
      sound = λ n e.
          let (t, d, q) = map-inv need_of (read_into l s p) n (sym x.answer ∙ e) in
          (t, rw (x.sheet, x.pool) (stored-sound l s p t d), sym q);
      complete = λ t e h a b. x.answer ∙ ap (map_read need_of) (stored-complete l s p t e h a b);
    }

-- The contract of `measure` allows one answer ..
pub measure-only : (l : List ℕ) (r q : Result Need Stopped) → MeasurePost l r → MeasurePost l q → r ≡ q
measure-only l r q x y = read-only x.answer y.answer

-- .. and that of `read` one answer and one content of each store.
pub read_only : (l s s' s'' p p' p'' : List ℕ) (r q : Result Need Stopped) → ReadPost l s s' p p' r → ReadPost l s s'' p p'' q →
    (r ≡ q) × (s' ≡ s'') × (p' ≡ p'')
read_only l s s' s'' p p' p'' r q x y = reads_only l s s' s'' p p' p'' r q x.reads y.reads
