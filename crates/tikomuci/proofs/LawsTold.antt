-- A refusal is told from an answer by its number, which is never 0. Assumes nothing.
use mathlib.Core.Path.{◌≡◌, refl, ap}
use mathlib.Core.Option.{Option, none, some}
use Prim.Native.Nat.{ℕ, ◌<◌}
use native.Mathlib.Omega.{arith}
use native.Mathlib.Decide.{dec_le}
use mathlib.Core.List.{List}
use lib.ListN.{length}
use Rattle.exact.specs.Choice.{choose}
use Rattle.enums.specs.Refusals as refusals
use Rattle.format.specs.Tables.{Tables}
use Rattle.format.specs.Decode.{most_bytes}
use Rattle.format.specs.Image.{image}
use Rattle.format.specs.Judge.{with_pool}
use Rattle.format.specs.Read.{Read, accepted, refused}
use Rattle.format.specs.Refusals.{Listed}
use Rattle.format.specs.Views.{Span}
use Rattle.format.specs.Write.{Writing, writes, refuses, most_words, starts32?, imaged, blank}
use Rattle.format.proofs.Refused.{refused-some}
use Rattle.judge.specs.Judge.{judged_bytes}
use Rattle.sheet.specs.Store.{words_in}
use Rattle.payloads.specs.declared.Need.{Need}
use Rattle.images.specs.Written.{length_of, in_room}
use Rattle.writer.specs.Written.{writing, writing_alone}
use Rattle.tikomuci.specs.declared.answers.Answer.{Answer}
use Rattle.tikomuci.specs.Files.{needed, size_in}
use Rattle.tikomuci.specs.Views.{view, span_in}
use Rattle.tikomuci.specs.Sheets.{size}

-- What a call answers: if it is a refusal, its number is not 0.
pub data Answered {A : Type 0} : Read A → Type 0 where
  an_answer : {v : A} → Answered (accepted v)
  a_refusal : (c : ℕ) {m a : ℕ} → 0 < c → Answered (refused c m a)

-- A file's refusals are such, and so are those of two calls of which one is chosen.
pub listed-answered : {A : Type 0} (x : Read A) → Listed x → Answered x
listed-answered (accepted v) h = an_answer
listed-answered (refused c m a) h = a_refusal c (refused-some h refl)

pub answered-choose : {A Q : Type 0} (d : Dec Q) {x y : Read A} → Answered x → Answered y → Answered (choose d x y)
unfolding choose
answered-choose (yes h) p q = p
answered-choose (no h) p q = q

-- An answer f with refusal 0 shows, by g, what was accepted.
pub shown : {A : Type 0} (f : Read A → Answer) (g : Answer → A) → ((v : A) → g (f (accepted v)) ≡ v) →
    ((c m a : ℕ) → (f (refused c m a)).refusal ≡ c) → (r : Answer) {x : Read A} → Answered x → r ≡ f x → r.refusal ≡ 0 →
    x ≡ accepted (g r)
shown f g h k r an_answer e z = rw (e, h _)
shown f g h k r (a_refusal c {m} {a} p) e z =
    let q = ap (λ b. b.refusal) e in
    let o = k c m a in
    absurd (omega arith)

-- Measuring and reading ..
pub need-told : (x : Read Need) → Listed x → (r : Answer) → r ≡ needed x → r.refusal ≡ 0 → x ≡ accepted (size_in r)
need-told x h r = shown needed size_in (λ v. refl) (λ c m a. refl) r (listed-answered x h)

pub need-refused : (x : Read Need) (r : Answer) → r ≡ needed x → 0 < r.refusal → (c : ℕ) × (n : ℕ) × (i : ℕ) × (x ≡ refused c n i)
need-refused (accepted n) r e z = let q = ap (λ a. a.refusal) e in absurd (omega arith)
need-refused (refused c n i) r e z = (c, n, i, refl)

-- .. views ..
pub span-told : (x : Read Span) → Listed x → (r : Answer) → r ≡ view x → r.refusal ≡ 0 → x ≡ accepted (span_in r)
span-told x h r = shown view span_in (λ v. refl) (λ c m a. refl) r (listed-answered x h)

-- .. and writing: which is an image or has a number, before it is held to the output and after that.
data Numbered : Writing → Type 0 where
  an_image : {bs : List ℕ} → Numbered (writes bs)
  a_number : (c : ℕ) → 0 < c → Numbered (refuses c)

numbered-choose : {Q : Type 0} (d : Dec Q) {x y : Writing} → Numbered x → Numbered y → Numbered (choose d x y)
unfolding choose
numbered-choose (yes h) a b = a
numbered-choose (no h) a b = b

imaged-numbered : (o : Option Tables) → Numbered (imaged o)
unfolding imaged
imaged-numbered none = a_number refusals.unsound (omega arith)
imaged-numbered (some t) =
    numbered-choose (starts32? t)
    (numbered-choose (dec_le (length (image t)) most_bytes) an_image (a_number refusals.limit (omega arith)))
    (a_number refusals.start_too_large (omega arith))

writing-numbered : (s pool : List ℕ) → Numbered (writing s pool)
unfolding writing
writing-numbered s pool =
    let limit = a_number refusals.limit (omega arith) in
    numbered-choose (dec_le (length (words_in s)) most_words)
    (numbered-choose (dec_le (length pool) most_bytes) (imaged-numbered (with_pool pool (judged_bytes s))) limit) limit

alone-numbered : (s : List ℕ) → Numbered (writing_alone s)
unfolding writing_alone
alone-numbered s =
    numbered-choose (dec_le (length (words_in s)) most_words) (imaged-numbered (blank (judged_bytes s))) (a_number refusals.limit (omega arith))

-- An answer of a call that writes is a size, or has a number.
room-answered : (n : ℕ) {w : Writing} → Numbered w → Answered (in_room n w)
unfolding in_room
room-answered n (an_image {bs}) = answered-choose (dec_le (length bs) n) an_answer (a_refusal refusals.full (omega arith))
room-answered n (a_number c h) = a_refusal c h

length-answered : {w : Writing} → Numbered w → Answered (length_of w)
unfolding length_of
length-answered (an_image {bs}) = an_answer
length-answered (a_number c h) = a_refusal c h

pub size-told : (r : Answer) {x : Read ℕ} → Answered x → r ≡ size x → r.refusal ≡ 0 → x ≡ accepted r.first
size-told r = shown size (λ b. b.first) (λ v. refl) (λ c m a. refl) r

pub room-told : (s pool : List ℕ) (n : ℕ) (r : Answer) → r ≡ size (in_room n (writing s pool)) → r.refusal ≡ 0 →
    in_room n (writing s pool) ≡ accepted r.first
room-told s pool n r e z = size-told r (room-answered n (writing-numbered s pool)) e z

pub length-told : (s : List ℕ) (r : Answer) → r ≡ size (length_of (writing_alone s)) → r.refusal ≡ 0 →
    length_of (writing_alone s) ≡ accepted r.first
length-told s r e z = size-told r (length-answered (alone-numbered s)) e z

pub size-refused : (x : Read ℕ) (r : Answer) → r ≡ size x → 0 < r.refusal → (c : ℕ) × (n : ℕ) × (i : ℕ) × (x ≡ refused c n i)
size-refused (accepted n) r e z = let q = ap (λ a. a.refusal) e in absurd (omega arith)
size-refused (refused c n i) r e z = (c, n, i, refl)
