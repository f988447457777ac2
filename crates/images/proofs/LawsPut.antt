-- Bytes that are put one after the other, and runs of the pool among them. Assumes nothing.
use Rattle.encoding.proofs.LawsOut.{put_one, put_full, bytes_of-next, replicate_next}
use Rattle.encoding.proofs.LawsVarint.{spelling-last, spelling-more}
use Rattle.exact.proofs.LawsFixed.{length-bytes_of}
use Rattle.exact.proofs.LawsPadding.{gap-none, gap-some}
use Rattle.std.proofs.Common.{mod-lt}
use Rattle.std.proofs.Math.Nat.{sub-zero}
use Rattle.std.proofs.Common.{◌≡◌, ℕ, ◌+◌, ◌-◌, ◌%◌, ◌^◌, ◌<◌, ◌≤◌, ◌⊎◌, List, [], ◌∷◌, ◌++◌, length, take, drop, replicate, sym, refl, ap, ◌∙◌, subst, ap₂, inl, inr, add-zero, mod-eq_of_lt, arith, length-append}
use Rattle.exact.specs.Fixed.{bytes_of}
use Rattle.enums.specs.Container.{P}
use Rattle.encoding.specs.Out.{put}
use Rattle.sheet.proofs.LawsLies.{lies-inside, lies-taken}
use Rattle.encoding.proofs.LawsOut.{put-nil, put-append, length-put}
use Rattle.images.specs.Put.{Puts, Wrote, Lent, RunPut}

-- A list of no elements has nothing before its end.
pub no_length : (l : List ℕ) → length l ≡ 0 → l ≡ []
no_length [] h = refl
no_length (x ∷ l) h = absurd (omega arith)

-- What is put in two steps ..
pub puts_then : {a b : List ℕ} {at next r : ℕ} {out mid out' : List ℕ} → Puts a at out mid next → Puts b next mid out' r →
    Puts (a ++ b) at out out' r
puts_then {a} {b} {at} {next} {out = out} {mid} x y =
    let l = length-append a b in
    let p = x.place in
    let s = x.size in
    record {
      output =
          λ h.
          let f : at + length a ≤ length out = omega arith in
          let g : next + length b ≤ length mid = omega arith in
          let k : at + (length a + length b) ≤ length out = omega arith in
          y.output g ∙ ap₂ (λ (m : List ℕ) (n : ℕ). put m n b) (x.output f) p ∙ sym (put-append a b out at k);
      size = y.size ∙ x.size;
      place = omega (arith, x.place, y.place);
    }

-- .. an output of no bytes stays so ..
pub puts_none : {bs : List ℕ} {at r : ℕ} {out out' : List ℕ} → out ≡ [] → Puts bs at out out' r → out' ≡ []
puts_none {out' = out'} e x = no_length out' (x.size ∙ ap length e)

-- .. and where the bytes have room, or where there are none, one output and one place are so.
pub puts-only : {bs : List ℕ} {at r q : ℕ} {out x y : List ℕ} → (at + length bs ≤ length out) ⊎ (length out ≡ 0) →
    Puts bs at out x r → Puts bs at out y q → (x ≡ y) × (r ≡ q)
puts-only (inl h) a b = (a.output h ∙ sym (b.output h), a.place ∙ sym b.place)
puts-only {x = x} {y = y} (inr e) a b =
    (no_length x (a.size ∙ e) ∙ sym (no_length y (b.size ∙ e)), a.place ∙ sym b.place)

-- A run that is put if it has room.
pub puts-run : (bs : List ℕ) (at : ℕ) (out : List ℕ) → Puts bs at out (put out at bs) (at + length bs)
puts-run bs at out = record { output = λ h. refl; size = length-put out at bs; place = refl }

pub wrote_then : {a b : List ℕ} {at next r : ℕ} {out mid out' : List ℕ} → Wrote a at out mid next → Wrote b next mid out' r →
    Wrote (a ++ b) at out out' r
wrote_then {a} {b} {at} {next} x y =
    record {
      puts =
          λ h.
          let n = length-append a b in
          let p = x.puts (omega arith) in
          let q : next + length b < 2 ^ 64 = omega (arith, p.place) in
          puts_then p (y.puts q);
    }

pub wrote-nil : (at : ℕ) (out : List ℕ) → Wrote [] at out out at
wrote-nil at out =
    record { puts = λ h. record { output = λ l. sym (put-nil out at); size = refl; place = sym (add-zero at) } }

pub wrote_as : {a b : List ℕ} {at r : ℕ} {out out' : List ℕ} → a ≡ b → Wrote a at out out' r → Wrote b at out out' r
wrote_as {at = at} {r = r} {out = out} {out' = out'} e x = subst (λ l. Wrote l at out out' r) e x

-- A byte, then the others behind it.
pub wrote-next : {b at next r : ℕ} {bs cs out mid out' : List ℕ} → bs ≡ b ∷ cs → Wrote (b ∷ []) at out mid next →
    Wrote cs next mid out' r → Wrote bs at out out' r
wrote-next e x y = wrote_as (sym e) (wrote_then x y)

-- A number of no bytes, and padding of none.
pub le-none : (n v at : ℕ) (out : List ℕ) → n ≤ 0 → Wrote (bytes_of n v) at out out at
unfolding bytes_of
le-none n v at out h =
    let e : n ≡ 0 = omega arith in
    rw e (wrote-nil at out)

pub padding-none : (n at : ℕ) (out : List ℕ) → n ≤ 0 → Wrote (replicate n P) at out out at
padding-none n at out h =
    let e : n ≡ 0 = omega arith in
    rw e (wrote-nil at out)

-- A run of n bytes that is put if it has room, and the place behind it.
pub wrote-run : (bs : List ℕ) (n at next : ℕ) (out out' : List ℕ) → length bs ≡ n → out' ≡ put out at bs →
    next ≡ (at + n) % 2 ^ 64 → Wrote bs at out out' next
wrote-run bs n at next out out' l o p =
    record {
      puts =
          λ h.
          let k : at + n < 2 ^ 64 = omega arith in
          let e : next ≡ at + length bs = p ∙ mod-eq_of_lt k ∙ ap (λ m. at + m) (sym l) in
          rw (o, e) (puts-run bs at out);
    }

-- An output of no bytes takes no run.
pub put-none : (at : ℕ) (bs : List ℕ) → put [] at bs ≡ []
put-none at bs = no_length (put [] at bs) (length-put [] at bs)

-- What would be put into it is counted.
pub wrote-nowhere : (bs : List ℕ) (n at next : ℕ) (out : List ℕ) → length bs ≡ n → length out ≡ 0 → next ≡ (at + n) % 2 ^ 64 →
    Wrote bs at out out next
wrote-nowhere bs n at next out l e p = wrote-run bs n at next out out l (rw (no_length out e, put-none)) p

-- A run of the pool was put if it has room ..
pub run-put : (pool : List ℕ) (i len at next : ℕ) (out out' : List ℕ) → out' ≡ put out at (take (i + len - i) (drop i pool)) →
    next ≡ (at + len) % 2 ^ 64 → RunPut pool i len at out out' next
run-put pool i len at next out out' o n = record { each = go }
  where
    go : (run : List ℕ) → length run ≡ len → Lent pool i run out → Wrote run at out out' next
    go run l (inl h) =
        let k : i + len - i ≡ length run = omega arith in
        let e : take (i + len - i) (drop i pool) ≡ run = rw k (lies-taken run h) in
        wrote-run run len at next out out' l (o ∙ ap (put out at) e) n
    go run l (inr e) =
        let z : put out at (take (i + len - i) (drop i pool)) ≡ put out at run = rw (e, put-none, put-none) in
        wrote-run run len at next out out' l (o ∙ z) n

-- .. and one that the pool does not have was counted.
pub run-counted : (pool : List ℕ) (i len at next : ℕ) (out : List ℕ) → ¬ (i + len ≤ length pool) →
    next ≡ (at + len) % 2 ^ 64 → RunPut pool i len at out out next
run-counted pool i len at next out f n = record { each = go }
  where
    go : (run : List ℕ) → length run ≡ len → Lent pool i run out → Wrote run at out out next
    go run l (inl h) = absurd (f (omega (arith, lies-inside run h)))
    go run l (inr e) = wrote-run run len at next out out l (rw (e, put-none)) n

-- The laws by which the check proves what puts bytes, runs and padding.
pub ruleset puts = (sub-zero, put_one, put_full, wrote-run, wrote_as, wrote-next, le-none, padding-none, bytes_of-next, replicate_next, spelling-last, spelling-more, run-put, run-counted, length-bytes_of, gap-none, gap-some, mod-lt)
